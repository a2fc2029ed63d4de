-- The tokens of a sound sheet are those of its forest, and a part of them is read a token at a time.
-- Assumes nothing.
use Rattle.std.specs.Prelude.{None}
use mathlib.Core.Path.{◌≡◌, refl, sym, ◌∙◌, ap, subst}
use mathlib.Core.Bool.{Bool}
use mathlib.Core.List.{List, [], ◌∷◌, ◌++◌, append_assoc, append-nil}
use Prim.Native.Nat.{ℕ, zero, suc, ◌+◌, ◌-◌, ◌≤◌, ◌<◌}
use native.Mathlib.Numerals.{add-one}
use native.Mathlib.Omega.{arith}
use borrow.Author.Tests.{ltb-true, ltb-false, lt-ltb, le-ltb}
use lib.Dec.{ltb}
use lib.ListN.{length, drop, length-append, drop_of_length-le}
use lib.Seq.{drop-cons}
use Rattle.data.proofs.Cases.{by_bool}
use Rattle.tape.specs.declared.token.Token.{Token}
use Rattle.tape.specs.declared.token.ContainerKind.{ContainerKind}
use Rattle.tape.specs.Token.{no_token, nth, container_of, mixed_container_token, operator_of, opener_of, end_of, opened}
use Rattle.tape.specs.Shape.{Opens}
use Rattle.tape.proofs.Makers.{opener-container, scalar-container}
use Rattle.sheet.specs.Sound.{Form, container, mixed_container, scalar, operator, closing, Sheet}
use Rattle.sheet.proofs.Links.{one_end, end-opens_not}
use Rattle.sheet.proofs.Nesting.{by_order}
use Rattle.writer.specs.Forest.{Forest, no_more, leaf, box, forest_in, stretch, forest_of}
use Rattle.writer.specs.Ranges.{Range}

-- ---- the tokens of a forest
-- a container at index i with a flag around some tokens
abbrev pub boxed : ContainerKind → Bool → ℕ → List Token → List Token
boxed kind flag i body = opener_of kind (i + 1 + length body) flag ∷ (body ++ (end_of i ∷ []))

-- a forest's tokens, from an index on
abbrev pub flat : Forest → ℕ → List Token
flat no_more i = []
flat (leaf x rest) i = x ∷ flat rest (i + 1)
flat (box kind flag inner rest) i = boxed kind flag i (flat inner (i + 1)) ++ flat rest (i + 2 + length (flat inner (i + 1)))

-- ---- tokens that open nothing
pub mixed_container-opens_not : container_of mixed_container_token ≡ None
unfolding container_of
mixed_container-opens_not = refl

pub operator-opens_not : (number : ℕ) → container_of (operator_of number) ≡ None
unfolding container_of
operator-opens_not number = refl

pub opens-container : (x : Token) {e : ℕ} (o : Opens x e) → container_of x ≡ opened o.0 e o.1
opens-container x {e} o = ap container_of o.2 ∙ opener-container o.0 e o.1

pub opens_not : (x : Token) {e : ℕ} → container_of x ≡ None → Opens x e → ⊥
opens_not x n o = let c = opens-container x o in let z : ◌≡◌ {A = ℕ} 0 1 = cc in omega arith

opens_at : (ts : List Token) {j k e : ℕ} → j ≡ k → Opens (nth ts j) e → Opens (nth ts k) e
opens_at ts {j} {k} {e} p o = subst (λ (x : ℕ). Opens (nth ts x) e) p o

-- ---- parts of a sheet
-- the whole
pub sheet-range : {n : ℕ} {ts : List Token} → Sheet n ts → Range ts 0 (length ts)
sheet-range {n} {ts} s = record {
  text_length = n;
  sheet = s;
  within = omega arith;
  ends = λ o e f g p. (s.closed o e p).1;
  opened = λ k o f g p. omega arith;
}

-- what stands in a container, at whatever depth
pub opener-range : {n : ℕ} {ts : List Token} → Sheet n ts → (i e : ℕ) → Opens (nth ts i) e → Range ts (i + 1) e
opener-range {n} {ts} s i e o =
    let c = s.closed i e o in
    record {
      text_length = n;
      sheet = s;
      within = omega (arith, c.1);
      ends = λ o' e' f g p. s.nested i e o' e' o (omega (arith, f)) g p;
      opened = λ k o' f g p.
          let d = s.opened k o' p in
          by_order o' i
          (λ l. let y = s.nested o' k i e d.1 l (omega (arith, f)) o in absurd (omega (arith, y, g)))
          (λ z. let y : k ≡ e = one_end (nth ts i) (opens_at ts z d.1) o in absurd (omega (arith, y, g)))
          (λ l. omega (arith, l));
    }

-- a forest whose tokens stand from i up to j
pub record Grown (ts : List Token) (i j : ℕ) (f : Forest) : Type 0 where
  pub stands : drop i ts ≡ flat f i ++ drop j ts
  pub size : j ≡ i + length (flat f i)

-- the tokens from one on: itself, and those behind it
pub tokens-on : (ts : List Token) (i : ℕ) → i < length ts → drop i ts ≡ nth ts i ∷ drop (i + 1) ts
tokens-on ts i h = rw (add-one, drop-cons ts i no_token)

module _ (ts : List Token) where
  -- inside a container, behind it, and behind a token that opens nothing
  module _ (i j e : ℕ) (b : Range ts i j) (h : i < j) (o : Opens (nth ts i) e) where
    pub inside : Range ts (i + 1) e
    inside = opener-range b.sheet i e o

    pub behind : Range ts (e + 1) j
    behind =
        let s = b.sheet in
        let c = s.closed i e o in
        record {
          text_length = b.text_length;
          sheet = s;
          within = b.within;
          ends = λ o' e' f g p. b.ends o' e' (omega (arith, f, c.0)) g p;
          opened = λ k o' f g p.
              let d = s.opened k o' p in
              let m = b.opened k o' (omega (arith, f, c.0)) g p in
              by_order o' e
              (λ l. by_order i o'
              (λ l'. let y = s.nested i e o' k o l' l d.1 in absurd (omega (arith, y, f)))
              (λ z. let y : e ≡ k = one_end (nth ts o') (opens_at ts z o) d.1 in absurd (omega (arith, y, f)))
              (λ l'. absurd (omega (arith, l', m))))
              (λ z. absurd (end-opens_not (nth ts e) (opens_at ts z d.1) c.2))
              (λ l. omega (arith, l));
        }

  pub after : (i j : ℕ) → Range ts i j → container_of (nth ts i) ≡ None → Range ts (i + 1) j
  after i j b none =
      let s = b.sheet in
      record {
        text_length = b.text_length;
        sheet = s;
        within = b.within;
        ends = λ o e f g p. b.ends o e (omega (arith, f)) g p;
        opened = λ k o f g p.
            let d = s.opened k o p in
            let m = b.opened k o (omega (arith, f)) g p in
            by_order o i
            (λ l. absurd (omega (arith, l, m)))
            (λ z. absurd (opens_not (nth ts i) none (opens_at ts z d.1)))
            (λ l. omega (arith, l));
      }

  -- by what stands at i: a container, or a token that opens nothing; an End cannot
  pub by_token : {P : Type 0} (i j : ℕ) → Range ts i j → i < j
      → ((kind : ContainerKind) (flag : Bool) (e : ℕ) → nth ts i ≡ opener_of kind e flag → i < e → e < j → nth ts e ≡ end_of i
      → Range ts (i + 1) e → Range ts (e + 1) j → P)
      → (container_of (nth ts i) ≡ None → Range ts (i + 1) j → P) → P
  by_token {P} i j b h f g = go (b.sheet.forms i (omega (arith, b.within)))
    where
      bare : container_of (nth ts i) ≡ None → P
      bare n = g n (after i j b n)

      go : Form (nth ts i) → P
      go (container e o) =
          let c = b.sheet.closed i e o in
          f o.0 o.1 e o.2 c.0 (b.ends i e (omega arith) h o) c.2 (inside i j e b h o) (behind i j e b h o)
      go (mixed_container p) = bare (ap container_of p ∙ mixed_container-opens_not)
      go (scalar a m v) = bare (ap container_of v.1 ∙ scalar-container v.0 a m)
      go (operator k l m p) = bare (ap container_of p ∙ operator-opens_not k)
      go (closing o p) = absurd (omega (arith, (b.sheet.opened i o p).0, b.opened i o (omega arith) h p))

  -- ---- the forest in some turns, a token at a time
  module _ (turns i j : ℕ) where
    pub none_left : j ≤ i → forest_in (suc turns) ts i j ≡ no_more
    unfolding forest_in
    none_left h = rw (forest_in, le-ltb i j h)

    pub takes-leaf : i < j → container_of (nth ts i) ≡ None → forest_in (suc turns) ts i j ≡ leaf (nth ts i) (forest_in turns ts (i + 1) j)
    unfolding forest_in
    takes-leaf h c = rw (forest_in, lt-ltb i j h, c)

    pub takes-box : {kind : ContainerKind} {e : ℕ} {flag : Bool} → i < j → container_of (nth ts i) ≡ opened kind e flag
        → forest_in (suc turns) ts i j ≡ box kind flag (forest_in turns ts (i + 1) e) (forest_in turns ts (e + 1) j)
    unfolding forest_in
    takes-box h c = rw (forest_in, lt-ltb i j h, c)

  reads : (i e : ℕ) (kind : ContainerKind) (flag : Bool) → nth ts i ≡ opener_of kind e flag → container_of (nth ts i) ≡ opened kind e flag
  reads i e kind flag o = opens-container (nth ts i) (kind, flag, o)

  -- more turns than there are tokens change nothing
  pub forest_enough : (n m i j : ℕ) → j ≤ i + n → j ≤ i + m → Range ts i j → forest_in n ts i j ≡ forest_in m ts i j
  unfolding forest_in
  forest_enough zero zero i j f g b = refl
  forest_enough zero (suc m) i j f g b = sym (none_left m i j (omega arith))
  forest_enough (suc n) zero i j f g b = none_left n i j (omega arith)
  forest_enough (suc n) (suc m) i j f g b =
      by_bool (ltb i j)
      (λ t.
      let h : i < j = ltb-true i j t in
      by_token i j b h
      (λ kind flag e o l l' c u v.
      let c' = reads i e kind flag o in
      rw (takes-box n i j h c', takes-box m i j h c')
      (rw (forest_enough n m (i + 1) e (omega arith) (omega arith) u, forest_enough n m (e + 1) j (omega arith) (omega arith) v)))
      (λ o u. rw (takes-leaf n i j h o, takes-leaf m i j h o, forest_enough n m (i + 1) j (omega arith) (omega arith) u)))
      (λ t. let z = ltb-false i j t in none_left n i j z ∙ sym (none_left m i j z))

  -- ---- the forest of a part, a token at a time
  one_more : (i j : ℕ) → i < j → stretch ts i j ≡ forest_in (suc (j - (i + 1))) ts i j
  unfolding stretch
  one_more i j h = ap (λ (n : ℕ). forest_in n ts i j) {x = j - i} {y = suc (j - (i + 1))} (omega arith)

  as_stretch : (n i j : ℕ) → j ≤ i + n → Range ts i j → forest_in n ts i j ≡ stretch ts i j
  unfolding stretch
  as_stretch n i j f b = forest_enough n (j - i) i j f (omega arith) b

  pub stretch-none : (i j : ℕ) → j ≤ i → stretch ts i j ≡ no_more
  unfolding stretch forest_in
  stretch-none i j h = ap (λ (n : ℕ). forest_in n ts i j) {x = j - i} {y = 0} (omega arith)

  pub stretch-leaf : (i j : ℕ) → i < j → container_of (nth ts i) ≡ None → stretch ts i j ≡ leaf (nth ts i) (stretch ts (i + 1) j)
  unfolding stretch
  stretch-leaf i j h n = one_more i j h ∙ takes-leaf (j - (i + 1)) i j h n

  pub stretch-box : (i j : ℕ) (kind : ContainerKind) (e : ℕ) (flag : Bool) → Range ts i j → i < j → nth ts i ≡ opener_of kind e flag
      → stretch ts i j ≡ box kind flag (stretch ts (i + 1) e) (stretch ts (e + 1) j)
  stretch-box i j kind e flag b h o =
      let opens : Opens (nth ts i) e = (kind, flag, o) in
      let c = b.sheet.closed i e opens in
      let q = b.ends i e (omega arith) h opens in
      let turns : ℕ = j - (i + 1) in
      let z : turns ≡ j - (i + 1) = refl in
      one_more i j h ∙ takes-box turns i j h (reads i e kind flag o)
      ∙ rw (as_stretch turns (i + 1) e (omega (arith, z, q, h)) (inside i j e b h opens))
      (rw (as_stretch turns (e + 1) j (omega (arith, z, c.0, h)) (behind i j e b h opens)))

  -- ---- and its tokens
  grow_leaf : (i j : ℕ) (f : Forest) → i < length ts → Grown ts (i + 1) j f → Grown ts i j (leaf (nth ts i) f)
  grow_leaf i j f h g = record {
    stands = tokens-on ts i h ∙ ap (λ (l : List Token). nth ts i ∷ l) g.stands;
    size = g.size ∙ omega arith;
  }

  grow_box : (i j e : ℕ) (kind : ContainerKind) (flag : Bool) (f f' : Forest) → i < length ts → e < length ts
      → nth ts i ≡ opener_of kind e flag → nth ts e ≡ end_of i → Grown ts (i + 1) e f → Grown ts (e + 1) j f'
      → Grown ts i j (box kind flag f f')
  grow_box i j e kind flag f f' h h' o c g r =
      let body : List Token = flat f (i + 1) in
      let z : e ≡ i + 1 + length body = g.size in
      let next : e + 1 ≡ i + 2 + length body = omega arith in
      let rest : List Token = flat f' (i + 2 + length body) in
      let same : flat f' (e + 1) ≡ rest = ap (λ (m : ℕ). flat f' m) next in
      record {
        stands = tokens-on ts i h ∙ rw (o, g.stands, tokens-on ts e h', c, r.stands, same, z) (simp append_assoc);
        size = r.size ∙ rw same (omega (arith, length-append (boxed kind flag i body) rest, length-append body (end_of i ∷ [])));
      }

  -- by as many turns as there are tokens
  grow : (turns i j : ℕ) → j ≤ i + turns → i ≤ j → Range ts i j → Grown ts i j (forest_in turns ts i j)
  unfolding forest_in
  grow zero i j few up b = let z : j ≡ i = omega arith in record { stands = rw z refl; size = omega arith }
  grow (suc turns) i j few up b =
      by_bool (ltb i j)
      (λ t.
      let h : i < j = ltb-true i j t in
      by_token i j b h
      (λ kind flag e o l l' c u v.
      rw (takes-box turns i j h (reads i e kind flag o))
      (grow_box i j e kind flag _ _ (omega (arith, b.within)) (omega (arith, b.within)) o c
      (grow turns (i + 1) e (omega arith) (omega arith) u)
      (grow turns (e + 1) j (omega arith) (omega arith) v)))
      (λ o u. rw (takes-leaf turns i j h o) (grow_leaf i j _ (omega (arith, b.within)) (grow turns (i + 1) j (omega arith) (omega arith) u))))
      (λ t.
      let z : j ≡ i = omega (arith, ltb-false i j t) in
      rw (none_left turns i j (omega arith)) record { stands = rw z refl; size = omega arith })

  pub stretch_grown : (i j : ℕ) → i ≤ j → Range ts i j → Grown ts i j (stretch ts i j)
  unfolding stretch
  stretch_grown i j up b = grow (j - i) i j (omega arith) up b

-- every sound sheet is that of its forest
pub sheet_grown : {n : ℕ} {ts : List Token} → Sheet n ts → ts ≡ flat (forest_of ts) 0
unfolding forest_of
sheet_grown {n} {ts} s =
    let whole : Forest = stretch ts 0 (length ts) in
    (stretch_grown ts 0 (length ts) (omega arith) (sheet-range s)).stands
    ∙ ap (λ (l : List Token). flat whole 0 ++ l) (drop_of_length-le ts {i = length ts} (omega arith)) ∙ append-nil (flat whole 0)
