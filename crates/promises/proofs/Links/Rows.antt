-- The tokens of a tape one by one: each has a form, a Header that has a token behind it has an opener there, and a MixedContainer
-- has a scalar there.
-- What each change of a tape does to the token at an index, and to this.
-- Assumes nothing.
use Rattle.std.specs.Prelude.{None}
use mathlib.Core.Path.{◌≡◌, refl, sym, ◌∙◌, ap}
use mathlib.Core.Bool.{Bool, true, false, false≢true}
use mathlib.Core.List.{List, [], ◌∷◌, ◌++◌}
use Prim.Native.Nat.{ℕ, suc, ◌+◌, ◌-◌, ◌≤◌, ◌<◌}
use native.Mathlib.Omega.{arith}
use lib.ListN.{length, set, length-append, length-set, get_or-eq_default, get_or-append}
use lib.Seq.{get_or-append_seam, get_or-set_same, get_or-set_other}
use Rattle.operator.specs.declared.Operator.{Operator}
use Rattle.operator.specs.declared.Operator.TheVariants.{LessThan, LessThanEqual, GreaterThan, GreaterThanEqual, NotEqual, Exact, Equal, Exists}
use Rattle.operator.specs.Operators.{number_of}
use Rattle.tape.specs.declared.token.Token.{Token}
use Rattle.tape.specs.declared.token.ScalarKind.{ScalarKind}
use Rattle.tape.specs.declared.token.ScalarKind.TheVariants.{Header}
use Rattle.tape.specs.declared.shape.Link.{Link}
use Rattle.tape.specs.Token.{no_token, least_operator, greatest_operator, is_scalar_code, is_header, mixed_container_token, scalar_of, operator_of}
use Rattle.tape.specs.Token.{header_code}
use Rattle.tape.specs.Token.{mixed_container_code, scalar_code}
use Rattle.tape.specs.Shape.{linked, link_of, Opens}
use Rattle.tape.specs.Tape.{before_last}
use Rattle.tape.proofs.Shapes.{scalar-shape, operator-shape, mixed_container-shape, unlinked-opens}
use Rattle.tape.proofs.Makers.{mixed_container_uncoded, none_uncoded, header_coded}
use Rattle.tape.proofs.Makers as Makers
use Rattle.tape.proofs.Views.{before_last-moved}
use Rattle.sheet.specs.Sound.{nth, Form, mixed_container, scalar, operator}
use Rattle.promises.specs.Mixed.{Scalar, Marked}
use Rattle.promises.proofs.Links.Nest.{by_equal, by-below}

-- ---- the token at an index after a change
-- the last token
abbrev pub last : List Token → Token
last ts = nth ts (length ts - 1)

module _ (ts : List Token) (x : Token) where
  pub add-length : length (ts ++ (x ∷ [])) ≡ length ts + 1
  add-length = length-append ts (x ∷ [])

  pub add_new : nth (ts ++ (x ∷ [])) (length ts) ≡ x
  add_new = get_or-append_seam ts x [] no_token

  pub add_same : (i : ℕ) → (i ≡ length ts → ⊥) → nth (ts ++ (x ∷ [])) i ≡ nth ts i
  add_same i d =
      by-below i (length ts)
      (λ h. get_or-append ts (x ∷ []) no_token i h)
      (λ h. get_or-eq_default (ts ++ (x ∷ [])) no_token {n = i} (omega (arith, add-length)) ∙ sym (get_or-eq_default ts no_token {n = i} h))

  pub add-last : last (ts ++ (x ∷ [])) ≡ x
  add-last = let e : length (ts ++ (x ∷ [])) - 1 ≡ length ts = omega (arith, add-length) in rw e add_new

-- a token put in before the last stands where that stood, and the last behind it
module _ (ts : List Token) (x : Token) (k : ℕ) (counted : length ts ≡ suc k) where
  moved : set (ts ++ (nth ts k ∷ [])) k x ≡ before_last ts x
  moved = before_last-moved ts k x counted

  pub insert-length : length (before_last ts x) ≡ length ts + 1
  insert-length = rw (← moved, length-set (ts ++ (nth ts k ∷ [])) k x) (add-length ts (nth ts k))

  pub insert_new : nth (before_last ts x) k ≡ x
  insert_new = rw (← moved) (get_or-set_same (ts ++ (nth ts k ∷ [])) k x no_token (omega (arith, add-length ts (nth ts k))))

  pub insert-last : nth (before_last ts x) (suc k) ≡ nth ts k
  insert-last =
      rw (← moved, get_or-set_other (ts ++ (nth ts k ∷ [])) k (suc k) x no_token (λ z. omega arith), ← counted)
      (add_new ts (nth ts k))

  pub insert-same : (i : ℕ) → (i ≡ k → ⊥) → (i ≡ suc k → ⊥) → nth (before_last ts x) i ≡ nth ts i
  insert-same i d d' =
      rw (← moved, get_or-set_other (ts ++ (nth ts k ∷ [])) k i x no_token d)
      (add_same ts (nth ts k) i (λ z. d' (omega arith)))

-- ---- scalars, and tokens that are no MixedContainer
abbrev pub Unmarked : Token → Type 0
Unmarked t = t ≡ mixed_container_token → ⊥

pub unmarked : (t : Token) → (t.code ≡ mixed_container_code → ⊥) → Unmarked t
unmarked t d e = d (ap (λ (x : Token). x.code) e)

-- a scalar has a scalar's code
pub scalar_coded : {t : Token} → Scalar t → is_scalar_code t.code ≡ true
scalar_coded s = ap (λ (x : Token). is_scalar_code x.code) s.made ∙ Makers.scalar_coded s.kind

pub not_scalar : {t : Token} → is_scalar_code t.code ≡ false → Scalar t → ⊥
not_scalar other s = false≢true (sym other ∙ scalar_coded s)

pub scalar-unmarked : {t : Token} → Scalar t → Unmarked t
scalar-unmarked s e = not_scalar {t = mixed_container_token} mixed_container_uncoded (rw e at s)

pub scalar-unlinked : {t : Token} → Scalar t → link_of t ≡ None
scalar-unlinked s = ap link_of s.made ∙ ap linked (scalar-shape s.kind s.offset s.size)

-- where a scalar is read there is a token
pub scalar_below : (ts : List Token) (i : ℕ) → Scalar (nth ts i) → i < length ts
scalar_below ts i s =
    by-below i (length ts)
    (λ h. h)
    (λ h.
    let none : nth ts i ≡ no_token = get_or-eq_default ts no_token {n = i} h in
    absurd (not_scalar {t = no_token} none_uncoded (rw none at s)))

-- ---- tokens that name none and are neither a Header nor a MixedContainer
abbrev pub Unheaded : Token → Type 0
Unheaded t = (offset size : ℕ) → t ≡ scalar_of Header offset size → ⊥

pub unheaded : (t : Token) → (t.code ≡ header_code → ⊥) → Unheaded t
unheaded t d offset size e = d (ap (λ (x : Token). x.code) e)

pub record Plain (t : Token) : Type 0 where
  pub form : Form t
  pub unlinked : link_of t ≡ None
  pub other : Unheaded t
  pub bare : Unmarked t

-- a kind of scalar that a run is cut as: any but a Header
abbrev pub Off : Bool → Type 0
Off true = ⊥
Off false = Unit {0}

abbrev pub CutKind : ScalarKind → Type 0
CutKind kind = Off (is_header kind)

pub scalar_made : (kind : ScalarKind) (offset size : ℕ) → Scalar (scalar_of kind offset size)
scalar_made kind offset size = record { kind = kind; offset = offset; size = size; made = refl }

pub plain-scalar : (kind : ScalarKind) (offset size : ℕ) → CutKind kind → Plain (scalar_of kind offset size)
plain-scalar kind offset size d = record {
  form = scalar offset size (kind, refl);
  unlinked = ap linked (scalar-shape kind offset size);
  other = unheaded (scalar_of kind offset size) (no_header kind d);
  bare = scalar-unmarked (scalar_made kind offset size);
}
  where
    no_header : (k : ScalarKind) → CutKind k → scalar_code k ≡ header_code → ⊥
    no_header k c z = rw (header_coded k z) at c

numbered : (o : Operator) → (least_operator ≤ number_of o) × (number_of o ≤ greatest_operator)
numbered LessThan = omega arith
numbered LessThanEqual = omega arith
numbered GreaterThan = omega arith
numbered GreaterThanEqual = omega arith
numbered NotEqual = omega arith
numbered Exact = omega arith
numbered Equal = omega arith
numbered Exists = omega arith

pub plain-operator : (o : Operator) → Plain (operator_of (number_of o))
plain-operator o =
    let r = numbered o in
    record {
      form = operator (number_of o) r.0 r.1 refl;
      unlinked = ap linked (operator-shape (number_of o) r.0 r.1);
      other = unheaded _ (λ z. omega arith);
      bare = unmarked _ (λ z. omega arith);
    }

pub mixed-unlinked : link_of mixed_container_token ≡ None
mixed-unlinked = ap linked mixed_container-shape

-- ---- the tokens of a tape, one by one
-- an opener of some link
abbrev pub Opener : Token → Type 0
Opener t = (end : ℕ) × Opens t end

pub record Row (ts : List Token) : Type 0 where
  pub forms : (i : ℕ) → i < length ts → Form (nth ts i)
  pub headed : (i offset size : ℕ) → nth ts i ≡ scalar_of Header offset size → i + 1 < length ts → Opener (nth ts (i + 1))
  pub marked : Marked ts

-- the last but one is no MixedContainer, so that one may go in before the last
abbrev pub Apart : List Token → Type 0
Apart ts = (j : ℕ) → j + 2 ≡ length ts → Unmarked (nth ts j)

-- it is none where the last is no scalar
pub apart_unscaled : (ts : List Token) → Row ts → (Scalar (last ts) → ⊥) → Apart ts
apart_unscaled ts r d j h e = let k : j + 1 ≡ length ts - 1 = omega arith in d (rw k at (r.marked j e))

-- nor where a token was added
pub apart-add : (ts : List Token) (x : Token) → Row ts → Apart (ts ++ (x ∷ []))
apart-add ts x r j h e =
    let l : length (ts ++ (x ∷ [])) ≡ length ts + 1 = add-length ts x in
    let old : nth ts j ≡ mixed_container_token = rw (add_same ts x j (λ z. omega arith)) at e in
    let below : j + 1 < length ts = scalar_below ts (j + 1) (r.marked j old) in
    omega arith

-- a token added: behind a Header only an opener
pub row-add : (ts : List Token) (x : Token) → Row ts → Form x → Unmarked x
    → ((offset size : ℕ) → last ts ≡ scalar_of Header offset size → Opener x)
    → Row (ts ++ (x ∷ []))
row-add ts x r form bare suits = record {
  forms = λ i h.
      by_equal i (length ts)
      (λ z. rw (z, add_new ts x) form)
      (λ d. rw (add_same ts x i d) (r.forms i (omega (arith, add-length ts x))));
  headed = λ i offset size e h.
      let l : length (ts ++ (x ∷ [])) ≡ length ts + 1 = add-length ts x in
      let old : nth ts i ≡ scalar_of Header offset size = rw (add_same ts x i (λ z. omega arith)) at e in
      by_equal (i + 1) (length ts)
      (λ z.
      let k : i ≡ length ts - 1 = omega arith in
      rw (z, add_new ts x) (suits offset size (rw k at old)))
      (λ d. rw (add_same ts x (i + 1) d) (r.headed i offset size old (omega arith)));
  marked = λ i e.
      by_equal i (length ts)
      (λ z. absurd (bare (rw (z, add_new ts x) at e)))
      (λ d.
      let old = r.marked i (rw (add_same ts x i d) at e) in
      let below : i + 1 < length ts = scalar_below ts (i + 1) old in
      rw (add_same ts x (i + 1) (λ z. omega arith)) old);
}

-- a token changed: an opener stays one, a scalar stays one, and a Header is made of the last alone
pub row-set : (ts : List Token) (k : ℕ) (x : Token) → k < length ts → Row ts → Form x → Unmarked x → (Opener (nth ts k) → Opener x)
    → (Scalar (nth ts k) → Scalar x)
    → (k + 1 < length ts → Unheaded x) → Row (set ts k x)
row-set ts k x below r form bare keeps scalars other = record {
  forms = λ i h.
      by_equal i k
      (λ z. rw (z, get_or-set_same ts k x no_token below) form)
      (λ d. rw (get_or-set_other ts k i x no_token d) (r.forms i (omega (arith, length-set ts k x))));
  headed = λ i offset size e h.
      let l : length (set ts k x) ≡ length ts = length-set ts k x in
      by_equal i k
      (λ z.
      let c : x ≡ scalar_of Header offset size = rw (z, get_or-set_same ts k x no_token below) at e in
      absurd (other (omega arith) offset size c))
      (λ d.
      let old = r.headed i offset size (rw (get_or-set_other ts k i x no_token d) at e) (omega arith) in
      by_equal (i + 1) k
      (λ z. rw (z, get_or-set_same ts k x no_token below) (keeps (rw z at old)))
      (λ d'. rw (get_or-set_other ts k (i + 1) x no_token d') old));
  marked = λ i e.
      by_equal i k
      (λ z. absurd (bare (rw (z, get_or-set_same ts k x no_token below) at e)))
      (λ d.
      let old = r.marked i (rw (get_or-set_other ts k i x no_token d) at e) in
      by_equal (i + 1) k
      (λ z. rw (z, get_or-set_same ts k x no_token below) (scalars (rw z at old)))
      (λ d'. rw (get_or-set_other ts k (i + 1) x no_token d') old));
}

-- a MixedContainer put in before the last, which is a scalar and no Header, and has none before it
pub row-insert : (ts : List Token) (k : ℕ) → length ts ≡ suc k → Row ts → Scalar (nth ts k) → Unheaded (nth ts k) → Apart ts
    → Row (before_last ts mixed_container_token)
row-insert ts k counted r last_one other apart =
    let x : Token = mixed_container_token in
    let l : length (before_last ts x) ≡ length ts + 1 = insert-length ts x k counted in
    record {
      forms = λ i h.
          by_equal i k
          (λ z. rw (z, insert_new ts x k counted) (mixed_container refl))
          (λ d. by_equal i (suc k)
          (λ z. rw (z, insert-last ts x k counted) (r.forms k (omega arith)))
          (λ d'. rw (insert-same ts x k counted i d d') (r.forms i (omega arith))));
      headed = λ i offset size e h.
          by_equal i k
          (λ z. absurd (unheaded x (λ y. omega arith) offset size (rw (z, insert_new ts x k counted) at e)))
          (λ d.
          let old = r.headed i offset size (rw (insert-same ts x k counted i d (λ z. omega arith)) at e) (omega arith) in
          by_equal (i + 1) k
          (λ z. absurd (unlinked-opens (nth ts k) (scalar-unlinked last_one) (rw z at old).1))
          (λ d'. rw (insert-same ts x k counted (i + 1) d' (λ z. omega arith)) old));
      marked = λ i e.
          by_equal i k
          (λ z. let next : i + 1 ≡ suc k = omega arith in rw (next, insert-last ts x k counted) last_one)
          (λ d. by_equal i (suc k)
          (λ z. absurd (scalar-unmarked last_one (rw (z, insert-last ts x k counted) at e)))
          (λ d'.
          let same : nth ts i ≡ x = rw (insert-same ts x k counted i d d') at e in
          let old = r.marked i same in
          let below : i + 1 < length ts = scalar_below ts (i + 1) old in
          by_equal (i + 1) k
          (λ z. absurd (apart i (omega arith) same))
          (λ d''. rw (insert-same ts x k counted (i + 1) d'' (λ z. omega arith)) old)));
    }
