-- How the links of a tape stand while containers are open, and what opening and closing one does to them.
-- An open container's opener names its parent, which stands before it; a closed one's names its End, which stands behind it.
-- Assumes nothing.
use Rattle.std.specs.Prelude.{Option, Some, None}
use mathlib.Core.Path.{◌≡◌, refl, sym, ◌∙◌, subst, fun_ext}
use mathlib.Core.Logic.{◌⊎◌, inl, inr}
use Prim.Native.Nat.{ℕ, ◌+◌, ◌≤◌, ◌<◌}
use native.Mathlib.Omega.{arith}
use borrow.Author.Tests.{eqb-true, eqb-false, ltb-true, ltb-false}
use lib.Dec.{eqb, ltb}
use Rattle.data.proofs.Cases.{by_bool}
use Rattle.tape.specs.declared.shape.Link.{Link}
use Rattle.tape.specs.declared.shape.Link.TheVariants.{ToEnd, ToOpener}
use Rattle.sheet.proofs.Links.{end_not_none, opener_not_none, end_not_opener, same_end, same-opener}

-- ---- splits that hand over what they found
pub by_equal : {P : Type 0} (i j : ℕ) → (i ≡ j → P) → ((i ≡ j → ⊥) → P) → P
by_equal i j f g = by_bool (eqb i j) (λ e. f (eqb-true i j e)) (λ e. g (eqb-false i j e))

pub by-below : {P : Type 0} (i j : ℕ) → (i < j → P) → (j ≤ i → P) → P
by-below i j f g = by_bool (ltb i j) (λ e. f (ltb-true i j e)) (λ e. g (ltb-false i j e))

-- ---- the links of n tokens, the link at each index, inside a parent
-- the opener at an index is open
abbrev pub Open : (ℕ → Option Link) → ℕ → Type 0
Open L i = (link : ℕ) × (L i ≡ Some (ToEnd link)) × (link < i)

-- an index that is a parent's: none, or an open opener's
abbrev pub Parent : (ℕ → Option Link) → ℕ → Type 0
Parent L i = (i ≡ 0) ⊎ Open L i

-- what is known of an open opener: its parent is one, the container that the machine is in is no further out, and none that is
-- open stands between it and its parent
pub record Hangs (L : ℕ → Option Link) (p i link : ℕ) : Type 0 where
  pub before : link < i
  pub reached : i ≤ p
  pub parent : Parent L link
  pub between : (j k : ℕ) → L j ≡ Some (ToEnd k) → k ≤ j → link < j → j < i → ⊥

pub record Nest (L : ℕ → Option Link) (n p : ℕ) : Type 0 where
  -- none is past the tokens
  pub past : (i : ℕ) → n ≤ i → L i ≡ None
  -- token 0 opens nothing
  pub top : (link : ℕ) → L 0 ≡ Some (ToEnd link) → ⊥
  -- an End names an earlier opener that names it
  pub opened : (j opener : ℕ) → L j ≡ Some (ToOpener opener) → (opener < j) × (L opener ≡ Some (ToEnd j))
  -- an opener that names a later token names its End
  pub closed : (i end : ℕ) → L i ≡ Some (ToEnd end) → i < end → L end ≡ Some (ToOpener i)
  -- one that does not is open
  pub open_one : (i link : ℕ) → L i ≡ Some (ToEnd link) → link ≤ i → Hangs L p i link
  -- what opens inside a closed container is closed before it is
  pub nested : (i end j inner : ℕ) → L i ≡ Some (ToEnd end) → L j ≡ Some (ToEnd inner) → i < j → j < end → (j < inner) × (inner < end)
  -- the machine's parent is one
  pub parent : Parent L p

module _ {L : ℕ → Option Link} {n p : ℕ} (s : Nest L n p) where
  -- what opens is one of the tokens
  pub opener-below : {i link : ℕ} → L i ≡ Some (ToEnd link) → i < n
  opener-below {i} e = by-below i n (λ h. h) (λ h. absurd (end_not_none e (s.past i h)))

  pub end_below : {j opener : ℕ} → L j ≡ Some (ToOpener opener) → j < n
  end_below {j} e = by-below j n (λ h. h) (λ h. absurd (opener_not_none e (s.past j h)))

  pub parent-below : 1 ≤ n → p < n
  parent-below some = go s.parent
    where
      go : Parent L p → p < n
      go (inl z) = omega arith
      go (inr o) = opener-below o.1

  -- more tokens that name none change nothing
  pub widen : {M : ℕ → Option Link} {k : ℕ} → ((i : ℕ) → M i ≡ L i) → n ≤ k → Nest M k p
  widen {M} {k} same h = subst (λ (X : ℕ → Option Link). Nest X k p) (sym (fun_ext same)) wider
    where
      wider : Nest L k p
      wider = record {
        past = λ i g. s.past i (omega arith);
        top = s.top;
        opened = s.opened;
        closed = s.closed;
        open_one = s.open_one;
        nested = s.nested;
        parent = s.parent;
      }

-- a parent stays one where its link does
parent-kept : (L M : ℕ → Option Link) (i : ℕ) → M i ≡ L i → Parent L i → Parent M i
parent-kept L M i e (inl z) = inl z
parent-kept L M i e (inr o) = inr (o.0, e ∙ o.1, o.2)

-- an opener laid down behind the others, which names the parent, is open, and the machine goes on inside it
module _ {L M : ℕ → Option Link} {n p : ℕ} (s : Nest L n p) (some : 1 ≤ n) (same : (i : ℕ) → (i ≡ n → ⊥) → M i ≡ L i)
    (new : M n ≡ Some (ToEnd p)) where
  below : p < n
  below = parent-below s some

  back : {i : ℕ} {x : Option Link} → (i ≡ n → ⊥) → M i ≡ x → L i ≡ x
  back {i} d e = sym (same i d) ∙ e

  opened_after : (j opener : ℕ) → M j ≡ Some (ToOpener opener) → (opener < j) × (M opener ≡ Some (ToEnd j))
  opened_after j opener e =
      by_equal j n
      (λ z. absurd (end_not_opener (rw (← z) at new) e))
      (λ d. let h = s.opened j opener (back d e) in
      (h.0, same opener (λ z. let g = opener-below s h.1 in omega arith) ∙ h.1))

  closed_after : (i end : ℕ) → M i ≡ Some (ToEnd end) → i < end → M end ≡ Some (ToOpener i)
  closed_after i end e h =
      by_equal i n
      (λ z. let q : p ≡ end = same_end new (rw z at e) in absurd (omega (arith, below)))
      (λ d. let c = s.closed i end (back d e) h in
      same end (λ z. let g = end_below s c in omega arith) ∙ c)

  hangs_after : (i link : ℕ) → M i ≡ Some (ToEnd link) → link ≤ i → Hangs M n i link
  hangs_after i link e h =
      by_equal i n
      (λ z. let q : p ≡ link = same_end new (rw z at e) in
      rw (← q, z)
      (record {
        before = below;
        reached = omega arith;
        parent = parent-kept L M p (same p (λ y. omega (arith, below))) s.parent;
        between = λ j k f le g l. let r = s.open_one j k (back (λ y. omega arith) f) le in omega (arith, r.reached);
      }))
      (λ d. let r = s.open_one i link (back d e) h in
      record {
        before = r.before;
        reached = omega (arith, r.reached, below);
        parent = parent-kept L M link (same link (λ y. omega (arith, r.before, r.reached, below))) r.parent;
        between = λ j k f le g l. r.between j k (back (λ y. omega (arith, r.reached, below)) f) le g l;
      })

  nested-after : (i end j inner : ℕ) → M i ≡ Some (ToEnd end) → M j ≡ Some (ToEnd inner) → i < j → j < end → (j < inner) × (inner < end)
  nested-after i end j inner e f g h =
      by_equal i n
      (λ z. let q : p ≡ end = same_end new (rw z at e) in absurd (omega (arith, below)))
      (λ d. let c = end_below s (s.closed i end (back d e) (omega arith)) in
      s.nested i end j inner (back d e) (back (λ z. omega arith) f) g h)

  pub nest_open : Nest M (n + 1) n
  nest_open = record {
    past = λ i h. same i (λ z. omega arith) ∙ s.past i (omega arith);
    top = λ link e. s.top link (back (λ z. omega arith) e);
    opened = opened_after;
    closed = closed_after;
    open_one = hangs_after;
    nested = nested-after;
    parent = inr (p, new, below);
  }

-- the container that the machine is in gets its End behind the others, and the machine goes on inside its parent
module _ {L M : ℕ → Option Link} {n p up : ℕ} (s : Nest L n p) (here : L p ≡ Some (ToEnd up)) (inner-one : up < p)
    (same : (i : ℕ) → (i ≡ p → ⊥) → (i ≡ n → ⊥) → M i ≡ L i) (closes : M p ≡ Some (ToEnd n)) (new : M n ≡ Some (ToOpener p)) where
  p_below : p < n
  p_below = opener-below s here

  hung : Hangs L p p up
  hung = s.open_one p up here (omega arith)

  returns : {i : ℕ} {x : Option Link} → (i ≡ p → ⊥) → (i ≡ n → ⊥) → M i ≡ x → L i ≡ x
  returns {i} d d' e = sym (same i d d') ∙ e

  no-opener : {i link : ℕ} → M i ≡ Some (ToEnd link) → i ≡ n → ⊥
  no-opener e z = end_not_opener (rw z at e) new

  opened-closing : (j opener : ℕ) → M j ≡ Some (ToOpener opener) → (opener < j) × (M opener ≡ Some (ToEnd j))
  opened-closing j opener e =
      by_equal j n
      (λ z. let q : opener ≡ p = same-opener (rw z at e) new in rw (q, z) (p_below, closes))
      (λ d. by_equal j p
      (λ z. absurd (end_not_opener closes (rw z at e)))
      (λ d'. let h = s.opened j opener (returns d' d e) in (
        h.0,
        same opener
            (λ z. let q : up ≡ j = same_end here (rw z at h.1) in let l = h.0 in omega arith)
            (λ z. let g = opener-below s h.1 in omega arith) ∙ h.1,
      )))

  closed-closing : (i end : ℕ) → M i ≡ Some (ToEnd end) → i < end → M end ≡ Some (ToOpener i)
  closed-closing i end e h =
      by_equal i p
      (λ z. let q : n ≡ end = same_end closes (rw z at e) in rw (← q, z) new)
      (λ d. let c = s.closed i end (returns d (no-opener e) e) h in
      same end (λ z. end_not_opener here (rw z at c)) (λ z. let g = end_below s c in omega arith) ∙ c)

  -- an opener that stays open is the parent or further out
  outer : (i link : ℕ) → L i ≡ Some (ToEnd link) → link ≤ i → (i ≡ p → ⊥) → i ≤ up
  outer i link e h d =
      by-below up i
      (λ l. let r = s.open_one i link e h in absurd (hung.between i link e h l (omega (arith, r.reached))))
      (λ l. l)

  hangs_closing : (i link : ℕ) → M i ≡ Some (ToEnd link) → link ≤ i → Hangs M up i link
  hangs_closing i link e h =
      by_equal i p
      (λ z. let q : n ≡ link = same_end closes (rw z at e) in absurd (omega (arith, p_below)))
      (λ d. let old = returns d (no-opener e) e in
      let r = s.open_one i link old h in
      let o : i ≤ up = outer i link old h d in
      record {
        before = r.before;
        reached = o;
        parent = parent-kept L M link (same link (λ z. omega (arith, r.before)) (λ z. omega (arith, r.before, p_below))) r.parent;
        between = λ j k f le g l. r.between j k (returns (λ z. omega arith) (λ z. omega (arith, p_below)) f) le g l;
      })

  nested-closing : (i end j inner : ℕ) → M i ≡ Some (ToEnd end) → M j ≡ Some (ToEnd inner) → i < j → j < end → (j < inner) × (inner < end)
  nested-closing i end j inner e f g h =
      by_equal i p
      (λ z. let q : n ≡ end = same_end closes (rw z at e) in
      let old = returns (λ y. omega arith) (no-opener f) f in
      by-below j inner
      (λ l. let c = end_below s (s.closed j inner old l) in (l, omega arith))
      (λ l. let r = s.open_one j inner old l in absurd (omega (arith, r.reached))))
      (λ d. let old = returns d (no-opener e) e in
      by_equal j p
      (λ z. let r = s.nested i end p up old here (omega arith) (omega arith) in absurd (omega arith))
      (λ d'. s.nested i end j inner old (returns d' (no-opener f) f) g h))

  pub nest_close : Nest M (n + 1) up
  nest_close = record {
    past = λ i h. same i (λ z. omega (arith, p_below)) (λ z. omega arith) ∙ s.past i (omega arith);
    top = λ link e. s.top link (returns (λ z. omega arith) (λ z. omega (arith, p_below)) e);
    opened = opened-closing;
    closed = closed-closing;
    open_one = hangs_closing;
    nested = nested-closing;
    parent = parent-kept L M up (same up (λ z. omega arith) (λ z. omega (arith, p_below))) hung.parent;
  }

-- no token, no link
pub nest_none : {L : ℕ → Option Link} → ((i : ℕ) → L i ≡ None) → Nest L 0 0
nest_none none = record {
  past = λ i h. none i;
  top = λ link e. end_not_none e (none 0);
  opened = λ j opener e. absurd (opener_not_none e (none j));
  closed = λ i end e h. absurd (end_not_none e (none i));
  open_one = λ i link e h. absurd (end_not_none e (none i));
  nested = λ i end j inner e f g h. absurd (end_not_none e (none i));
  parent = inl refl;
}

-- with no parent none is open: every opener names its End
pub all_closed : {L : ℕ → Option Link} {n : ℕ} → Nest L n 0 → (i end : ℕ) → L i ≡ Some (ToEnd end) → i < end
all_closed {L} s i end e =
    by-below i end (λ h. h)
    (λ h. let r = s.open_one i end e h in
    let z : i ≡ 0 = omega (arith, r.reached) in
    absurd (s.top end (rw z at e)))
