-- What the look at the tokens from the first on has shown after some of them: each holds by itself, each view is past those
-- before it, and the floor is where the last of them ends.
-- Assumes nothing.
use Rattle.std.specs.Prelude.{Option, Some, None}
use mathlib.Core.Path.{◌≡◌, refl, sym, ◌∙◌, ap, subst}
use mathlib.Core.Bool.{Bool, true, false, false≢true}
use mathlib.Core.List.{List}
use mathlib.Core.Logic.{◌⊎◌, inl, inr, ◌↔◌}
use Prim.Native.Nat.{ℕ, ◌+◌, ◌≤◌, ◌<◌}
use native.Mathlib.Omega.{arith}
use borrow.Author.Count.{below_more}
use borrow.Author.Tests.{ltb-true, ltb-false, eqb-true, eqb-false}
use lib.Dec.{eqb, ltb}
use lib.ListN.{length}
use Rattle.data.proofs.Cases.{by_bool}
use Rattle.tape.specs.declared.token.Token.{Token}
use Rattle.tape.specs.declared.token.ScalarKind.{ScalarKind}
use Rattle.tape.specs.declared.shape.Shape.{Shape}
use Rattle.tape.specs.declared.shape.Shape.TheVariants.{Opener, MixedContainer, Scalar, Operator, End}
use Rattle.tape.specs.Shape.{shape_of}
use Rattle.tape.specs.Words.{words_for, tokens_in}
use Rattle.tape.proofs.Shapes.{shape-made}
use Rattle.tape.proofs.Views.{tokens-counted}
use Rattle.sheet.specs.Sound.{nth, Views}
use Rattle.sheet.specs.Steps.{Held, Spaced, AllStand, past, floor_after}
use Rattle.sheet.proofs.Links.{told-yes, told-no}
use Rattle.sheet.proofs.Tokens.{NotScalar, views-shape, views_not}

-- ---- the floor past a view: over its start, at its end or over it, and no higher than that asks
past-over : (offset size : ℕ) → (offset < past offset size) × (offset + size ≤ past offset size)
past-over offset size =
    by_bool (eqb size 0)
    (λ e. rw (past, e) (omega (arith, eqb-true size 0 e)))
    (λ e. rw (past, e) (omega (arith, eqb-false size 0 e)))

past-least : (offset size later : ℕ) → offset < later → offset + size ≤ later → past offset size ≤ later
past-least offset size later h k =
    by_bool (eqb size 0)
    (λ e. rw (past, e) (omega arith))
    (λ e. rw (past, e) (omega arith))

-- ---- a shape is a scalar's, or leaves the floor as it is
abbrev pub ScalarOr : Option Shape → Type 0
ScalarOr s = ((kind : ScalarKind) × (offset : ℕ) × (size : ℕ) × (s ≡ Some (Scalar kind offset size))) ⊎ NotScalar s

pub scalar_or : (s : Option Shape) → ScalarOr s
scalar_or (Some (Opener end)) = inr tt
scalar_or (Some MixedContainer) = inr tt
scalar_or (Some (Scalar kind offset size)) = inl (kind, offset, size, refl)
scalar_or (Some (Operator number)) = inr tt
scalar_or (Some (End opener)) = inr tt
scalar_or None = inr tt

floor-kept : (s : Option Shape) (floor : ℕ) → NotScalar s → floor_after s floor ≡ Some floor
unfolding floor_after
floor-kept (Some (Opener end)) floor n = refl
floor-kept (Some MixedContainer) floor n = refl
floor-kept (Some (Scalar kind offset size)) floor n = absurd n
floor-kept (Some (Operator number)) floor n = refl
floor-kept (Some (End opener)) floor n = refl
floor-kept None floor n = refl

same-floor : {f : Option ℕ} {a b : ℕ} → f ≡ Some a → f ≡ Some b → a ≡ b
same-floor e g = cc

not_passed : {f : Option ℕ} {a : ℕ} → f ≡ Some a → f ≡ None → ⊥
not_passed e g = let z : ◌≡◌ {A = ℕ} 0 1 = cc in omega arith

same-offset : {s : Option Shape} {k l : ScalarKind} {a b c d : ℕ} → s ≡ Some (Scalar k a b) → s ≡ Some (Scalar l c d) → a ≡ c
same-offset e f = cc

same_size : {s : Option Shape} {k l : ScalarKind} {a b c d : ℕ} → s ≡ Some (Scalar k a b) → s ≡ Some (Scalar l c d) → b ≡ d
same_size e f = cc

-- ---- what has been shown
-- token i, if it is a scalar, lies under a floor
abbrev Under : List Token → ℕ → ℕ → Type 0
Under ts floor i = (offset size : ℕ) → Views (nth ts i) offset size → (offset < floor) × (offset + size ≤ floor)

-- the floor is the bottom, or a scalar's
abbrev Floored : List Token → ℕ → ℕ → Type 0
Floored ts j floor = (floor ≡ 0) ⊎ ((i : ℕ) × (offset : ℕ) × (size : ℕ) × (i < j) × Views (nth ts i) offset size × (floor ≡ past offset size))

pub record Scanned (text_length : ℕ) (ts : List Token) (j floor : ℕ) : Type 0 where
  pub held : (i : ℕ) → i < j → Held text_length ts i
  pub spaced : (i : ℕ) → i < j → Spaced ts i
  pub under : (i : ℕ) → i < j → Under ts floor i
  pub floored : Floored ts j floor

pub scanned_all : (L : ℕ) (ts : List Token) {j floor : ℕ} → Scanned L ts j floor → length ts ≤ j → AllStand L ts
scanned_all L ts s h = record { held = λ i k. s.held i (omega arith); spaced = λ i k. s.spaced i (omega arith) }

-- ---- one token more
module _ (L : ℕ) (ts : List Token) (j floor : ℕ) (before : Scanned L ts j floor) where
  -- a scalar that starts at the floor or over it
  scalar-more : (kind : ScalarKind) (offset size : ℕ) → shape_of (nth ts j) ≡ Some (Scalar kind offset size) → floor ≤ offset → Held L ts j
      → Scanned L ts (j + 1) (past offset size)
  scalar-more kind offset size e h here =
      record {
        held = below_more (Held L ts) j before.held here;
        spaced = below_more (Spaced ts) j before.spaced (λ i o s p q k v w.
            let u = before.under i k o s v in
            let same : offset ≡ p = same-offset e (views-shape (nth ts j) w) in
            (omega arith, omega arith));
        under = below_more (Under ts (past offset size)) j
            (λ i k o s v.
            let u = before.under i k o s v in
            let f = past-over offset size in
            (omega arith, omega arith))
            (λ o s v.
            let f = past-over offset size in
            let same : offset ≡ o = same-offset e (views-shape (nth ts j) v) in
            let same_length : size ≡ s = same_size e (views-shape (nth ts j) v) in
            (omega arith, omega arith));
        floored = inr (j, offset, size, omega arith, (kind, shape-made (nth ts j) e), refl);
      }

  -- a token that is none
  other-more : NotScalar (shape_of (nth ts j)) → Held L ts j → Scanned L ts (j + 1) floor
  other-more n here =
      record {
        held = below_more (Held L ts) j before.held here;
        spaced = below_more (Spaced ts) j before.spaced (λ i o s p q k v w. absurd (views_not (nth ts j) refl n w));
        under = below_more (Under ts floor) j before.under (λ o s v. absurd (views_not (nth ts j) refl n v));
        floored = later before.floored;
      }
    where
      later : Floored ts j floor → Floored ts (j + 1) floor
      later (inl z) = inl z
      later (inr f) = inr (f.0, f.1, f.2, omega (arith, f.3), f.4, f.5)

  by-floor : {next : ℕ} → ScalarOr (shape_of (nth ts j)) → Held L ts j → floor_after (shape_of (nth ts j)) floor ≡ Some next
      → Scanned L ts (j + 1) next
  unfolding floor_after
  by-floor {next} (inl (kind, offset, size, e)) here f =
      let g : floor_after (Some (Scalar kind offset size)) floor ≡ Some next = ap (λ (s : Option Shape). floor_after s floor) (sym e) ∙ f in
      by_bool (ltb offset floor)
      (λ t. absurd (not_passed g (rw (floor_after, t))))
      (λ t.
      let same : past offset size ≡ next = same-floor {f = floor_after (Some (Scalar kind offset size)) floor} (rw (floor_after, t)) g in
      subst (λ (k : ℕ). Scanned L ts (j + 1) k) same (scalar-more kind offset size e (ltb-false _ _ t) here))
  by-floor {next} (inr n) here f = subst (λ (k : ℕ). Scanned L ts (j + 1) k) (same-floor (floor-kept (shape_of (nth ts j)) floor n) f) (other-more n here)

  pub scanned_more : {next : ℕ} → Held L ts j → floor_after (shape_of (nth ts j)) floor ≡ Some next → Scanned L ts (j + 1) next
  scanned_more here f = by-floor (scalar_or (shape_of (nth ts j))) here f

  -- a scalar that starts under the floor starts before the end of one before it
  under-floor : (offset size : ℕ) → Views (nth ts j) offset size → offset < floor → Spaced ts j → Floored ts j floor → ⊥
  under-floor offset size w h s (inl z) = omega arith
  under-floor offset size w h s (inr (i, o, l, k, v, e)) =
      let p = s i o l offset size k v w in
      omega (arith, past-least o l offset p.0 p.1)

  by-passed : ScalarOr (shape_of (nth ts j)) → floor_after (shape_of (nth ts j)) floor ≡ None → Spaced ts j → ⊥
  unfolding floor_after
  by-passed (inl (kind, offset, size, e)) f s =
      let g : floor_after (Some (Scalar kind offset size)) floor ≡ None = ap (λ (x : Option Shape). floor_after x floor) (sym e) ∙ f in
      by_bool (ltb offset floor)
      (λ t. under-floor offset size (kind, shape-made (nth ts j) e) (ltb-true _ _ t) s before.floored)
      (λ t. not_passed {f = floor_after (Some (Scalar kind offset size)) floor} {a = past offset size} (rw (floor_after, t)) g)
  by-passed (inr n) f s = not_passed (floor-kept (shape_of (nth ts j)) floor n) f

  pub scanned_passed : floor_after (shape_of (nth ts j)) floor ≡ None → Spaced ts j → ⊥
  scanned_passed f s = by-passed (scalar_or (shape_of (nth ts j))) f s

-- ---- what the look from the first on answers, over words
pub read-floor : (t : Token) {s : Option Shape} {r f : Option ℕ} (floor : ℕ) → s ≡ shape_of t → r ≡ floor_after s floor → r ≡ f
    → floor_after (shape_of t) floor ≡ f
read-floor t floor e g h = ap (λ (x : Option Shape). floor_after x floor) (sym e) ∙ sym g ∙ h

module _ (L : ℕ) (ws : List ℕ) (n : ℕ) (fits : words_for n ≤ length ws) where
  -- yes after the last
  pub stand_all : {j floor : ℕ} → Scanned L (tokens_in ws n) j floor → n ≤ j → (true ≡ true) ↔ AllStand L (tokens_in ws n)
  stand_all {j} s h = told-yes (scanned_all L (tokens_in ws n) s (omega (arith, tokens-counted ws n fits)))

  -- no at a token that does not hold
  pub stand_unheld : (j : ℕ) {r : Bool} → j < n → (r ≡ true) ↔ Held L (tokens_in ws n) j → r ≡ false
      → (false ≡ true) ↔ AllStand L (tokens_in ws n)
  stand_unheld j h t f = told-no (λ s. false≢true (sym f ∙ t.1 (s.held j (omega (arith, tokens-counted ws n fits)))))

  -- no at a view that starts too early
  pub stand_passed : (j : ℕ) {floor : ℕ} → j < n → Scanned L (tokens_in ws n) j floor
      → floor_after (shape_of (nth (tokens_in ws n) j)) floor ≡ None → (false ≡ true) ↔ AllStand L (tokens_in ws n)
  stand_passed j {floor} h before f =
      told-no (λ s. scanned_passed L (tokens_in ws n) j floor before f (s.spaced j (omega (arith, tokens-counted ws n fits))))
