-- What a token's view is, by the tests that lead to it, and that it lies in the text.
-- Assumes nothing.
use Rattle.std.specs.Prelude.{Option, Some, None}
use mathlib.Core.Path.{◌≡◌, refl, sym, ◌∙◌, ap}
use mathlib.Core.Bool.{Bool, true, false}
use mathlib.Core.List.{List}
use Prim.Native.Nat.{ℕ, ◌+◌, ◌≤◌, ◌<◌}
use native.Mathlib.Omega.{arith}
use borrow.Author.Tests.{lt-ltb, le-ltb, ltb-false}
use lib.Dec.{leb, ltb}
use lib.ListN.{length}
use Rattle.data.proofs.Cases.{by_bool}
use Rattle.tape.specs.declared.token.Token.{Token}
use Rattle.tape.specs.declared.shape.Shape.{Shape}
use Rattle.tape.specs.declared.shape.Shape.TheVariants.{Opener, MixedContainer, Scalar, Operator, End}
use Rattle.tape.specs.Shape.{shape_of}
use Rattle.tape.specs.Words.{words_for, token_in}
use Rattle.sheet.specs.Views.{past_text, placed, viewed, seen}
use Rattle.sheet.specs.declared.views.Viewed.{Viewed}

refused_not : {r : Option Viewed} {offset size : ℕ} → r ≡ None → r ≡ seen offset size → ⊥
refused_not e f = let z : ◌≡◌ {A = ℕ} 0 1 = cc in omega arith

same_sum : {a b c d : ℕ} → seen a b ≡ seen c d → c + d ≡ a + b
same_sum e = sym (ap (elim [ Some v ↦ v.offset + v.length | None ↦ 0 ]) e)

-- ---- a view that is placed lies in the text
placed-within : (L : ℕ) (s : Option Shape) {offset size : ℕ} → placed L s ≡ seen offset size → offset + size ≤ L
unfolding placed
placed-within L (Some (Scalar kind o l)) {offset} {size} e =
    by_bool (past_text L o l)
    (λ t. absurd (refused_not {r = placed L (Some (Scalar kind o l))} (rw (placed, t)) e))
    (λ t.
    let same : seen o l ≡ seen offset size = rw (placed, t) at e in
    let sums : offset + size ≡ o + l = same_sum same in
    omega (arith, ltb-false))
placed-within L (Some (Opener end)) e = absurd (refused_not refl e)
placed-within L (Some MixedContainer) e = absurd (refused_not refl e)
placed-within L (Some (Operator number)) e = absurd (refused_not refl e)
placed-within L (Some (End opener)) e = absurd (refused_not refl e)
placed-within L None e = absurd (refused_not refl e)

module _ (L : ℕ) (ws : List ℕ) (n i : ℕ) where
  -- ---- the answer, by the tests that lead to it
  pub view_past : n ≤ i → None ≡ viewed L ws n i
  unfolding viewed
  view_past h = rw (viewed, le-ltb i n h)

  pub view_short : {r : Bool} → i < n → r ≡ leb (words_for n) (length ws) → r ≡ false → None ≡ viewed L ws n i
  unfolding viewed
  view_short h e f = rw (viewed, lt-ltb i n h, sym e ∙ f)

  pub view_placed : {r : Bool} {t : Token} {s : Option Shape} → i < n → r ≡ leb (words_for n) (length ws) → r ≡ true
      → t ≡ token_in ws n i → s ≡ shape_of t → placed L s ≡ viewed L ws n i
  unfolding viewed
  view_placed h e f g k =
      rw (viewed, lt-ltb i n h, sym e ∙ f)
      (ap (λ (x : Option Shape). placed L x) k ∙ ap (λ (x : Token). placed L (shape_of x)) g)

  -- ---- it lies in the text
  pub viewed_within : {offset size : ℕ} → viewed L ws n i ≡ seen offset size → offset + size ≤ L
  unfolding viewed
  viewed_within e =
      by_bool (ltb i n)
      (λ t. by_bool (leb (words_for n) (length ws))
      (λ f. placed-within L (shape_of (token_in ws n i)) (rw (viewed, t, f) at e))
      (λ f. absurd (refused_not {r = viewed L ws n i} (rw (viewed, t, f)) e)))
      (λ t. absurd (refused_not {r = viewed L ws n i} (rw (viewed, t)) e))
