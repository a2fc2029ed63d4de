-- What stands at a place of a text: `drop at text ≡ written ++ post`.
-- Assumes nothing.
use mathlib.Core.Path.{◌≡◌, sym, ◌∙◌, ap}
use mathlib.Core.List.{List, ◌∷◌, ◌++◌}
use Prim.Native.Nat.{ℕ, ◌+◌, ◌<◌}
use native.Mathlib.Nat.{add-zero}
use native.Mathlib.Omega.{arith}
use lib.ListN.{length, get_or, drop, length-drop}
use lib.Seq.{get_or-drop, drop-drop, drop-append_seam}

module _ (text : List ℕ) (at : ℕ) where
  -- the byte there, the byte after it, and the rest
  pub first_byte : {b : ℕ} {bs : List ℕ} → drop at text ≡ b ∷ bs → get_or text at 0 ≡ b
  first_byte e = sym (rw add-zero at (get_or-drop at text 0 0)) ∙ ap (λ (l : List ℕ). get_or l 0 0) e

  pub second_byte : {b c : ℕ} {bs : List ℕ} → drop at text ≡ b ∷ c ∷ bs → get_or text (at + 1) 0 ≡ c
  second_byte e = sym (get_or-drop at text 1 0) ∙ ap (λ (l : List ℕ). get_or l 1 0) e

  pub one_on : {b : ℕ} {bs : List ℕ} → drop at text ≡ b ∷ bs → drop (at + 1) text ≡ bs
  one_on e = sym (drop-drop 1 at text) ∙ ap (λ (l : List ℕ). drop 1 l) e

  -- past what stands there
  pub further : (xs : List ℕ) {ys : List ℕ} → drop at text ≡ xs ++ ys → drop (at + length xs) text ≡ ys
  further xs {ys} e = sym (drop-drop (length xs) at text) ∙ ap (λ (l : List ℕ). drop (length xs) l) e ∙ drop-append_seam xs ys

  pub stands-within : {b : ℕ} {bs : List ℕ} → drop at text ≡ b ∷ bs → at < length text
  stands-within e = omega (arith, length-drop at text, ap length e)
