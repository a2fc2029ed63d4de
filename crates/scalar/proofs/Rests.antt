-- Laws of what stands after a run of digits.
-- Assumes nothing.
use Rattle.std.proofs.Common.{◌≡◌, ℕ, true, false, List, [], ◌∷◌, length, drop, refl, ap, ◌∙◌}
use Rattle.data.proofs.Cases.{by_bool}
use Rattle.scalar.specs.Digits.{is_digit, digits_alone, digit_first, digit_run}
use Rattle.scalar.specs.Float.{rest}
use Rattle.scalar.proofs.Runs.{run-digit, run-other}

-- it is what stands after the digits behind a first one
pub rest-digit : (b : ℕ) (s : List ℕ) → is_digit b ≡ true → rest (b ∷ s) ≡ rest s
rest-digit b s e = ap (λ (r : List ℕ). drop (length r) (b ∷ s)) (run-digit b s e)

-- and all where there is none
pub rest-other : (b : ℕ) (s : List ℕ) → is_digit b ≡ false → rest (b ∷ s) ≡ b ∷ s
rest-other b s e = ap (λ (r : List ℕ). drop (length r) (b ∷ s)) (run-other b s e)

-- the digits in front are digits
pub run_alone : (s : List ℕ) → digits_alone (digit_run s) ≡ true
unfolding digits_alone digit_run
run_alone [] = refl
run_alone (b ∷ s) =
    by_bool (is_digit b)
    (λ t. rw (run-digit b s t, digits_alone, t) (run_alone s))
    (λ f. rw (run-other b s f))

-- what stands after them begins with none
pub rest_plain : (s : List ℕ) → digit_first (rest s) ≡ false
unfolding digit_first digit_run
rest_plain [] = refl
rest_plain (b ∷ s) =
    by_bool (is_digit b)
    (λ t. ap digit_first (rest-digit b s t) ∙ rest_plain s)
    (λ f. ap digit_first (rest-other b s f) ∙ f)
