-- Laws of what is gathered from a place on: its total while 64 bits hold it, and whether anything is left after it.
-- Assumes nothing.
use Rattle.std.proofs.Common.{◌≡◌, ℕ, suc, ◌+◌, ◌-◌, ◌<◌, ◌≤◌, true, false, List, [], ◌∷◌, length, get_or, drop, refl, ap, ◌∙◌, mod-eq_of_lt, arith, length-drop, le-ltb, lt-ltb}
use lib.Dec.{leb-suc-suc}
use Rattle.scalar.specs.Digits.{is_digit, digit_run, value, gathered, most_u64}
use Rattle.scalar.specs.Whole.{has_tail}
use Rattle.scalar.specs.declared.digits.Gathered.{Gathered}
use Rattle.scalar.proofs.Runs.{run-digit, run-other}

-- no bytes
pub no_byte : (d : List ℕ) → length d ≡ 0 → d ≡ []
no_byte [] e = refl
no_byte (b ∷ d) e = absurd (omega arith)

-- or a first byte and the others
pub first_byte : (d : List ℕ) → (length d ≡ 0 → ⊥) → d ≡ get_or d 0 0 ∷ drop 1 d
first_byte [] h = absurd (h refl)
first_byte (b ∷ d) h = refl

-- the place after the digits
pub place_is : (d : List ℕ) (at start : ℕ) (g : Gathered) → g ≡ gathered d at start → g.at ≡ at + length (digit_run (drop at d))
place_is d at start g e = ap (λ (x : Gathered). x.at) e

-- and so many places stand between the two
pub places_is : (end at n : ℕ) → end ≡ at + n → end - at ≡ n
places_is end at n e = omega arith

-- the total is the number itself while 64 bits hold it
pub total-is : (d : List ℕ) (at start : ℕ) (g : Gathered) → g ≡ gathered d at start → value start (digit_run (drop at d)) ≤ most_u64
    → g.total ≡ value start (digit_run (drop at d))
total-is d at start g e h = ap (λ (x : Gathered). x.total) e ∙ mod-eq_of_lt (omega arith)

-- behind a digit in front as much is left as before
pub tail_on : (b : ℕ) (s : List ℕ) → is_digit b ≡ true → has_tail (b ∷ s) ≡ has_tail s
tail_on b s e = rw (run-digit b s e) (leb-suc-suc (suc (length (digit_run s))) (length s))

-- any other byte in front is left itself
pub tail_here : (b : ℕ) (s : List ℕ) → is_digit b ≡ false → has_tail (b ∷ s) ≡ true
tail_here b s e = rw (run-other b s e) (lt-ltb 0 (suc (length s)) (omega arith))

-- something is left after the digits
pub tailed : (d : List ℕ) (at start : ℕ) (g : Gathered) → g ≡ gathered d at start → g.at < length d → has_tail (drop at d) ≡ true
tailed d at start g e h = lt-ltb (length (digit_run (drop at d))) (length (drop at d)) (rw length-drop (omega (arith, place_is d at start g e)))

-- nothing is left after them
pub untailed : (d : List ℕ) (at start : ℕ) (g : Gathered) → g ≡ gathered d at start → length d ≤ g.at → has_tail (drop at d) ≡ false
untailed d at start g e h = le-ltb (length (digit_run (drop at d))) (length (drop at d)) (rw length-drop (omega (arith, place_is d at start g e)))
