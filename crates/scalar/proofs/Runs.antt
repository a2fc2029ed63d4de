-- Laws of runs of digits: how a run goes on and ends, and how large the number is that it writes.
-- Assumes nothing.
use Rattle.std.proofs.Common.{◌≡◌, ℕ, suc, ◌+◌, ◌*◌, ◌/◌, ◌%◌, ◌^◌, ◌<◌, ◌≤◌, true, false, leb, ltb, List, [], ◌∷◌, length, get_or, drop, sym, ap, ◌∙◌, suc-le-suc, zero-le, le_trans, le_refl, lt_of_lt_of_le, mul-le-mul_right, pow-suc, div-add-mod', add-one, arith, length-drop, drop_of_length-le, drop-cons, leb-true, le-leb, le-ltb}
use mathlib.Core.Bool.{false≢true}
use native.Mathlib.Nat.{pow-le-pow_right, add-mul-mod_self_right}
use Rattle.data.proofs.Cases.{by_bool}
use Rattle.scalar.specs.Digits.{is_digit, digit_run, carry, value, most_u64}

-- a digit lies between `0` and `9`
pub digit_bounds : (b : ℕ) → is_digit b ≡ true → (48 ≤ b) × (b ≤ 57)
unfolding is_digit
digit_bounds b e =
    by_bool (leb 48 b)
    (λ t. (leb-true 48 b t, leb-true b 57 (rw (is_digit, t) at e)))
    (λ f. absurd (false≢true (rw (is_digit, f) at e)))

pub digit_in : (b : ℕ) → 48 ≤ b → b ≤ 57 → is_digit b ≡ true
unfolding is_digit
digit_in b low high = rw (is_digit, le-leb 48 b low, le-leb b 57 high)

-- and any other byte does not
pub digit_out : (b : ℕ) → (48 ≤ b → b ≤ 57 → ⊥) → is_digit b ≡ false
digit_out b h = by_bool (is_digit b) (λ t. absurd (h (digit_bounds b t).0 (digit_bounds b t).1)) (λ f. f)

-- a digit at a place begins the run from there
pub run_on : (d : List ℕ) (i : ℕ) → i < length d → is_digit (get_or d i 0) ≡ true → digit_run (drop i d) ≡ get_or d i 0 ∷ digit_run (drop (i + 1) d)
unfolding digit_run
run_on d i h e = rw (add-one, drop-cons d i 0 h, digit_run, e)

-- any other byte ends it
pub run-stops : (d : List ℕ) (i : ℕ) → i < length d → is_digit (get_or d i 0) ≡ false → digit_run (drop i d) ≡ []
unfolding digit_run
run-stops d i h e = rw (drop-cons d i 0 h, digit_run, e)

-- and so does the end of the bytes
pub run_ends : (d : List ℕ) (i : ℕ) → length d ≤ i → digit_run (drop i d) ≡ []
unfolding digit_run
run_ends d i h = rw (drop_of_length-le d h)

-- a digit in front begins the run
pub run-digit : (b : ℕ) (s : List ℕ) → is_digit b ≡ true → digit_run (b ∷ s) ≡ b ∷ digit_run s
unfolding digit_run
run-digit b s e = rw (digit_run, e)

-- any other byte in front leaves none
pub run-other : (b : ℕ) (s : List ℕ) → is_digit b ≡ false → digit_run (b ∷ s) ≡ []
unfolding digit_run
run-other b s e = rw (digit_run, e)

-- a run is no longer than what it is a run of
pub run_length : (s : List ℕ) → length (digit_run s) ≤ length s
unfolding digit_run
run_length [] = zero-le
run_length (b ∷ s) =
    by_bool (is_digit b)
    (λ t. rw (digit_run, t) (suc-le-suc (run_length s)))
    (λ f. rw (digit_run, f) zero-le)

-- one digit carries a number modulo 2^64 on as it carries the number
pub carry_wraps : (x b : ℕ) → carry (x % 2 ^ 64) b % 2 ^ 64 ≡ carry x b % 2 ^ 64
carry_wraps x b =
    sym (add-mul-mod_self_right (carry (x % 2 ^ 64) b) (x / 2 ^ 64 * 10) (2 ^ 64))
    ∙ ap (λ (y : ℕ). y % 2 ^ 64) (omega (arith, div-add-mod' x (2 ^ 64)))

-- carrying on from a number modulo 2^64 gives the same modulo 2^64
pub value_wraps : (s : List ℕ) (x : ℕ) → value (x % 2 ^ 64) s % 2 ^ 64 ≡ value x s % 2 ^ 64
unfolding value
value_wraps [] x = omega arith
value_wraps (b ∷ s) x =
    sym (value_wraps s (carry (x % 2 ^ 64) b))
    ∙ ap (λ (y : ℕ). value y s % 2 ^ 64) (carry_wraps x b)
    ∙ value_wraps s (carry x b)

-- carrying on only grows
pub value_grows : (s : List ℕ) (x : ℕ) → x ≤ value x s
unfolding value
value_grows [] x = le_refl x
value_grows (b ∷ s) x = omega (arith, value_grows s (carry x b))

scaled : (x b v n : ℕ) → b ≤ 57 → v < (carry x b + 1) * 10 ^ n → v < (x + 1) * 10 ^ suc n
scaled x b v n h k =
    lt_of_lt_of_le k
    (rw (pow-suc 10 n) (omega (arith, mul-le-mul_right (10 ^ n) (le-of-carry x b h))))
  where
    le-of-carry : (x b : ℕ) → b ≤ 57 → carry x b + 1 ≤ (x + 1) * 10
    le-of-carry x b h = omega arith

-- a number carried on through n digits stays below ten to the n times the next number
pub value_below : (s : List ℕ) (x : ℕ) → value x (digit_run s) < (x + 1) * 10 ^ length (digit_run s)
unfolding digit_run value
value_below [] x = omega arith
value_below (b ∷ s) x =
    by_bool (is_digit b)
    (λ t. rw (digit_run, t) (scaled x b (value (carry x b) (digit_run s)) (length (digit_run s)) (digit_bounds b t).1 (value_below s (carry x b))))
    (λ f. rw (digit_run, f) (omega arith))

-- so n digits write a number below ten to the n
pub number-below : (s : List ℕ) (n : ℕ) → length s ≤ n → value 0 (digit_run s) < 10 ^ n
number-below s n h =
    lt_of_lt_of_le (value_below s 0)
    (omega (arith, pow-le-pow_right {n = 10} (omega arith) (le_trans (run_length s) h)))

-- a digit at a place carries the number on
pub value_on : (d : List ℕ) (i total : ℕ) → i < length d → is_digit (get_or d i 0) ≡ true
    → value total (digit_run (drop i d)) ≡ value (carry total (get_or d i 0)) (digit_run (drop (i + 1) d))
unfolding value
value_on d i total h e = ap (value total) (run_on d i h e)

-- where a run ends, the number is the total
pub value-done : (s : List ℕ) (total : ℕ) → digit_run s ≡ [] → value total (digit_run s) ≡ total
unfolding value
value-done s total e = ap (value total) e

-- fewer bytes than this cannot write digits past 64 bits, with or without a point
abbrev pub overflow_cutoff : ℕ
overflow_cutoff = 20

-- so they write no number past 64 bits
pub short-number : (d : List ℕ) (at : ℕ) → length d < overflow_cutoff → value 0 (digit_run (drop at d)) ≤ most_u64
short-number d at h = omega (arith, number-below (drop at d) 19 (rw length-drop (omega arith)))

pub short_fits : (d : List ℕ) (at : ℕ) → length d < overflow_cutoff → ltb most_u64 (value 0 (digit_run (drop at d))) ≡ false
short_fits d at h = le-ltb most_u64 _ (short-number d at h)
