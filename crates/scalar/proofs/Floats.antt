-- Laws of the decimals: each case of the reading, by what leads to it.
-- Assumes nothing.
use Rattle.std.proofs.Common.{◌≡◌, ℕ, suc, ◌+◌, ◌%◌, ◌^◌, ◌<◌, ◌≤◌, Bool, true, false, ltb, List, [], ◌∷◌, length, get_or, drop, pos, sym, refl, ap, ◌∙◌, le_trans, le_of_eq, lt_of_lt_of_le, mul-le-mul_right, arith, length-drop, drop_of_length-le, drop-cons, drop-drop, pow-add, ltb-false, ltb-true, le-ltb, lt-ltb, eq-eqb, ne_eqb}
use native.Mathlib.Nat.{mod-le, pow-le-pow_right}
use lib.Ieee.{binary64, of_int}
use Rattle.data.proofs.Cases.{by_bool}
use Rattle.data.specs.Bytes.{plus, minus, point, letter_f, digit_zero, digit_nine}
use Rattle.scalar.specs.Digits.{is_digit, digit_run, value, gathered, most_u64}
use Rattle.scalar.specs.Float.{most_safe, most_places, rest, tail_of, lossy, unpointed, divided, quotient, pointed, after_point, f64_digits, begins}
use Rattle.scalar.specs.Float.{f64_read}
use Rattle.scalar.specs.Whole.{signed, most_i64}
use Rattle.scalar.specs.declared.digits.Gathered.{Gathered}
use Rattle.std.specs.Prelude.{Ok, Err}
use Rattle.scalar.specs.declared.errors.DecimalError.TheVariants.{AllDigits, Overflow, PrecisionLoss}
use Rattle.scalar.specs.declared.float.Tail.TheVariants.{End, Point, Other}
use Rattle.scalar.specs.declared.float.Tail.{Tail}
use Rattle.scalar.proofs.Gathers.{place_is}
use Rattle.scalar.proofs.Runs.{digit_in, digit_out, overflow_cutoff, run_length, value_below}

-- ---- what stands after digits

pub tail_end : (d : List ℕ) (at : ℕ) → length d ≤ at → tail_of (drop at d) ≡ End
unfolding tail_of
tail_end d at h = rw (drop_of_length-le d h)

pub tail_point : (d : List ℕ) (at : ℕ) → at < length d → get_or d at 0 ≡ point → tail_of (drop at d) ≡ Point
unfolding tail_of
tail_point d at h e = rw (drop-cons d at 0 h, tail_of, eq-eqb (get_or d at 0) point e)

pub tail_other : (d : List ℕ) (at : ℕ) → at < length d → (get_or d at 0 ≡ point → ⊥) → (get_or d at 0 ≡ letter_f → ⊥)
    → tail_of (drop at d) ≡ Other
unfolding tail_of
tail_other d at h p f = rw (drop-cons d at 0 h, tail_of, ne_eqb (get_or d at 0) point p, ne_eqb (get_or d at 0) letter_f f)

pub tail_closed : (d : List ℕ) (at : ℕ) → at < length d → get_or d at 0 ≡ letter_f → length d ≤ at + 1 → tail_of (drop at d) ≡ End
unfolding tail_of
tail_closed d at h f e = ap tail_of (drop-cons d at 0 h ∙ (λ j. f j ∷ drop_of_length-le d {i = suc at} (omega arith) j))

pub tail_after_f : (d : List ℕ) (at : ℕ) → at + 1 < length d → get_or d at 0 ≡ letter_f → tail_of (drop at d) ≡ Other
unfolding tail_of
tail_after_f d at h f = ap tail_of (drop-cons d at 0 (omega arith) ∙ (λ j. f j ∷ drop-cons d (suc at) 0 (omega arith) j))

no-point : (d : List ℕ) (at : ℕ) → tail_of (drop at d) ≡ Point → tail_of (drop at d) ≡ End → ⊥
no-point d at e f = let z : ◌≡◌ {A = ℕ} 0 1 = cc in omega arith

-- a point stands at a place of the bytes
pub point-within : (d : List ℕ) (at : ℕ) → tail_of (drop at d) ≡ Point → at < length d
point-within d at e =
    by_bool (ltb at (length d))
    (λ t. ltb-true at (length d) t)
    (λ f. absurd (no-point d at e (tail_end d at (ltb-false at (length d) f))))

-- ---- a number without a point

pub unpointed-past : (negative : Bool) (n : ℕ) → most_u64 < n → unpointed negative n ≡ Err Overflow
unfolding unpointed
unpointed-past negative n h = rw (unpointed, lt-ltb most_u64 n h)

pub unpointed-lossy : (negative : Bool) (n : ℕ) → n ≤ most_u64 → most_safe < n → unpointed negative n ≡ lossy negative n
unfolding unpointed
unpointed-lossy negative n h k = rw (unpointed, le-ltb most_u64 n h, lt-ltb most_safe n k)

pub unpointed-is : (negative : Bool) (n : ℕ) → n ≤ most_safe → unpointed negative n ≡ Ok (of_int binary64 (signed negative n))
unfolding unpointed
unpointed-is negative n h = rw (unpointed, le-ltb most_u64 n (omega arith), le-ltb most_safe n h)

pub lossy-plain : (negative : Bool) (n : ℕ) → negative ≡ false → lossy negative n ≡ Err (PrecisionLoss (of_int binary64 (pos n)))
unfolding lossy
lossy-plain negative n e = ap (λ (b : Bool). lossy b n) e

pub lossy-past : (negative : Bool) (n : ℕ) → negative ≡ true → most_i64 < n → lossy negative n ≡ Err Overflow
unfolding lossy
lossy-past negative n e h = ap (λ (b : Bool). lossy b n) e ∙ rw (lossy, lt-ltb most_i64 n h)

pub lossy-negative : (negative : Bool) (n : ℕ) → negative ≡ true → n ≤ most_i64
    → lossy negative n ≡ Err (PrecisionLoss (of_int binary64 (signed true n)))
unfolding lossy
lossy-negative negative n e h = ap (λ (b : Bool). lossy b n) e ∙ rw (lossy, le-ltb most_i64 n h)

-- ---- a number with a point

pub quotient-past : (negative : Bool) (total places : ℕ) → most_places < places → quotient negative total places ≡ Err Overflow
unfolding quotient
quotient-past negative total places h = rw (quotient, lt-ltb most_places places h)

pub quotient_is : (negative : Bool) (total places : ℕ) → places ≤ most_places → quotient negative total places ≡ Ok (divided negative total places)
unfolding quotient
quotient_is negative total places h = rw (quotient, le-ltb most_places places h)

pub pointed-past : (negative : Bool) (whole : ℕ) (fraction : List ℕ) → ltb most_u64 (value whole fraction) ≡ true
    → pointed negative whole fraction ≡ Err Overflow
unfolding pointed
pointed-past negative whole fraction e = rw (pointed, e)

pub pointed-is : (negative : Bool) (whole : ℕ) (fraction : List ℕ) → ltb most_u64 (value whole fraction) ≡ false
    → pointed negative whole fraction ≡ quotient negative (value whole fraction) (length fraction)
unfolding pointed
pointed-is negative whole fraction e = rw (pointed, e)

pub after_point-end : (negative : Bool) (whole : ℕ) (s : List ℕ) → tail_of (rest s) ≡ End
    → after_point negative whole s ≡ pointed negative whole (digit_run s)
unfolding after_point
after_point-end negative whole s e = rw (after_point, e)

pub after_point-point : (negative : Bool) (whole : ℕ) (s : List ℕ) → tail_of (rest s) ≡ Point → after_point negative whole s ≡ Err AllDigits
unfolding after_point
after_point-point negative whole s e = rw (after_point, e)

pub after_point-other : (negative : Bool) (whole : ℕ) (s : List ℕ) → tail_of (rest s) ≡ Other → after_point negative whole s ≡ Err AllDigits
unfolding after_point
after_point-other negative whole s e = rw (after_point, e)

-- ---- after the sign

pub digits_end : (negative : Bool) (s : List ℕ) → tail_of (rest s) ≡ End → f64_digits negative s ≡ unpointed negative (value 0 (digit_run s))
unfolding f64_digits
digits_end negative s e = rw (f64_digits, e)

pub digits-point : (negative : Bool) (s : List ℕ) → tail_of (rest s) ≡ Point
    → f64_digits negative s ≡ after_point negative (value 0 (digit_run s) % 2 ^ 64) (drop 1 (rest s))
unfolding f64_digits
digits-point negative s e = rw (f64_digits, e)

pub digits-other : (negative : Bool) (s : List ℕ) → tail_of (rest s) ≡ Other → f64_digits negative s ≡ Err AllDigits
unfolding f64_digits
digits-other negative s e = rw (f64_digits, e)

-- ---- the first byte

pub f64_none : f64_read [] ≡ Err AllDigits
unfolding f64_read
f64_none = refl

pub f64_minus : (b : ℕ) (s : List ℕ) → b ≡ minus → f64_read (b ∷ s) ≡ f64_digits true s
unfolding f64_read
f64_minus b s e = rw (f64_read, eq-eqb b minus e)

pub f64_plus : (b : ℕ) (s : List ℕ) → (b ≡ minus → ⊥) → b ≡ plus → f64_read (b ∷ s) ≡ f64_digits false s
unfolding f64_read
f64_plus b s h e = rw (f64_read, ne_eqb b minus h, eq-eqb b plus e)

pub f64_bare : (b : ℕ) (s : List ℕ) → (b ≡ minus → ⊥) → (b ≡ plus → ⊥) → begins b ≡ true
    → f64_read (b ∷ s) ≡ f64_digits false (b ∷ s)
unfolding f64_read
f64_bare b s h k e = rw (f64_read, ne_eqb b minus h, ne_eqb b plus k, e)

pub f64_other : (b : ℕ) (s : List ℕ) → (b ≡ minus → ⊥) → (b ≡ plus → ⊥) → begins b ≡ false → f64_read (b ∷ s) ≡ Err AllDigits
unfolding f64_read
f64_other b s h k e = rw (f64_read, ne_eqb b minus h, ne_eqb b plus k, e)

-- the same of bytes by the first of them
pub read_minus : (d : List ℕ) → 0 < length d → get_or d 0 0 ≡ minus → f64_read d ≡ f64_digits true (drop 1 d)
read_minus [] h e = absurd (omega arith)
read_minus (b ∷ s) h e = f64_minus b s e

pub read_plus : (d : List ℕ) → 0 < length d → get_or d 0 0 ≡ plus → f64_read d ≡ f64_digits false (drop 1 d)
read_plus [] h e = absurd (omega arith)
read_plus (b ∷ s) h e = f64_plus b s (λ m. omega arith) e

pub read_digit : (d : List ℕ) → 0 < length d → digit_zero ≤ get_or d 0 0 → get_or d 0 0 ≤ digit_nine → f64_read d ≡ f64_digits false (drop 0 d)
unfolding begins
read_digit [] h low high = absurd (omega arith)
read_digit (b ∷ s) h low high = f64_bare b s (λ m. omega arith) (λ p. omega arith) (rw (begins, digit_in b low high))

pub read_point : (d : List ℕ) → 0 < length d → get_or d 0 0 ≡ point → f64_read d ≡ f64_digits false (drop 0 d)
unfolding begins is_digit
read_point [] h e = absurd (omega arith)
read_point (b ∷ s) h e = f64_bare b s (λ m. omega arith) (λ p. omega arith) (ap begins e)

pub read_other : (d : List ℕ) → (0 < length d → get_or d 0 0 ≡ minus → ⊥) → (0 < length d → get_or d 0 0 ≡ plus → ⊥)
    → (0 < length d → get_or d 0 0 ≡ point → ⊥) → (0 < length d → digit_zero ≤ get_or d 0 0 → get_or d 0 0 ≤ digit_nine → ⊥)
    → f64_read d ≡ Err AllDigits
unfolding begins
read_other [] m p t n = f64_none
read_other (b ∷ s) m p t n =
    f64_other b s (m (omega arith)) (p (omega arith)) (rw (begins, digit_out b (n (omega arith))) (ne_eqb b point (t (omega arith))))

-- ---- by what was gathered

-- what stands after the digits stands at the place after them
pub rest_at : (d : List ℕ) (at start : ℕ) (g : Gathered) → g ≡ gathered d at start → drop g.at d ≡ rest (drop at d)
rest_at d at start g e = ap (λ (n : ℕ). drop n d) (place_is d at start g e) ∙ sym (drop-drop (length (digit_run (drop at d))) at d)

-- so what was found there is found after the digits
pub tail_told : (d : List ℕ) (at start : ℕ) (g : Gathered) (t : Tail) → g ≡ gathered d at start → tail_of (drop g.at d) ≡ t
    → tail_of (rest (drop at d)) ≡ t
tail_told d at start g t e told = ap tail_of (sym (rest_at d at start g e)) ∙ told

-- and what stands after a point there, one place on
pub past-point : (d : List ℕ) (at start : ℕ) (g : Gathered) → g ≡ gathered d at start → drop (g.at + 1) d ≡ drop 1 (rest (drop at d))
past-point d at start g e = sym (drop-drop 1 g.at d) ∙ ap (drop 1) (rest_at d at start g e)

-- n digits and m more write a number below ten to the n + m
pub both_below : (s t : List ℕ) (m : ℕ) → m ≤ value 0 (digit_run s) → value m (digit_run t) < 10 ^ (length (digit_run s) + length (digit_run t))
both_below s t m h =
    lt_of_lt_of_le (value_below t m)
    (rw (pow-add 10 (length (digit_run s)) (length (digit_run t)))
    (mul-le-mul_right (10 ^ length (digit_run t)) (omega (arith, value_below s 0))))

-- bytes under the cutoff with a point among them write no digits past 64 bits
pub short-pointed : (d : List ℕ) (sign : ℕ) (g : Gathered) → g ≡ gathered d sign 0 → g.at < length d → length d < overflow_cutoff
    → value g.total (digit_run (drop (g.at + 1) d)) ≤ most_u64
short-pointed d sign g e within short =
    let s = drop sign d in
    let t = drop (g.at + 1) d in
    let total-le : g.total ≤ value 0 (digit_run s) = le_trans (le_of_eq (ap (λ (x : Gathered). x.total) e)) (mod-le (value 0 (digit_run s)) (2 ^ 64)) in
    let digits_le : length (digit_run s) + length (digit_run t) ≤ 18 =
    omega (arith, place_is d sign 0 g e, run_length t, length-drop (g.at + 1) d) in
    let below : value g.total (digit_run t) < 10 ^ 18 =
    lt_of_lt_of_le (both_below s t g.total total-le) (pow-le-pow_right {n = 10} (omega arith) digits_le) in
    omega (arith, below)

pub short_carried : (d : List ℕ) (sign : ℕ) (g : Gathered) → g ≡ gathered d sign 0 → g.at < length d → length d < overflow_cutoff
    → ltb most_u64 (value g.total (digit_run (drop (g.at + 1) d))) ≡ false
short_carried d sign g e within short = le-ltb most_u64 _ (short-pointed d sign g e within short)
