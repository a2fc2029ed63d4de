-- The Rust's reading of an f64 is ours.
-- Assumes nothing.
use mathlib.Core.Path.{◌≡◌, refl, sym, ◌∙◌, ap}
use mathlib.Core.Bool.{Bool, true, false}
use mathlib.Core.List.{List, [], ◌∷◌}
use mathlib.Core.Option.{none, some}
use Prim.Native.Nat.{ℕ, zero, suc, ◌+◌, ◌-◌, ◌%◌, ◌^◌, ◌≤◌, ◌<◌}
use native.Mathlib.Nat.{mod-eq_of_lt, mod-le, lt_of_lt_of_le, pow-le-pow_right, add-zero, suc-add, add-suc, zero-add, not-suc-le-zero, le_of_suc-le-suc}
use native.Mathlib.Omega.{arith}
use borrow.Author.Tests.{leb-true, lt-ltb, le-ltb, ltb-true, ltb-false, eqb-true, eqb-false}
use lib.Dec.{eqb, ltb}
use lib.Ieee.{Float, binary64, mul, div}
use lib.IntN.{ℤ, pos, negsuc}
use lib.ListN.{length, take, drop, get_elem?, length-drop}
use lib.Seq.{take_all}
use Rattle.data.proofs.Cases.{by_bool}
use Rattle.data.specs.Bytes.{plus, minus, point, letter_f}
use Rattle.scalar.specs.Digits.{is_digit, digit_run, carry, value, most_u64}
use Rattle.scalar.specs.Float.{most_safe, most_places, rest, tail_of, lossy, unpointed, factor, divided, quotient, pointed, after_point, f64_digits, begins}
use Rattle.scalar.specs.Float.{f64_read}
use Rattle.scalar.specs.Whole.{most_i64}
use Rattle.scalar.specs.declared.float.Tail.TheVariants.{End, Point, Other}
use Rattle.scalar.specs.declared.float.Tail.{Tail}
use Rattle.scalar.proofs.Floats.{unpointed-past, unpointed-lossy, unpointed-is, quotient-past, quotient_is, pointed-past, pointed-is, after_point-end}
use Rattle.scalar.proofs.Floats.{after_point-point, after_point-other, digits_end, digits-point, digits-other, f64_none, f64_minus, f64_plus, f64_bare}
use Rattle.scalar.proofs.Floats.{f64_other, point-within, both_below}
use Rattle.scalar.proofs.Runs.{digit_bounds, run_length, number-below, value_wraps}
use Rattle.rust_scalar.specs.RustReadings.{Outcome, Ok, Err, AllDigits, Overflow, ◌>>=◌, ok_or, add_usize, as_i64, as_f64, digits_in, greatest_power}
use Rattle.rust_scalar.specs.RustReadings.{overflow_cutoff, check_from, safe_integer_len, literal_1e, power_of_ten, check_overflow, times_sign}
use Rattle.rust_scalar.specs.RustReadings.{approximated}
use Rattle.rust_scalar.specs.RustReadings.{check_precision, check_precision_and_overflow, without_point, with_point}
use Rattle.rust_scalar.specs.RustReadings.{f64_loop, f64_start, f64_sign, to_f64}
use Rattle.rust_scalar.specs.RustReadingsAlike.{rust_f64, Slice}
use Rattle.rust_scalar.proofs.RustReadings.Digits.{digit-same, digit-is, one_more-is, wrapped, checked, check_init_is, check-bare, within, spared}
use Rattle.rust_scalar.proofs.RustReadings.Fractions.{less-is, part_to-is, fraction-is}
use Rattle.rust_scalar.proofs.RustReadings.Wholes.{cutoff_most, check_from-most, digit-small, digit-no-sign, sign_of, product_is, times_sign-is}
use Rattle.rust_scalar.proofs.RustReadings.Wholes.{times_sign-past}

-- ---- the powers of ten

-- n literals, from 1eB up
abbrev literals : ℕ → ℕ → List Float
literals b zero = []
literals b (suc n) = literal_1e b ∷ literals (suc b) n

literal_at : (n b k : ℕ) → k < n → get_elem? (literals b n) k ≡ some (literal_1e (b + k))
literal_at zero b k h = absurd (not-suc-le-zero h)
literal_at (suc n) b zero h = ap (λ (m : ℕ). some (literal_1e m)) (sym (add-zero b))
literal_at (suc n) b (suc k) h = literal_at n (suc b) k (le_of_suc-le-suc h) ∙ ap (λ (m : ℕ). some (literal_1e m)) (suc-add b k ∙ sym (add-suc b k))

literal_past : (n b k : ℕ) → n ≤ k → get_elem? (literals b n) k ≡ none
literal_past zero b k h = refl
literal_past (suc n) b zero h = absurd (not-suc-le-zero h)
literal_past (suc n) b (suc k) h = literal_past n (suc b) k (le_of_suc-le-suc h)

powers_are : power_of_ten ≡ literals 0 23
unfolding power_of_ten
powers_are = refl

power_is : (k : ℕ) → k ≤ most_places → get_elem? power_of_ten k ≡ some (literal_1e k)
power_is k h = rw powers_are (literal_at 23 0 k (omega arith) ∙ ap (λ (m : ℕ). some (literal_1e m)) (zero-add k))

no_power : (k : ℕ) → most_places < k → get_elem? power_of_ten k ≡ none
no_power k h = rw powers_are (literal_past 23 0 k h)

-- ---- runs

pub run-again : (s : List ℕ) → digit_run (digit_run s) ≡ digit_run s
unfolding digit_run
run-again [] = refl
run-again (b ∷ s) =
    by_bool (is_digit b)
    (λ t. rw (digit_run, t, digit_run, t) (ap (λ (r : List ℕ). b ∷ r) (run-again s)))
    (λ f. rw (digit_run, f))

run-taken : (s : List ℕ) → take (length (digit_run s)) s ≡ digit_run s
unfolding digit_run
run-taken [] = refl
run-taken (b ∷ s) =
    by_bool (is_digit b)
    (λ t. rw (digit_run, t) (ap (λ (r : List ℕ). b ∷ r) (run-taken s)))
    (λ f. rw (digit_run, f))

-- ---- without a point

-- `SAFE_INTEGER_LEN`, the number of digits of 2^53 - 1, is 16. What the proofs ask is that it is no more, and not 0
safe_len-most : (1 ≤ safe_integer_len) × (safe_integer_len ≤ 16)
unfolding safe_integer_len digits_in greatest_power
safe_len-most = (leb-true 1 safe_integer_len refl, leb-true safe_integer_len 16 refl)

-- a run begins with a digit
run-begins : (b : ℕ) (s : List ℕ) → digit_run (b ∷ s) ≡ b ∷ s → is_digit b ≡ true
unfolding digit_run
run-begins b s e = by_bool (is_digit b) (λ t. t) (λ f. absurd (none-is-some (rw (digit_run, f) at e)))
  where
    none-is-some : [] ≡ b ∷ s → ⊥
    none-is-some z = let n : ◌≡◌ {A = ℕ} 0 (suc (length s)) = ap length z in omega arith

-- so the check of a run passes over no sign
check-run : (s : List ℕ) → digit_run s ≡ s → 0 < length s → check_overflow s ≡ checked (value 0 s)
check-run [] e h = absurd (omega arith)
check-run (b ∷ s) e h = check-bare b s (digit-no-sign b (run-begins b s e)) ∙ ap (λ (r : List ℕ). checked (value 0 r)) e

-- what the Rust answers of a number that 64 bits hold
precise : (negative : Bool) (n : ℕ) → n ≤ most_safe
    → (times_sign (sign_of negative) n >>= check_precision (sign_of negative) n) ≡ rust_f64 (unpointed negative n)
unfolding check_precision
precise negative n h =
    rw (times_sign-is negative n (omega arith), check_precision, le-ltb most_safe n h)
    (ap rust_f64 (sym (unpointed-is negative n h)))

-- above 2^53 - 1
imprecise : (negative : Bool) (n : ℕ) → most_safe < n
    → (times_sign (sign_of negative) n >>= check_precision (sign_of negative) n) ≡ rust_f64 (lossy negative n)
unfolding check_precision approximated lossy
imprecise false n h =
    by_bool (ltb most_i64 n)
    (λ p. rw (times_sign-past (pos 1) n (ltb-true most_i64 n p), check_precision, lt-ltb most_safe n h))
    (λ f. rw (times_sign-is false n (ltb-false most_i64 n f), check_precision, lt-ltb most_safe n h))
imprecise true n h =
    by_bool (ltb most_i64 n)
    (λ p. rw (times_sign-past (negsuc 0) n (ltb-true most_i64 n p), check_precision, lt-ltb most_safe n h, lossy, p))
    (λ f. rw (times_sign-is true n (ltb-false most_i64 n f), check_precision, lt-ltb most_safe n h, lossy, f))

by_size : (negative : Bool) (n : ℕ) → n ≤ most_u64
    → (times_sign (sign_of negative) n >>= check_precision (sign_of negative) n) ≡ rust_f64 (unpointed negative n)
by_size negative n h =
    by_bool (ltb most_safe n)
    (λ l. imprecise negative n (ltb-true most_safe n l) ∙ ap rust_f64 (sym (unpointed-lossy negative n h (ltb-true most_safe n l))))
    (λ s. precise negative n (ltb-false most_safe n s))

-- a run of digits, by how many there are
without_point-is : (negative : Bool) (s : List ℕ) → digit_run s ≡ s
    → without_point (sign_of negative) (value 0 s % 2 ^ 64) s ≡ rust_f64 (unpointed negative (value 0 s))
unfolding without_point check_precision_and_overflow
without_point-is negative s e =
    by_bool (ltb (length s) safe_integer_len)
    (λ t. let small : value 0 s ≤ most_safe = omega (arith, below 15 (omega (arith, ltb-true (length s) safe_integer_len t, safe_len-most))) in
    let wraps : value 0 s % 2 ^ 64 ≡ value 0 s = mod-eq_of_lt (omega arith) in
    rw (without_point, t, as_i64, lt-ltb (value 0 s % 2 ^ 64) (2 ^ 63) (omega arith), wraps, product_is negative (value 0 s) (omega arith))
    (ap rust_f64 (sym (unpointed-is negative (value 0 s) small))))
    (λ f. let long : 1 ≤ length s = omega (arith, ltb-false (length s) safe_integer_len f, safe_len-most) in
    rw (without_point, f, check-run s e (omega arith))
    (spared overflow_cutoff (length s) (value 0 s) _ (λ short. omega (arith, below 19 (omega (arith, cutoff_most))))
    ∙ by_bool (ltb most_u64 (value 0 s))
    (λ p. rw (within, p) (ap rust_f64 (sym (unpointed-past negative (value 0 s) (ltb-true most_u64 (value 0 s) p)))))
    (λ w. let fits : value 0 s ≤ most_u64 = ltb-false most_u64 (value 0 s) w in
    rw (within, w, mod-eq_of_lt {n = value 0 s} {m = 2 ^ 64} (omega arith)) (by_size negative (value 0 s) fits))))
  where
    below : (n : ℕ) → length s ≤ n → value 0 s < 10 ^ n
    below n h = rw e at (number-below s n h)

-- ---- with a point

factor-is : (negative : Bool) → as_f64 (sign_of negative) ≡ factor negative
unfolding factor
factor-is true = refl
factor-is false = refl

-- a total and its places, by the table
divided-is : (negative : Bool) (total places : ℕ)
    → (ok_or (get_elem? power_of_ten places) Overflow >>= λ pow. Ok (mul binary64 (as_f64 (sign_of negative)) (div binary64 (as_f64 (pos total)) pow)))
    ≡ rust_f64 (quotient negative total places)
unfolding divided
divided-is negative total places =
    by_bool (ltb most_places places)
    (λ p. rw (no_power places (ltb-true most_places places p)) (ap rust_f64 (sym (quotient-past negative total places (ltb-true most_places places p)))))
    (λ f. rw (power_is places (ltb-false most_places places f), factor-is negative)
    (ap rust_f64 (sym (quotient_is negative total places (ltb-false most_places places f)))))

module _ (negative : Bool) (acc : ℕ) (part s : List ℕ) (small : acc < 2 ^ 64) (room : length (digit_run s) < length part) (sized : length part ≤ 2 ^ 64)
    (few : length part ≤ 20 → value acc (digit_run s) ≤ most_u64) where
  abbrev number : ℕ
  number = value acc (digit_run s)

  abbrev places : ℕ
  places = length (digit_run s)

  -- the digits that are counted are the bytes less one
  counted : places + (length part - places - 1) ≡ length part - 1
  counted = omega arith

  ended : tail_of (rest s) ≡ End → with_point (sign_of negative) acc part s ≡ rust_f64 (pointed negative acc (digit_run s))
  unfolding with_point
  ended e =
      rw (
        fraction-is s acc small,
        e,
        less-is (length part) places (omega arith),
        less-is (length part - places) 1 (omega arith),
        add_usize,
        lt-ltb (places + (length part - places - 1)) (2 ^ 64) (omega arith),
        check_init_is (digit_run s) acc small,
        run-again s,
      )
      (spared (check_from) (places + (length part - places - 1)) number _ (λ short. few (omega (arith, check_from-most, counted)))
      ∙ by_bool (ltb most_u64 number)
      (λ p. rw (within, p) (ap rust_f64 (sym (pointed-past negative acc (digit_run s) p))))
      (λ w. rw (within, w, mod-eq_of_lt {n = number} {m = 2 ^ 64} (omega (arith, ltb-false most_u64 number w)))
      (divided-is negative number places ∙ ap rust_f64 (sym (pointed-is negative acc (digit_run s) w)))))

  pub with_point-is : with_point (sign_of negative) acc part s ≡ rust_f64 (after_point negative acc s)
  unfolding with_point
  with_point-is = go (tail_of (rest s)) refl
    where
      go : (t : Tail) → tail_of (rest s) ≡ t → with_point (sign_of negative) acc part s ≡ rust_f64 (after_point negative acc s)
      go End e = ended e ∙ ap rust_f64 (sym (after_point-end negative acc s e))
      go Point e = rw (fraction-is s acc small, e) (ap rust_f64 (sym (after_point-point negative acc s e)))
      go Other e = rw (fraction-is s acc small, e) (ap rust_f64 (sym (after_point-other negative acc s e)))

-- ---- the loop

-- where the loop ends: at the end of the bytes, at a point, or at a byte that is no number's
abbrev by_tail : Tail → Outcome Float → Outcome Float → Outcome Float
by_tail End whole decimal = whole
by_tail Point whole decimal = decimal
by_tail Other whole decimal = Err AllDigits

-- a total gathered up to there, with what is left of `integer_part`
abbrev ended_at : ℤ → List ℕ → ℕ → List ℕ → Outcome Float
ended_at sign s total part =
    by_tail (tail_of (rest s)) (without_point sign total (take (length part - length (rest s)) part)) (with_point sign total part (drop 1 (rest s)))

loop-is : (sign : ℤ) (s : List ℕ) (acc : ℕ) (part : List ℕ) → acc < 2 ^ 64
    → f64_loop sign s acc part ≡ ended_at sign s (value acc (digit_run s) % 2 ^ 64) part
unfolding f64_loop digit_run value tail_of
loop-is sign [] acc part h = λ j. without_point sign (sym (mod-eq_of_lt h) j) (sym (take_all (length part - 0) part (omega arith)) j)
loop-is sign (b ∷ s) acc part h =
    by_bool (is_digit b)
    (λ t. rw (f64_loop, digit-same b ∙ t, one_more-is acc b t, digit_run, t)
    (loop-is sign s (carry acc b % 2 ^ 64) part (wrapped (carry acc b))
    ∙ ap (λ (n : ℕ). ended_at sign s n part) (value_wraps (digit_run s) (carry acc b))))
    (λ n. by_bool (eqb b point)
    (λ p. rw (f64_loop, digit-same b ∙ n, p, digit_run, n, tail_of, p) (ap (λ (k : ℕ). with_point sign k part s) (sym (mod-eq_of_lt h))))
    (λ p. by_bool (eqb b letter_f) (λ f. closing s n p f) (λ f. rw (f64_loop, digit-same b ∙ n, p, f, digit_run, n, tail_of, p, f))))
  where
    closing : (s : List ℕ) → is_digit b ≡ false → eqb b point ≡ false → eqb b letter_f ≡ true
        → f64_loop sign (b ∷ s) acc part ≡ ended_at sign (b ∷ s) (value acc (digit_run (b ∷ s)) % 2 ^ 64) part
    closing [] n p f =
        rw (f64_loop, digit-same b ∙ n, p, f, part_to-is part (length part - 1) (omega arith), digit_run, n, tail_of, p, f)
        (ap (λ (k : ℕ). without_point sign k (take (length part - 1) part)) (sym (mod-eq_of_lt h)))
    closing (c ∷ s) n p f = rw (f64_loop, digit-same b ∙ n, p, f, digit_run, n, tail_of, p, f)

-- ---- after the sign

-- at most twenty bytes with a point among them write no digits past 64 bits
pub few-pointed : (s t : List ℕ) → length (digit_run s) + length (digit_run t) ≤ 19 → value (value 0 (digit_run s) % 2 ^ 64) (digit_run t) ≤ most_u64
few-pointed s t h =
    let below = both_below s t (value 0 (digit_run s) % 2 ^ 64) (mod-le (value 0 (digit_run s)) (2 ^ 64)) in
    omega (arith, lt_of_lt_of_le below (pow-le-pow_right {n = 10} (omega arith) h))

digits_same : (negative : Bool) (s : List ℕ) → Slice s → f64_loop (sign_of negative) s 0 s ≡ rust_f64 (f64_digits negative s)
digits_same negative s sized = loop-is (sign_of negative) s 0 s (omega arith) ∙ go (tail_of (rest s)) refl
  where
    total : ℕ
    total = value 0 (digit_run s) % 2 ^ 64

    front : take (length s - length (rest s)) s ≡ digit_run s
    front =
        let counted : length s - length (rest s) ≡ length (digit_run s) = omega (arith, length-drop (length (digit_run s)) s, run_length s) in
        ap (λ (n : ℕ). take n s) counted ∙ run-taken s

    after : List ℕ
    after = drop 1 (rest s)

    -- the bytes after the point are fewer than those that the point stands among
    after-length : tail_of (rest s) ≡ Point → length (digit_run s) + length (digit_run after) < length s
    after-length e =
        omega (arith, point-within s (length (digit_run s)) e, run_length after, length-drop 1 (rest s), length-drop (length (digit_run s)) s)

    go : (t : Tail) → tail_of (rest s) ≡ t → ended_at (sign_of negative) s total s ≡ rust_f64 (f64_digits negative s)
    go End e =
        rw (e, front) (without_point-is negative (digit_run s) (run-again s) ∙ ap rust_f64 (sym (digits_end negative s e)))
    go Point e =
        rw e (with_point-is negative total s after (wrapped (value 0 (digit_run s))) (omega (arith, after-length e)) (omega arith)
        (λ few. few-pointed s after (omega (arith, after-length e)))
        ∙ ap rust_f64 (sym (digits-point negative s e)))
    go Other e = rw e (ap rust_f64 (sym (digits-other negative s e)))

-- ---- the first byte

-- a digit that `acc` begins with is one that the loop has taken
digit-taken : (sign : ℤ) (b : ℕ) (s part : List ℕ) → is_digit b ≡ true → f64_loop sign s (b - 48) part ≡ f64_loop sign (b ∷ s) 0 part
unfolding f64_loop
digit-taken sign b s part e =
    let taken : b - 48 ≡ carry 0 b % 2 ^ 64 = omega (arith, mod-eq_of_lt {n = b - 48} {m = 2 ^ 64} (digit-small b e)) in
    sym (rw (f64_loop, digit-same b ∙ e, one_more-is 0 b e) (ap (λ (n : ℕ). f64_loop sign s n part) (sym taken)))

begins-digit : (b : ℕ) → is_digit b ≡ true → begins b ≡ true
unfolding begins
begins-digit b e = rw (begins, e)

begins-other : (b : ℕ) → is_digit b ≡ false → begins b ≡ eqb b point
unfolding begins
begins-other b e = rw (begins, e)

digit-no-plus : (b : ℕ) → is_digit b ≡ true → b ≡ plus → ⊥
digit-no-plus b e p = omega (arith, digit_bounds b e)

pub f64_same : (d : List ℕ) → Slice d → to_f64 d ≡ rust_f64 (f64_read d)
unfolding to_f64 f64_start f64_sign
f64_same [] sized = ap rust_f64 (sym f64_none)
f64_same (b ∷ s) sized =
    by_bool (eqb b minus)
    (λ m. rw (f64_start, m) (digits_same true s (omega arith) ∙ ap rust_f64 (sym (f64_minus b s (eqb-true b minus m)))))
    (λ m. by_bool (is_digit b)
    (λ t. rw (f64_start, m, digit-same b ∙ t, digit-is b t)
    (digit-taken (pos 1) b s (b ∷ s) t ∙ digits_same false (b ∷ s) sized
    ∙ ap rust_f64 (sym (f64_bare b s (eqb-false b minus m) (digit-no-plus b t) (begins-digit b t)))))
    (λ n. by_bool (eqb b plus)
    (λ p. rw (f64_start, m, digit-same b ∙ n, p)
    (digits_same false s (omega arith) ∙ ap rust_f64 (sym (f64_plus b s (eqb-false b minus m) (eqb-true b plus p)))))
    (λ p. by_bool (eqb b point)
    (λ q. rw (f64_start, m, digit-same b ∙ n, p, q)
    (digits_same false (b ∷ s) sized
    ∙ ap rust_f64 (sym (f64_bare b s (eqb-false b minus m) (eqb-false b plus p) (begins-other b n ∙ q)))))
    (λ q. rw (f64_start, m, digit-same b ∙ n, p, q)
    (ap rust_f64 (sym (f64_other b s (eqb-false b minus m) (eqb-false b plus p) (begins-other b n ∙ q))))))))
