-- The Rust's readings of whole numbers are ours.
-- Assumes nothing.
use mathlib.Core.Path.{◌≡◌, refl, sym, ◌∙◌, ap}
use mathlib.Core.Bool.{Bool, true, false}
use mathlib.Core.List.{List, [], ◌∷◌}
use mathlib.Core.Option.{none, some}
use Prim.Native.Nat.{ℕ, zero, suc, ◌+◌, ◌-◌, ◌%◌, ◌^◌, ◌≤◌, ◌<◌}
use native.Mathlib.Nat.{mod-eq_of_lt, one-mul}
use native.Mathlib.Omega.{arith}
use borrow.Author.Tests.{leb-true, lt-ltb, le-ltb, ltb-true, ltb-false, ne_eqb, eqb-true, eqb-false}
use lib.Dec.{eqb, ltb}
use lib.IntN.{ℤ, pos, negsuc, neg_ℤ, ◌*ℤ◌}
use lib.ListN.{length, drop, drop_of_length-le}
use lib.Seq.{drop-cons}
use Rattle.data.proofs.Cases.{by_bool}
use Rattle.data.specs.Bytes.{plus, minus}
use Rattle.scalar.specs.Digits.{is_digit, digit_run, value, most_u64}
use Rattle.scalar.specs.Float.{rest}
use Rattle.scalar.specs.Whole.{has_tail, u64_digits, u64_read, most_i64, signed, i64_digits, i64_part, number_of, left_of, i64_number, i64_rest, i64_read}
use Rattle.scalar.specs.declared.errors.WholeError.TheVariants as Why
use Rattle.std.specs.declared.result.Result.TheVariants as Read
use Rattle.scalar.proofs.Gathers.{tail_on, tail_here}
use Rattle.scalar.proofs.Runs.{digit_bounds, number-below}
use Rattle.scalar.proofs.Wholes.{u64-plus, u64-none, u64-bare, u64_tail, u64-past, u64-is, i64-none, i64-minus, i64-plus, i64-bare, i64-other, i64-past}
use Rattle.scalar.proofs.Wholes.{i64-is, Part, read_tail, read_is, read_refused}
use Rattle.rust_scalar.specs.RustReadings.{Outcome, Ok, Err, AllDigits, Overflow, ◌>>=◌, ok_or, from_length, i64_or_panic, i64_try_from}
use Rattle.rust_scalar.specs.RustReadings.{is_i64, is_empty}
use Rattle.rust_scalar.specs.RustReadings.{is_ascii_digit, is_sign, digits_in, greatest_power, overflow_cutoff, check_from, u64_start, to_u64}
use Rattle.rust_scalar.specs.RustReadings.{i64_start}
use Rattle.rust_scalar.specs.RustReadings.{times_sign}
use Rattle.rust_scalar.specs.RustReadings.{to_i64_t, to_i64}
use Rattle.rust_scalar.specs.RustReadingsAlike.{rust_u64, rust_i64_part, rust_i64}
use Rattle.rust_scalar.proofs.RustReadings.Digits.{digit-same, digit-is, unless_tail, value_on, partial_is, all_digits-is, checked}
use Rattle.rust_scalar.proofs.RustReadings.Digits.{check-signed, check-bare, within, spared}

-- `OVERFLOW_CUTOFF`, the number of digits of 2^64 - 1, is 20, and most checks are made from 19 on. What the proofs ask is that neither is more
pub cutoff_most : overflow_cutoff ≤ 20
unfolding overflow_cutoff digits_in greatest_power
cutoff_most = leb-true overflow_cutoff 20 refl

pub check_from-most : check_from ≤ 20
unfolding check_from overflow_cutoff digits_in greatest_power
check_from-most = leb-true check_from 20 refl

-- the number that the digits in front write
abbrev number : List ℕ → ℕ
number t = value 0 (digit_run t)

-- bytes that are too few for the Rust's check write no number past 64 bits
few : (t : List ℕ) (len : ℕ) → length t ≤ len → len < check_from → number t ≤ most_u64
few t len h short = omega (arith, number-below t 19 (omega (arith, check_from-most)))

-- a digit carries nothing on to its own value
pub first-value : (b : ℕ) (s : List ℕ) → is_digit b ≡ true → value (b - 48) (digit_run s) ≡ value 0 (digit_run (b ∷ s))
first-value b s e = ap (λ (n : ℕ). value n (digit_run s)) (omega arith) ∙ sym (value_on b s 0 e)

pub digit-small : (b : ℕ) → is_digit b ≡ true → b - 48 < 2 ^ 64
digit-small b e = omega (arith, digit_bounds b e)

-- a digit is no sign
pub digit-no-sign : (b : ℕ) → is_digit b ≡ true → is_sign b ≡ false
digit-no-sign b e =
    let low : 48 ≤ b = (digit_bounds b e).0 in
    rw (ne_eqb b plus (λ p. omega arith), ne_eqb b minus (λ p. omega arith))

-- ---- without a minus

-- after the sign: the digits, and the check from a length on
u64-rest : (t : List ℕ) (len : ℕ) → length t ≤ len
    → (unless_tail (has_tail t) (number t % 2 ^ 64) >>= λ result. from_length (check_from) len (checked (number t)) >>= λ _. Ok result)
    ≡ rust_u64 (u64_digits t)
u64-rest t len h =
    by_bool (has_tail t)
    (λ tailed. rw tailed (ap rust_u64 (sym (u64_tail t tailed))))
    (λ untailed. rw untailed (spared (check_from) len (number t) (Ok (number t % 2 ^ 64)) (few t len h)
    ∙ by_bool (ltb most_u64 (number t))
    (λ past. rw (within, past) (ap rust_u64 (sym (u64-past t untailed past))))
    (λ fits. rw (within, fits)
    (ap Ok (mod-eq_of_lt (omega (arith, ltb-false most_u64 (number t) fits))) ∙ ap rust_u64 (sym (u64-is t untailed fits))))))

-- the first byte
plus-sign : (b : ℕ) → eqb b plus ≡ true → is_sign b ≡ true
plus-sign b p = rw p

plus-start : (b : ℕ) → eqb b plus ≡ true → u64_start b ≡ Ok 0
unfolding u64_start is_ascii_digit
plus-start b p = ap u64_start (eqb-true b plus p)

digit-start : (b : ℕ) → is_digit b ≡ true → u64_start b ≡ Ok (b - 48)
unfolding u64_start
digit-start b e = rw (u64_start, digit-same b ∙ e) (digit-is b e)

no_start : (b : ℕ) → eqb b plus ≡ false → is_digit b ≡ false → u64_start b ≡ Err AllDigits
unfolding u64_start
no_start b p e = rw (u64_start, digit-same b ∙ e, p)

pub u64-same : (d : List ℕ) → to_u64 d ≡ rust_u64 (u64_read d)
unfolding to_u64
u64-same [] = ap rust_u64 (sym u64-none)
u64-same (b ∷ s) =
    by_bool (eqb b plus)
    (λ p. rw (plus-start b p, all_digits-is s 0 (omega arith), check-signed b s (plus-sign b p))
    (u64-rest s (suc (length s)) (omega arith) ∙ ap rust_u64 (sym (u64-plus b s (eqb-true b plus p)))))
    (λ n. by_bool (is_digit b)
    (λ t. rw (digit-start b t, all_digits-is s (b - 48) (digit-small b t), ← tail_on b s t, first-value b s t, check-bare b s (digit-no-sign b t))
    (u64-rest (b ∷ s) (suc (length s)) (omega arith) ∙ ap rust_u64 (sym (u64-bare b s (eqb-false b plus n)))))
    (λ f. rw (no_start b n f) (ap rust_u64 (sym (u64-bare b s (eqb-false b plus n) ∙ u64_tail (b ∷ s) (tail_here b s f))))))

-- ---- with a sign

-- the Rust's `sign`
abbrev pub sign_of : Bool → ℤ
sign_of true = negsuc 0
sign_of false = pos 1

pub times_is : (negative : Bool) (n : ℕ) → sign_of negative *ℤ pos n ≡ signed negative n
times_is true n = ap (λ (k : ℕ). neg_ℤ (pos k)) (one-mul n)
times_is false n = ap pos (one-mul n)

pub in_range : (negative : Bool) (n : ℕ) → n ≤ most_i64 → is_i64 (signed negative n) ≡ true
in_range true zero h = refl
in_range true (suc n) h = lt-ltb n (2 ^ 63) (omega arith)
in_range false n h = lt-ltb n (2 ^ 63) (omega arith)

pub product_is : (negative : Bool) (n : ℕ) → n ≤ most_i64 → i64_or_panic (sign_of negative *ℤ pos n) ≡ Ok (signed negative n)
product_is negative n h = ap i64_or_panic (times_is negative n) ∙ rw (i64_or_panic, in_range negative n h)

pub times_sign-is : (negative : Bool) (n : ℕ) → n ≤ most_i64 → times_sign (sign_of negative) n ≡ Ok (some (signed negative n))
unfolding times_sign
times_sign-is negative n h =
    rw (times_sign, i64_try_from, lt-ltb n (2 ^ 63) (omega arith), product_is negative n h)

pub times_sign-past : (sign : ℤ) (n : ℕ) → most_i64 < n → times_sign sign n ≡ Ok none
unfolding times_sign
times_sign-past sign n h = rw (times_sign, i64_try_from, le-ltb n (2 ^ 63) (omega arith))

-- a number under its sign, and what stands after it
abbrev answer_of : ℤ → ℕ → List ℕ → Outcome (ℤ × List ℕ)
answer_of sign n left = do
  val ← times_sign sign n
  val ← ok_or val Overflow
  Ok (val, left)

-- our part in the Rust's words: its number, and what it leaves of the bytes
abbrev part_as_rust : List ℕ → Part → Outcome (ℤ × List ℕ)
part_as_rust d p = rust_i64_part (number_of p) (left_of d p)

-- after the sign: the check from a length on, the number, and what stands after it
digits_same : (negative : Bool) (d t : List ℕ) (sign len : ℕ) (left : List ℕ) → length t ≤ len → drop (sign + length (digit_run t)) d ≡ left
    → (from_length (check_from) len (checked (number t)) >>= λ _. answer_of (sign_of negative) (number t % 2 ^ 64) left)
    ≡ part_as_rust d (i64_digits negative sign t)
digits_same negative d t sign len left h e =
    spared (check_from) len (number t) (answer_of (sign_of negative) (number t % 2 ^ 64) left) (few t len h)
    ∙ by_bool (ltb most_u64 (number t))
    (λ u. rw (within, u) (ap (part_as_rust d) (sym (i64-past negative sign t (omega (arith, ltb-true most_u64 (number t) u))))))
    (λ u. rw (within, u, mod-eq_of_lt {n = number t} {m = 2 ^ 64} (omega (arith, ltb-false most_u64 (number t) u)))
    (by_bool (ltb most_i64 (number t))
    (λ p. let past = ltb-true most_i64 (number t) p in
    rw (times_sign-past (sign_of negative) (number t) past) (ap (part_as_rust d) (sym (i64-past negative sign t past))))
    (λ f. let held = ltb-false most_i64 (number t) f in
    rw (times_sign-is negative (number t) held)
    ((λ j. Ok (signed negative (number t), sym e j)) ∙ ap (part_as_rust d) (sym (i64-is negative sign t held))))))

-- the first byte
minus-sign : (b : ℕ) → eqb b minus ≡ true → is_sign b ≡ true
minus-sign b m = ap is_sign (eqb-true b minus m)

i64_start-minus : (b : ℕ) → eqb b minus ≡ true → i64_start b ≡ Ok (0, negsuc 0)
unfolding i64_start is_ascii_digit
i64_start-minus b m = ap i64_start (eqb-true b minus m)

i64_start-plus : (b : ℕ) → eqb b plus ≡ true → i64_start b ≡ Ok (0, pos 1)
unfolding i64_start is_ascii_digit
i64_start-plus b p = ap i64_start (eqb-true b plus p)

i64_start-digit : (b : ℕ) → is_digit b ≡ true → i64_start b ≡ Ok (b - 48, pos 1)
unfolding i64_start
i64_start-digit b e = rw (i64_start, digit-same b ∙ e, digit-is b e)

i64_start-none : (b : ℕ) → eqb b minus ≡ false → eqb b plus ≡ false → is_digit b ≡ false → i64_start b ≡ Err AllDigits
unfolding i64_start
i64_start-none b m p e = rw (i64_start, digit-same b ∙ e, m, p)

-- what stands after a sign and digits, and after digits alone
after_sign : (b : ℕ) (s : List ℕ) → drop (1 + length (digit_run s)) (b ∷ s) ≡ rest s
after_sign b s =
    let counted : 1 + length (digit_run s) ≡ suc (length (digit_run s)) = omega arith in
    ap (λ (n : ℕ). drop n (b ∷ s)) counted

after-digit : (b : ℕ) (s : List ℕ) → is_digit b ≡ true → drop (0 + length (digit_run (b ∷ s))) (b ∷ s) ≡ rest s
unfolding digit_run
after-digit b s e =
    let counted : 0 + suc (length (digit_run s)) ≡ suc (length (digit_run s)) = omega arith in
    rw (digit_run, e) (ap (λ (n : ℕ). drop n (b ∷ s)) counted)

part_same : (d : List ℕ) → to_i64_t d ≡ part_as_rust d (i64_part d)
unfolding to_i64_t
part_same [] = ap (part_as_rust []) (sym i64-none)
part_same (b ∷ s) =
    let d = b ∷ s in
    by_bool (eqb b minus)
    (λ m. rw (i64_start-minus b m, partial_is s 0 (omega arith), check-signed b s (minus-sign b m))
    (digits_same true d s 1 (suc (length s)) (rest s) (omega arith) (after_sign b s) ∙ ap (part_as_rust d) (sym (i64-minus b s (eqb-true b minus m)))))
    (λ m. by_bool (eqb b plus)
    (λ p. rw (i64_start-plus b p, partial_is s 0 (omega arith), check-signed b s (plus-sign b p))
    (digits_same false d s 1 (suc (length s)) (rest s) (omega arith) (after_sign b s)
    ∙ ap (part_as_rust d) (sym (i64-plus b s (eqb-false b minus m) (eqb-true b plus p)))))
    (λ p. by_bool (is_digit b)
    (λ t. rw (i64_start-digit b t, partial_is s (b - 48) (digit-small b t), first-value b s t, check-bare b s (digit-no-sign b t))
    (digits_same false d d 0 (suc (length s)) (rest s) (omega arith) (after-digit b s t)
    ∙ ap (part_as_rust d) (sym (i64-bare b s (eqb-false b minus m) (eqb-false b plus p) t))))
    (λ f. rw (i64_start-none b m p f) (ap (part_as_rust d) (sym (i64-other b s (eqb-false b minus m) (eqb-false b plus p) f))))))

pub i64_part-same : (d : List ℕ) → to_i64_t d ≡ rust_i64_part (i64_number d) (i64_rest d)
unfolding i64_number i64_rest
i64_part-same d = part_same d

-- nothing is left over exactly where the place is past the bytes
left_over : (d : List ℕ) (at : ℕ) → at < length d → is_empty (drop at d) ≡ false
left_over d at h = rw (drop-cons d at 0 h)

used_up : (d : List ℕ) (at : ℕ) → length d ≤ at → is_empty (drop at d) ≡ true
used_up d at h = rw (drop_of_length-le d h)

-- an answer where nothing is left over
abbrev answered : ℤ → Bool → Outcome ℤ
answered i used = elim used [ true ↦ Ok i | false ↦ Err AllDigits ]

pub i64-same : (d : List ℕ) → to_i64 d ≡ rust_i64 (i64_read d)
unfolding to_i64
i64-same d = rw (part_same d) (go (i64_part d) refl)
  where
    go : (p : Part) → i64_part d ≡ p → (part_as_rust d p >>= λ (result, left). answered result (is_empty left)) ≡ rust_i64 (i64_read d)
    go (Read.Ok (i, at)) e =
        by_bool (ltb at (length d))
        (λ t. ap (answered i) (left_over d at (ltb-true at (length d) t)) ∙ ap rust_i64 (sym (read_tail d i at e (ltb-true at (length d) t))))
        (λ f. ap (answered i) (used_up d at (ltb-false at (length d) f)) ∙ ap rust_i64 (sym (read_is d i at e (ltb-false at (length d) f))))
    go (Read.Err Why.AllDigits) e = ap rust_i64 (sym (read_refused d Why.AllDigits e))
    go (Read.Err Why.Overflow) e = ap rust_i64 (sym (read_refused d Why.Overflow e))
