-- Laws of the whole numbers: each case of the two readings and of the number in front with its rest, by what leads to it.
-- Assumes nothing.
use Rattle.std.proofs.Common.{◌≡◌, ℕ, zero, suc, ◌+◌, ◌-◌, ◌<◌, ◌≤◌, Bool, true, false, eqb, ltb, List, [], ◌∷◌, length, get_or, take, drop, ℤ, pos, neg_ℤ, sym, refl, ap, ◌∙◌, zero-le, le_trans, le_of_eq, arith, length-drop, take_all, ltb-false, ltb-true, le-ltb, lt-ltb, eq-eqb, ne_eqb}
use mathlib.Core.Bool.{false≢true}
use lib.Seq.{drop-length}
use lib.Signed.{mag}
use Rattle.data.proofs.Cases.{by_bool}
use Rattle.data.specs.Bytes.{plus, minus, digit_zero, digit_nine}
use Rattle.scalar.specs.Digits.{is_digit, digit_run, value, most_u64}
use Rattle.scalar.specs.Whole.{has_tail, u64_digits, u64_read, signed, most_i64, i64_digits, i64_part, whole_only, i64_read}
use Rattle.scalar.specs.Whole.{starts_number, sign_width, number_of, left_of, i64_number, i64_rest, place_of_rest}
use Rattle.std.specs.Prelude.{Result, Ok, Err}
use Rattle.scalar.specs.declared.errors.WholeError.TheVariants.{AllDigits, Overflow}
use Rattle.scalar.specs.declared.errors.WholeError.{WholeError}
use Rattle.scalar.proofs.Runs.{digit_in, digit_out, run_length}

-- what a number in front is answered as: it, and the place after it
abbrev pub Part : Type 0
Part = Result (ℤ × ℕ) WholeError

abbrev part_to : ℤ → ℕ → Part
part_to i n = Ok (i, n)

-- ---- without a minus

pub u64-plus : (b : ℕ) (s : List ℕ) → b ≡ plus → u64_read (b ∷ s) ≡ u64_digits s
unfolding u64_read
u64-plus b s e = rw (u64_read, eq-eqb b plus e)

pub u64-bare : (b : ℕ) (s : List ℕ) → (b ≡ plus → ⊥) → u64_read (b ∷ s) ≡ u64_digits (b ∷ s)
unfolding u64_read
u64-bare b s h = rw (u64_read, ne_eqb b plus h)

pub u64-none : u64_read [] ≡ Err AllDigits
unfolding u64_read
u64-none = refl

pub u64_tail : (s : List ℕ) → has_tail s ≡ true → u64_digits s ≡ Err AllDigits
unfolding u64_digits
u64_tail s e = rw (u64_digits, e)

pub u64-past : (s : List ℕ) → has_tail s ≡ false → ltb most_u64 (value 0 (digit_run s)) ≡ true → u64_digits s ≡ Err Overflow
unfolding u64_digits
u64-past s e f = rw (u64_digits, e, f)

pub u64-is : (s : List ℕ) → has_tail s ≡ false → ltb most_u64 (value 0 (digit_run s)) ≡ false → u64_digits s ≡ Ok (value 0 (digit_run s))
unfolding u64_digits
u64-is s e f = rw (u64_digits, e, f)

-- the same by the first byte
pub u64_nothing : (d : List ℕ) → length d ≡ 0 → u64_read d ≡ Err AllDigits
u64_nothing [] h = u64-none
u64_nothing (b ∷ s) h = absurd (omega arith)

pub u64_signed : (d : List ℕ) → 0 < length d → get_or d 0 0 ≡ plus → u64_read d ≡ u64_digits (drop 1 d)
u64_signed [] h e = absurd (omega arith)
u64_signed (b ∷ s) h e = u64-plus b s e

pub u64_unsigned : (d : List ℕ) → 0 < length d → (get_or d 0 0 ≡ plus → ⊥) → u64_read d ≡ u64_digits (drop 0 d)
u64_unsigned [] h e = absurd (omega arith)
u64_unsigned (b ∷ s) h e = u64-bare b s e

-- ---- with a sign

pub i64-none : i64_part [] ≡ Err AllDigits
unfolding i64_part
i64-none = refl

pub i64-minus : (b : ℕ) (s : List ℕ) → b ≡ minus → i64_part (b ∷ s) ≡ i64_digits true 1 s
unfolding i64_part
i64-minus b s e = rw (i64_part, eq-eqb b minus e)

pub i64-plus : (b : ℕ) (s : List ℕ) → (b ≡ minus → ⊥) → b ≡ plus → i64_part (b ∷ s) ≡ i64_digits false 1 s
unfolding i64_part
i64-plus b s h e = rw (i64_part, ne_eqb b minus h, eq-eqb b plus e)

pub i64-bare : (b : ℕ) (s : List ℕ) → (b ≡ minus → ⊥) → (b ≡ plus → ⊥) → is_digit b ≡ true
    → i64_part (b ∷ s) ≡ i64_digits false 0 (b ∷ s)
unfolding i64_part
i64-bare b s h k e = rw (i64_part, ne_eqb b minus h, ne_eqb b plus k, e)

pub i64-other : (b : ℕ) (s : List ℕ) → (b ≡ minus → ⊥) → (b ≡ plus → ⊥) → is_digit b ≡ false → i64_part (b ∷ s) ≡ Err AllDigits
unfolding i64_part
i64-other b s h k e = rw (i64_part, ne_eqb b minus h, ne_eqb b plus k, e)

pub i64-past : (negative : Bool) (sign : ℕ) (s : List ℕ) → most_i64 < value 0 (digit_run s) → i64_digits negative sign s ≡ Err Overflow
unfolding i64_digits
i64-past negative sign s h = rw (i64_digits, lt-ltb most_i64 (value 0 (digit_run s)) h)

pub i64-is : (negative : Bool) (sign : ℕ) (s : List ℕ) → value 0 (digit_run s) ≤ most_i64
    → i64_digits negative sign s ≡ Ok (signed negative (value 0 (digit_run s)), sign + length (digit_run s))
unfolding i64_digits
i64-is negative sign s h =
    rw (i64_digits, le-ltb most_i64 (value 0 (digit_run s)) h)
    (ap (part_to (signed negative (value 0 (digit_run s)))) (omega arith))

-- the same by the first byte
pub part_minus : (d : List ℕ) → 0 < length d → get_or d 0 0 ≡ minus → i64_part d ≡ i64_digits true 1 (drop 1 d)
part_minus [] h e = absurd (omega arith)
part_minus (b ∷ s) h e = i64-minus b s e

pub part_plus : (d : List ℕ) → 0 < length d → get_or d 0 0 ≡ plus → i64_part d ≡ i64_digits false 1 (drop 1 d)
part_plus [] h e = absurd (omega arith)
part_plus (b ∷ s) h e = i64-plus b s (λ m. omega arith) e

pub part_digit : (d : List ℕ) → 0 < length d → digit_zero ≤ get_or d 0 0 → get_or d 0 0 ≤ digit_nine → i64_part d ≡ i64_digits false 0 (drop 0 d)
part_digit [] h low high = absurd (omega arith)
part_digit (b ∷ s) h low high = i64-bare b s (λ m. omega arith) (λ p. omega arith) (digit_in b low high)

pub part_other : (d : List ℕ) → (0 < length d → get_or d 0 0 ≡ minus → ⊥) → (0 < length d → get_or d 0 0 ≡ plus → ⊥)
    → (0 < length d → digit_zero ≤ get_or d 0 0 → get_or d 0 0 ≤ digit_nine → ⊥) → i64_part d ≡ Err AllDigits
part_other [] m p n = i64-none
part_other (b ∷ s) m p n = i64-other b s (m (omega arith)) (p (omega arith)) (digit_out b (n (omega arith)))

-- by whether a number may begin with the first byte: then its digits decide, after a sign of so many bytes
i64_started : (b : ℕ) (s : List ℕ) → starts_number b ≡ true
    → i64_part (b ∷ s) ≡ i64_digits (eqb b minus) (sign_width b) (drop (sign_width b) (b ∷ s))
unfolding i64_part
i64_started b s e =
    by_bool (eqb b minus)
    (λ t. rw (i64_part, sign_width, t))
    (λ f. by_bool (eqb b plus)
    (λ t. rw (i64_part, sign_width, f, t))
    (λ g. let digit : is_digit b ≡ true = rw (starts_number, f, g) at e in rw (i64_part, sign_width, f, g, digit)))

-- the same of bytes that begin with it, with the width by another name
pub part_started : (d s : List ℕ) (b width : ℕ) → d ≡ b ∷ s → starts_number b ≡ true → width ≡ sign_width b
    → i64_digits (eqb b minus) width (drop width d) ≡ i64_part d
part_started d s b width bytes started e =
    (λ j. i64_digits (eqb b minus) (e j) (drop (e j) (bytes j))) ∙ sym (ap i64_part bytes ∙ i64_started b s started)

pub i64_unstarted : (b : ℕ) (s : List ℕ) → starts_number b ≡ false → i64_part (b ∷ s) ≡ Err AllDigits
unfolding i64_part
i64_unstarted b s e =
    by_bool (eqb b minus)
    (λ t. absurd (false≢true (sym (rw (starts_number, t) at e))))
    (λ f. by_bool (eqb b plus)
    (λ t. absurd (false≢true (sym (rw (starts_number, f, t) at e))))
    (λ g. let none : is_digit b ≡ false = rw (starts_number, f, g) at e in rw (i64_part, f, g, none)))

width-within : (b : ℕ) (s : List ℕ) → sign_width b ≤ length (b ∷ s)
width-within b s =
    by_bool (eqb b minus)
    (λ t. rw (sign_width, t) (omega arith))
    (λ f. by_bool (eqb b plus) (λ t. rw (sign_width, f, t) (omega arith)) (λ g. rw (sign_width, f, g) (omega arith)))

-- so by how the bytes begin: with a sign of so many bytes, or none, and then their digits decide; or as no number does
pub by_part : {P : Type 0} (d : List ℕ)
    → ((negative : Bool) (sign : ℕ) → sign ≤ length d → i64_part d ≡ i64_digits negative sign (drop sign d) → P)
    → (i64_part d ≡ Err AllDigits → P)
    → P
by_part [] digits none = none i64-none
by_part (b ∷ s) digits none =
    by_bool (starts_number b)
    (λ t. digits (eqb b minus) (sign_width b) (width-within b s) (i64_started b s t))
    (λ f. none (i64_unstarted b s f))

-- by the size of the digits after a sign
pub by_size : {P : Type 0} (negative : Bool) (sign : ℕ) (s : List ℕ)
    → (most_i64 < value 0 (digit_run s) → i64_digits negative sign s ≡ Err Overflow → P)
    → (value 0 (digit_run s) ≤ most_i64
    → i64_digits negative sign s ≡ Ok (signed negative (value 0 (digit_run s)), sign + length (digit_run s)) → P)
    → P
by_size negative sign s past is =
    by_bool (ltb most_i64 (value 0 (digit_run s)))
    (λ t. let h = ltb-true _ _ t in past h (i64-past negative sign s h))
    (λ f. let h = ltb-false _ _ f in is h (i64-is negative sign s h))

-- ---- the number that bytes begin with, and what is left over

pub number_told : (d : List ℕ) (p : Part) → i64_part d ≡ p → i64_number d ≡ number_of p
unfolding i64_number
number_told d p e = ap number_of e

pub rest-told : (d : List ℕ) (p : Part) → i64_part d ≡ p → i64_rest d ≡ left_of d p
unfolding i64_rest
rest-told d p e = ap (left_of d) e

-- the place after a number, which is within the bytes
abbrev place_in : Part → ℕ
place_in (Ok (i, rest)) = rest
place_in (Err e) = 0

place-within : (d : List ℕ) → place_in (i64_part d) ≤ length d
place-within d =
    by_part d
    (λ negative sign h e. by_size negative sign (drop sign d)
    (λ past p. rw (e ∙ p) zero-le)
    (λ held p. rw (e ∙ p) (omega (arith, run_length (drop sign d), length-drop sign d))))
    (λ e. rw e zero-le)

pub part-within : (d : List ℕ) (i : ℤ) (rest : ℕ) → i64_part d ≡ Ok (i, rest) → rest ≤ length d
part-within d i rest e = le_trans (le_of_eq (sym (ap place_in e))) (place-within d)

-- so what is left over is no longer than the bytes
pub rest-within : (d : List ℕ) → length (i64_rest d) ≤ length d
unfolding i64_rest
rest-within d = go (i64_part d)
  where
    go : (p : Part) → length (left_of d p) ≤ length d
    go (Ok (i, rest)) = rw length-drop (omega arith)
    go (Err AllDigits) = omega arith
    go (Err Overflow) = omega arith

-- the part from a place on, where what is left over begins there: its bytes, and where it lies
pub rest_from : (d : List ℕ) (start : ℕ × ℕ) (at : ℕ) → at ≤ length d → i64_rest d ≡ drop at d
    → (take (length d - at) (drop at d) ≡ i64_rest d) × ((start.0, at + start.1) ≡ place_of_rest start d (i64_rest d))
rest_from d start at h e =
    let all = take_all (length d - at) (drop at d) (le_of_eq (length-drop at d)) in
    let behind : at + start.1 ≡ start.1 + (length d - length (drop at d)) = omega (arith, length-drop at d) in
    (all ∙ sym e, rw e (ap (λ (n : ℕ). (start.0, n)) behind))

-- where nothing is left over that is their end
pub rest-none : (d : List ℕ) → i64_rest d ≡ [] → i64_rest d ≡ drop (length d) d
rest-none d e = e ∙ sym (drop-length d)

-- ---- with a sign, and nothing after it

pub read_tail : (d : List ℕ) (i : ℤ) (rest : ℕ) → i64_part d ≡ Ok (i, rest) → rest < length d → i64_read d ≡ Err AllDigits
unfolding i64_read
read_tail d i rest e h = ap (whole_only (length d)) e ∙ rw (whole_only, lt-ltb rest (length d) h)

pub read_is : (d : List ℕ) (i : ℤ) (rest : ℕ) → i64_part d ≡ Ok (i, rest) → length d ≤ rest → i64_read d ≡ Ok i
unfolding i64_read
read_is d i rest e h = ap (whole_only (length d)) e ∙ rw (whole_only, le-ltb rest (length d) h)

pub read_refused : (d : List ℕ) (e : WholeError) → i64_part d ≡ Err e → i64_read d ≡ Err e
unfolding i64_read
read_refused d e told = rw (i64_read, told)

-- a minus makes no number larger
pub mag_negated : (n : ℕ) → mag (neg_ℤ (pos n)) ≤ n
mag_negated zero = zero-le
mag_negated (suc n) = omega arith
