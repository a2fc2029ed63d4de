-- How long the lines are that answer for a scalar and for a sheet.
-- Assumes nothing.
use Rattle.std.specs.Prelude.{Option, Some, None, Result, Ok, Err}
use mathlib.Core.Path.{◌≡◌, refl, ◌∙◌, ap}
use mathlib.Core.Bool.{Bool, true, false}
use mathlib.Core.List.{List, [], ◌∷◌}
use Prim.Native.Nat.{ℕ, zero, suc, ◌+◌, ◌*◌, ◌/◌, ◌^◌, ◌≤◌, ◌<◌, min}
use native.Mathlib.Omega.{arith}
use borrow.Author.Tests.{ltb-true, ltb-false}
use lib.Dec.{eqb, ltb}
use lib.IntN.{ℤ}
use lib.ListN.{length, take, drop, length-append, length-take, length-drop}
use Rattle.data.proofs.Cases.{by_bool}
use Rattle.data.specs.Bytes.{plus}
use Rattle.date.specs.Calendar.{in_range, days_of, last_day, date_counted}
use Rattle.date.specs.Refusals.{not_a_date, out_of_range}
use Rattle.date.specs.declared.calendar.Date.{Date}
use Rattle.date.proofs.Days.{days_in-range, date_in-range, date-past, day-within, date-within}
use Rattle.date.proofs.Months.{days_in-year}
use Rattle.date.proofs.Ranges.{ranged-is}
use Rattle.date.proofs.Readings.{by-date}
use Rattle.scalar.specs.Digits.{digit_run, value, most_u64}
use Rattle.scalar.specs.Float.{f64_read, pattern_of}
use Rattle.scalar.specs.Kind.{kind_of}
use Rattle.scalar.specs.Numbers.{whole_error_number, decimal_error_number, kind_number_of}
use Rattle.scalar.specs.Truth.{bool_read}
use Rattle.scalar.specs.Whole.{most_i64, has_tail, u64_digits, u64_read, signed, i64_part, whole_only, i64_read, number_of, i64_number, i64_rest}
use Rattle.std.specs.Prelude.{Result, Ok, Err, Float}
use Rattle.std.specs.Result.{result_unwrap_or}
use Rattle.scalar.specs.declared.errors.BoolError.TheVariants.{InvalidBool}
use Rattle.scalar.specs.declared.errors.BoolError.{BoolError}
use Rattle.scalar.specs.declared.errors.DecimalError.TheVariants as Decimal
use Rattle.scalar.specs.declared.errors.DecimalError.{DecimalError}
use Rattle.scalar.specs.declared.errors.WholeError.TheVariants.{AllDigits, Overflow}
use Rattle.scalar.specs.declared.errors.WholeError.{WholeError}
use Rattle.scalar.specs.declared.kinds.ReadingKind.TheVariants as Kind
use Rattle.scalar.specs.declared.kinds.ReadingKind.{ReadingKind}
use Rattle.scalar.proofs.Wholes.{Part, by_part, by_size, rest-within}
use Rattle.sheet.specs.declared.views.Viewed.{Viewed}
use Rattle.writer.specs.declared.Refusal.{Refusal}
use Rattle.writer.specs.declared.Refusal.TheVariants.{NotSound, TooDeep, TooLong, NoRoom, ReadsOtherwise, OtherForm}
use Rattle.writer.specs.Refusals.{number}
use Rattle.report.proofs.Room.{decimal-short, bit-short, number_short}
use Rattle.report.specs.Dates.{year_month_day, date_text, date_line, day_line}
use Rattle.report.specs.Digits.{decimal, hex_by, most_hex, hex}
use Rattle.report.specs.Dump.{field}
use Rattle.report.specs.Readings.{integer, bool_text, u64_text, i64_text, carried_text, f64_text, exact_of, readings_of, left_text, leading_of}
use Rattle.report.specs.Room.{most_input}
use Rattle.report.specs.Sheets.{verdict, hex_bytes, view_text, written_text}

-- a refusal of a reading has two digits
pub two_short : (n : ℕ) → n < 100 → length (decimal n) ≤ 2
two_short n h = decimal-short 1 n (omega arith)

-- ---- hexadecimal
hex_by-length : (k n : ℕ) → length (hex_by k n) ≡ k
unfolding hex_by
hex_by-length zero n = refl
hex_by-length (suc k) n = rw (hex_by, length-append) (omega (arith, hex_by-length k (n / 16)))

hex-short : (k n : ℕ) → length (hex k n) ≤ k
unfolding hex
hex-short k n =
    let written : length (hex k n) ≡ min k most_hex = hex_by-length (min k most_hex) n in
    omega arith

pub hex_bytes-short : (bs : List ℕ) → length (hex_bytes bs) ≤ 2 * length bs
unfolding hex_bytes
hex_bytes-short [] = omega arith
hex_bytes-short (b ∷ bs) = rw (hex_bytes, length-append) (omega (arith, hex-short 2 b, hex_bytes-short bs))

-- ---- the readings, each by what it answers
whole_error-short : (e : WholeError) → length (decimal (whole_error_number e)) ≤ 2
whole_error-short AllDigits = two_short 21 (omega arith)
whole_error-short Overflow = two_short 22 (omega arith)

decimal_error-short : (e : DecimalError) → length (decimal (decimal_error_number e)) ≤ 2
decimal_error-short Decimal.AllDigits = two_short 21 (omega arith)
decimal_error-short Decimal.Overflow = two_short 22 (omega arith)
decimal_error-short (Decimal.PrecisionLoss x) = two_short 24 (omega arith)

bool-short : (r : Result Bool BoolError) → length (bool_text r) ≤ 2
bool-short (Ok b) = omega (arith, bit-short b)
bool-short (Err InvalidBool) = two_short 23 (omega arith)

u64_digits-short : (s : List ℕ) → length (u64_text (u64_digits s)) ≤ 21
unfolding u64_digits
u64_digits-short s =
    by_bool (has_tail s)
    (λ tail. rw (u64_digits, tail) (omega (arith, two_short 21 (omega arith))))
    (λ none. by_bool (ltb most_u64 (value 0 (digit_run s)))
    (λ over. rw (u64_digits, none, over) (omega (arith, two_short 22 (omega arith))))
    (λ within.
    let few : value 0 (digit_run s) ≤ most_u64 = ltb-false most_u64 (value 0 (digit_run s)) within in
    rw (u64_digits, none, within) (omega (arith, number_short (value 0 (digit_run s)) (omega arith)))))

u64-short : (d : List ℕ) → length (u64_text (u64_read d)) ≤ 21
unfolding u64_read
u64-short [] = omega (arith, two_short 21 (omega arith))
u64-short (b ∷ d) =
    by_bool (eqb b plus)
    (λ e. rw (u64_read, e) (u64_digits-short d))
    (λ e. rw (u64_read, e) (u64_digits-short (b ∷ d)))

signed-short : (negative : Bool) (n : ℕ) → n ≤ most_i64 → length (integer (signed negative n)) ≤ 21
signed-short true zero h = omega (arith, number_short 0 (omega arith))
signed-short true (suc n) h = omega (arith, number_short (suc n) (omega arith))
signed-short false n h = omega (arith, number_short n (omega arith))

-- what may be left of a part is short
abbrev PartShort : Part → Type 0
PartShort (Ok (i, rest)) = length (integer i) ≤ 21
PartShort (Err e) = Unit {0}

i64_part-short : (d : List ℕ) → PartShort (i64_part d)
i64_part-short d =
    by_part d
    (λ negative sign h e. by_size negative sign (drop sign d)
    (λ past p. rw (e ∙ p) tt)
    (λ held p. rw (e ∙ p) (signed-short negative (value 0 (digit_run (drop sign d))) held)))
    (λ e. rw e tt)

-- the number that a scalar begins with, and one that is all of it
number_of-short : (p : Part) → PartShort p → length (i64_text (number_of p)) ≤ 22
number_of-short (Ok (i, rest)) h = omega arith
number_of-short (Err e) h = omega (arith, whole_error-short e)

kept-short : (tail : Bool) (i : ℤ) → length (integer i) ≤ 21 → length (i64_text (elim tail [ true ↦ Err AllDigits | false ↦ Ok i ])) ≤ 22
kept-short true i h = number_of-short (Err AllDigits) tt
kept-short false i h = number_of-short (Ok (i, 0)) h

whole-short : (n : ℕ) (p : Part) → PartShort p → length (i64_text (whole_only n p)) ≤ 22
whole-short n (Ok (i, rest)) h = kept-short (ltb rest n) i h
whole-short n (Err e) h = number_of-short (Err e) h

i64-short : (d : List ℕ) → length (i64_text (i64_read d)) ≤ 22
unfolding i64_read
i64-short d = whole-short (length d) (i64_part d) (i64_part-short d)

-- and how many bytes are left over
left-short : (r : Result ℤ WholeError) (left : ℕ) → left < 2 ^ 64 → length (left_text r left) ≤ 21
left-short (Ok i) left h = omega (arith, number_short left h)
left-short (Err e) left h = omega arith

carried-short : (e : DecimalError) → length (carried_text e) ≤ 17
carried-short Decimal.AllDigits = omega arith
carried-short Decimal.Overflow = omega arith
carried-short (Decimal.PrecisionLoss x) = omega (arith, hex-short 16 (pattern_of x))

f64_short : (r : Result Float DecimalError) → length (f64_text r) ≤ 19
f64_short (Ok x) = omega (arith, hex-short 16 (pattern_of x))
f64_short (Err e) = simp length-append (omega (arith, decimal_error-short e, carried-short e))

kind-short : (k : ReadingKind) → length (decimal (kind_number_of k)) ≤ 1
kind-short Kind.Bool = decimal-short 0 1 (omega arith)
kind-short Kind.Whole = decimal-short 0 2 (omega arith)
kind-short Kind.Decimal = decimal-short 0 3 (omega arith)
kind-short Kind.Name = decimal-short 0 4 (omega arith)

-- the line of a scalar
pub readings-short : (d : List ℕ) → length (readings_of d) ≤ 70
unfolding readings_of exact_of
readings-short d =
    simp length-append
    (omega (arith, bool-short (bool_read d), u64-short d, i64-short d, f64_short (f64_read d), kind-short (kind_of d)))

-- the line of the number that it begins with
pub leading-short : (d : List ℕ) → length d ≤ most_input → length (leading_of d) ≤ 44
unfolding leading_of i64_number
leading-short d h =
    simp length-append
    (omega (arith, number_of-short (i64_part d) (i64_part-short d), left-short (i64_number d) (length (i64_rest d)) (omega (arith, rest-within d))))

-- the line of a date: every number of it is below 2^32
field-short : (n : ℕ) → n < 2 ^ 32 → length (field n) ≤ 21
field-short n h = omega (arith, number_short n (omega arith))

year_month_day-short : (t : Date) → t.year < 2 ^ 32 → t.month < 2 ^ 32 → t.day < 2 ^ 32 → length (year_month_day t) ≤ 63
year_month_day-short t y m d =
    simp length-append (omega (arith, number_short t.year (omega arith), number_short t.month (omega arith), number_short t.day (omega arith)))

ranged-short : (t : Date) → in_range t ≡ true → length (year_month_day t) ≤ 63
ranged-short t e =
    let r = ranged-is t e in
    year_month_day-short t (omega (arith, r.year)) (omega (arith, r.month)) (omega (arith, r.day, days_in-year t.month))

read_short : (t : Date) → in_range t ≡ true → length (date_text (Ok t)) ≤ 105
read_short t e =
    let r = ranged-is t e in
    let days = ap (λ r. result_unwrap_or r 0) (days_in-range t e) in
    rw length-append (rw length-append
    (omega (
      arith,
      ranged-short t e,
      field-short t.hour (omega (arith, r.hour)),
      field-short (result_unwrap_or (days_of t) 0) (omega (arith, days, day-within t e)),
    )))

pub date-short : (d : List ℕ) → length (date_line d) ≤ 106
unfolding date_line
date-short d =
    rw length-append
    (omega (
      arith,
      by-date (λ r. length (date_text r) ≤ 105) d (λ t r. read_short t r.ranged)
          (omega (arith, two_short not_a_date (omega arith))) (omega (arith, two_short out_of_range (omega arith))),
    ))

-- and of the date of a day count
pub day-short : (n : ℕ) → length (day_line n) ≤ 64
unfolding day_line
day-short n =
    by_bool (ltb last_day n)
    (λ t. rw (date-past n (ltb-true last_day n t)) (rw length-append (rw length-append (omega (arith, two_short out_of_range (omega arith))))))
    (λ f. let within = ltb-false last_day n f in
    rw (date_in-range n within) (rw length-append (omega (arith, ranged-short (date_counted n) (date-within n within)))))

-- the line of a check, and of a view
pub verdict-short : (sound : Bool) → length (verdict sound) ≤ 8
verdict-short true = omega arith
verdict-short false = omega arith

pub view-short : (text : List ℕ) (v : Option Viewed) → length (view_text text v) ≤ 2 * length text + 11
view-short text (Some v) =
    simp length-append
    (omega (arith, hex_bytes-short (take v.length (drop v.offset text)), length-take v.length (drop v.offset text), length-drop v.offset text))
view-short text None = simp length-append (omega (arith, two_short 12 (omega arith)))

-- a text that was written stands in its buffer, and a refusal has a number of two digits
refusal_two : (r : Refusal) → number r < 100
refusal_two NotSound = omega arith
refusal_two TooDeep = omega arith
refusal_two TooLong = omega arith
refusal_two NoRoom = omega arith
refusal_two ReadsOtherwise = omega arith
refusal_two OtherForm = omega arith

pub written-short : (w : Result ℕ Refusal) (buffer : List ℕ) → length (written_text w buffer) ≤ 2 * length buffer + 11
written-short (Ok size) buffer = simp length-append (omega (arith, hex_bytes-short (take size buffer), length-take size buffer))
written-short (Err r) buffer = simp length-append (omega (arith, two_short (number r) (refusal_two r)))
