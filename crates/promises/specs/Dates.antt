-- Dates (request W8): their day counts and their reading. Told by the request's numbers.
use Rattle.std.specs.Result.{result_unwrap_or}
use Rattle.std.specs.Prelude.{ℕ, ◌+◌, ◌≤◌, ◌<◌, Bool, true, false, not, List, [], ◌∷◌, ◌++◌, map, ◌⊎◌, ◌↔◌, ◌≡◌, eqb, pos, length}
use Prim.Native.String.{String}
use Rattle.data.specs.Bytes.{point, digit_zero}
use Rattle.data.specs.Reasons.{Reason, if_so}
use Rattle.scalar.specs.Digits.{digit_first, value, digits_in}
use Rattle.scalar.specs.Numbers.{answered, whole_refusal_of}
use Rattle.scalar.specs.Whole.{i64_number, i64_rest}
use Rattle.date.specs.Calendar.{date, month_days, together, months, year_days, days_in, most_year, in_range, Ranged, days_of, last_day, date_at}
use Rattle.date.specs.Reading.{parts, is_part, all_parts, right_number, shaped, numbers, told_by, out_of_range, date_read}
use Rattle.date.specs.Refusals as refusals
use Rattle.date.specs.Refusals.{date_refusal, no_date}
use Rattle.date.specs.declared.calendar.Date.{Date}
use Rattle.std.specs.Prelude.{Result, Ok}
use Rattle.report.specs.Digits.{decimal}
use Rattle.promises.specs.Cases.{bytes}
use Rattle.promises.specs.LeadingNumber.{first_number}

-- ---- the calendar

-- our calendar has twelve months and 365 days each year
abbrev pub TableHolds : Type 0
TableHolds = (length month_days ≡ months) × (together month_days ≡ year_days)

-- a date is in range exactly if each part is
abbrev pub InRange : Type 0
InRange = (t : Date) → (in_range t ≡ true) ↔ Ranged t

-- ---- day counts

-- the date without its hour, which is what a count tells of it
abbrev pub without_hour : Date → Date
without_hour t = date t.year t.month t.day 0

-- date to count and back is the date
pub record DateAndBack (t : Date) : Type 0 where
  pub counted : date_refusal (days_of t) ≡ answered
  pub back : date_at (result_unwrap_or (days_of t) 0) ≡ Ok (without_hour t)

abbrev pub DatesAndBack : Type 0
DatesAndBack = (t : Date) → in_range t ≡ true → DateAndBack t

-- the count leaves the hour out
abbrev pub HourLeftOut : Type 0
HourLeftOut = (t : Date) → in_range t ≡ true → days_of t ≡ days_of (without_hour t)

-- count to date and back is the count; the date is in range
pub record CountAndBack (n : ℕ) : Type 0 where
  pub dated : date_refusal (date_at n) ≡ answered
  pub ranged : in_range (result_unwrap_or (date_at n) no_date) ≡ true
  pub back : days_of (result_unwrap_or (date_at n) no_date) ≡ Ok n

abbrev pub CountsAndBack : Type 0
CountsAndBack = (n : ℕ) → n ≤ last_day → CountAndBack n

-- order on dates is by year, then month, then day
abbrev pub Earlier : Date → Date → Type 0
Earlier a b =
    (a.year < b.year)
    ⊎ ((a.year ≡ b.year) × ((a.month < b.month) ⊎ ((a.month ≡ b.month) × (a.day < b.day))))

-- later dates have larger counts, and larger counts later dates
abbrev pub InOrder : Type 0
InOrder = (a b : Date) → in_range a ≡ true → in_range b ≡ true → Earlier a b ↔ (result_unwrap_or (days_of a) 0 < result_unwrap_or (days_of b) 0)

-- the counts of all dates in range are exactly 0 to the last day
abbrev pub Exactly : Type 0
Exactly = (n : ℕ) → ((t : Date) × (in_range t ≡ true) × (days_of t ≡ Ok n)) ↔ (n ≤ last_day)

-- day 0 is 1.1.1, and the last is the end of the year 9999
abbrev pub EndsHold : Type 0
EndsHold = (days_of (date 1 1 1 0) ≡ Ok 0) × (days_of (date most_year months (days_in months) 0) ≡ Ok last_day)

-- all else is refused: a date out of range, and a count past the last day
pub record ElseRefused : Type 0 where
  pub date : (t : Date) → in_range t ≡ false → date_refusal (days_of t) ≡ refusals.out_of_range
  pub count : (n : ℕ) → last_day < n → date_refusal (date_at n) ≡ refusals.out_of_range

-- ---- the reading

-- why bytes are refused, by whether they have not the shape, and whether a part is out of range: 51 first
abbrev pub date_reasons : (unshaped out : Bool) → List (Reason ℕ)
date_reasons unshaped out = if_so unshaped refusals.not_a_date ∷ if_so out refusals.out_of_range ∷ []

pub record Read (d : List ℕ) : Type 0 where
  -- the refusal is the first reason's
  pub refusal : date_refusal (date_read d) ≡ first_number (date_reasons (not (shaped d)) (out_of_range (numbers d)))
  -- what is read are the numbers that the parts write, it is in range, and it has a day count
  pub told : date_refusal (date_read d) ≡ answered → result_unwrap_or (date_read d) no_date ≡ told_by (numbers d)
  pub ranged : date_refusal (date_read d) ≡ answered → in_range (result_unwrap_or (date_read d) no_date) ≡ true
  pub counted : date_refusal (date_read d) ≡ answered → date_refusal (days_of (result_unwrap_or (date_read d) no_date)) ≡ answered

-- parts with points between them
unfoldable pub joined : List (List ℕ) → List ℕ
joined [] = []
joined (p ∷ []) = p
joined (p ∷ q ∷ ps) = p ++ point ∷ joined (q ∷ ps)

-- the parts of a scalar are it again
abbrev pub Apart : Type 0
Apart = (d : List ℕ) → joined (parts d) ≡ d

-- so bytes have the shape exactly if they are three or four parts of digits with points between them
abbrev pub Shape : Type 0
Shape = (d : List ℕ) → (shaped d ≡ true)
    ↔ ((ps : List (List ℕ)) × (right_number (length ps) ≡ true) × (all_parts ps ≡ true) × (d ≡ joined ps))

-- digits that write a number, as many zeros in front as there may be
pub record Writes (p : List ℕ) (n : ℕ) : Type 0 where
  pub digits : is_part p ≡ true
  pub number : value 0 p ≡ n

-- so do its decimal digits, and any digits that write it, with one more zero in front
pub record WrittenDigits : Type 0 where
  pub decimals : (n : ℕ) → Writes (decimal n) n
  pub zeros : (p : List ℕ) (n : ℕ) → Writes p n → Writes (digit_zero ∷ p) n

-- a scalar that is a date written out as digits with points, without an hour and with one
pub data WrittenOut (d : List ℕ) (t : Date) : Type 0 where
  to_the_day : (y m k : List ℕ) → Writes y t.year → Writes m t.month → Writes k t.day → t.hour ≡ 0
      → d ≡ joined (y ∷ m ∷ k ∷ []) → WrittenOut d t
  to_the_hour : (y m k h : List ℕ) → Writes y t.year → Writes m t.month → Writes k t.day → Writes h t.hour → 1 ≤ t.hour
      → d ≡ joined (y ∷ m ∷ k ∷ h ∷ []) → WrittenOut d t

-- written out so, a date in range reads as itself, and no other scalar reads as it
abbrev pub ReadsExactly : Type 0
ReadsExactly = (d : List ℕ) (t : Date) → (date_read d ≡ Ok t) ↔ ((in_range t ≡ true) × WrittenOut d t)

-- so it does in its decimal digits, with the hour where it has one
abbrev pub hour_part : ℕ → List (List ℕ)
hour_part hour = elim (eqb hour 0) [ true ↦ [] | false ↦ decimal hour ∷ [] ]

unfoldable pub written : Date → List ℕ
written t = joined (decimal t.year ∷ decimal t.month ∷ decimal t.day ∷ hour_part t.hour)

abbrev pub WrittenReads : Type 0
WrittenReads = (t : Date) → in_range t ≡ true → date_read (written t) ≡ Ok t

-- ---- on W7

-- bytes that begin with a digit: where the leading number is answered, it is the one that a part is read from, and what is left over begins where
-- the part ends
pub record OnLeadingNumber (d : List ℕ) : Type 0 where
  pub number : result_unwrap_or (i64_number d) (pos 0) ≡ pos (digits_in d 0).number
  pub end : (digits_in d 0).end + length (i64_rest d) ≡ length d

abbrev pub OnLeadingNumbers : Type 0
OnLeadingNumbers = (d : List ℕ) → digit_first d ≡ true → whole_refusal_of (i64_number d) ≡ answered → OnLeadingNumber d

-- ---- both sides of each edge: a scalar, its refusal, its date and its day count

pub record Edge : Type 0 where
  pub text : String
  pub refusal : ℕ
  pub value : Date
  pub count : ℕ

-- a date and its day count
abbrev pub gives : String → Date → ℕ → Edge
gives text value count = record { text = text; refusal = answered; value = value; count = count }

-- a refusal
abbrev pub refuses : String → ℕ → Edge
refuses text refusal = record { text = text; refusal = refusal; value = refusals.no_date; count = 0 }

unfoldable pub edges : List Edge
edges =
    gives "1936.1.12" (date 1936 1 12 0) 706286 ∷ gives "1936.1.12.24" (date 1936 1 12 24) 706286
    ∷ gives "1.1.1" (date 1 1 1 0) 0 ∷ gives "1.1.1.1" (date 1 1 1 1) 0 ∷ gives "1.2.28" (date 1 2 28 0) 58 ∷ gives "1.3.1" (date 1 3 1 0) 59
    ∷ gives "1.12.31" (date 1 12 31 0) 364 ∷ gives "2.1.1" (date 2 1 1 0) 365 ∷ gives "9999.12.31" (date 9999 12 31 0) 3649634
    ∷ gives "0001.01.01.024" (date 1 1 1 24) 0 ∷ gives "00000000000000000000000001936.1.12" (date 1936 1 12 0) 706286
    ∷ refuses "" 51 ∷ refuses "." 51 ∷ refuses ".." 51 ∷ refuses "..." 51 ∷ refuses "x" 51 ∷ refuses "1" 51 ∷ refuses "1.1" 51
    ∷ refuses "1.1." 51 ∷ refuses "1..1" 51 ∷ refuses ".1.1" 51 ∷ refuses "1.1.1." 51 ∷ refuses "1.1.1.1." 51 ∷ refuses "1.1.1.1.1" 51
    ∷ refuses "-1.1.1" 51 ∷ refuses "1.-1.1" 51 ∷ refuses "1.1.+1" 51 ∷ refuses "1.1.1.-1" 51 ∷ refuses " 1.1.1" 51 ∷ refuses "1.1.1 " 51
    ∷ refuses "1.1.1x" 51 ∷ refuses "1,1.1" 51 ∷ refuses "1.1/1" 51 ∷ refuses "1.1:1" 51
    ∷ refuses "0.1.1" 52 ∷ refuses "10000.1.1" 52 ∷ refuses "1.0.1" 52 ∷ refuses "1.13.1" 52 ∷ refuses "1.1.0" 52 ∷ refuses "1.1.32" 52
    ∷ refuses "1.2.29" 52 ∷ refuses "1936.2.29" 52 ∷ refuses "1.4.31" 52 ∷ refuses "1.1.1.0" 52 ∷ refuses "1.1.1.25" 52
    ∷ refuses "99999999999999999999.1.1" 52 ∷ refuses "99999999999999999999.1.x" 51 ∷ refuses "1.13.1.x" 51 ∷ refuses "0.0.0.0." 51
    ∷ refuses "18446744073709551617.1.1" 52 ∷ refuses "4294967297.1.1" 52 ∷ refuses "1.1.1.4294967297" 52
    ∷ []

-- what is told of a scalar
abbrev pub told : List ℕ → ℕ × Date × ℕ
told d =
    let read = date_read d in
    (date_refusal read, result_unwrap_or read no_date, result_unwrap_or (days_of (result_unwrap_or read no_date)) 0)

-- what is promised: each line holds
abbrev pub EdgesHold : Type 0
EdgesHold = map (λ (e : Edge). told (bytes e.text)) edges ≡ map (λ (e : Edge). (e.refusal, e.value, e.count)) edges
