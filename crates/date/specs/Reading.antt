-- A date in the bytes of a scalar (request W8): read year.month.day with an optional fourth part, an hour 1 to 24; parts are digits without a sign;
-- leading zeros are read. Refusals: not the shape first, then a part out of range.
use Rattle.std.specs.Prelude.{Option, Some, None, Result, Ok, Err, Bool, true, false, not, ◌&&◌, ◌||◌, List, [], ◌∷◌, ◌++◌, map, ℕ, ◌+◌, min, eqb, length, get_or, drop}
use Rattle.data.specs.Bytes.{point}
use Rattle.data.specs.Reasons.{if_so, first_of}
use Rattle.scalar.specs.Digits.{digits_alone, digit_first, digit_run, value}
use Rattle.date.specs.Calendar.{date, most_year, in_range}
use Rattle.date.specs.declared.calendar.Date.{Date}
use Rattle.date.specs.declared.refusals.DateError.TheVariants.{NotADate, OutOfRange}
use Rattle.date.specs.declared.refusals.DateError.{DateError}

-- ---- the shape

-- bytes in front of the first part
abbrev pub onto : List ℕ → List (List ℕ) → List (List ℕ)
onto p [] = p ∷ []
onto p (q ∷ qs) = (p ++ q) ∷ qs

-- the parts: what stands between the points
unfoldable pub parts : List ℕ → List (List ℕ)
parts [] = [] ∷ []
parts (b ∷ d) = elim (eqb b point) [ true ↦ [] ∷ parts d | false ↦ onto (b ∷ []) (parts d) ]

-- each is digits, one or more, and nothing else
unfoldable pub is_part : List ℕ → Bool
is_part p = digit_first p && digits_alone p

unfoldable pub all_parts : List (List ℕ) → Bool
all_parts [] = true
all_parts (p ∷ ps) = is_part p && all_parts ps

-- year, month and day, and one more where there is an hour
abbrev pub day_parts : ℕ
day_parts = 3

abbrev pub hour_parts : ℕ
hour_parts = 4

unfoldable pub right_number : ℕ → Bool
right_number n = eqb n day_parts || eqb n hour_parts

unfoldable pub shaped : List ℕ → Bool
shaped d = right_number (length (parts d)) && all_parts (parts d)

-- ---- the numbers

unfoldable pub numbers : List ℕ → List ℕ
numbers d = map (value 0) (parts d)

-- the date that they tell
abbrev pub told_by : List ℕ → Date
told_by ns = date (get_or ns 0 0) (get_or ns 1 0) (get_or ns 2 0) (get_or ns day_parts 0)

-- hours are counted from 1: an hour of 0 that stands there is out of range
unfoldable pub hour_zero : List ℕ → Bool
hour_zero ns = eqb (length ns) hour_parts && eqb (get_or ns day_parts 0) 0

unfoldable pub out_of_range : List ℕ → Bool
out_of_range ns = hour_zero ns || not (in_range (told_by ns))

-- ---- the reading

-- by whether the bytes have the shape, and whether a part is out of range
unfoldable pub dated : Bool → Bool → Date → Result Date DateError
dated shape out t = first_of Err (Ok t) (if_so (not shape) NotADate ∷ if_so out OutOfRange ∷ [])

unfoldable pub date_read : List ℕ → Result Date DateError
date_read d = dated (shaped d) (out_of_range (numbers d)) (told_by (numbers d))

-- ---- how it is gone about: part by part

-- the least number above every part's range, which stands for all above it
abbrev pub past_all : ℕ
past_all = most_year + 1

-- the part that stands at a place, and the place after it
unfoldable pub part_at : List ℕ → ℕ → Option (ℕ × ℕ)
part_at d at =
    elim (digit_first (drop at d)) [
      | true ↦ Some (min (value 0 (digit_run (drop at d))) past_all, at + length (digit_run (drop at d)))
      | false ↦ None
    ]

-- whether a point stands at a place
unfoldable pub point_first : List ℕ → Bool
point_first [] = false
point_first (b ∷ d) = eqb b point

-- the part that stands behind it
unfoldable pub pointed_part : List ℕ → ℕ → Option (ℕ × ℕ)
pointed_part d at = elim (point_first (drop at d)) [ true ↦ part_at d (at + 1) | false ↦ None ]
