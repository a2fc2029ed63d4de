-- The calendar (request W8): which dates there are, and their days. Our calendar has 365 days each year, February 28. Years run from 1 to 9999.
-- Day 0 is 1.1.1.
use Rattle.std.specs.Prelude.{Result, Ok, Err, Bool, true, false, ◌&&◌, List, [], ◌∷◌, ℕ, suc, ◌+◌, ◌-◌, ◌*◌, ◌/◌, ◌%◌, ◌≤◌, leb, ltb, get_or, take}
use Rattle.date.specs.declared.calendar.Date.{Date}
use Rattle.date.specs.declared.refusals.DateError.TheVariants.{OutOfRange}
use Rattle.date.specs.declared.refusals.DateError.{DateError}

-- ---- the table

-- the days of each month
unfoldable pub month_days : List ℕ
month_days = 31 ∷ 28 ∷ 31 ∷ 30 ∷ 31 ∷ 30 ∷ 31 ∷ 31 ∷ 30 ∷ 31 ∷ 30 ∷ 31 ∷ []

-- how many months there are
abbrev pub months : ℕ
months = 12

-- the days of some months together
unfoldable pub together : List ℕ → ℕ
together [] = 0
together (n ∷ ns) = n + together ns

-- the days of a year
abbrev pub year_days : ℕ
year_days = 365

-- the days of a month
unfoldable pub days_in : ℕ → ℕ
days_in month = get_or month_days (month - 1) 0

-- the days of a year before a month
unfoldable pub days_before : ℕ → ℕ
days_before month = together (take (month - 1) month_days)

-- ---- which dates there are

-- the date of four numbers
abbrev pub date : ℕ → ℕ → ℕ → ℕ → Date
date year month day hour = record { year = year; month = month; day = day; hour = hour }

-- the last year, and the last hour of a day
abbrev pub most_year : ℕ
most_year = 9999

abbrev pub most_hour : ℕ
most_hour = 24

-- from 1 to a number
unfoldable pub within : ℕ → ℕ → Bool
within n most = leb 1 n && leb n most

-- year, month and day, each from 1 to what there is; an hour of 0 is none
unfoldable pub in_range : Date → Bool
in_range t = within t.year most_year && within t.month months && within t.day (days_in t.month) && leb t.hour most_hour

-- what that says, part by part
pub record Ranged (t : Date) : Type 0 where
  pub year : (1 ≤ t.year) × (t.year ≤ most_year)
  pub month : (1 ≤ t.month) × (t.month ≤ months)
  pub day : (1 ≤ t.day) × (t.day ≤ days_in t.month)
  pub hour : t.hour ≤ most_hour

-- a date that the calendar has
unfoldable pub ranged : Date → Result Date DateError
ranged t = elim (in_range t) [ true ↦ Ok t | false ↦ Err OutOfRange ]

-- ---- to a day count, which leaves the hour out

unfoldable pub count_of : Date → ℕ
count_of t = (t.year - 1) * year_days + days_before t.month + (t.day - 1)

-- a date out of range has none
unfoldable pub days_of : Date → Result ℕ DateError
days_of t = elim (in_range t) [ true ↦ Ok (count_of t) | false ↦ Err OutOfRange ]

-- ---- and back

-- the count of the last date
abbrev pub last_day : ℕ
last_day = 3649634

-- how many of some months end before a day, which is counted from 0
unfoldable pub months_past : List ℕ → ℕ → ℕ
months_past [] day = 0
months_past (n ∷ ns) day = elim (ltb day n) [ true ↦ 0 | false ↦ suc (months_past ns (day - n)) ]

-- the month of a day of the year
unfoldable pub month_at : ℕ → ℕ
month_at day = months_past month_days day + 1

-- the date of a day, without an hour
unfoldable pub date_counted : ℕ → Date
date_counted count =
    let of_year = count % year_days in
    date (count / year_days + 1) (month_at of_year) (of_year - days_before (month_at of_year) + 1) 0

-- a count past the last has none
unfoldable pub date_at : ℕ → Result Date DateError
date_at count = elim (ltb last_day count) [ true ↦ Err OutOfRange | false ↦ Ok (date_counted count) ]
