-- The day count of a date, and the date of a count: each is the other's way back.
-- Assumes nothing.
use mathlib.Core.Path.{◌≡◌, ◌∙◌, ap}
use mathlib.Core.Bool.{true, false}
use Prim.Native.Nat.{ℕ, ◌+◌, ◌-◌, ◌*◌, ◌/◌, ◌%◌, ◌≤◌, ◌<◌}
use native.Mathlib.Nat.{div-add-mod', mod-lt}
use native.Mathlib.Omega.{arith}
use borrow.Author.Tests.{lt-ltb, le-ltb}
use lib.Dec.{ltb}
use Rattle.data.proofs.Cases.{by_bool}
use Rattle.date.specs.Calendar.{date, month_days, months, year_days, days_in, days_before, in_range, Ranged, count_of, days_of, last_day}
use Rattle.date.specs.Calendar.{month_at, date_counted, date_at}
use Rattle.date.specs.Refusals.{no_date}
use Rattle.date.specs.declared.calendar.Date.{Date}
use Rattle.date.specs.declared.refusals.DateError.TheVariants.{OutOfRange}
use Rattle.std.specs.Prelude.{Ok, Err}
use Rattle.std.specs.Result.{result_unwrap_or}
use Rattle.date.proofs.Months.{past-here, table-length, before_year, Falls, month_falls}
use Rattle.date.proofs.Ranges.{ranged-is, is-ranged}

-- ---- what is answered

pub days_in-range : (t : Date) → in_range t ≡ true → days_of t ≡ Ok (count_of t)
unfolding days_of
days_in-range t e = rw (days_of, e)

pub days_out : (t : Date) → in_range t ≡ false → days_of t ≡ Err OutOfRange
unfolding days_of
days_out t e = rw (days_of, e)

pub date_in-range : (n : ℕ) → n ≤ last_day → date_at n ≡ Ok (date_counted n)
unfolding date_at
date_in-range n h = rw (date_at, le-ltb last_day n h)

pub date-past : (n : ℕ) → last_day < n → date_at n ≡ Err OutOfRange
unfolding date_at
date-past n h = rw (date_at, lt-ltb last_day n h)

-- ---- a day of the year

-- a day of a month lies in it
month_of_day : (month k : ℕ) → 1 ≤ month → month ≤ months → k < days_in month → month_at (days_before month + k) ≡ month
unfolding month_at days_before days_in
month_of_day month k h among small = omega (arith, past-here month_days (month - 1) k (omega (arith, table-length)) small)

-- years and a day of the year, taken apart again
years : (y r : ℕ) → r < year_days → (y * year_days + r) / year_days ≡ y
years y r h = omega arith

rests : (y r : ℕ) → r < year_days → (y * year_days + r) % year_days ≡ r
rests y r h = omega arith

-- ---- from a date and back

module _ (t : Date) (e : in_range t ≡ true) where
  r : Ranged t
  r = ranged-is t e

  -- the day of the year
  abbrev of_year : ℕ
  of_year = days_before t.month + (t.day - 1)

  small : of_year < year_days
  small = omega (arith, r.day, before_year t.month)

  split : count_of t ≡ (t.year - 1) * year_days + of_year
  unfolding count_of
  split = omega arith

  pub day-within : count_of t ≤ last_day
  day-within = omega (arith, split, small, r.year)

  pub date-back : date_counted (count_of t) ≡ date t.year t.month t.day 0
  unfolding date_counted
  date-back =
      let rest : count_of t % year_days ≡ of_year = ap (λ (n : ℕ). n % year_days) split ∙ rests (t.year - 1) of_year small in
      let years-is : count_of t / year_days ≡ t.year - 1 = ap (λ (n : ℕ). n / year_days) split ∙ years (t.year - 1) of_year small in
      let year : count_of t / year_days + 1 ≡ t.year = omega (arith, years-is, r.year.0) in
      let month : month_at (count_of t % year_days) ≡ t.month =
      ap month_at rest ∙ month_of_day t.month (t.day - 1) r.month.0 r.month.1 (omega (arith, r.day)) in
      let before = ap days_before month in
      let day : count_of t % year_days - days_before (month_at (count_of t % year_days)) + 1 ≡ t.day = omega (arith, rest, before, r.day.0) in
      λ j. date (year j) (month j) (day j) 0

-- ---- from a day and back

module _ (n : ℕ) (h : n ≤ last_day) where
  falls : Falls (n % year_days) (month_at (n % year_days))
  falls = month_falls (n % year_days) (mod-lt n (omega arith))

  pub date-within : in_range (date_counted n) ≡ true
  unfolding date_counted
  date-within =
      is-ranged (date_counted n)
      (record {
        year = (omega arith, omega (arith, h));
        month = (falls.some, falls.among);
        day = (omega arith, omega (arith, falls.after, falls.before));
        hour = omega arith;
      })

  pub day-back : count_of (date_counted n) ≡ n
  unfolding date_counted count_of
  day-back = omega (arith, falls.after, div-add-mod' n year_days)

-- the date of a day tells no hour, and a refusal tells nothing
pub no-hour : (n : ℕ) → (result_unwrap_or (date_at n) no_date).hour ≡ 0
unfolding date_at date_counted
no-hour n = by_bool (ltb last_day n) (λ t. rw (date_at, t)) (λ f. rw (date_at, f))
