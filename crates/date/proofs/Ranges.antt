-- A date in range, part by part.
-- Assumes nothing.
use mathlib.Core.Path.{◌≡◌, sym, ◌∙◌, ap}
use mathlib.Core.Bool.{true, false}
use Prim.Native.Nat.{ℕ, ◌≤◌, min}
use native.Mathlib.Omega.{arith}
use borrow.Author.Tests.{le-leb, leb-true}
use lib.Dec.{leb}
use Rattle.data.proofs.Cases.{by_bool, both}
use Rattle.date.specs.Calendar.{date, within, days_in, months, most_year, most_hour, in_range, Ranged, ranged}
use Rattle.date.specs.Reading.{past_all}
use Rattle.date.specs.declared.calendar.Date.{Date}
use Rattle.date.specs.declared.refusals.DateError.TheVariants.{OutOfRange}
use Rattle.std.specs.Prelude.{Ok, Err}
use Rattle.date.proofs.Months.{days_in-year}

-- from 1 to a number
pub is_within : (n most : ℕ) → within n most ≡ true → (1 ≤ n) × (n ≤ most)
unfolding within
is_within n most e = let tests = both (leb 1 n) (leb n most) e in (leb-true 1 n tests.0, leb-true n most tests.1)

within-is : (n most : ℕ) → 1 ≤ n → n ≤ most → within n most ≡ true
unfolding within
within-is n most h k = rw (within, le-leb 1 n h) (le-leb n most k)

pub ranged-is : (t : Date) → in_range t ≡ true → Ranged t
unfolding in_range
ranged-is t e =
    let all = both _ _ e in
    let days = both _ _ all.0 in
    let years = both _ _ days.0 in
    record {
      year = is_within _ _ years.0;
      month = is_within _ _ years.1;
      day = is_within _ _ days.1;
      hour = leb-true _ _ all.1;
    }

pub is-ranged : (t : Date) → Ranged t → in_range t ≡ true
unfolding in_range
is-ranged t r =
    rw (
      in_range,
      within-is t.year most_year r.year.0 r.year.1,
      within-is t.month months r.month.0 r.month.1,
      within-is t.day (days_in t.month) r.day.0 r.day.1,
    )
    (le-leb t.hour most_hour r.hour)

-- the same by the bounds of each part
pub parts_in : (t : Date) → in_range t ≡ true
    → (1 ≤ t.year) × (t.year ≤ most_year) × (1 ≤ t.month) × (t.month ≤ months) × (1 ≤ t.day) × (t.day ≤ days_in t.month)
parts_in t e = let r = ranged-is t e in (r.year.0, r.year.1, r.month.0, r.month.1, r.day.0, r.day.1)

-- it is answered, and any other is refused
pub ranged_in : (t : Date) → in_range t ≡ true → ranged t ≡ Ok t
unfolding ranged
ranged_in t e = rw (ranged, e)

pub ranged_out : (t : Date) → in_range t ≡ false → ranged t ≡ Err OutOfRange
unfolding ranged
ranged_out t e = rw (ranged, e)

-- ---- a number above every range may stand for all above it

-- the date of four such numbers
abbrev pub bounded : ℕ → ℕ → ℕ → ℕ → Date
bounded year month day hour = date (min year past_all) (min month past_all) (min day past_all) (min hour past_all)

module _ (year month day hour : ℕ) where
  -- numbers within some range stand for themselves
  bounded-is : min year past_all ≤ most_year → min month past_all ≤ most_year → min day past_all ≤ most_year → min hour past_all ≤ most_year
      → bounded year month day hour ≡ date year month day hour
  bounded-is a b c d =
      let y : min year past_all ≡ year = omega (arith, a) in
      let m : min month past_all ≡ month = omega (arith, b) in
      let k : min day past_all ≡ day = omega (arith, c) in
      let h : min hour past_all ≡ hour = omega (arith, d) in
      λ j. date (y j) (m j) (k j) (h j)

  in_range-same : Ranged (date year month day hour) → bounded year month day hour ≡ date year month day hour
  in_range-same r =
      bounded-is (omega (arith, r.year)) (omega (arith, r.month)) (omega (arith, r.day, days_in-year month)) (omega (arith, r.hour))

  bounded-same : Ranged (bounded year month day hour) → bounded year month day hour ≡ date year month day hour
  bounded-same r =
      bounded-is (omega (arith, r.year)) (omega (arith, r.month)) (omega (arith, r.day, days_in-year (min month past_all)))
      (omega (arith, r.hour))

  -- so what is answered stays the same
  pub bounded-ranged : ranged (bounded year month day hour) ≡ ranged (date year month day hour)
  bounded-ranged =
      by_bool (in_range (bounded year month day hour))
      (λ t. ap ranged (bounded-same (ranged-is _ t)))
      (λ f. by_bool (in_range (date year month day hour))
      (λ t. ap ranged (in_range-same (ranged-is _ t)))
      (λ g. ranged_out _ f ∙ sym (ranged_out _ g)))
