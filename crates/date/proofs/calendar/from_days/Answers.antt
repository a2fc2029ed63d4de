-- `date::calendar::from_days` meets its contract: the day of the year falls into its month.
-- Assumes nothing.
use mathlib.Core.Path.{◌≡◌, sym, ◌∙◌, ap, subst}
use Prim.Native.Nat.{ℕ, ◌+◌, ◌-◌, ◌/◌, ◌%◌}
use native.Mathlib.Nat.{mod-lt}
use native.Mathlib.Omega.{arith}
use borrow.Author.Tests.{lt-ltb, le-ltb}
use Rattle.date.specs.Calendar.{date, year_days, days_before, month_at, date_counted, date_at}
use Rattle.std.specs.Prelude.{Ok}
use Rattle.date.proofs.Months.{Falls, month_falls}
use Rattle.date.proofs.calendar.from_days.Goals as goal

pub returns-then-days-gt-LAST_DAY : goal.returns-then-days-gt-LAST_DAY
unfolding date_at
returns-then-days-gt-LAST_DAY c = rw (date_at, lt-ltb _ _ c.if-days-gt-LAST_DAY.true)

-- the month that is found is the one that the day of the year falls into
falls_into : (days month : ℕ) → month ≡ month_at (days % year_days) → Falls (days % year_days) month
falls_into days month e = subst (Falls (days % year_days)) (sym e) (month_falls _ (mod-lt _ (omega arith)))

pub days_before-requires : goal.days_before-requires
days_before-requires c =
    let falls = falls_into _ _ c.month_of-month.ensures in
    (falls.some, falls.among)

pub overflow_sub-day : goal.overflow_sub-day
overflow_sub-day c =
    omega (arith, (falls_into _ _ c.month_of-month.ensures).after, c.days_before.ensures)

pub returns : goal.returns
unfolding date_at date_counted
returns c =
    let days = c.args.days in
    let month = c.month_of-month.ensures in
    let before = c.days_before.ensures ∙ ap days_before month in
    rw (date_at, le-ltb _ _ c.if-days-gt-LAST_DAY.false)
    (λ j. Ok (date (days / year_days + 1) (month j) (days % year_days - before j + 1) 0))
