-- `date::calendar::month_of` meets its contract: from the month that the loop is at on, the days that are left fall into the month that is
-- asked for.
-- Assumes nothing.
use mathlib.Core.Path.{◌≡◌, refl, sym, ap}
use Prim.Native.Nat.{ℕ, ◌+◌, ◌-◌, ◌≤◌}
use native.Mathlib.Nat.{le_of_eq, le_trans, lt_of_lt_of_le}
use native.Mathlib.Omega.{arith}
use Rattle.date.specs.Calendar.{months, months_past, month_at}
use Rattle.date.proofs.Months.{table_days, from_month, in_this_month, in_a_later-month, left_over, last-month}
use Rattle.date.proofs.calendar.month_of.Goals as goal

pub loop-month-init : goal.loop-month-init
unfolding month_at
loop-month-init c = (refl, omega (arith, c.requires, table_days))

pub returns-then-left-days : goal.returns-then-left-days
returns-then-left-days c =
    let head = c.loop-month in
    let small = lt_of_lt_of_le c.if-left-days.true (le_of_eq c.days_in-days.ensures) in
    omega (arith, in_this_month head.month head.left head.auto.month (omega (arith, c.loop-month-test.true)) small, head.invariant.0)

pub loop-month-preserved : goal.loop-month-preserved
loop-month-preserved c =
    let head = c.loop-month in
    let among : head.month ≤ months = omega (arith, c.loop-month-test.true) in
    let days = c.days_in-days.ensures in
    let large = le_trans (le_of_eq (sym days)) c.if-left-days.false in
    let same = ap (λ (k : ℕ). months_past (from_month (head.month + 1)) (head.left - k)) days in (
      omega (arith, same, in_a_later-month head.month head.left head.auto.month among large, head.invariant.0),
      omega (arith, days, large, left_over head.month head.auto.month among, head.invariant.1),
    )

pub returns : goal.returns
returns c =
    let head = c.loop-month in
    let last : head.month ≡ months = omega (arith, c.loop-month-test.false, head.auto.month-end) in
    omega (arith, last-month head.month head.left last head.invariant.1, head.invariant.0, last)
