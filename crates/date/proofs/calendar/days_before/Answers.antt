-- `date::calendar::days_before` meets its contract: the loop has the days before the month that it is at.
-- Assumes nothing.
use mathlib.Core.Path.{sym, ◌∙◌, ap}
use Prim.Native.Nat.{◌+◌}
use native.Mathlib.Omega.{arith}
use Rattle.date.specs.Calendar.{days_before}
use Rattle.date.proofs.Months.{before_first, before-next, before_year}
use Rattle.date.proofs.calendar.days_before.Goals as goal

pub loop-m-init : goal.loop-m-init
loop-m-init c = sym before_first

pub overflow_add-days : goal.overflow_add-days
overflow_add-days c =
    let head = c.loop-m in
    omega (arith, head.invariant, c.days_in-days.ensures, before_year head.m)

pub loop-m-preserved : goal.loop-m-preserved
loop-m-preserved c =
    let head = c.loop-m in
    (λ j. head.invariant j + c.days_in-days.ensures j)
    ∙ sym (before-next head.m head.auto.m (omega (arith, c.loop-m-test.true, c.requires.1)))

pub returns : goal.returns
returns c =
    let head = c.loop-m in
    head.invariant ∙ ap days_before (omega (arith, c.loop-m-test.false, head.auto.m-end, c.requires.0))
