-- `date::calendar::to_days` meets its contract: of a date in range every part is.
-- Assumes nothing.
use mathlib.Core.Path.{sym, ◌∙◌}
use native.Mathlib.Omega.{arith}
use Rattle.date.proofs.Ranges.{ranged-is}
use Rattle.date.proofs.calendar.to_days.Goals as goal

pub overflow_sub-years : goal.overflow_sub-years
overflow_sub-years c = (ranged-is _ (sym c.in_range.ensures ∙ c.if-not-in_range.false)).year.0

pub overflow_mul-years : goal.overflow_mul-years
overflow_mul-years c = omega (arith, (ranged-is _ (sym c.in_range.ensures ∙ c.if-not-in_range.false)).year)

pub days_before-months-requires : goal.days_before-months-requires
days_before-months-requires c = (ranged-is _ (sym c.in_range.ensures ∙ c.if-not-in_range.false)).month
