-- What each turn keeps.
use mathlib.Core.Path.{◌≡◌}
use Prim.Native.Nat.{◌+◌, ◌<◌}
use Rattle.date.specs.Calendar.{together, months_past, month_at}
use Rattle.date.proofs.Months.{from_month}
use Rattle.date.proofs.calendar.month_of.Given as goal

abbrev pub invariant-loop-month : goal.invariant-loop-month
invariant-loop-month l =
    (months_past (from_month l.month) l.left + l.month ≡ month_at l.day)
    × (l.left < together (from_month l.month))
