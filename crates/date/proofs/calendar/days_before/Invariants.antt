-- What each turn keeps.
use mathlib.Core.Path.{◌≡◌}
use Rattle.date.specs.Calendar.{days_before}
use Rattle.date.proofs.calendar.days_before.Given as goal

abbrev pub invariant-loop-m : goal.invariant-loop-m
invariant-loop-m l = (l.days ≡ days_before l.m)
