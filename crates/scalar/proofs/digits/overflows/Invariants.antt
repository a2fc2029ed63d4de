-- What each turn keeps.
use Rattle.std.proofs.Common.{◌≡◌, ◌^◌, ◌<◌, drop}
use Rattle.scalar.specs.Digits.{digit_run, value}
use Rattle.scalar.proofs.digits.overflows.Given as goal

abbrev pub invariant-loop-i : goal.invariant-loop-i
invariant-loop-i l = (value l.total (digit_run (drop l.i l.d)) ≡ value l.start (digit_run (drop l.at l.d))) × (l.total < 2 ^ 64)
