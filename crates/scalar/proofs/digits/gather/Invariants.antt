-- What each turn keeps: what is left at i, carried on from the total, gives what was asked for.
use Rattle.std.proofs.Common.{◌≡◌, ◌+◌, ◌%◌, ◌^◌, ◌<◌, length, drop}
use Rattle.scalar.specs.Digits.{digit_run, value}
use Rattle.scalar.proofs.digits.gather.Given as goal

abbrev pub invariant-loop-i : goal.invariant-loop-i
invariant-loop-i l =
    (value l.total (digit_run (drop l.i l.d)) % 2 ^ 64 ≡ value l.start (digit_run (drop l.at l.d)) % 2 ^ 64)
    × (l.i + length (digit_run (drop l.i l.d)) ≡ l.at + length (digit_run (drop l.at l.d)))
    × (l.total < 2 ^ 64)
