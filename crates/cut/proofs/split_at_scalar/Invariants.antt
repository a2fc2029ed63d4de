-- What each turn keeps.
use mathlib.Core.Path.{◌≡◌}
use lib.ListN.{drop}
use Rattle.cut.specs.Runs.{stop_from, classed}
use Rattle.cut.proofs.split_at_scalar.Given as goal

abbrev pub invariant-loop-i : goal.invariant-loop-i
invariant-loop-i l = stop_from (classed l.classes) l.d 0 ≡ stop_from (classed l.classes) (drop l.i l.d) l.i
