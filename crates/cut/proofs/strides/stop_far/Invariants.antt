-- What each turn keeps, and what gets less.
use mathlib.Core.Path.{◌≡◌}
use Prim.Native.Nat.{◌-◌}
use lib.ListN.{length, drop}
use Rattle.data.specs.Classes.{is_boundary}
use Rattle.cut.specs.Marks.{stride}
use Rattle.cut.specs.Runs.{stop_from}
use Rattle.cut.proofs.strides.stop_far.Given as goal

abbrev pub invariant-loop-i : goal.invariant-loop-i
invariant-loop-i l = (l.last ≡ length l.d - stride) × (stop_from is_boundary (drop l.at l.d) l.at ≡ stop_from is_boundary (drop l.i l.d) l.i)

abbrev pub decreases-loop-i : goal.decreases-loop-i
decreases-loop-i l = length l.d - l.i
