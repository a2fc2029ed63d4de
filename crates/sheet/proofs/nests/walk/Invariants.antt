-- What each turn keeps, and what gets less.
use Prim.Native.Nat.{◌-◌}
use Rattle.packed.specs.Source.{tokens}
use Rattle.sheet.proofs.Nesting.{Come}
use Rattle.sheet.proofs.nests.walk.Given as goal

abbrev pub invariant-loop-at : goal.invariant-loop-at
invariant-loop-at l = Come (tokens l.source) l.i l.end l.at

abbrev pub decreases-loop-at : goal.decreases-loop-at
decreases-loop-at l = l.end - l.at
