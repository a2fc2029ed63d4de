-- What each turn keeps, and what gets less.
use Rattle.packed.specs.Source.{tokens}
use Rattle.sheet.proofs.Nesting.{NestedFrom}
use Rattle.sheet.proofs.nests.nest.Given as goal

abbrev pub invariant-loop-i : goal.invariant-loop-i
invariant-loop-i l = NestedFrom (tokens l.source) l.i
