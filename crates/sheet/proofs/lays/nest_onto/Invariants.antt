-- What each turn keeps, and what gets less.
use lib.ListN.{length}
use Rattle.packed.specs.Packed.{words_packed}
use Rattle.tape.specs.Words.{tokens_in}
use Rattle.sheet.proofs.Chaining.{Running}
use Rattle.sheet.proofs.lays.nest_onto.Given as goal

abbrev pub invariant-loop-i : goal.invariant-loop-i
invariant-loop-i l = Running (tokens_in (words_packed l.bytes) l.count) (length l.initial.words) l.count l.words l.i l.inner
