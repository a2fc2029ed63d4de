-- What each turn keeps, and what gets less.
use Rattle.tape.specs.Words.{tokens_in}
use Rattle.alike.proofs.Same.{Beside}
use Rattle.alike.proofs.found_alike.Given as goal

abbrev pub invariant-loop-i : goal.invariant-loop-i
invariant-loop-i l = Beside l.text l.other (tokens_in l.words l.count) l.tape l.found l.i
