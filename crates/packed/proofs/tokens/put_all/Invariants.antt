-- What each turn keeps.
use mathlib.Core.Path.{◌≡◌}
use lib.ListN.{length, take}
use lib.Seq.{sets}
use Rattle.tape.specs.Words.{tokens_in}
use Rattle.packed.specs.Packed.{packed}
use Rattle.packed.proofs.tokens.put_all.Given as goal

abbrev pub invariant-loop-i : goal.invariant-loop-i
invariant-loop-i l =
    (length l.out ≡ length l.initial.out) × (l.out ≡ sets l.initial.out l.at (packed (take l.i (tokens_in l.words l.count))))
