-- What each turn keeps.
use Prim.Native.Nat.{◌+◌, ◌≤◌}
use mathlib.Core.Path.{◌≡◌}
use lib.ListN.{length, drop}
use Rattle.tape.specs.Words.{tokens_in}
use Rattle.parse.specs.Parse.{text_limit}
use Rattle.writer.specs.Scans.{text_size}
use Rattle.writer.specs.Write.{text_of}
use Rattle.writer.proofs.measure.measure.Given as goal

abbrev pub invariant-loop-i : goal.invariant-loop-i
invariant-loop-i l =
    (l.total + text_size l.source.text.now (drop l.i (tokens_in l.source.words.now l.source.count)) l.first ≡ length (text_of l.source.text.now (tokens_in l.source.words.now l.source.count))) × (l.total ≤ text_limit)
