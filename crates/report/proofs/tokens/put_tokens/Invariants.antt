-- The lines that are left, put from where the buffer is, give what all of them give.
use mathlib.Core.Path.{◌≡◌}
use lib.ListN.{drop}
use Rattle.tape.specs.Words.{tokens_in}
use Rattle.put.specs.Append.{append}
use Rattle.report.specs.Dump.{lines_from}
use Rattle.report.proofs.tokens.put_tokens.Given as goal

abbrev pub invariant-loop-i : goal.invariant-loop-i
invariant-loop-i l =
    append l.out l.next (lines_from l.i (drop l.i (tokens_in l.tape l.count))) ≡ append l.initial.out l.at (lines_from 0 (tokens_in l.tape l.count))
