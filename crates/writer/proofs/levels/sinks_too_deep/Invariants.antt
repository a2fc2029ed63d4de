-- What each turn keeps.
use Prim.Native.Nat.{◌≤◌}
use mathlib.Core.Path.{◌≡◌}
use lib.ListN.{drop}
use Rattle.tape.specs.Words.{tokens_in}
use Rattle.writer.specs.Levels.{most_levels}
use Rattle.writer.specs.Scans.{sinks}
use Rattle.writer.proofs.levels.sinks_too_deep.Given as goal

abbrev pub invariant-loop-i : goal.invariant-loop-i
invariant-loop-i l =
    (sinks (tokens_in l.source.words.now l.source.count) 0 ≡ sinks (drop l.i (tokens_in l.source.words.now l.source.count)) l.level) × (l.level ≤ most_levels)
