-- What each turn keeps, and what gets less.
use Prim.Native.Nat.{◌-◌}
use mathlib.Core.Path.{◌≡◌}
use Rattle.tape.specs.Words.{tokens_in}
use Rattle.writer.specs.Forest.{stretch}
use Rattle.writer.specs.Ranges.{Range, body_form}
use Rattle.writer.proofs.form.body_formed.Given as goal

abbrev pub invariant-loop-i : goal.invariant-loop-i
invariant-loop-i l =
    Range (tokens_in l.source.words.now l.source.count) l.i l.end
    × (body_form (stretch (tokens_in l.source.words.now l.source.count) l.from l.end) l.initial.due ≡ body_form (stretch (tokens_in l.source.words.now l.source.count) l.i l.end) l.due)

abbrev pub decreases-loop-i : goal.decreases-loop-i
decreases-loop-i l = l.end - l.i
