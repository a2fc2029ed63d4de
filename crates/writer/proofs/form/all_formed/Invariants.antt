-- What each turn keeps.
use mathlib.Core.Path.{◌≡◌}
use mathlib.Core.Bool.{true}
use Prim.Native.Nat.{◌≤◌}
use Rattle.tape.specs.Words.{tokens_in}
use Rattle.writer.specs.declared.dues.Due.TheVariants.{Key}
use Rattle.writer.specs.Forest.{stretch}
use Rattle.writer.specs.Ranges.{body_form}
use Rattle.writer.proofs.Forms.{Insides}
use Rattle.writer.proofs.form.all_formed.Given as goal

abbrev pub invariant-loop-i : goal.invariant-loop-i
invariant-loop-i l = Insides (tokens_in l.source.words.now l.source.count) 0 l.i × (body_form (stretch (tokens_in l.source.words.now l.source.count) 0 l.source.count) Key ≡ true) × (l.i ≤ l.source.count)
