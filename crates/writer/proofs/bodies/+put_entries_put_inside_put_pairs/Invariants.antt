-- What is left of a body makes all of its text. What gets less is twice the tokens that are left, and for a token that opens a container
-- one more than for what stands in it.
use Rattle.std.proofs.Common.{true, ◌-◌}
use Rattle.tape.specs.Words.{tokens_in}
use Rattle.writer.specs.declared.dues.Due.TheVariants.{Entry, Key}
use Rattle.writer.specs.Forest.{stretch}
use Rattle.writer.specs.Text.{body_text}
use Rattle.writer.proofs.Putting.{left_in, span, Putting}
use Rattle.writer.proofs.bodies.+put_entries_put_inside_put_pairs.Given as goal

abbrev pub decreases-put_entries : goal.decreases-put_entries
decreases-put_entries l = left_in l.from l.end

abbrev pub decreases-put_inside : goal.decreases-put_inside
decreases-put_inside l = span l.piece l.from

abbrev pub decreases-put_pairs : goal.decreases-put_pairs
decreases-put_pairs l = left_in l.from l.end

abbrev pub invariant-put_entries-loop-i : goal.invariant-put_entries-loop-i
invariant-put_entries-loop-i l =
    Putting (tokens_in l.source.words.now l.source.count) l.source.text.now l.initial.out l.at l.from l.end
    (body_text (stretch (tokens_in l.source.words.now l.source.count) l.from l.end) l.source.text.now l.alone Entry) l.out l.i l.next l.first Entry

abbrev pub decreases-put_entries-loop-i : goal.decreases-put_entries-loop-i
decreases-put_entries-loop-i l = l.end - l.i

abbrev pub invariant-put_pairs-loop-i : goal.invariant-put_pairs-loop-i
invariant-put_pairs-loop-i l =
    Putting (tokens_in l.source.words.now l.source.count) l.source.text.now l.initial.out l.at l.from l.end
    (body_text (stretch (tokens_in l.source.words.now l.source.count) l.from l.end) l.source.text.now true Key) l.out l.i l.next l.first l.due

abbrev pub decreases-put_pairs-loop-i : goal.decreases-put_pairs-loop-i
decreases-put_pairs-loop-i l = l.end - l.i
