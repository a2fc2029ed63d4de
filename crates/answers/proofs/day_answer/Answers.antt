-- `answers::day_answer` puts all of the date: it is few bytes.
-- Assumes nothing.
use borrow.Author.Rules.{rules}
use Rattle.answers.proofs.Fits.{day-all}
use Rattle.answers.proofs.day_answer.Goals as goal

pub returns : goal.returns
returns c =
    record { holds = day-all _ _ _ _ _ c.word_at.ensures c.if-asked-ne-WORD.false c.put_date_of.ensures (search rules) }
