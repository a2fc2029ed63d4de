-- `answers::date_answer` puts all of the date: it is few bytes.
-- Assumes nothing.
use borrow.Author.Rules.{rules}
use Rattle.answers.proofs.Fits.{date-all}
use Rattle.answers.proofs.date_answer.Goals as goal

pub returns : goal.returns
returns c =
    record { holds = date-all _ _ _ _ c.put_date.ensures (search rules) }
