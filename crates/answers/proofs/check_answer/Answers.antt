-- `answers::check_answer` puts all of its line: the words that were read are a part of the room, and the line is short.
-- Assumes nothing.
use borrow.Author.Rules.{rules}
use Rattle.answers.proofs.Fits.{verdict-all}
use Rattle.answers.proofs.check_answer.Goals as goal

pub returns : goal.returns
returns c =
    record { holds = verdict-all _ _ _ _ c.put_check.ensures (search rules) }
