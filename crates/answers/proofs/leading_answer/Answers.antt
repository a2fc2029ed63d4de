-- `answers::leading_answer` puts all of the number and of what is left over: they are few bytes.
-- Assumes nothing.
use borrow.Author.Rules.{rules}
use Rattle.answers.proofs.Fits.{leading-all}
use Rattle.answers.proofs.leading_answer.Goals as goal

pub returns : goal.returns
returns c =
    record { holds = leading-all _ _ _ _ c.put_leading.ensures (search rules) (search rules) }
