-- `answers::answer_block` is safe and ends: each record ends after it begins and within the input. Each answer
-- finds room, since the place for it leaves half of the buffer, and there is room behind it for the line of a bad record.
-- Assumes nothing.
use borrow.Author.Rules.{rules}
use Rattle.answers.proofs.Fits.{next_near}
use Rattle.answers.proofs.answer_block.Goals as goal

pub loop-kind-preserved : goal.loop-kind-preserved
loop-kind-preserved g c = (
  search rules,
  (let near = next_near _ _ _ _ _ _ _ c.in-Some-answer_record.is c.answer_record.ensures in
      search rules),
)
