-- `answers::readings_answer` puts all of the readings: they are few bytes.
-- Assumes nothing.
use borrow.Author.Rules.{rules}
use Rattle.answers.proofs.Fits.{readings-all}
use Rattle.answers.proofs.readings_answer.Goals as goal

pub returns : goal.returns
returns c =
    record { holds = readings-all _ _ _ _ c.put_readings.ensures (search rules) }
