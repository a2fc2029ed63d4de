-- `answers::sheet_answer` puts all of its lines: what is lent is a part of the array, and a body has few tokens.
-- Assumes nothing.
use mathlib.Core.Path.{◌∙◌}
use native.Mathlib.Omega.{arith}
use lib.Seq.{length-take-le}
use Rattle.answers.proofs.Fits.{found_all}
use Rattle.answers.proofs.sheet_answer.Goals as goal

pub returns : goal.returns
returns c =
    let put = c.put_found.ensures in
    let lent = length-take-le _ _ (omega (arith, c.min-room.ensures)) ∙ c.min-room.ensures in
    record { holds = found_all _ _ _ _ _ c.put_found.new.words put.lines put.held lent c.requires.1 c.requires.0 }
