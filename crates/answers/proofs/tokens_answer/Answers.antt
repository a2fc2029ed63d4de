-- `answers::tokens_answer` puts all of the dump: the room lies within the words, and holds no more tokens than the buffer's half does lines.
-- Assumes nothing.
use mathlib.Core.Path.{ap, ◌∙◌}
use native.Mathlib.Omega.{arith}
use lib.Seq.{length-take-le}
use borrow.Author.Rules.{rules}
use Rattle.tape.specs.Words.{words_for}
use Rattle.answers.proofs.Fits.{dump-all}
use Rattle.answers.proofs.tokens_answer.Goals as goal

pub returns : goal.returns
returns c =
    let put = c.put_dump.ensures in
    record {
      holds = dump-all _ _ _ _ _ put.lines put.held (length-take-le _ _ (omega arith) ∙ ap words_for c.min-room.ensures) (search rules);
    }
