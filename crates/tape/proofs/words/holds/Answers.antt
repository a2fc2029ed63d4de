-- `tape::words::holds` meets its contract: a third of the words, rounded down, says it without a product.
-- Assumes nothing.
use Rattle.tape.proofs.Views.{held}
use Rattle.tape.proofs.words.holds.Goals as goal

pub returns : goal.returns
returns c = held c.args.count c.args.words.now
