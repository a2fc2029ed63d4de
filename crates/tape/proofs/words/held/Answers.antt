-- `tape::words::held` meets its contract: as many tokens as are asked for, or as the words have room for.
-- Assumes nothing.
use native.Mathlib.Omega.{arith}
use Rattle.tape.proofs.Views.{tokens-length}
use Rattle.tape.proofs.words.held.Goals as goal

pub returns : goal.returns
returns c = omega (arith, tokens-length c.args.words.now c.args.count)
