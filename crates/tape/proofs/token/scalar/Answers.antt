-- `tape::token::scalar` meets its contract, by what its code ensures.
-- Assumes nothing.
use Rattle.tape.proofs.token.scalar.Goals as goal

pub returns : goal.returns
returns c = rw c.scalar_number.ensures
