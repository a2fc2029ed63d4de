-- `tape::token::stores_flag` meets its contract, by what its two parts ensure.
-- Assumes nothing.
use Rattle.tape.proofs.token.stores_flag.Goals as goal

pub returns : goal.returns
returns c = rw (c.flag_number.ensures, c.flag_told.ensures)
