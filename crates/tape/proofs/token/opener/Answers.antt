-- `tape::token::opener` meets its contract, by what its two parts ensure.
-- Assumes nothing.
use Rattle.tape.proofs.token.opener.Goals as goal

pub returns : goal.returns
returns c = rw (c.container_number.ensures, c.flag_number.ensures)
