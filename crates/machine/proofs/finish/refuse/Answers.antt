-- `machine::finish::refuse` meets its contract: clearing from the front leaves zeros.
-- Assumes nothing.
use Rattle.tape.proofs.Clearing.{cleared-whole}
use Rattle.machine.proofs.finish.refuse.Goals as goal

pub returns : goal.returns
returns c = rw (c.clear_from.ensures, cleared-whole c.args.tape.now)
