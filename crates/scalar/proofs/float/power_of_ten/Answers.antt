-- `scalar::float::power_of_ten` meets its contract, by the law of the whole table.
-- Assumes nothing.
use Rattle.scalar.proofs.Powers.{power_at}
use Rattle.scalar.proofs.float.power_of_ten.Goals as goal

pub returns : goal.returns
returns c = power_at c.args.k c.requires
