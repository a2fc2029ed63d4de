-- `scalar::digits::carried` meets its contract: a digit is at least `0`.
-- Assumes nothing.
use Rattle.scalar.proofs.Runs.{digit_bounds}
use Rattle.scalar.proofs.digits.carried.Goals as goal

pub overflow_sub-b : goal.overflow_sub-b
overflow_sub-b c = (digit_bounds c.args.b c.requires).0
