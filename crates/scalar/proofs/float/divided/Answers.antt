-- `scalar::float::divided` meets its contract: the total is rounded once, the power is exact, and the sign is a factor.
-- Assumes nothing.
use lib.Ieee.{binary64, mul, div}
use Rattle.scalar.specs.Float.{divided}
use Rattle.scalar.proofs.float.divided.Goals as goal

pub returns : goal.returns
unfolding divided
returns c = λ j. mul binary64 (c.factor.ensures j) (div binary64 (c.nearest_u64_to_f64.ensures j) (c.power_of_ten.ensures j))
