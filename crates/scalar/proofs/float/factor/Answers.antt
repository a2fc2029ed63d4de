-- `scalar::float::factor` meets its contract: the bits of 1.0 and -1.0 are one and minus one.
-- Assumes nothing.
use Rattle.std.proofs.Common.{sym, ap, ◌∙◌}
use Rattle.scalar.specs.Float.{factor}
use Rattle.scalar.proofs.Powers.{one-is, minus_one_is}
use Rattle.scalar.proofs.float.factor.Goals as goal

pub returns-then-negative : goal.returns-then-negative
returns-then-negative c = minus_one_is ∙ ap factor (sym c.if-negative.true)

pub returns-else-negative : goal.returns-else-negative
returns-else-negative c = one-is ∙ ap factor (sym c.if-negative.false)
