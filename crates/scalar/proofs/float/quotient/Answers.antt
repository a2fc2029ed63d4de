-- `scalar::float::quotient` meets its contract.
-- Assumes nothing.
use Rattle.std.proofs.Common.{sym, ap, ◌∙◌}
use Rattle.std.specs.Prelude.{Ok}
use Rattle.scalar.proofs.Floats.{quotient-past, quotient_is}
use Rattle.scalar.proofs.float.quotient.Goals as goal

pub returns-then-places-gt-MOST_PLACES : goal.returns-then-places-gt-MOST_PLACES
returns-then-places-gt-MOST_PLACES c = sym (quotient-past _ _ _ c.if-places-gt-MOST_PLACES.true)

pub returns : goal.returns
returns c = ap Ok c.divided.ensures ∙ sym (quotient_is _ _ _ c.if-places-gt-MOST_PLACES.false)
