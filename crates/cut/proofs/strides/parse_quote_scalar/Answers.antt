-- `cut::strides::parse_quote_scalar` meets its contract: what it answers at once is the run of one byte.
-- Assumes nothing.
use mathlib.Core.Path.{sym, ◌∙◌}
use Rattle.cut.proofs.Quotes.{soon_run}
use Rattle.cut.proofs.strides.parse_quote_scalar.Goals as goal

pub returns-then-closes_soon : goal.returns-then-closes_soon
returns-then-closes_soon c = sym (soon_run _ (sym c.closes_soon.ensures ∙ c.if-closes_soon.true))
