-- `cut::parse_quote_scalar` meets its contract: the invariant says what is left, that the run of the whole part is the run from `i` on, with
-- the flag as it stands.
-- Assumes nothing.
use mathlib.Core.Path.{refl, sym, ◌∙◌}
use Rattle.cut.specs.Quotes.{quoted_run}
use Rattle.cut.proofs.Quotes.{quoted-past, quoted-closes, quoted_escapes, quoted-goes_on}
use Rattle.cut.proofs.parse_quote_scalar.Goals as goal

pub loop-i-init : goal.loop-i-init
unfolding quoted_run
loop-i-init c = refl

pub returns-then-b-eq34 : goal.returns-then-b-eq34
returns-then-b-eq34 c = sym (c.loop-i.invariant ∙ quoted-closes _ _ _ c.loop-i-test.true c.if-b-eq34.true)

pub loop-i-preserved-then-b-eq92 : goal.loop-i-preserved-then-b-eq92
loop-i-preserved-then-b-eq92 c = c.loop-i.invariant ∙ quoted_escapes _ _ _ c.loop-i-test.true c.if-b-eq92.true

pub loop-i-preserved : goal.loop-i-preserved
loop-i-preserved c =
    c.loop-i.invariant ∙ quoted-goes_on _ _ _ c.loop-i-test.true c.if-b-eq34.false c.if-b-eq92.false

pub returns : goal.returns
returns c = sym (c.loop-i.invariant ∙ quoted-past _ _ _ c.loop-i-test.false)
