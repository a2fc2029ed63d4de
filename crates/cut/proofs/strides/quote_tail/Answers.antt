-- `cut::strides::quote_tail` meets its contract: the plain cut of what is left, counted from the place on, with the flag as it was.
-- Assumes nothing.
use mathlib.Core.Path.{sym, ◌∙◌, ap}
use native.Mathlib.Omega.{arith}
use lib.ListN.{drop, length-drop}
use Rattle.cut.proofs.Quotes.{quoted-past, quoted-moved, quoted_run-closes, moved}
use Rattle.cut.proofs.Scalars.{quoted-part}
use Rattle.cut.proofs.strides.quote_tail.Goals as goal

pub returns-then-d-at : goal.returns-then-d-at
returns-then-d-at c =
    let a = c.args in
    sym (quoted-past a.d.now a.at a.before (omega (arith, c.if-d-at.true)))

pub overflow_add-result : goal.overflow_add-result
overflow_add-result c =
    let a = c.args in
    let closed = sym (quoted-part a.d.now a.at _ c.parse_quote_scalar.ensures) ∙ c.in_ok-left.was in
    omega (arith, (quoted_run-closes (drop a.at a.d.now) _ _ closed).within, length-drop a.at a.d.now)

pub returns-in_err-left : goal.returns-in_err-left
returns-in_err-left c =
    let a = c.args in
    c.from_residual.ensures
    ∙ sym (quoted-moved _ _ _ ∙ ap (moved a.at a.before) (sym (quoted-part a.d.now a.at _ c.parse_quote_scalar.ensures) ∙ c.in_err-left.was))

pub returns : goal.returns
returns c =
    let a = c.args in
    sym (quoted-moved _ _ _ ∙ ap (moved a.at a.before) (sym (quoted-part a.d.now a.at _ c.parse_quote_scalar.ensures) ∙ c.in_ok-left.was))
