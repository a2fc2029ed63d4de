-- `cut::quoted_at` meets its contract: what the run of the later part says, said of the text; a closed run ends within the text, so that the sums fit.
-- Assumes nothing.
use mathlib.Core.Path.{sym, ◌∙◌, ap}
use native.Mathlib.Omega.{arith}
use Rattle.cut.specs.Scalars.{quoted}
use Rattle.cut.proofs.Scalars.{quoted-part, quoted-part-closes}
use Rattle.cut.proofs.quoted_at.Goals as goal

pub overflow_add-end : goal.overflow_add-end
overflow_add-end c =
    let a = c.args in
    let closed = sym (quoted-part a.text.now a.start _ c.quote_unguessed.ensures) ∙ c.in_ok-run.was in
    omega (arith, quoted-part-closes a.text.now a.start _ _ c.requires closed)

pub overflow_add-rest : goal.overflow_add-rest
overflow_add-rest c =
    let a = c.args in
    let closed = sym (quoted-part a.text.now a.start _ c.quote_unguessed.ensures) ∙ c.in_ok-run.was in
    omega (arith, quoted-part-closes a.text.now a.start _ _ c.requires closed)

pub returns-in_err-run : goal.returns-in_err-run
returns-in_err-run c =
    let a = c.args in
    c.from_residual.ensures ∙ sym (ap (quoted a.start) (sym (quoted-part a.text.now a.start _ c.quote_unguessed.ensures) ∙ c.in_err-run.was))

pub returns : goal.returns
returns c =
    let a = c.args in
    sym (ap (quoted a.start) (sym (quoted-part a.text.now a.start _ c.quote_unguessed.ensures) ∙ c.in_ok-run.was))
