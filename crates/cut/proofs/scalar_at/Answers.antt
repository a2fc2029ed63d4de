-- `cut::scalar_at` meets its contract: one law for each way that the first byte leads.
-- Assumes nothing.
use mathlib.Core.Path.{sym, ◌∙◌, ap}
use Rattle.data.specs.Classes.{is_boundary}
use Rattle.cut.specs.Runs.{run_end}
use Rattle.cut.specs.Scalars.{unquoted, scalar_cut}
use Rattle.cut.proofs.Scalars.{opens-within, cut-past, cut-quoted, cut_variable, cut-run}
use Rattle.cut.proofs.scalar_at.Goals as goal

pub returns-then-at-text : goal.returns-then-at-text
unfolding scalar_cut
returns-then-at-text c = sym (cut-past is_boundary _ _ c.if-at-text.true)

pub returns-then-text-at-eq34 : goal.returns-then-text-at-eq34
unfolding scalar_cut
returns-then-text-at-eq34 c = c.quoted_at.ensures ∙ sym (cut-quoted is_boundary _ _ c.if-at-text.false c.if-text-at-eq34.true)

pub variable_at-requires : goal.variable_at-requires
variable_at-requires c = opens-within _ _ (sym c.opens_variable.ensures ∙ c.if-opens_variable.true)

pub returns-then-opens_variable : goal.returns-then-opens_variable
unfolding scalar_cut
returns-then-opens_variable c =
    c.variable_at.ensures
    ∙ sym
    (cut_variable is_boundary _ _ c.if-at-text.false c.if-text-at-eq34.false
    (sym c.opens_variable.ensures ∙ c.if-opens_variable.true))

pub returns : goal.returns
unfolding scalar_cut run_end
returns c =
    ap (unquoted _) c.run_end-end.ensures
    ∙ sym
    (cut-run is_boundary _ _ c.if-at-text.false c.if-text-at-eq34.false
    (sym c.opens_variable.ensures ∙ c.if-opens_variable.false))
