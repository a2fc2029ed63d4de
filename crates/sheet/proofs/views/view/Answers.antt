-- `sheet::views::view` meets its contract: the part that the answer names lies in the text.
-- Assumes nothing.
use mathlib.Core.Path.{sym, ◌∙◌}
use native.Mathlib.Omega.{arith}
use Rattle.sheet.proofs.Parts.{viewed_within}
use Rattle.sheet.proofs.views.view.Goals as goal

pub overflow_add-end : goal.overflow_add-end
overflow_add-end c =
    let h = viewed_within _ _ _ _ (sym c.view_of.ensures ∙ c.in-Some.is) in
    omega arith

pub slice_bounds-result-end : goal.slice_bounds-result-end
slice_bounds-result-end c =
    let h = viewed_within _ _ _ _ (sym c.view_of.ensures ∙ c.in-Some.is) in
    omega arith
