-- `cut::variable_at` meets its contract: the bracket of the later part, said of the text.
-- Assumes nothing.
use mathlib.Core.Path.{sym}
use Prim.Native.Nat.{◌+◌}
use native.Mathlib.Omega.{arith}
use lib.ListN.{drop, length-drop}
use Rattle.cut.proofs.Scalars.{bracket-part, bracket-within, variable_closed, variable_open}
use Rattle.cut.proofs.variable_at.Goals as goal

pub overflow_add-last : goal.overflow_add-last
overflow_add-last c =
    let a = c.args in
    let text = a.text.now in
    omega (
      arith,
      bracket-part text (a.at + 2) c.parse_variable.result c.parse_variable.ensures,
      bracket-within (drop (a.at + 2) text),
      length-drop (a.at + 2) text,
    )

pub returns-then-last-text : goal.returns-then-last-text
returns-then-last-text c =
    let a = c.args in
    sym (variable_closed _ _ _ (bracket-part a.text.now (a.at + 2) _ c.parse_variable.ensures) c.if-last-text.true)

pub returns-else-last-text : goal.returns-else-last-text
returns-else-last-text c =
    let a = c.args in
    sym (variable_open _ _ _ (bracket-part a.text.now (a.at + 2) _ c.parse_variable.ensures) c.if-last-text.false)
