-- `cut::opens_variable` meets its contract: the two bytes of `@[`, one law for each way out.
-- Assumes nothing.
use mathlib.Core.Path.{sym, ◌∙◌}
use borrow.Author.Tests.{le-ltb}
use Rattle.cut.proofs.Scalars.{opens_not, opens-next, opens-past}
use Rattle.cut.proofs.opens_variable.Goals as goal

pub returns-then-text-at-ne64 : goal.returns-then-text-at-ne64
returns-then-text-at-ne64 c = sym (opens_not _ _ c.if-text-at-ne64.true)

pub returns-then-next-text : goal.returns-then-next-text
returns-then-next-text c = sym (opens-next _ _ c.if-text-at-ne64.false)

pub returns-else-next-text : goal.returns-else-next-text
returns-else-next-text c = le-ltb _ _ c.if-next-text.false ∙ sym (opens-past _ _ c.if-next-text.false)
