-- `cut::run_end` meets its contract: the run of the later part, which ends within the text, so that the sum fits.
-- Assumes nothing.
use mathlib.Core.Path.{sym}
use native.Mathlib.Omega.{arith}
use borrow.Author.Rules.{rules}
use Rattle.cut.proofs.Runs.{unquoted-part, run_end-within, run_end-past}
use Rattle.cut.proofs.run_end.Goals as goal

pub overflow_add-result : goal.overflow_add-result
overflow_add-result c =
    let a = c.args in
    omega (
      arith,
      unquoted-part a.text.now a.at c.split_unguessed.result c.split_unguessed.ensures,
      run_end-within a.text.now a.at (search rules),
    )

pub returns-then-at-text : goal.returns-then-at-text
returns-then-at-text c = unquoted-part _ _ _ c.split_unguessed.ensures

pub returns-else-at-text : goal.returns-else-at-text
returns-else-at-text c = sym (run_end-past _ _ c.if-at-text.false)
