-- `cut::strides::run_to` meets its contract: the run is where the scan stops, and one byte where it stops at once.
-- Assumes nothing.
use mathlib.Core.Path.{sym, ◌∙◌}
use native.Mathlib.Omega.{arith}
use Rattle.data.specs.Classes.{is_boundary}
use Rattle.cut.specs.Runs.{unquoted_run}
use Rattle.cut.proofs.Runs.{run_none, run_stop, run-at-once}
use Rattle.cut.proofs.strides.run_to.Goals as goal

pub returns-then-n-ne0 : goal.returns-then-n-ne0
unfolding unquoted_run
returns-then-n-ne0 c = sym (run_stop is_boundary _ _ (sym c.requires) c.if-n-ne0.true)

pub returns-then-d-eq0 : goal.returns-then-d-eq0
unfolding unquoted_run
returns-then-d-eq0 c = sym (run_none is_boundary _ c.if-d-eq0.true)

pub returns-else-d-eq0 : goal.returns-else-d-eq0
unfolding unquoted_run
returns-else-d-eq0 c = sym (run-at-once is_boundary _ (omega (arith, c.if-d-eq0.false)) (sym c.requires ∙ c.if-n-ne0.false))
