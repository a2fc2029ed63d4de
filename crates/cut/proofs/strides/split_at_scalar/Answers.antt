-- `cut::strides::split_at_scalar` meets its contract: a byte before a boundary byte is a run, whatever it is.
-- Assumes nothing.
use mathlib.Core.Path.{sym, ◌∙◌}
use native.Mathlib.Omega.{arith}
use Rattle.data.specs.Classes.{is_boundary}
use Rattle.cut.specs.Runs.{unquoted_run}
use Rattle.cut.proofs.Runs.{run_second}
use Rattle.cut.proofs.strides.split_at_scalar.Goals as goal

pub returns-then-is_boundary : goal.returns-then-is_boundary
unfolding unquoted_run
returns-then-is_boundary c = sym (run_second is_boundary _ (omega arith) (sym c.is_boundary.ensures ∙ c.if-is_boundary.true))
