-- `report::dates::put_refusal` meets its contract.
-- Assumes nothing.
use mathlib.Core.Path.{ap}
use Rattle.put.proofs.Append.{same_bytes}
use Rattle.report.specs.Dump.{refusal}
use Rattle.report.proofs.dates.put_refusal.Goals as goal

pub returns : goal.returns
returns c =
    same_bytes _ _ _ _ c.put_refusal.ensures (ap refusal c.number.ensures)
