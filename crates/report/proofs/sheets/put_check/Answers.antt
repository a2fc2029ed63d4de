-- `report::sheets::put_check` meets its contract, by what the check decides.
-- Assumes nothing.
use mathlib.Core.Bool.{true, false}
use Rattle.report.proofs.Hexes.{judged_as}
use Rattle.report.proofs.sheets.put_check.Goals as goal

pub returns-then-check : goal.returns-then-check
returns-then-check c =
    judged_as _ _ true c.check.ensures c.if-check.true c.put_bytes.ensures

pub returns : goal.returns
returns c =
    judged_as _ _ false c.check.ensures c.if-check.false c.put_bytes-2.ensures
