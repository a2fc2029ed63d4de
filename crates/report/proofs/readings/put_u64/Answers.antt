-- `report::readings::put_u64` meets its contract, by what the reading answers.
-- Assumes nothing.
use Rattle.report.specs.Digits.{decimal}
use Rattle.report.specs.Readings.{u64_text}
use Rattle.put.proofs.Append.{same_bytes}
use mathlib.Core.Path.{sym, ap, ◌∙◌}
use Rattle.report.proofs.readings.put_u64.Goals as goal

pub returns-in-Ok : goal.returns-in-Ok
returns-in-Ok c =
    same_bytes _ _ _ _ c.put_value.ensures (sym (ap u64_text c.in-Ok.is))

pub returns-in-Err : goal.returns-in-Err
returns-in-Err c = same_bytes _ _ _ _ c.put_decimal.ensures (ap decimal c.number.ensures ∙ sym (ap u64_text c.in-Err.is))
