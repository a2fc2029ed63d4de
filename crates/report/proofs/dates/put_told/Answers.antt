-- `report::dates::put_told` meets its contract, by whether there is a date.
-- Assumes nothing.
use mathlib.Core.Path.{sym, ap}
use Rattle.put.proofs.Append.{same_bytes}
use Rattle.report.specs.Dates.{told_text}
use Rattle.report.proofs.dates.put_told.Goals as goal

pub returns-in-Ok : goal.returns-in-Ok
returns-in-Ok c =
    same_bytes _ _ _ _ c.put_year_month_day.ensures (sym (ap told_text c.in-Ok.is))

pub returns-in-Err : goal.returns-in-Err
returns-in-Err c =
    same_bytes _ _ _ _ c.put_refusal.ensures (sym (ap told_text c.in-Err.is))
