-- `report::dates::put_read` meets its contract, by what is read.
-- Assumes nothing.
use mathlib.Core.Path.{sym, ap, ◌∙◌}
use Rattle.std.specs.Result.{result_unwrap_or}
use Rattle.put.proofs.Append.{chain, same_bytes}
use Rattle.report.specs.Dates.{date_text}
use Rattle.report.specs.Digits.{decimal}
use Rattle.report.specs.Dump.{field}
use Rattle.report.proofs.dates.put_read.Goals as goal

pub returns-in-Ok : goal.returns-in-Ok
returns-in-Ok c =
    let days = c.unwrap_or.ensures ∙ ap (λ r. result_unwrap_or r 0) c.to_days.ensures in
    same_bytes _ _ _ _
    (chain _ _ _ _
    (chain _ _ _ _ c.put_year_month_day-day.ensures c.put_field-hour.ensures)
    (same_bytes _ _ _ _ c.put_field.ensures (ap field days)))
    (sym (ap date_text c.in-Ok.is))

pub returns-in-Err : goal.returns-in-Err
returns-in-Err c = same_bytes _ _ _ _ c.put_decimal.ensures (ap decimal c.number.ensures ∙ sym (ap date_text c.in-Err.is))
