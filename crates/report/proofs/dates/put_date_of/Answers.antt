-- `report::dates::put_date_of` meets its contract: the date of the day, and the line's end.
-- Assumes nothing.
use mathlib.Core.Path.{ap}
use Rattle.put.proofs.Append.{chain, same_bytes}
use Rattle.report.specs.Dates.{told_text, day_line}
use Rattle.report.proofs.dates.put_date_of.Goals as goal

pub returns : goal.returns
unfolding day_line
returns c =
    chain _ _ _ _
    (same_bytes _ _ _ _ c.put_told-next.ensures (ap told_text c.from_days.ensures))
    c.put_byte.ensures
