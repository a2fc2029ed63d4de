-- `report::dates::put_date` meets its contract: what is read of the bytes, and the line's end.
-- Assumes nothing.
use mathlib.Core.Path.{ap}
use Rattle.put.proofs.Append.{chain, same_bytes}
use Rattle.report.specs.Dates.{date_text, date_line}
use Rattle.report.proofs.dates.put_date.Goals as goal

pub returns : goal.returns
unfolding date_line
returns c =
    chain _ _ _ _
    (same_bytes _ _ _ _ c.put_read-next.ensures (ap date_text c.to_date.ensures))
    c.put_byte.ensures
