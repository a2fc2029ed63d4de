-- `report::tokens::put_header` meets its contract: its parts one behind the other.
-- Assumes nothing.
use Rattle.report.specs.Dump.{header_of}
use Rattle.report.specs.Digits.{decimal}
use mathlib.Core.Path.{ap}
use Rattle.put.proofs.Append.{chain, same_bytes}
use Rattle.report.proofs.tokens.put_header.Goals as goal

pub returns : goal.returns
unfolding header_of
returns c =
    chain _ _ _ _
    (chain _ _ _ _
    (chain _ _ _ _
    (chain _ _ _ _ c.put_bytes-tokens.ensures c.put_decimal-counted.ensures)
    c.put_bytes-mark.ensures)
    (same_bytes _ _ _ _ c.put_decimal-told.ensures (ap decimal c.from.ensures)))
    c.put_byte.ensures
