-- `report::readings::put_exact` meets its contract: its parts one behind the other.
-- Assumes nothing.
use Rattle.report.specs.Readings.{bool_text, u64_text, i64_text, exact_of}
use mathlib.Core.Path.{ap}
use Rattle.put.proofs.Append.{chain, same_bytes}
use Rattle.report.proofs.readings.put_exact.Goals as goal

pub returns : goal.returns
unfolding exact_of
returns c =
    chain _ _ _ _
    (chain _ _ _ _
    (chain _ _ _ _
    (chain _ _ _ _ (same_bytes _ _ _ _ c.put_bool-truth.ensures (ap bool_text c.to_bool.ensures)) c.put_byte-first.ensures)
    (same_bytes _ _ _ _ c.put_u64-unsigned.ensures (ap u64_text c.to_u64.ensures))) c.put_byte-second.ensures)
    (same_bytes _ _ _ _ c.put_i64.ensures (ap i64_text c.to_i64.ensures))
