-- `report::readings::put_leading` meets its contract: its parts one behind the other.
-- Assumes nothing.
use mathlib.Core.Path.{ap}
use lib.ListN.{length}
use Rattle.put.proofs.Append.{chain, same_bytes}
use Rattle.report.specs.Readings.{i64_text, left_text, leading_of}
use Rattle.report.proofs.readings.put_leading.Goals as goal

pub returns : goal.returns
unfolding leading_of
returns c =
    let read = c.to_i64_t-read.ensures in
    let left = ap length c.to_i64_rest.ensures.bytes in
    chain _ _ _ _
    (chain _ _ _ _
    (same_bytes _ _ _ _ c.put_i64-number.ensures (ap i64_text read))
    (same_bytes _ _ _ _ c.put_left-next.ensures (λ j. left_text (read j) (left j))))
    c.put_byte.ensures
