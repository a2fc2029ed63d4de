-- `report::numbers::put_hex` meets its contract: no more digits are put than there are.
-- Assumes nothing.
use mathlib.Core.Path.{ap}
use Rattle.put.proofs.Append.{same_bytes}
use Rattle.report.specs.Digits.{hex_by, hex}
use Rattle.report.proofs.numbers.put_hex.Goals as goal

pub returns : goal.returns
unfolding hex
returns c = same_bytes _ _ _ _ c.put_hex_by.ensures (ap (λ n. hex_by n c.args.n) c.min.ensures)
