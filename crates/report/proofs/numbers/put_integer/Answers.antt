-- `report::numbers::put_integer` meets its contract: a number below zero has its minus in front.
-- Assumes nothing.
use Rattle.report.proofs.Digits.{integer-negative, integer-plain}
use Rattle.put.proofs.Append.{chain, same_bytes}
use Rattle.report.proofs.numbers.put_integer.Goals as goal

pub returns-then-n-lt0 : goal.returns-then-n-lt0
returns-then-n-lt0 c =
    same_bytes _ _ _ _
    (chain _ _ _ _ c.put_byte-next.ensures c.put_decimal.ensures)
    (integer-negative _ _ c.ranges.n c.if-n-lt0.true c.magnitude.ensures)

pub returns : goal.returns
returns c =
    same_bytes _ _ _ _ c.put_decimal-2.ensures (integer-plain _ _ c.ranges.n c.if-n-lt0.false c.magnitude-2.ensures)
