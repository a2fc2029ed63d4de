-- `report::readings::put_left` meets its contract, by what the reading answers.
-- Assumes nothing.
use mathlib.Core.Path.{sym, ap}
use Rattle.put.proofs.Append.{chain, same_bytes, put-empty}
use Rattle.report.specs.Readings.{left_text}
use Rattle.report.proofs.readings.put_left.Goals as goal

pub returns-in-Ok : goal.returns-in-Ok
returns-in-Ok c =
    let left = c.args.left in
    same_bytes _ _ _ _
    (chain _ _ _ _ c.put_byte-next.ensures c.put_decimal.ensures)
    (sym (ap (λ r. left_text r left) c.in-Ok.is))

pub returns-in-Err : goal.returns-in-Err
returns-in-Err c =
    let left = c.args.left in
    same_bytes _ _ _ _ (put-empty _ _) (sym (ap (λ r. left_text r left) c.in-Err.is))
