-- `report::readings::put_f64` meets its contract, by what the reading answers.
-- Assumes nothing.
use Rattle.report.specs.Readings.{f64_text}
use Rattle.put.proofs.Append.{chain, same_bytes}
use Rattle.report.specs.Digits.{decimal, hex}
use mathlib.Core.Path.{sym, ap}
use Rattle.report.proofs.readings.put_f64.Goals as goal

pub returns-in-Ok : goal.returns-in-Ok
returns-in-Ok c =
    same_bytes _ _ _ _
    (chain _ _ _ _
    c.put_byte-next.ensures (same_bytes _ _ _ _ c.put_hex.ensures (ap (hex 16) c.pattern.ensures)))
    (sym (ap f64_text c.in-Ok.is))

pub returns-in-Err : goal.returns-in-Err
returns-in-Err c =
    same_bytes _ _ _ _
    (chain _ _ _ _ (same_bytes _ _ _ _ c.put_decimal-number.ensures (ap decimal c.number.ensures)) c.put_carried.ensures)
    (sym (ap f64_text c.in-Err.is))
