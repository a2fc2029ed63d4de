-- `report::sheets::put_view` meets its contract, by where the view lies.
-- Assumes nothing.
use Rattle.report.proofs.Hexes.{view-shown, view-refused}
use Rattle.put.proofs.Append.{chain, same_bytes}
use Rattle.report.proofs.sheets.put_view.Goals as goal

pub returns-in-Some : goal.returns-in-Some
returns-in-Some c =
    same_bytes _ _ _ _
    (chain _ _ _ _
    (chain _ _ _ _ c.put_bytes-word.ensures c.put_hex_bytes-bytes.ensures)
    c.put_byte.ensures)
    (view-shown _ _ _ _ _ c.view_of-found.ensures c.in-Some.is c.view.ensures.bytes)

pub returns-in-None : goal.returns-in-None
returns-in-None c =
    same_bytes _ _ _ _ c.put_refused_line.ensures
    (view-refused _ _ _ _ c.view_of-found.ensures c.in-None.is c.refusal.ensures)
