-- `report::sheets::put_written` meets its contract, by what the way back answers.
-- Assumes nothing.
use mathlib.Core.Path.{ap}
use mathlib.Core.List.{List, [], ◌∷◌, ◌++◌}
use Prim.Native.Nat.{ℕ}
use Rattle.data.specs.Bytes.{line_feed}
use Rattle.put.proofs.Append.{chain}
use Rattle.report.specs.Dump.{refused_line}
use Rattle.report.specs.Sheets.{hex_bytes}
use Rattle.report.specs.Words as words
use Rattle.report.proofs.Hexes.{written_as}
use Rattle.report.proofs.sheets.put_written.Goals as goal

pub returns-in-Ok : goal.returns-in-Ok
returns-in-Ok c =
    written_as _ _ _ c.write.ensures c.in-Ok.is
    (chain _ _ _ _ (chain _ _ _ _ c.put_bytes-word.ensures c.put_hex_bytes-bytes.ensures) c.put_byte.ensures)
    (ap (λ (l : List ℕ). words.text ++ hex_bytes l ++ (line_feed ∷ [])) c.front.ensures.bytes)

pub returns-in-Err : goal.returns-in-Err
returns-in-Err c =
    written_as _ _ _ c.write.ensures c.in-Err.is
    c.put_refused_line.ensures (ap refused_line c.number.ensures)
