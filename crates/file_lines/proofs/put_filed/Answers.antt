-- `file_lines::put_filed` meets its contract, by what the writing answers.
-- Assumes nothing.
use mathlib.Core.Path.{ap}
use mathlib.Core.List.{List, [], ◌∷◌, ◌++◌}
use Prim.Native.Nat.{ℕ}
use Rattle.data.specs.Bytes.{line_feed}
use Rattle.put.proofs.Append.{chain}
use Rattle.report.specs.Sheets.{hex_bytes}
use Rattle.report.specs.Dump.{refused_line}
use Rattle.file_lines.specs.Words as words
use Rattle.file_lines.proofs.Told.{filed_as}
use Rattle.file_lines.proofs.put_filed.Goals as goal

pub returns-in-Ok : goal.returns-in-Ok
returns-in-Ok c =
    filed_as _ _ _ c.write.ensures c.in-Ok.is
    (chain _ _ _ _ (chain _ _ _ _ c.put_bytes-word.ensures c.put_hex_bytes-bytes.ensures) c.put_byte.ensures)
    (ap (λ (l : List ℕ). words.file ++ hex_bytes l ++ (line_feed ∷ [])) c.front.ensures.bytes)

pub returns-in-Err : goal.returns-in-Err
returns-in-Err c =
    filed_as _ _ _ c.write.ensures c.in-Err.is c.put_refused_line.ensures
    (ap refused_line c.number.ensures)
