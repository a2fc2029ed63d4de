-- What is said of sheet files as lines: the file that a sheet is written as, and the sheet that a file is read as.
use Rattle.std.specs.Prelude.{ℕ, ◌/◌, ◌≤◌, min, Result, Ok, Err, List, [], ◌∷◌, ◌++◌, length, take}
use Rattle.data.specs.Bytes.{line_feed}
use Rattle.tape.specs.Words.{capacity, tokens_in}
use Rattle.packed.specs.Packed.{bytes_per_token}
use Rattle.file.specs.declared.Refusal.{Refusal}
use Rattle.file.specs.declared.Found.{Found}
use Rattle.file.specs.Files.{Left, left, Reads}
use Rattle.file.specs.Refusals.{number}
use Rattle.put.specs.Append.{Wrote, append, whole}
use Rattle.report.specs.Digits.{decimal}
use Rattle.report.specs.Dump.{field, lines_from, refused_line}
use Rattle.report.specs.Room.{dump_bytes}
use Rattle.report.specs.Sheets.{hex_bytes}
use Rattle.file_lines.specs.Words as words

-- `file HEX`, of the file at the front of its buffer, or the refusal
abbrev pub file_text : Result ℕ Refusal → List ℕ → List ℕ
file_text (Ok size) buffer = words.file ++ hex_bytes (take size buffer) ++ (line_feed ∷ [])
file_text (Err r) buffer = refused_line (number r)

-- `sheet LENGTH COUNT`, with the length of the text in the file
unfoldable pub sheet_line : ℕ → ℕ → List ℕ
sheet_line text_length count = words.sheet ++ decimal text_length ++ field count ++ (line_feed ∷ [])

-- that and a line a token, of the tokens that were read onto the words, or the refusal
abbrev pub sheet_text : Result Found Refusal → List ℕ → List ℕ
sheet_text (Ok found) ws = sheet_line found.text_length found.count ++ lines_from 0 (tokens_in ws found.count)
sheet_text (Err r) ws = refused_line (number r)

-- what was put, with what was lent as the call leaves it
pub data Reported : Type 0 where
  reported : Wrote → List ℕ → Reported

unfoldable pub report_file : List ℕ → ℕ → Left (Result ℕ Refusal) → Reported
report_file out at (left w buffer) = reported (append out at (file_text w buffer)) buffer

unfoldable pub report_sheet : List ℕ → ℕ → Left (Result Found Refusal) → Reported
report_sheet out at (left f ws) = reported (append out at (sheet_text f ws)) ws

-- the same, with nothing cut short
unfoldable pub report_whole : List ℕ → ℕ → Left (Result Found Refusal) → Reported
report_whole out at (left f ws) = reported (whole out at (sheet_text f ws)) ws

-- how many tokens some bytes and words have room for
abbrev pub most_held : List ℕ → ℕ → ℕ
most_held bytes room = min (length bytes / bytes_per_token) (capacity room)

-- whatever the bytes are read as on so many words, a buffer that holds the dump of as many tokens holds its lines
abbrev pub Held : List ℕ → ℕ → Type 0
Held bytes room =
    (f : Result Found Refusal) (ws : List ℕ) → Reads bytes room (left f ws)
    → length (sheet_text f ws) ≤ dump_bytes (most_held bytes room)
