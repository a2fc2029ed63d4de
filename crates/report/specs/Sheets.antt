-- The answers about a sheet as lines: whether it is sound, and the view of a token.
use Rattle.std.specs.Prelude.{ℕ, Result, Ok, Err, Bool, true, false, List, [], ◌∷◌, ◌++◌, take, drop, Option, Some, None}
use Rattle.data.specs.Bytes.{line_feed}
use Rattle.sheet.specs.Views.{refusal_of}
use Rattle.sheet.specs.Decided.{Decided}
use Rattle.writer.specs.declared.Refusal.{Refusal}
use Rattle.writer.specs.Refusals.{number}
use Rattle.writer.specs.Write.{Left, left}
use Rattle.put.specs.Append.{Wrote, append}
use Rattle.report.specs.Digits.{hex}
use Rattle.report.specs.Dump.{refused_line}
use Rattle.report.specs.Words as words
use Rattle.sheet.specs.declared.views.Viewed.{Viewed}

-- the verdict on a sheet
abbrev pub verdict : Bool → List ℕ
verdict true = words.sound ++ (line_feed ∷ [])
verdict false = words.unsound ++ (line_feed ∷ [])

-- the verdict that is put is the one that holds
abbrev pub Judged : Type 0 → List ℕ → ℕ → Wrote → Type 0
Judged Holds out at put = Decided Holds (λ (sound : Bool). append out at (verdict sound)) put

-- bytes, two hexadecimal digits each
unfoldable pub hex_bytes : List ℕ → List ℕ
hex_bytes [] = []
hex_bytes (b ∷ bs) = hex 2 b ++ hex_bytes bs

-- a token's part of the text, or the refusal
abbrev pub view_text : List ℕ → Option Viewed → List ℕ
view_text text (Some v) = words.view ++ hex_bytes (take v.length (drop v.offset text)) ++ (line_feed ∷ [])
view_text text None = refused_line (refusal_of None)

-- the text that was written, which stands at the front of its buffer, or the refusal
abbrev pub written_text : Result ℕ Refusal → List ℕ → List ℕ
written_text (Ok size) buffer = words.text ++ hex_bytes (take size buffer) ++ (line_feed ∷ [])
written_text (Err r) buffer = refused_line (number r)

-- what was put, with the buffer and the scratch as the way back leaves them
pub data Reported : Type 0 where
  reported : Wrote → List ℕ → List ℕ → Reported

unfoldable pub report_written : List ℕ → ℕ → Left → Reported
report_written out at (left w buffer scratch) = reported (append out at (written_text w buffer)) buffer scratch
