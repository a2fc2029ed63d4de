-- What the answer to a record leaves in the buffer: nothing more than stood there, or all of the answer. None is cut short.
use Rattle.std.specs.Prelude.{ℕ, ◌+◌, ◌*◌, ◌≤◌, min, Result, Bool, List, ◌≡◌, length, take, drop, Option, None, Some}
use Rattle.writer.specs.declared.Refusal.{Refusal}
use Rattle.file.specs.declared.Refusal as file
use Rattle.file.specs.declared.Found.{Found}
use Rattle.file.specs.Files as files
use Rattle.packed.specs.Numbers.{width_of, field}
use Rattle.packed.specs.declared.numbers.Width.TheVariants.{Four}
use Rattle.tape.specs.Words.{words_for}
use Rattle.put.specs.Append.{wrote, whole}
use Rattle.report.specs.Dates.{date_line, day_line}
use Rattle.report.specs.Dump.{dump_of}
use Rattle.report.specs.Readings.{readings_of, leading_of}
use Rattle.report.specs.Room.{most_input, most_tokens, dump_bytes}
use Rattle.report.specs.Sheets as sheets
use Rattle.file_lines.specs.Lines.{file_text, sheet_text}
use Rattle.sheet.specs.declared.views.Viewed.{Viewed}

-- the most bytes of an answer: no other is as long as the longest dump
abbrev pub most_answer : ℕ
most_answer = dump_bytes most_tokens

-- the bytes of the line for a bad record
abbrev pub stop_bytes : ℕ
stop_bytes = 11

-- bytes of which one half, taken up, leaves room for any answer and that line in the other
abbrev pub block_bytes : ℕ
block_bytes = 2 * (most_answer + stop_bytes)

-- the bytes of a word in a body, and the number that they spell from a place on
abbrev pub word_bytes : ℕ
word_bytes = width_of Four

abbrev pub word_in : List ℕ → ℕ → ℕ
word_in bytes at = field bytes at word_bytes

-- where the words begin in a view's body: behind an index, a count and how many words there are
abbrev pub view_head : ℕ
view_head = 10

-- and in that of a sheet to be written back: behind its scratch's words, a count and how many words there are
abbrev pub write_head : ℕ
write_head = 8

-- the most words that are lent to read a file: more than the file in any body needs
abbrev pub most_words : ℕ
most_words = 16384

-- the lines that answer a record with a capacity and a body: the dump of a text, with room for no more tokens than a dump has, the
-- readings of a scalar, the number that one begins with, the date that it says, the date of the day count that is all of the body, what
-- is said of a sheet, a view of the text that stands from some place on, the way back from a sheet and its file, each in a buffer of no
-- more bytes than an input has, and the sheet that the body is a file of
pub data Answers (capacity : ℕ) (body : List ℕ) : List ℕ → Type 0 where
  dump : Answers capacity body (dump_of body (words_for (min capacity most_tokens)))
  readings : Answers capacity body (readings_of body)
  leading : Answers capacity body (leading_of body)
  date : Answers capacity body (date_line body)
  day : length body ≡ word_bytes → Answers capacity body (day_line (word_in body 0))
  verdict : (sound : Bool) → Answers capacity body (sheets.verdict sound)
  view : (from size : ℕ) (v : Option Viewed) → Answers capacity body (sheets.view_text (take size (drop from body)) v)
  written : (w : Result ℕ Refusal) (buffer : List ℕ) → length buffer ≤ most_input → Answers capacity body (sheets.written_text w buffer)
  filed : (w : Result ℕ file.Refusal) (buffer : List ℕ) → length buffer ≤ most_input → Answers capacity body (file_text w buffer)
  found : (f : Result Found file.Refusal) (words : List ℕ) → files.Reads body (min capacity most_words) (files.left f words)
      → Answers capacity body (sheet_text f words)

-- all of such lines from the place on, and the place after the last
pub record All (capacity : ℕ) (body out : List ℕ) (at next : ℕ) (left : List ℕ) : Type 0 where
  pub lines : List ℕ
  pub answers : Answers capacity body lines
  pub short : length lines ≤ most_answer
  pub put : wrote next left ≡ whole out at lines

-- a bad record, which leaves the buffer as it was, or all of the lines
abbrev pub Left : ℕ → List ℕ → List ℕ → ℕ → Option ℕ → List ℕ → Type 0
Left capacity body out at None left = left ≡ out
Left capacity body out at (Some next) left = All capacity body out at next left

pub record Whole (capacity : ℕ) (body out : List ℕ) (at : ℕ) (a : Option ℕ) (left : List ℕ) : Type 0 where
  pub holds : Left capacity body out at a left
