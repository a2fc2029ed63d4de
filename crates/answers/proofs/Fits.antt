-- Each answer fits what is left of the buffer: a law for each kind, and where the next one then goes.
-- Assumes nothing.
use mathlib.Core.List.{List}
use mathlib.Core.Path.{◌≡◌, sym, ap, subst, ◌∙◌}
use mathlib.Core.Bool.{Bool}
use Prim.Native.Nat.{ℕ, ◌+◌, ◌≤◌, min}
use native.Mathlib.Omega.{arith}
use lib.ListN.{length, take, drop, length-take, length-drop}
use Rattle.sheet.specs.Decided.{Decided}
use Rattle.std.specs.Prelude.{Result}
use Rattle.file.specs.declared.Refusal.{Refusal}
use Rattle.file.specs.declared.Found.{Found}
use Rattle.file.specs.Files as files
use Rattle.file.specs.Files.{ReadsAs, Reads}
use Rattle.sheet.specs.Views.{viewed}
use Rattle.writer.specs.Write as sheet
use Rattle.tape.specs.Words.{words_for}
use Rattle.put.specs.Append.{Wrote, wrote, place_of, append}
use Rattle.report.specs.Dates.{date_line, day_line}
use Rattle.report.specs.Dump.{dump_of}
use Rattle.report.specs.Readings.{readings_of, leading_of}
use Rattle.report.specs.Room.{most_input, most_tokens, Held}
use Rattle.report.specs.Sheets as sheets
use Rattle.report.proofs.Room.{put_whole}
use Rattle.report.proofs.Lengths.{readings-short, leading-short, date-short, day-short, verdict-short, view-short, written-short}
use Rattle.file_lines.specs.Lines as lines
use Rattle.file_lines.proofs.Told.{reads-given}
use Rattle.file_lines.proofs.Room.{file-short}
use Rattle.std.specs.Prelude.{Option, Some}
use Rattle.answers.specs.Whole.{word_bytes, word_in, most_answer, most_words, All, Left, Whole}
use Rattle.answers.specs.Whole.{Answers, dump, readings, leading, date, day, verdict, view, written, filed, found}

-- what was put, and the buffer of a text that was written back
abbrev put_of : sheets.Reported → Wrote
put_of (sheets.reported put buffer scratch) = put

abbrev buffer_of : sheets.Reported → List ℕ
buffer_of (sheets.reported put buffer scratch) = buffer

-- what was put for a file, and what was lent for it
abbrev line_of : lines.Reported → Wrote
line_of (lines.reported put lent) = put

abbrev lent_of : lines.Reported → List ℕ
lent_of (lines.reported put lent) = lent

-- the line that is put for a token of some words and a text
abbrev view_line : List ℕ → List ℕ → ℕ → ℕ → List ℕ
view_line text words count index = sheets.view_text text (viewed (length text) words count index)

module _ (capacity : ℕ) (body out : List ℕ) (at : ℕ) {r : ℕ} {o : List ℕ} where
  -- lines that are put where there is room for any answer
  fits : (lines : List ℕ) → Answers capacity body lines → wrote r o ≡ append out at lines → length lines ≤ most_answer
      → at + most_answer ≤ length out → All capacity body out at r o
  fits lines a e few room =
      record { lines = lines; answers = a; short = few; put = put_whole out lines at e (omega arith) }

  -- a dump, on as many words as the capacity takes, and no more than a dump has
  pub dump-all : (len : ℕ) → wrote r o ≡ append out at (dump_of body len) → Held (dump_of body len) len
      → len ≡ words_for (min capacity most_tokens) → at + most_answer ≤ length out → All capacity body out at r o
  dump-all len e held sized room =
      let same : dump_of body len ≡ dump_of body (words_for (min capacity most_tokens)) = ap (dump_of body) sized in
      let short : length (dump_of body len) ≤ most_answer = held most_tokens (omega arith) in
      fits (dump_of body (words_for (min capacity most_tokens))) dump (e ∙ ap (append out at) same)
      (subst (λ (ls : List ℕ). length ls ≤ most_answer) same short) room

  -- the readings of a scalar
  pub readings-all : wrote r o ≡ append out at (readings_of body) → at + most_answer ≤ length out → All capacity body out at r o
  readings-all e room = fits (readings_of body) readings e (omega (arith, readings-short body)) room

  -- the number that a scalar begins with
  pub leading-all : wrote r o ≡ append out at (leading_of body) → length body ≤ most_input → at + most_answer ≤ length out
      → All capacity body out at r o
  leading-all e within room = fits (leading_of body) leading e (omega (arith, leading-short body within)) room

  -- the date that it says, and the date of the count that it is
  pub date-all : wrote r o ≡ append out at (date_line body) → at + most_answer ≤ length out → All capacity body out at r o
  date-all e room = fits (date_line body) date e (omega (arith, date-short body)) room

  pub day-all : (n : ℕ) → n ≡ word_in body 0 → length body ≡ word_bytes → wrote r o ≡ append out at (day_line n)
      → at + most_answer ≤ length out → All capacity body out at r o
  day-all n f sized e room =
      fits (day_line (word_in body 0)) (day sized) (e ∙ ap (λ (k : ℕ). append out at (day_line k)) f)
      (omega (arith, day-short (word_in body 0))) room

  -- a verdict
  pub verdict-all : {Holds : Type 0} → sheets.Judged Holds out at (wrote r o) → at + most_answer ≤ length out
      → All capacity body out at r o
  verdict-all j room = fits (sheets.verdict j.yes) (verdict j.yes) j.gives (omega (arith, verdict-short j.yes)) room

  -- a view of a part of the body; the words and numbers that it comes from are named, since antt does not read it off the equation
  pub view-all : (from size : ℕ) (words : List ℕ) (count index : ℕ)
      → wrote r o ≡ append out at (view_line (take size (drop from body)) words count index) → length body ≤ most_input
      → at + most_answer ≤ length out → All capacity body out at r o
  view-all from size words count index e within room =
      let text = take size (drop from body) in
      let v = viewed (length text) words count index in
      let part : length text ≤ most_input = omega (arith, length-take size (drop from body), length-drop from body) in
      fits (view_line text words count index) (view from size v) e (omega (arith, view-short text v)) room

  -- a text that was written back in a buffer, or the refusal
  pub written_all : {Holds : Type 0} (answer : Bool → sheet.Left) {buffer scratch : List ℕ}
      → Decided Holds (λ (sound : Bool). sheets.report_written out at (answer sound)) (sheets.reported (wrote r o) buffer scratch)
      → length buffer ≤ most_input → at + most_answer ≤ length out → All capacity body out at r o
  unfolding sheets.report_written
  written_all answer {buffer} {scratch} d within room = go (answer d.yes) d.gives
    where
      go : (l : sheet.Left) → sheets.reported (wrote r o) buffer scratch ≡ sheets.report_written out at l → All capacity body out at r o
      go (sheet.left w b s) e =
          let same : b ≡ buffer = sym (ap buffer_of e) in
          let short : length b ≤ most_input = rw same within in
          fits (sheets.written_text w b) (written w b short) (ap put_of e) (omega (arith, written-short w b)) room

  -- a file that was written in a buffer, or the refusal
  pub filed-all : {Holds : Type 0} (answer : Bool → files.Left (Result ℕ Refusal)) {buffer : List ℕ}
      → Decided Holds (λ (sound : Bool). lines.report_file out at (answer sound)) (lines.reported (wrote r o) buffer)
      → length buffer ≤ most_input → at + most_answer ≤ length out → All capacity body out at r o
  unfolding lines.report_file
  filed-all answer {buffer} d within room = go (answer d.yes) d.gives
    where
      go : (l : files.Left (Result ℕ Refusal)) → lines.reported (wrote r o) buffer ≡ lines.report_file out at l → All capacity body out at r o
      go (files.left w b) e =
          let same : b ≡ buffer = sym (ap lent_of e) in
          let short : length b ≤ most_input = rw same within in
          fits (lines.file_text w b) (filed w b short) (ap line_of e) (omega (arith, file-short w b)) room

  -- a sheet that the body was read as on some words, or the refusal
  pub found_all : (lent : ℕ) (words : List ℕ) → ReadsAs (lines.report_sheet out at) body lent (lines.reported (wrote r o) words)
      → lines.Held body lent → lent ≡ min capacity most_words → length body ≤ most_input → at + most_answer ≤ length out
      → All capacity body out at r o
  unfolding lines.report_sheet
  found_all lent words d held sized within room =
      let given = reads-given (lines.report_sheet out at) body lent d in
      go given.0 given.1 given.2
    where
      go : (l : files.Left (Result Found Refusal)) → Reads body lent l → lines.reported (wrote r o) words ≡ lines.report_sheet out at l → All capacity body out at r o
      go (files.left f ws) reads e =
          fits (lines.sheet_text f ws) (found f ws (subst (λ (n : ℕ). Reads body n (files.left f ws)) sized reads)) (ap line_of e)
          (omega (arith, held f ws reads)) room

-- where an answer is put, the next place is past it, and no further than its most bytes
pub next_near : (capacity : ℕ) (body out : List ℕ) (at next : ℕ) (left : List ℕ) (a : Option ℕ) → a ≡ Some next
    → Whole capacity body out at a left → next ≤ at + most_answer
next_near capacity body out at next left a told w =
    let all : All capacity body out at next left = subst (λ (x : Option ℕ). Left capacity body out at x left) told w.holds in
    let placed : next ≡ at + length all.lines = ap place_of all.put in
    omega (arith, all.short)
