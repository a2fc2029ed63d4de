-- The lines that are put tell what was answered: for a file that was written, and for a sheet that was read.
-- Assumes nothing.
use mathlib.Core.Path.{◌≡◌, refl, sym, ap, ◌∙◌}
use mathlib.Core.Bool.{Bool}
use mathlib.Core.List.{List}
use Prim.Native.Nat.{ℕ}
use Rattle.sheet.specs.Decided.{Decided}
use Rattle.sheet.proofs.Decisions.{decided_as}
use Rattle.std.specs.Prelude.{Result, Ok, Err}
use Rattle.file.specs.declared.layout.Head.{Head}
use Rattle.file.specs.declared.Refusal.{Refusal}
use Rattle.file.specs.declared.Found.{Found}
use Rattle.file.specs.Open.{tokens_of, open_file}
use Rattle.file.specs.Files.{Left, left, refuse_read, read_of, ReadOpened, ReadsAs, Reads}
use Rattle.file.proofs.Reading.{reads-told}
use Rattle.put.specs.Append.{Wrote, append}
use Rattle.file_lines.specs.Lines.{file_text, sheet_text, reported, report_file, report_sheet}

-- what writing decides, and the line that is put for it
pub filed_as : {Holds : Type 0} (answer : Bool → Left (Result ℕ Refusal)) (out : List ℕ) (at : ℕ) {w is : Result ℕ Refusal} {buffer lines : List ℕ} {put : Wrote}
    → Decided Holds answer (left w buffer) → w ≡ is → put ≡ append out at lines → lines ≡ file_text is buffer
    → Decided Holds (λ (sound : Bool). report_file out at (answer sound)) (reported put buffer)
unfolding report_file
filed_as answer out at {buffer = buffer} d told e line =
    decided_as answer (report_file out at) d
    (ap (λ (p : Wrote). reported p buffer) (e ∙ ap (append out at) (line ∙ ap (λ (x : Result ℕ Refusal). file_text x buffer) (sym told))))

-- what reading decides, and the lines that are put for it
pub found_as : (out : List ℕ) (at : ℕ) (bytes : List ℕ) (room : ℕ) (words : List ℕ) {f is : Result Found Refusal} {lines : List ℕ} {put : Wrote}
    → Reads bytes room (left f words) → f ≡ is → put ≡ append out at lines → lines ≡ sheet_text is words
    → ReadsAs (report_sheet out at) bytes room (reported put words)
unfolding report_sheet
found_as out at bytes room words d told e line =
    reads-told (report_sheet out at) bytes room d
    (ap (λ (p : Wrote). reported p words) (e ∙ ap (append out at) (line ∙ ap (λ (x : Result Found Refusal). sheet_text x words) (sym told))))

-- and back: what is told of reading a file is told of an answer
opened-given : {Told : Type 0} (tell : Left (Result Found Refusal) → Told) (bytes : List ℕ) (room : ℕ) (o : Result Head Refusal) {told : Told}
    → ReadOpened tell bytes room o told
    → (given : Left (Result Found Refusal)) × ReadOpened (λ (answer : Left (Result Found Refusal)). answer) bytes room o given × (told ≡ tell given)
opened-given tell bytes room (Ok head) d = (
  read_of head.text_length (tokens_of head.version bytes) room d.yes,
  record { yes = d.yes; holds = d.holds; gives = refl },
  d.gives,
)
opened-given tell bytes room (Err r) e = (refuse_read room r, refl, e)

pub reads-given : {Told : Type 0} (tell : Left (Result Found Refusal) → Told) (bytes : List ℕ) (room : ℕ) {told : Told} → ReadsAs tell bytes room told
    → (given : Left (Result Found Refusal)) × Reads bytes room given × (told ≡ tell given)
reads-given tell bytes room d = opened-given tell bytes room (open_file bytes) d
