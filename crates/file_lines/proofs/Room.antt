-- How long the lines are that are put for a sheet file: those of a file by its buffer, those of a sheet by the bytes that it was read from.
-- Assumes nothing.
use mathlib.Core.Path.{◌≡◌, sym, ap, subst, ◌∙◌}
use mathlib.Core.Bool.{Bool, not}
use mathlib.Core.List.{List}
use Prim.Native.Nat.{ℕ, ◌+◌, ◌*◌, ◌/◌, ◌^◌, ◌≤◌, ◌<◌, min}
use native.Mathlib.Omega.{arith}
use lib.Dec.{ltb}
use lib.ListN.{length, take, drop, length-append, length-take, length-drop}
use Rattle.data.proofs.Cases.{by_bool}
use Rattle.data.proofs.Reasons.{first-here, first-later, first-none}
use Rattle.tape.specs.Words.{words_for, capacity, tokens_in}
use Rattle.tape.proofs.Views.{tokens-length}
use Rattle.packed.specs.Packed.{bytes_per_token}
use Rattle.packed.proofs.Packing.{unpacked-length}
use Rattle.sheet.proofs.Sheets.{one_answer}
use Rattle.file.specs.declared.layout.Version.{Version}
use Rattle.file.specs.declared.Refusal.{Refusal}
use Rattle.file.specs.declared.Refusal.TheVariants.{FileLength, UnknownVersion, NotSound, NoRoom, TooLarge, OtherCount}
use Rattle.std.specs.Prelude.{Result, Ok, Err}
use Rattle.file.specs.declared.layout.Head.{Head}
use Rattle.file.specs.declared.Found.{Found}
use Rattle.file.specs.Layout.{head_size}
use Rattle.file.specs.Open.{tokens_of, open_file}
use Rattle.file.specs.Files.{Left, left, found_of, refuse_read, read_of, ReadOpened, ReadsAs, Reads}
use Rattle.file.proofs.Reading.{reads-told}
use Rattle.file.specs.Refusals.{number}
use Rattle.report.specs.Dump.{refused_line}
use Rattle.report.specs.Room.{longest_other, dump_bytes}
use Rattle.put.specs.Append.{Wrote}
use Rattle.put.proofs.Append.{append-fits}
use Rattle.report.proofs.Room.{Fit, word-short, tokens-short, lines-short}
use Rattle.report.proofs.Lengths.{two_short, hex_bytes-short}
use Rattle.file_lines.specs.Lines.{file_text, sheet_line, sheet_text, most_held, Reported, reported, report_sheet, report_whole, Held}
use Rattle.file_lines.proofs.Told.{reads-given}

-- ---- a refusal has a number of two digits
refusal_two : (r : Refusal) → number r < 100
refusal_two FileLength = omega arith
refusal_two UnknownVersion = omega arith
refusal_two NotSound = omega arith
refusal_two NoRoom = omega arith
refusal_two TooLarge = omega arith
refusal_two OtherCount = omega arith

refused-short : (r : Refusal) → length (refused_line (number r)) ≤ 11
refused-short r = simp length-append (omega (arith, two_short (number r) (refusal_two r)))

-- a file that was written stands in its buffer
pub file-short : (w : Result ℕ Refusal) (buffer : List ℕ) → length (file_text w buffer) ≤ 2 * length buffer + 11
file-short (Ok size) buffer = simp length-append (omega (arith, hex_bytes-short (take size buffer), length-take size buffer))
file-short (Err r) buffer = omega (arith, refused-short r)

-- ---- the lines of a sheet, by how many tokens it has
line-short : (text_length count : ℕ) → text_length < 2 ^ 32 → count < 2 ^ 32 → length (sheet_line text_length count) ≤ longest_other
unfolding sheet_line
line-short text_length count h k = simp length-append (omega (arith, word-short text_length h, word-short count k))

sheet-short : (text_length count : ℕ) (ws : List ℕ) → text_length < 2 ^ 32 → count < 2 ^ 32 → Fit ws
    → length (sheet_text (Ok (found_of text_length count)) ws) ≤ dump_bytes (min count (capacity (length ws)))
sheet-short text_length count ws h k fit =
    let few = tokens-length ws count in
    rw length-append
    (omega (
      arith,
      line-short text_length count h k,
      lines-short (tokens_in ws count) 0 (λ j. tokens-short ws count j fit) (omega arith),
    ))

module _ (bytes : List ℕ) (room : ℕ) where
  -- no more tokens than the bytes have room for
  tokens-few : (v : Version) → length (tokens_of v bytes) ≤ length bytes / bytes_per_token
  unfolding tokens_of
  tokens-few v = omega (arith, unpacked-length (drop (head_size v) bytes), length-drop (head_size v) bytes)

  -- a sheet is no refusal
  no-sheet : {P : Type 0} {text_length count : ℕ} {ws : List ℕ} (r : Refusal) → left (Ok (found_of text_length count)) ws ≡ refuse_read room r → P
  no-sheet r e = let z : ◌≡◌ {A = ℕ} 0 1 = cc in absurd (omega arith)

  read-few : (v : Version) (size : ℕ) (sound : Bool) {text_length count : ℕ} {ws : List ℕ}
      → left (Ok (found_of text_length count)) ws ≡ read_of size (tokens_of v bytes) room sound → count ≤ length bytes / bytes_per_token
  unfolding read_of
  read-few v size sound {text_length} {count} e =
      by_bool (not sound)
      (λ no. no-sheet NotSound (e ∙ first-here (refuse_read room) _ _ _ no))
      (λ yes. let rest = e ∙ first-later (refuse_read room) _ _ _ yes in
      by_bool (ltb room (words_for (length (tokens_of v bytes))))
      (λ over. no-sheet NoRoom (rest ∙ first-here (refuse_read room) _ _ _ over))
      (λ fits.
      let is = rest ∙ first-later (refuse_read room) _ _ _ fits ∙ first-none (refuse_read room) _ in
      let found : found_of text_length count ≡ found_of size (length (tokens_of v bytes)) = cc in
      let same : count ≡ length (tokens_of v bytes) = ap (λ (f : Found). f.count) found in
      omega (arith, tokens-few v)))

  opened-few : (o : Result Head Refusal) (text_length count : ℕ) (ws : List ℕ)
      → ReadOpened (λ (answer : Left (Result Found Refusal)). answer) bytes room o (left (Ok (found_of text_length count)) ws) → count ≤ length bytes / bytes_per_token
  opened-few (Ok head) text_length count ws d = read-few head.version head.text_length d.yes d.gives
  opened-few (Err r) text_length count ws e = no-sheet r e

  -- ---- some bytes are read as one thing alone
  opened_one : (o : Result Head Refusal) (a b : Left (Result Found Refusal)) → ReadOpened (λ (answer : Left (Result Found Refusal)). answer) bytes room o a
      → ReadOpened (λ (answer : Left (Result Found Refusal)). answer) bytes room o b → a ≡ b
  opened_one (Ok head) a b x y =
      x.gives ∙ ap (read_of head.text_length (tokens_of head.version bytes) room) (one_answer x.yes y.yes x.holds y.holds) ∙ sym y.gives
  opened_one (Err r) a b x y = x ∙ sym y

  held_by : (f : Result Found Refusal) (ws : List ℕ) → Reads bytes room (left f ws) → length (sheet_text f ws) ≤ dump_bytes (most_held bytes room)
      → Held bytes room
  held_by f ws d short g vs e =
      let same : left f ws ≡ left g vs = opened_one (open_file bytes) (left f ws) (left g vs) d e in
      let found : f ≡ g = cc in
      let words : ws ≡ vs = cc in
      subst (λ (us : List ℕ). length (sheet_text g us) ≤ dump_bytes (most_held bytes room)) words
      (subst (λ (x : Result Found Refusal). length (sheet_text x ws) ≤ dump_bytes (most_held bytes room)) found short)

  -- ---- so that the lines of a sheet that was read are held, and the line of a refusal
  pub sheet-held : (ws : List ℕ) {f : Result Found Refusal} {text_length count : ℕ} → Reads bytes room (left f ws) → f ≡ Ok (found_of text_length count)
      → text_length < 2 ^ 32 → count < 2 ^ 32 → Fit ws → length ws ≡ room → Held bytes room
  sheet-held ws {text_length = text_length} {count = count} d told h k fit kept =
      let is : Reads bytes room (left (Ok (found_of text_length count)) ws) = subst (λ (x : Result Found Refusal). Reads bytes room (left x ws)) told d in
      held_by (Ok (found_of text_length count)) ws is
      (omega (arith, sheet-short text_length count ws h k fit, opened-few (open_file bytes) text_length count ws is))

  pub refusal-held : (ws : List ℕ) {f : Result Found Refusal} {r : Refusal} → Reads bytes room (left f ws) → f ≡ Err r → Held bytes room
  refusal-held ws {r = r} d told =
      held_by (Err r) ws (subst (λ (x : Result Found Refusal). Reads bytes room (left x ws)) told d) (omega (arith, refused-short r))

  -- and put whole where there is so much room
  whole-given : (out : List ℕ) (at : ℕ) (given : Left (Result Found Refusal)) {told : Reported} → Reads bytes room given → told ≡ report_sheet out at given
      → Held bytes room → at + dump_bytes (most_held bytes room) ≤ length out → ReadsAs (report_whole out at) bytes room told
  unfolding report_sheet report_whole
  whole-given out at (left f ws) d e held fits =
      let short = held f ws d in
      reads-told (report_whole out at) bytes room d
      (e ∙ ap (λ (put : Wrote). reported put ws) (append-fits out at (sheet_text f ws) (omega arith)))

  pub whole-told : (out : List ℕ) (at : ℕ) (told : Reported) {lent : ℕ} → ReadsAs (report_sheet out at) bytes room told → Held bytes room
      → room ≡ lent → at + dump_bytes (most_held bytes room) ≤ length out → ReadsAs (report_whole out at) bytes lent told
  whole-told out at told d held sized fits =
      let g = reads-given (report_sheet out at) bytes room d in
      subst (λ (n : ℕ). ReadsAs (report_whole out at) bytes n told) sized (whole-given out at g.0 g.1 g.2 held fits)
