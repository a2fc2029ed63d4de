-- Bytes in hexadecimal, one at a time, the line of a check, the lines of a text that was written, and those of a view.
-- Assumes nothing.
use Rattle.std.specs.Prelude.{Option, Some, None, Result}
use mathlib.Core.Path.{◌≡◌, sym, ap, subst, ◌∙◌}
use mathlib.Core.Bool.{Bool, true}
use mathlib.Core.Logic.{◌↔◌}
use mathlib.Core.List.{List, [], ◌∷◌, ◌++◌}
use Prim.Native.Nat.{ℕ, ◌+◌, ◌≤◌, ◌<◌}
use native.Mathlib.Numerals.{add-one}
use lib.ListN.{length, get_or, drop, drop_of_length-le}
use lib.Seq.{drop-cons}
use Rattle.data.specs.Bytes.{line_feed}
use Rattle.sheet.specs.Views.{refusal_of, part_of}
use Rattle.report.specs.Digits.{decimal, hex}
use Rattle.put.specs.Append.{Wrote, append}
use Rattle.sheet.specs.Decided.{Decided}
use Rattle.sheet.proofs.Decisions.{decided_as}
use Rattle.writer.specs.declared.Refusal.{Refusal}
use Rattle.writer.specs.Write.{Left, left}
use Rattle.report.specs.Sheets.{verdict, Judged, hex_bytes, view_text, written_text, reported, report_written}
use Rattle.report.specs.Words as words
use Rattle.sheet.specs.declared.views.Viewed.{Viewed}

-- the digits of the byte at an index stand before those of the bytes after it
pub hex-on : (bytes : List ℕ) (i : ℕ) → i < length bytes → hex_bytes (drop i bytes) ≡ hex 2 (get_or bytes i 0) ++ hex_bytes (drop (i + 1) bytes)
unfolding hex_bytes
hex-on bytes i h = rw (drop-cons bytes i 0 h, add-one i)

-- and past the last there are none
pub hex-none-left : (bytes : List ℕ) (i : ℕ) → length bytes ≤ i → hex_bytes (drop i bytes) ≡ []
unfolding hex_bytes
hex-none-left bytes i h = rw (drop_of_length-le bytes h)

-- what a check decides, and the verdict that is put for it
pub judged_as : {Holds : Type 0} (out : List ℕ) (at : ℕ) {put : Wrote} {decided : Bool} (sound : Bool) → (decided ≡ true) ↔ Holds
    → decided ≡ sound → put ≡ append out at (verdict sound) → Judged Holds out at put
judged_as {Holds = Holds} out at sound holds is put =
    record { yes = sound; holds = subst (λ (b : Bool). (b ≡ true) ↔ Holds) is holds; gives = put }

-- the line of a text that was written, and of a refusal: what the way back decides, and the line that is put for it
pub written_as : {Holds : Type 0} (answer : Bool → Left) (out : List ℕ) (at : ℕ) {w is : Result ℕ Refusal} {buffer scratch lines : List ℕ} {put : Wrote}
    → Decided Holds answer (left w buffer scratch) → w ≡ is → put ≡ append out at lines → lines ≡ written_text is buffer
    → Decided Holds (λ (sound : Bool). report_written out at (answer sound)) (reported put buffer scratch)
unfolding report_written
written_as answer out at {buffer = buffer} {scratch = scratch} d told e line =
    decided_as answer (report_written out at) d
    (ap (λ (p : Wrote). reported p buffer scratch) (e ∙ ap (append out at) (line ∙ ap (λ (x : Result ℕ Refusal). written_text x buffer) (sym told))))

-- the line of a view that lies in the text, and of one that is refused
pub view-shown : (text part : List ℕ) (found v : Option Viewed) (view : Viewed) → found ≡ v → found ≡ Some view → part ≡ part_of text v
    → words.view ++ hex_bytes part ++ (line_feed ∷ []) ≡ view_text text v
view-shown text part found v view e told p =
    let is = sym e ∙ told in
    ap (λ (l : List ℕ). words.view ++ hex_bytes l ++ (line_feed ∷ [])) (p ∙ ap (part_of text) is) ∙ sym (ap (view_text text) is)

pub view-refused : (text : List ℕ) (n : ℕ) (found v : Option Viewed) → found ≡ v → found ≡ None → n ≡ refusal_of found
    → words.refused ++ decimal n ++ (line_feed ∷ []) ≡ view_text text v
view-refused text n found v e told r =
    ap (λ (k : ℕ). words.refused ++ decimal k ++ (line_feed ∷ [])) (r ∙ ap refusal_of told) ∙ sym (ap (view_text text) (sym e ∙ told))
