-- From a sheet back to save text: the answer, and what it leaves in the lent buffer and on the scratch.
use Rattle.std.specs.Prelude.{ℕ, ◌-◌, Result, Ok, Err, Bool, true, false, not, ◌||◌, List, [], ◌∷◌, ◌++◌, ltb, length, replicate}
use Rattle.data.specs.Reasons.{Reason, if_so, first_of}
use Rattle.tape.specs.declared.token.Token.{Token}
use Rattle.tape.specs.Words.{capacity}
use Rattle.parse.specs.Parse.{text_limit, parse_of}
use Rattle.alike.specs.Alike.{comes_back}
use Rattle.writer.specs.declared.Refusal.{Refusal}
use Rattle.writer.specs.declared.Refusal.TheVariants.{NotSound, TooDeep, TooLong, NoRoom, ReadsOtherwise, OtherForm}
use Rattle.writer.specs.declared.dues.Due.TheVariants.{Key}
use Rattle.writer.specs.Forest.{forest_of}
use Rattle.writer.specs.Form.{has_form}
use Rattle.writer.specs.Levels.{levels, most_levels}
use Rattle.writer.specs.Text.{sheet_text}

-- an answer, with the buffer and the scratch as it leaves them
pub data Left : Type 0 where
  left : Result ℕ Refusal → List ℕ → List ℕ → Left

-- so many zeros
abbrev pub zeros : ℕ → List ℕ
zeros n = replicate n 0

-- The scratch ends zero, and the buffer is all zero after a refusal
abbrev pub refuse : ℕ → ℕ → Refusal → Left
refuse room scratch r = left (Err r) (zeros room) (zeros scratch)

-- the buffer zero past the text
abbrev pub accept : ℕ → ℕ → List ℕ → Left
accept room scratch bytes = left (Ok (length bytes)) (bytes ++ zeros (room - length bytes)) (zeros scratch)

-- the text that is written for some tokens over a text
unfoldable pub text_of : List ℕ → List Token → List ℕ
text_of text ts = sheet_text (forest_of ts) text

-- 46 not of this form
abbrev pub formed : List Token → Bool
formed ts = has_form (forest_of ts) Key

-- 42 too deep
abbrev pub too_deep : List Token → Bool
too_deep ts = ltb most_levels (levels (forest_of ts))

-- 44 no room: a text buffer under the text or a lent scratch tape under the sheet's tokens
abbrev pub no_room : ℕ → ℕ → List Token → List ℕ → Bool
no_room room scratch ts bytes = ltb room (length bytes) || ltb (capacity scratch) (length ts)

-- ---- what can be said before a byte is written
-- the first of some reasons that is there; where none is, the text fits
abbrev pub first_there : List (Reason Refusal) → Result (Unit {0}) Refusal
first_there rs = first_of Err (Ok tt) rs

-- 43 text over the limit of 01, 44 no room, in that order: by a buffer of so many bytes and a scratch of so many words
abbrev pub text_reasons : ℕ → ℕ → List Token → List ℕ → List (Reason Refusal)
text_reasons room scratch ts bytes =
    if_so (ltb text_limit (length bytes)) TooLong
    ∷ if_so (no_room room scratch ts bytes) NoRoom
    ∷ []

-- 41 not sound, 46 not of this form, 42 too deep, and then those, in that order: by whether the sheet is sound
abbrev pub reasons : List ℕ → List Token → ℕ → ℕ → Bool → List (Reason Refusal)
reasons text ts room scratch sound =
    if_so (not sound) NotSound
    ∷ if_so (not (formed ts)) OtherForm
    ∷ if_so (too_deep ts) TooDeep
    ∷ text_reasons room scratch ts (text_of text ts)

-- what is said of a text that is to be written, and of any sheet
unfoldable pub weigh_text : ℕ → ℕ → List Token → List ℕ → Result (Unit {0}) Refusal
weigh_text room scratch ts bytes = first_there (text_reasons room scratch ts bytes)

unfoldable pub weigh : List ℕ → List Token → ℕ → ℕ → Bool → Result (Unit {0}) Refusal
weigh text ts room scratch sound = first_there (reasons text ts room scratch sound)

-- ---- the whole
-- 45 would read differently
unfoldable pub read_back : List ℕ → List Token → ℕ → ℕ → List ℕ → Left
read_back text ts room scratch bytes =
    elim (comes_back text bytes ts (parse_of bytes scratch)) [
      | true ↦ accept room scratch bytes
      | false ↦ refuse room scratch ReadsOtherwise
    ]

abbrev pub carry_out : List ℕ → List Token → ℕ → ℕ → Result (Unit {0}) Refusal → Left
carry_out text ts room scratch (Err r) = refuse room scratch r
carry_out text ts room scratch (Ok fits) = read_back text ts room scratch (text_of text ts)

-- the sheet of some tokens over a text, lent a buffer of so many bytes and a scratch of so many words, by whether it is sound
unfoldable pub write_of : List ℕ → List Token → ℕ → ℕ → Bool → Left
write_of text ts room scratch sound = carry_out text ts room scratch (weigh text ts room scratch sound)
