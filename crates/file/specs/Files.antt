-- A sheet written as a file, and a file read as a sheet: the answer, and what it leaves of what was lent.
use Rattle.std.specs.Prelude.{ℕ, ◌-◌, Bool, not, ◌||◌, ◌≡◌, Result, Ok, Err, List, [], ◌∷◌, ◌++◌, ltb, length, replicate}
use Rattle.data.specs.Reasons.{Reason, if_so, first_of}
use Rattle.tape.specs.declared.token.Token.{Token}
use Rattle.tape.specs.Words.{words_for, padded}
use Rattle.sheet.specs.Decided.{Decided}
use Rattle.sheet.specs.Sound.{Sheet}
use Rattle.packed.specs.Numbers.{width_of, greatest}
use Rattle.file.specs.declared.layout.Version.{Version}
use Rattle.file.specs.declared.Refusal.{Refusal}
use Rattle.file.specs.declared.Refusal.TheVariants.{NotSound, NoRoom, TooLarge}
use Rattle.file.specs.declared.layout.Head.{Head}
use Rattle.file.specs.declared.Found.{Found}
use Rattle.file.specs.Layout.{total_field, text_field, file_size, file_of}
use Rattle.file.specs.Open.{tokens_of, open_file}

-- so many zeros
abbrev pub zeros : ℕ → List ℕ
zeros n = replicate n 0

-- an answer, with what was lent as it leaves it
pub data Left (Answer : Type 0) : Type 0 where
  left : Answer → List ℕ → Left Answer

-- ---- writing
-- 35 text length or total too large for its field
abbrev pub too_large : Version → ℕ → ℕ → Bool
too_large v text_length count =
    ltb (greatest (width_of (text_field v))) text_length || ltb (greatest (width_of total_field)) (file_size v count)

-- 33, 35, 34, in that order: by whether the sheet is sound
abbrev pub write_reasons : Version → ℕ → List Token → ℕ → Bool → List (Reason Refusal)
write_reasons v text_length ts room sound =
    if_so (not sound) NotSound
    ∷ if_so (too_large v text_length (length ts)) TooLarge
    ∷ if_so (ltb room (file_size v (length ts))) NoRoom
    ∷ []

-- each leaving the lent buffer zero
abbrev pub refuse_write : ℕ → Refusal → Left (Result ℕ Refusal)
refuse_write room r = left (Err r) (zeros room)

-- the file, and zeros behind it
abbrev pub accept_write : ℕ → List ℕ → Left (Result ℕ Refusal)
accept_write room file = left (Ok (length file)) (file ++ zeros (room - length file))

-- some tokens for a text of a length, lent so many bytes, by whether they are a sound sheet
unfoldable pub write_of : Version → ℕ → List Token → ℕ → Bool → Left (Result ℕ Refusal)
write_of v text_length ts room sound =
    first_of (refuse_write room) (accept_write room (file_of v text_length ts)) (write_reasons v text_length ts room sound)

-- ---- reading
-- 33 sheet not sound, 34 no room, in that order: by whether it is sound
abbrev pub read_reasons : List Token → ℕ → Bool → List (Reason Refusal)
read_reasons ts room sound = if_so (not sound) NotSound ∷ if_so (ltb room (words_for (length ts))) NoRoom ∷ []

-- each leaving the lent words zero
abbrev pub refuse_read : ℕ → Refusal → Left (Result Found Refusal)
refuse_read room r = left (Err r) (zeros room)

-- a sheet that was read
abbrev pub found_of : ℕ → ℕ → Found
found_of text_length count = record { text_length = text_length; count = count }

-- the tokens, and zeros behind them
abbrev pub accept_read : ℕ → ℕ → List Token → Left (Result Found Refusal)
accept_read room text_length ts = left (Ok (found_of text_length (length ts))) (padded room ts)

-- the tokens of a file for a text of a length, lent so many words, by whether they are a sound sheet
unfoldable pub read_of : ℕ → List Token → ℕ → Bool → Left (Result Found Refusal)
read_of text_length ts room sound = first_of (refuse_read room) (accept_read room text_length ts) (read_reasons ts room sound)

-- what is told of reading a file, once it is known what stands before its tokens
abbrev pub ReadOpened : {Told : Type 0} → (Left (Result Found Refusal) → Told) → List ℕ → ℕ → Result Head Refusal → Told → Type 0
ReadOpened tell bytes room (Ok head) told =
    Decided (Sheet head.text_length (tokens_of head.version bytes))
    (λ (sound : Bool). tell (read_of head.text_length (tokens_of head.version bytes) room sound)) told
ReadOpened tell bytes room (Err r) told = told ≡ tell (refuse_read room r)

-- any bytes, lent so many words
abbrev pub ReadsAs : {Told : Type 0} → (Left (Result Found Refusal) → Told) → List ℕ → ℕ → Told → Type 0
ReadsAs tell bytes room told = ReadOpened tell bytes room (open_file bytes) told

abbrev pub Reads : List ℕ → ℕ → Left (Result Found Refusal) → Type 0
Reads bytes room given = ReadsAs (λ (answer : Left (Result Found Refusal)). answer) bytes room given
