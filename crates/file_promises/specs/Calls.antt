-- The calls of sheet files, by their values: what each is given and lent, and its answer with what it leaves.
use Rattle.std.specs.Prelude.{ℕ, ◌<◌, ◌≤◌, Result, List, get_or}
use Rattle.tape.specs.Words.{greatest_word, tokens_in}
use Rattle.sheet.specs.Decided.{Decided}
use Rattle.sheet.specs.Sound.{Sound}
use Rattle.packed.specs.Numbers.{byte_values}
use Rattle.file.specs.declared.layout.Version.TheVariants.{V1}
use Rattle.file.specs.declared.Refusal.{Refusal}
use Rattle.file.specs.declared.Found.{Found}
use Rattle.file.specs.Files.{Left, write_of, Reads}

-- what a slice of bytes holds, and one of words
abbrev pub Bytes : List ℕ → Type 0
Bytes bytes = (i : ℕ) → get_or bytes i 0 < byte_values

abbrev pub Words : List ℕ → Type 0
Words words = (i : ℕ) → get_or words i 0 ≤ greatest_word

-- a call of `write`, and what its contract says of it
pub record WriteCall : Type 0 where
  pub text_length : ℕ
  pub words : List ℕ
  pub count : ℕ
  pub room : ℕ
  pub written : Left (Result ℕ Refusal)

abbrev pub Writes : WriteCall → Type 0
Writes w =
    Decided (Sound w.text_length w.words w.count) (write_of V1 w.text_length (tokens_in w.words w.count) w.room) w.written

-- a call of `read`, and what its contract says of it
pub record ReadCall : Type 0 where
  pub bytes : List ℕ
  pub room : ℕ
  pub found : Left (Result Found Refusal)

abbrev pub ReadsSo : ReadCall → Type 0
ReadsSo r = Reads r.bytes r.room r.found
