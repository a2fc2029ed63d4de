-- What a file says before its tokens, and why it may be refused for that.
use Rattle.std.specs.Prelude.{ℕ, Bool, true, false, not, ◌||◌, List, Option, Some, None, Result, Ok, Err, eqb, ltb, length, drop}
use Rattle.tape.specs.declared.token.Token.{Token}
use Rattle.packed.specs.Numbers.{width_of, field}
use Rattle.packed.specs.Packed.{unpacked}
use Rattle.file.specs.declared.layout.Version.{Version}
use Rattle.file.specs.declared.layout.Version.TheVariants.{V1}
use Rattle.file.specs.declared.layout.Head.{Head}
use Rattle.file.specs.declared.Refusal.{Refusal}
use Rattle.file.specs.declared.Refusal.TheVariants.{FileLength, UnknownVersion, OtherCount}
use Rattle.file.specs.Layout.{version_number, total_field, version_field, text_field, count_field, version_at, text_at, count_at, head_size, file_size}

-- the least bytes of a file
abbrev pub least_size : ℕ
least_size = 12

-- the version that a number names, or none
unfoldable pub version_named : ℕ → Option Version
version_named number = elim (eqb number (version_number V1)) [ true ↦ Some V1 | false ↦ None ]

-- ---- the numbers that a file has in its fields
abbrev pub total_in : List ℕ → ℕ
total_in bytes = field bytes 0 (width_of total_field)

abbrev pub version_in : List ℕ → ℕ
version_in bytes = field bytes version_at (width_of version_field)

abbrev pub text_length_in : Version → List ℕ → ℕ
text_length_in v bytes = field bytes text_at (width_of (text_field v))

abbrev pub count_in : Version → List ℕ → ℕ
count_in v bytes = field bytes (count_at v) (width_of count_field)

-- and the tokens behind them
unfoldable pub tokens_of : Version → List ℕ → List Token
tokens_of v bytes = unpacked (drop (head_size v) bytes)

-- what a file of a version says before its tokens
abbrev pub says : Version → ℕ → ℕ → Head
says v text_length count = record { version = v; text_length = text_length; count = count }

-- ---- 31 file under 12 bytes or its first word not its length
abbrev pub other_length : List ℕ → Bool
other_length bytes = ltb (length bytes) least_size || not (eqb (total_in bytes) (length bytes))

-- 36 length disagrees with the count
unfoldable pub open_as : Version → List ℕ → Result Head Refusal
open_as v bytes =
    elim (eqb (file_size v (count_in v bytes)) (length bytes)) [
      | true ↦ Ok (says v (text_length_in v bytes) (count_in v bytes))
      | false ↦ Err OtherCount
    ]

-- 32 unknown version
abbrev pub open_named : Option Version → List ℕ → Result Head Refusal
open_named (Some v) bytes = open_as v bytes
open_named None bytes = Err UnknownVersion

-- 31, 32, 36, in that order
unfoldable pub open_file : List ℕ → Result Head Refusal
open_file bytes = elim (other_length bytes) [ true ↦ Err FileLength | false ↦ open_named (version_named (version_in bytes)) bytes ]
