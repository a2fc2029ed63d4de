-- The bytes of a sheet file, by its version: big-endian, total length in four bytes, version byte 1, text length in three bytes, token count
-- in four bytes, then per token a code byte and two four-byte words.
use Rattle.std.specs.Prelude.{ℕ, ◌+◌, List, ◌++◌, length}
use Rattle.tape.specs.declared.token.Token.{Token}
use Rattle.packed.specs.declared.numbers.Width.{Width}
use Rattle.packed.specs.declared.numbers.Width.TheVariants.{One, Three, Four}
use Rattle.packed.specs.Numbers.{width_of, spelled}
use Rattle.packed.specs.Packed.{bytes_for, packed}
use Rattle.file.specs.declared.layout.Version.{Version}
use Rattle.file.specs.declared.layout.Version.TheVariants.{V1}

-- the number of a version
abbrev pub version_number : Version → ℕ
version_number V1 = 1

-- ---- the fields before the tokens
abbrev pub total_field : Width
total_field = Four

abbrev pub version_field : Width
version_field = One

abbrev pub text_field : Version → Width
text_field V1 = Three

abbrev pub count_field : Width
count_field = Four

-- where each stands, behind the one before it
abbrev pub version_at : ℕ
version_at = width_of total_field

abbrev pub text_at : ℕ
text_at = version_at + width_of version_field

abbrev pub count_at : Version → ℕ
count_at v = text_at + width_of (text_field v)

-- and where the tokens begin
abbrev pub head_size : Version → ℕ
head_size v = count_at v + width_of count_field

-- how many bytes the file of so many tokens has
abbrev pub file_size : Version → ℕ → ℕ
file_size v count = head_size v + bytes_for count

-- the total length that it says
abbrev pub total_of : Version → ℕ → ℕ
total_of v count = file_size v count

-- ---- the file of a sheet
unfoldable pub head_of : Version → ℕ → ℕ → List ℕ
head_of v text_length count =
    spelled (width_of total_field) (total_of v count)
    ++ spelled (width_of version_field) (version_number v)
    ++ spelled (width_of (text_field v)) text_length
    ++ spelled (width_of count_field) count

unfoldable pub file_of : Version → ℕ → List Token → List ℕ
file_of v text_length ts = head_of v text_length (length ts) ++ packed ts
