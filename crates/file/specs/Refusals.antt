-- The refusals of sheet files, by their numbers, and what an answer says beside them.
use Rattle.std.specs.Prelude.{ℕ, Result, Ok, Err}
use Rattle.file.specs.declared.Refusal.{Refusal}
use Rattle.file.specs.declared.Refusal.TheVariants.{FileLength, UnknownVersion, NotSound, NoRoom, TooLarge, OtherCount}
use Rattle.file.specs.declared.Found.{Found}

-- 31 file under 12 bytes or its first word not its length, 32 unknown version, 33 sheet not sound, 34 no room, 35 text length or total too
-- large for its field, 36 length disagrees with the count
abbrev pub number : Refusal → ℕ
number FileLength = 31
number UnknownVersion = 32
number NotSound = 33
number NoRoom = 34
number TooLarge = 35
number OtherCount = 36

-- ---- writing: the number of an answer, 0 where there is no refusal, and the length of the file, 0 where there is none
abbrev pub write_refusal : Result ℕ Refusal → ℕ
write_refusal (Ok size) = 0
write_refusal (Err r) = number r

abbrev pub size_of : Result ℕ Refusal → ℕ
size_of (Ok size) = size
size_of (Err r) = 0

-- ---- reading: the same, and the text's length and the count
abbrev pub read_refusal : Result Found Refusal → ℕ
read_refusal (Ok found) = 0
read_refusal (Err r) = number r

abbrev pub text_length_of : Result Found Refusal → ℕ
text_length_of (Ok found) = found.text_length
text_length_of (Err r) = 0

abbrev pub count_of : Result Found Refusal → ℕ
count_of (Ok found) = found.count
count_of (Err r) = 0
