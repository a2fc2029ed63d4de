-- Every file's refusal is as listed, whatever its bytes.
use Rattle.std.specs.Prelude.{ℕ, ◌+◌, ◌*◌, ◌≤◌, ◌<◌, ◌≡◌, Result, Ok, List, ◌++◌, length, take, drop}
use Rattle.tape.specs.declared.token.Token.{Token}
use Rattle.tape.specs.Words.{words_per_token}
use Rattle.sheet.specs.Sound as sheet
use Rattle.packed.specs.Numbers.{number_of}
use Rattle.packed.specs.Packed.{bytes_per_token, unpacked}
use Rattle.file.specs.declared.Found.{Found}
use Rattle.file.specs.declared.Refusal.{Refusal}
use Rattle.file.specs.Open.{least_size}
use Rattle.file.specs.Refusals.{read_refusal}
use Rattle.file.specs.Files.{Left, left, found_of}
use Rattle.file_promises.specs.Calls.{ReadCall, ReadsSo}

-- the number of an answer, 0 where a sheet was read
abbrev pub refusal_of : Left (Result Found Refusal) → ℕ
refusal_of (left found words) = read_refusal found

-- ---- the numbers of a file, by its bytes: four, one, three and four of them, and the tokens behind
abbrev pub total : List ℕ → ℕ
total bytes = number_of (take 4 bytes)

abbrev pub version : List ℕ → ℕ
version bytes = number_of (take 1 (drop 4 bytes))

abbrev pub text_length : List ℕ → ℕ
text_length bytes = number_of (take 3 (drop 5 bytes))

abbrev pub count : List ℕ → ℕ
count bytes = number_of (take 4 (drop 8 bytes))

abbrev pub tokens : List ℕ → List Token
tokens bytes = unpacked (drop least_size bytes)

-- no product wraps: the count is a number, of any size
abbrev pub Measured : List ℕ → Type 0
Measured bytes = length bytes ≡ least_size + count bytes * bytes_per_token

-- ---- 31, 32, 36, 33, 34, in that order, and a sheet where there is none of them
pub record Listed (bytes : List ℕ) (room refusal : ℕ) : Type 0 where
  pub short : length bytes < least_size → refusal ≡ 31
  pub other_length : (total bytes ≡ length bytes → ⊥) → refusal ≡ 31
  pub other_version : least_size ≤ length bytes → total bytes ≡ length bytes → (version bytes ≡ 1 → ⊥) → refusal ≡ 32
  pub other_count : least_size ≤ length bytes → total bytes ≡ length bytes → version bytes ≡ 1 → (Measured bytes → ⊥) → refusal ≡ 36
  pub not_sound : least_size ≤ length bytes → total bytes ≡ length bytes → version bytes ≡ 1 → Measured bytes
      → (sheet.Sheet (text_length bytes) (tokens bytes) → ⊥) → refusal ≡ 33
  pub no_room : least_size ≤ length bytes → total bytes ≡ length bytes → version bytes ≡ 1 → Measured bytes
      → sheet.Sheet (text_length bytes) (tokens bytes) → room < count bytes * words_per_token → refusal ≡ 34
  pub well : least_size ≤ length bytes → total bytes ≡ length bytes → version bytes ≡ 1 → Measured bytes
      → sheet.Sheet (text_length bytes) (tokens bytes) → count bytes * words_per_token ≤ room → refusal ≡ 0

abbrev pub ReadListed : Type 0
ReadListed = (r : ReadCall) → ReadsSo r → Listed r.bytes r.room (refusal_of r.found)

-- a file that was read is refused by 31 where it is cut short, wherever that is, and where anything is added to it
abbrev pub CutRefused : Type 0
CutRefused =
    (r s : ReadCall) → ReadsSo r → ReadsSo s → (text_length count : ℕ) (words : List ℕ)
    → r.found ≡ left (Ok (found_of text_length count)) words
    → (n : ℕ) → n < length r.bytes → s.bytes ≡ take n r.bytes → refusal_of s.found ≡ 31

abbrev pub LongerRefused : Type 0
LongerRefused =
    (r s : ReadCall) → ReadsSo r → ReadsSo s → (text_length count : ℕ) (words : List ℕ)
    → r.found ≡ left (Ok (found_of text_length count)) words
    → (more : List ℕ) → 0 < length more → s.bytes ≡ r.bytes ++ more → refusal_of s.found ≡ 31
