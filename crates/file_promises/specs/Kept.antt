-- What is kept on file: sheets that are read are sound, and a sheet and its file are each what the other says.
use Rattle.std.specs.Prelude.{ℕ, ◌-◌, ◌≤◌, ◌≡◌, Ok, List, ◌++◌, length, take}
use Rattle.tape.specs.Words.{words_for}
use Rattle.sheet.specs.Sound.{Sound}
use Rattle.file.specs.Files.{left, zeros, found_of}
use Rattle.file_promises.specs.Calls.{Bytes, Words, WriteCall, Writes, ReadCall, ReadsSo}

-- what is read is sound, always
abbrev pub ReadSound : Type 0
ReadSound =
    (r : ReadCall) → ReadsSo r → (text_length count : ℕ) (words : List ℕ) → r.found ≡ left (Ok (found_of text_length count)) words
    → Sound text_length words count

-- written, then read with room: the same text length, count and words
abbrev pub WriteRead : Type 0
WriteRead =
    (w : WriteCall) (r : ReadCall) → Writes w → ReadsSo r → Words w.words
    → (size : ℕ) (out : List ℕ) → w.written ≡ left (Ok size) out → r.bytes ≡ take size out → words_for w.count ≤ r.room
    → r.found ≡ left (Ok (found_of w.text_length w.count)) (take (words_for w.count) w.words ++ zeros (r.room - words_for w.count))

-- read, then written with room: the same bytes
abbrev pub ReadWrite : Type 0
ReadWrite =
    (r : ReadCall) (w : WriteCall) → ReadsSo r → Writes w → Bytes r.bytes
    → r.found ≡ left (Ok (found_of w.text_length w.count)) w.words → length r.bytes ≤ w.room
    → w.written ≡ left (Ok (length r.bytes)) (r.bytes ++ zeros (w.room - length r.bytes))

-- so two different files never hold one sheet
abbrev pub OneFile : Type 0
OneFile =
    (r s : ReadCall) → ReadsSo r → ReadsSo s → Bytes r.bytes → Bytes s.bytes
    → (text_length count : ℕ) (words others : List ℕ)
    → r.found ≡ left (Ok (found_of text_length count)) words → s.found ≡ left (Ok (found_of text_length count)) others
    → take (words_for count) words ≡ take (words_for count) others → r.bytes ≡ s.bytes
