-- How much room is always enough for the text of a sound sheet.
use Rattle.std.specs.Prelude.{ℕ, Result, Err, ◌+◌, ◌*◌, ◌≤◌, ◌≡◌, List, length}
use Rattle.tape.specs.declared.token.Token.{Token}
use Rattle.tape.specs.Words.{words_for}
use Rattle.sheet.specs.Sound.{Sheet}
use Rattle.writer.specs.declared.Refusal.TheVariants.{NoRoom}
use Rattle.writer.specs.declared.Refusal.{Refusal}
use Rattle.writer.specs.Write.{text_of}
use Rattle.writer.proofs.write.Reads as write

-- the bytes that a token adds to its view at most: one before it, and two quotes or an operator's sign
abbrev pub most_added : ℕ
most_added = 3

-- so many bytes for so many tokens over a text of so many bytes: the views are parts of the text that do not overlap
abbrev pub bytes_for : ℕ → ℕ → ℕ
bytes_for bytes count = bytes + most_added * count

-- they are room enough for the text of any sound sheet
abbrev pub EnoughRoom : Type 0
EnoughRoom = (text : List ℕ) (ts : List Token) → Sheet (length text) ts → length (text_of text ts) ≤ bytes_for (length text) (length ts)

-- of the contract of `write`: with them, and as many words of scratch as the count's tokens take, 44 does not come, of a sound sheet or
-- of any other
abbrev pub WriteFindsRoom : Type 0
WriteFindsRoom =
    (κs : _) (args : _) (r : Result ℕ Refusal) (xs : _) → write.Post κs args r xs
    → let text : List ℕ = args.0.now in
    let count : ℕ = args.1.1.0 in
    let buffer : List ℕ = args.1.1.1.0.now in
    let scratch : List ℕ = args.1.1.1.1.0.now in
    bytes_for (length text) count ≤ length buffer → words_for count ≤ length scratch → r ≡ Err NoRoom → ⊥
