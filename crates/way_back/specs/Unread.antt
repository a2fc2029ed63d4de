-- Nothing is read past the first count tokens and their views.
use Rattle.std.specs.Prelude.{ℕ, Result, Bool, ◌≡◌, List, length}
use Rattle.tape.specs.declared.token.Token.{Token}
use Rattle.tape.specs.Token.{nth}
use Rattle.tape.specs.Words.{tokens_in}
use Rattle.sheet.specs.Sound.{Views}
use Rattle.writer.specs.declared.Refusal.{Refusal}
use Rattle.put.specs.Parts.{view_of}
use Rattle.writer.specs.Write.{write_of}
use Rattle.writer.proofs.write.Reads as write

-- every scalar of some tokens views the same bytes in two texts, whatever else stands in them
abbrev pub SameViews : List ℕ → List ℕ → List Token → Type 0
SameViews text other ts = (i offset size : ℕ) → Views (nth ts i) offset size → view_of text offset size ≡ view_of other offset size

-- then the same is answered and left for the tokens over either, sound or not
abbrev pub ViewsAlone : Type 0
ViewsAlone =
    (text other : List ℕ) (ts : List Token) → SameViews text other ts
    → (room scratch : ℕ) (sound : Bool) → write_of text ts room scratch sound ≡ write_of other ts room scratch sound

-- two texts and two slices of words that are the same in what a call with a count reads: the length of the text, the first count tokens,
-- or as many as stand there whole, and what they view
pub record SameRead (text other words others : List ℕ) (count : ℕ) : Type 0 where
  pub lengths : length text ≡ length other
  pub tokens : tokens_in words count ≡ tokens_in others count
  pub views : SameViews text other (tokens_in words count)

-- the same answer, the same buffer and the same scratch
pub record SameLeft (answer other : Result ℕ Refusal) (buffer buffer' scratch scratch' : List ℕ) : Type 0 where
  pub answers : answer ≡ other
  pub buffers : buffer ≡ buffer'
  pub scratches : scratch ≡ scratch'

-- of the contract of `write`: two calls with the same in what is read, and with buffers and scratches of the same lengths, whatever
-- stands in those, answer and leave the same. It is what `CheckIgnores` of crates/sheet/specs/Laws.antt says of `check`: slices with the
-- same words up to the count hold the same tokens. Of the arguments `.0` is the text, and behind it stand the words, the count, the buffer
-- and the scratch
abbrev pub WriteIgnores : Type 0
WriteIgnores =
    (κs : _) (args : _) (r : Result ℕ Refusal) (xs : _) → write.Post κs args r xs
    → (ls : _) (asked : _) (s : Result ℕ Refusal) (ys : _) → write.Post ls asked s ys
    → args.1.1.0 ≡ asked.1.1.0
    → SameRead args.0.now asked.0.now args.1.0.now asked.1.0.now args.1.1.0
    → length args.1.1.1.0.now ≡ length asked.1.1.1.0.now
    → length args.1.1.1.1.0.now ≡ length asked.1.1.1.1.0.now
    → SameLeft r s xs.1.1.1.0.now ys.1.1.1.0.now xs.1.1.1.1.0.now ys.1.1.1.1.0.now
