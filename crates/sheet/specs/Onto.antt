-- What is left of lent words where the tokens that are checked are laid down on them.
use Rattle.std.specs.Prelude.{Bool, true, false, ◌&&◌, List, [], ℕ, leb, length}
use Rattle.tape.specs.declared.token.Token.{Token}
use Rattle.tape.specs.Words.{room_of, padded}

-- the tokens that are there after the answer: all where they are sound and the words have room for them, else none
abbrev pub kept : Bool → List ℕ → List Token → List Token
kept sound words ts = elim (sound && leb (length ts) (room_of words)) [ true ↦ ts | false ↦ [] ]

-- and zeros behind them
unfoldable pub laid_onto : Bool → List ℕ → List Token → List ℕ
laid_onto sound words ts = padded (length words) (kept sound words ts)
