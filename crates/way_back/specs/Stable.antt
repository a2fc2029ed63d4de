-- Writing is stable: what is accepted, parsed and written again is the same text.
use Rattle.std.specs.Prelude.{ℕ, ◌≤◌, Bool, true, false, ◌≡◌, List, length}
use Rattle.tape.specs.declared.token.Token.{Token}
use Rattle.tape.specs.Words.{capacity, tokens_in}
use Rattle.machine.specs.Finish.{Outcome, outcome, with_tokens}
use Rattle.parse.specs.Parse.{parse_of}
use Rattle.sheet.specs.Sound.{Sound}
use Rattle.alike.specs.Alike.{alike}
use Rattle.writer.specs.Write.{text_of, formed, too_deep}
use Rattle.way_back.specs.Accepted.{AcceptedAs}

-- a parse of some bytes that leaves a sheet's tokens, offsets aside
pub record LeavesAlike (text : List ℕ) (ts : List Token) (bytes : List ℕ) (parsed : Outcome) : Type 0 where
  pub bom : Bool
  pub words : List ℕ
  pub told : parsed ≡ outcome (with_tokens (length ts) bom) words
  pub same : alike text bytes ts (tokens_in words (length ts)) ≡ true

-- so does a parse of what is accepted, on any tape with room for the count
abbrev pub ParsesAgain : List ℕ → List Token → ℕ → ℕ → List ℕ → Type 0
ParsesAgain text ts room scratch bytes =
    AcceptedAs text ts room scratch bytes → (len : ℕ) → length ts ≤ capacity len → LeavesAlike text ts bytes (parse_of bytes len)

-- so many tokens over some bytes, on the words that a parse left, written again with any buffer and scratch that have room: the same bytes
pub record Stable (bytes words : List ℕ) (count : ℕ) : Type 0 where
  pub sound : Sound (length bytes) words count
  pub form : formed (tokens_in words count) ≡ true
  pub depth : too_deep (tokens_in words count) ≡ false
  pub text : text_of bytes (tokens_in words count) ≡ bytes
  pub again : (room scratch : ℕ) → length bytes ≤ room → count ≤ capacity scratch
      → AcceptedAs bytes (tokens_in words count) room scratch bytes

-- whatever a parse of what is accepted leaves, on any tape
abbrev pub WritesAgain : List ℕ → List Token → ℕ → ℕ → List ℕ → Type 0
WritesAgain text ts room scratch bytes =
    AcceptedAs text ts room scratch bytes → (len count : ℕ) (bom : Bool) (words : List ℕ) → parse_of bytes len ≡ outcome (with_tokens count bom) words
    → Stable bytes words count
