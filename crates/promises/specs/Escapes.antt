-- Which quoted runs hold an escape: on the tape of a successful parse a token of code 11 has a backslash in its view, and one of code 5
-- has none. Told by document 01's numbers.
use Rattle.std.specs.Prelude.{ℕ, ◌+◌, ◌≡◌, List}
use Rattle.cut.specs.Quotes.{Backslash}
use Rattle.tape.specs.declared.token.Token.{Token}
use Rattle.tape.specs.Token.{quoted_code, quoted_escape_code}
use Rattle.tape.specs.Words.{token_in}
use Rattle.parse.specs.Told.{ParseTold, parse_told}

-- a token's code says of its view whether a backslash stands in it, if it is that of a quoted run
pub record Says (text : List ℕ) (t : Token) : Type 0 where
  pub escaped : t.code ≡ quoted_escape_code → Backslash text t.a (t.a + t.b)
  pub plain : t.code ≡ quoted_code → Backslash text t.a (t.a + t.b) → ⊥

-- what is told of a text: each token of a success does
abbrev pub EscapesTold : List ℕ → ParseTold → Type 0
EscapesTold text (parse_told refusal count bom place words) = refusal ≡ 0 → (i : ℕ) → Says text (token_in words count i)
