-- What holds of the tokens of every machine that a run reaches: an End names an opener that names it, and token 0 opens nothing. So two
-- branches of the Rust, which ask of the tape in mid-parse, are never taken: an End whose opener opens nothing, before an operator in
-- ArrayValue, and a closer in Key with nothing open that takes up token 0 as a container.
use Rattle.std.specs.Prelude.{ℕ, List}
use Rattle.tape.specs.declared.token.Token.{Token}
use Rattle.tape.specs.Shape.{Opens}
use Rattle.sheet.specs.Sound.{nth, Opened}

pub record Reached (ts : List Token) : Type 0 where
  pub opened : (i : ℕ) → Opened ts i
  pub top : (end : ℕ) → Opens (nth ts 0) end → ⊥
