-- What the end of a run makes of the tape and of the parse's answer.
use Rattle.std.specs.Prelude.{ℕ, Bool, List, length, replicate, Result, Ok, Err}
use Rattle.tape.specs.Words.{cleared}
use Rattle.machine.specs.declared.Refusal.{Refusal}
use Rattle.machine.specs.declared.Parsed.{Parsed}

-- so many tokens, with a BOM or without
abbrev pub with_tokens : ℕ → Bool → Result Parsed Refusal
with_tokens count bom = Ok (record { count = count; bom = bom })

-- an answer with the words that it leaves
pub data Outcome : Type 0 where
  outcome : Result Parsed Refusal → List ℕ → Outcome

-- A parse refusal zeroes the whole tape and reports no BOM
abbrev pub refuse : ℕ → Refusal → Outcome
refuse len r = outcome (Err r) (replicate len 0)

-- After success all words past the tokens are 0
unfoldable pub finish : List ℕ → Result ℕ Refusal → Bool → Outcome
finish ws (Ok n) bom = outcome (with_tokens n bom) (cleared ws n)
finish ws (Err r) bom = refuse (length ws) r
