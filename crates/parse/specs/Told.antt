-- What a parse tells in document 01's numbers and values.
use Rattle.std.specs.Prelude.{ℕ, Bool, true, false, List, Ok, Err}
use Rattle.machine.specs.Refusals.{number, place}
use Rattle.machine.specs.Finish.{Outcome, outcome}

-- 1 for yes and 0 for no
abbrev pub bit : Bool → ℕ
bit true = 1
bit false = 0

-- a parse: its refusal's number, 0 for none, the count, whether the text began with ef bb bf, the place, and the words that it leaves
pub data ParseTold : Type 0 where
  parse_told : (refusal count bom place : ℕ) → List ℕ → ParseTold

-- Success answers the count and the BOM, and has no place; a refusal has its number and place, no token, and reports no BOM
abbrev pub tell_parse : Outcome → ParseTold
tell_parse (outcome (Ok p) words) = parse_told 0 p.count (bit p.bom) 0 words
tell_parse (outcome (Err r) words) = parse_told (number r) 0 0 (place r) words
