-- Demand 1: a refused parse gives its number and place and leaves every word of the lent tape zero; one that succeeds leaves every word
-- past its tokens zero. Told by document 01's numbers.
use Rattle.std.specs.Prelude.{ℕ, ◌-◌, ◌≤◌, ◌≡◌, List, length, drop, replicate}
use Rattle.tape.specs.Words.{words_for}
use Rattle.parse.specs.Told.{ParseTold, parse_told}

-- a success leaves as many words as were lent, its tokens within them, and zeros past those
pub record Laid_out (len count : ℕ) (words : List ℕ) : Type 0 where
  pub kept : length words ≡ len
  pub within : words_for count ≤ len
  pub zero_past : drop (words_for count) words ≡ replicate (len - words_for count) 0

-- a refusal, whichever, has no token and reports no BOM, and leaves as many words as were lent, each zero
pub record Zeroed (len count bom : ℕ) (words : List ℕ) : Type 0 where
  pub zero_all : words ≡ replicate len 0
  pub no_token : count ≡ 0
  pub no_bom : bom ≡ 0

-- what is told of a parse on a tape of so many words; a refusal's number is not 0
pub record Left (len refusal count bom place : ℕ) (words : List ℕ) : Type 0 where
  pub parsed : refusal ≡ 0 → Laid_out len count words
  pub refused : (refusal ≡ 0 → ⊥) → Zeroed len count bom words

abbrev pub Demand1 : ℕ → ParseTold → Type 0
Demand1 len (parse_told refusal count bom place words) = Left len refusal count bom place words
