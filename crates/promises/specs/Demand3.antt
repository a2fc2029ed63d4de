-- Demand 3: every tape left by a successful parse is sound, so that the sheet check says yes to it; and for a text of n bytes a tape with
-- room for 2n + 1 tokens is never refused for room. Told by document 01's numbers. That the check says yes exactly when a sheet is sound
-- is its contract.
use Rattle.std.specs.Prelude.{ℕ, ◌+◌, ◌*◌, ◌≤◌, ◌≡◌, List, length}
use Rattle.tape.specs.Words.{words_for}
use Rattle.sheet.specs.Sound.{Sound}
use Rattle.machine.specs.declared.Refusal.TheVariants.{Full}
use Rattle.machine.specs.Refusals.{number}
use Rattle.parse.specs.Told.{ParseTold, parse_told}

-- the tokens that a text of n bytes lays down at most
abbrev pub most_tokens : ℕ → ℕ
most_tokens n = 2 * n + 1

-- what is told of a text and a tape of so many words
pub record Passes (text : List ℕ) (len refusal count : ℕ) (words : List ℕ) : Type 0 where
  pub sound : refusal ≡ 0 → Sound (length text) words count
  pub never_full : words_for (most_tokens (length text)) ≤ len → refusal ≡ number Full → ⊥

abbrev pub Demand3 : List ℕ → ℕ → ParseTold → Type 0
Demand3 text len (parse_told refusal count bom place words) = Passes text len refusal count words
