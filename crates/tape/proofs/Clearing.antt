-- Clearing a tape from its front.
-- Assumes nothing.
use mathlib.Core.Path.{◌≡◌}
use mathlib.Core.List.{List}
use Prim.Native.Nat.{ℕ}
use native.Mathlib.Nat.{sub-zero}
use lib.ListN.{length, replicate}
use Rattle.tape.specs.Words.{tokens_in, words_of, padded, cleared}

-- clearing from the front leaves zeros
pub cleared-whole : (ws : List ℕ) → cleared ws 0 ≡ replicate (length ws) 0
unfolding cleared padded tokens_in words_of
cleared-whole ws = rw (sub-zero (length ws))
