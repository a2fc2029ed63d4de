-- `tape::words::token_of` meets its contract: the words read are those of the token, and where there is none so is there on the tape.
-- Assumes nothing.
use mathlib.Core.Path.{sym}
use native.Mathlib.Omega.{arith}
use Rattle.tape.proofs.Views.{tokens-at, tokens_none, tokens-past}
use Rattle.tape.specs.Words.{token_in}
use Rattle.tape.proofs.words.token_of.Goals as goal
use Rattle.tape.proofs.words.token_of.Goals.{else-i-count-via-then-i-count+else-i-words, else-i-count-via-else-i-count}

pub returns-then-i-words : goal.returns-then-i-words
unfolding token_in
returns-then-i-words c = sym (tokens-at _ _ _ c.if-i-count.true (omega arith))

pub returns : goal.returns
unfolding token_in
returns c =
    elim c.else-i-count.branch [
      | else-i-count-via-then-i-count+else-i-words w ↦ sym (tokens_none _ _ _ (omega arith))
      | else-i-count-via-else-i-count w ↦ sym (tokens-past _ _ _ w.if-i-count.false)
    ]
