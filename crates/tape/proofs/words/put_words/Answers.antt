-- `tape::words::put_words` meets its contract: its test is the definition's.
-- Assumes nothing.
use lib.ListN.{length-set}
use native.Mathlib.Omega.{arith}
use mathlib.Core.Path.{sym}
use Rattle.tape.proofs.Views.{put-fits, put_out}
use Rattle.tape.proofs.words.put_words.Goals as goal

pub bounds-tape-at-then-at-tape : goal.bounds-tape-at-then-at-tape
bounds-tape-at-then-at-tape c = simp length-set (omega arith)

pub returns-then-at-tape : goal.returns-then-at-tape
returns-then-at-tape c = sym (put-fits _ _ _ c.if-at-tape.true)

pub returns-else-at-tape : goal.returns-else-at-tape
returns-else-at-tape c = sym (put_out _ _ _ c.if-at-tape.false)
