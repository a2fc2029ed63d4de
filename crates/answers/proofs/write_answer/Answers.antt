-- `answers::write_answer` puts all of its line: what is lent is a part of the arrays, and the line is short.
-- Assumes nothing.
use Prim.Native.Nat.{ℕ}
use native.Mathlib.Omega.{arith}
use lib.ListN.{length-take}
use Rattle.answers.proofs.Fits.{written_all}
use Rattle.answers.proofs.write_answer.Goals as goal

pub returns : goal.returns
returns c =
    let kept = c.put_written.auto.buffer in
    record { holds = written_all _ _ _ _ _ c.put_written.ensures (omega (arith, kept, length-take {A = ℕ}, c.min-room.ensures)) c.requires }
