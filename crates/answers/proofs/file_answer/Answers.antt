-- `answers::file_answer` puts all of its line: what is lent is a part of the array, and the line is short.
-- Assumes nothing.
use Prim.Native.Nat.{ℕ}
use native.Mathlib.Omega.{arith}
use lib.ListN.{length-take}
use Rattle.answers.proofs.Fits.{filed-all}
use Rattle.answers.proofs.file_answer.Goals as goal

pub returns : goal.returns
returns c =
    let kept = c.put_filed.auto.buffer in
    record { holds = filed-all _ _ _ _ _ c.put_filed.ensures (omega (arith, kept, length-take {A = ℕ}, c.min-room.ensures)) c.requires }
