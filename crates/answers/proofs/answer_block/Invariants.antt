-- `answers::answer_block` ends: what is left gets shorter by a record. It is no longer than the input, and there is room for the line of a
-- bad record.
use Prim.Native.Nat.{◌+◌, ◌≤◌}
use lib.ListN.{length}
use Rattle.answers.specs.Whole.{stop_bytes}
use Rattle.answers.proofs.answer_block.Given as goal

abbrev pub invariant-loop-kind : goal.invariant-loop-kind
invariant-loop-kind g l = (length l.left ≤ length l.input) × (l.to + stop_bytes ≤ length l.out)

abbrev pub decreases-loop-kind : goal.decreases-loop-kind
decreases-loop-kind g l = length l.left
