-- `answers::run` is safe: what is kept stands within the input.
use Prim.Native.Nat.{◌≤◌}
use lib.ListN.{length}
use Rattle.answers.proofs.run.Given as goal

abbrev pub invariant-loop : goal.invariant-loop
invariant-loop g l = l.kept ≤ length l.input
