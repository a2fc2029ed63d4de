-- `put::copy_over` meets its contract: each turn copies four bytes more, and the last four are those that are left.
-- Assumes nothing.
use native.Mathlib.Omega.{arith}
use Rattle.put.proofs.Strides.{still, more, all_stand}
use Rattle.put.proofs.copy_over.Goals as goal

pub loop-turn-preserved : goal.loop-turn-preserved
loop-turn-preserved c = (
  still _ _ _ _ 4 c.loop-turn.invariant.0 (omega arith) c.copy_from_slice.ensures.after,
  more _ _ _ _ 4 c.loop-turn.invariant.0 (omega arith) c.copy_from_slice.ensures.after (omega arith) c.loop-turn.invariant.1,
)

pub returns : goal.returns
returns c = all_stand _ _ _ _ 4 c.loop-turn.invariant.0 (omega arith) c.copy_from_slice-2.ensures.after (omega arith) (omega arith) c.loop-turn.invariant.1
