-- The decision by a list, worked out, is the tree of tests.
-- Assumes nothing.
use mathlib.Core.Path.{refl}
use Prim.Native.Nat.{ℕ}
use Rattle.operator.specs.Operators.{sighted}
use Rattle.operator.specs.Tree.{AsTree}

pub as_tree : (first second : ℕ) → AsTree first second
unfolding sighted
as_tree first second = refl
