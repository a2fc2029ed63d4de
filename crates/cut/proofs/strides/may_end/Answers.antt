-- `cut::strides::may_end` meets its contract: the mask is computed as it is defined, and no sum leaves the word.
-- Assumes nothing.
use mathlib.Core.Path.{refl}
use Prim.Native.Nat.{◌+◌}
use native.Mathlib.Omega.{arith}
use lib.Bits.{bit_and, and_le_r, xor_lt}
use Rattle.cut.specs.Lanes.{over}
use Rattle.cut.proofs.strides.may_end.Goals as goal

pub overflow_add-small : goal.overflow_add-small
overflow_add-small c =
    let z = bit_and c.args.x 0x7f7f_7f7f_7f7f_7f7f in
    omega (arith, xor_lt 63 z 0x7f7f_7f7f_7f7f_7f7f (omega (arith, and_le_r c.args.x 0x7f7f_7f7f_7f7f_7f7f)) (omega arith))

pub overflow_add-signs : goal.overflow_add-signs
overflow_add-signs c = omega (arith, and_le_r c.args.x 0x7f7f_7f7f_7f7f_7f7f)

pub overflow_add-signs-2 : goal.overflow_add-signs-2
overflow_add-signs-2 c = omega (arith, and_le_r (bit_and c.args.x 0x7f7f_7f7f_7f7f_7f7f + 0x0101_0101_0101_0101) 0x1f1f_1f1f_1f1f_1f1f)

pub returns : goal.returns
unfolding over
returns c = refl
