-- `cut::strides::word_mark` meets its contract: it is computed as it is defined, and eight at most.
-- Assumes nothing.
use mathlib.Core.Path.{refl}
use native.Mathlib.Omega.{arith}
use lib.Bits.{bit_and}
use lib.Count.{trailing_le}
use Rattle.cut.specs.Marks.{tops, word_mark}
use Rattle.cut.proofs.strides.word_mark.Goals as goal

pub overflow_cast-result : goal.overflow_cast-result
overflow_cast-result c = omega (arith, trailing_le 64 (bit_and c.args.x tops))

pub returns : goal.returns
unfolding word_mark
returns c = record { mark = refl; few = omega (arith, trailing_le 64 (bit_and c.args.x tops)) }
