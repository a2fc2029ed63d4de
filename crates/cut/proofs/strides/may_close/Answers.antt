-- `cut::strides::may_close` meets its contract: the mask is computed as it is defined, and what is taken from 0x80 in a byte is at most
-- 0x7f there.
-- Assumes nothing.
use mathlib.Core.Path.{refl}
use Rattle.data.proofs.Below.{all_below}
use Rattle.cut.specs.Lanes.{it, all, both, differ, on, over, value, spread, stays}
use Rattle.cut.proofs.Marks.{at_most, word_at-most}
use Rattle.cut.proofs.strides.may_close.Goals as goal

pub overflow_sub-result : goal.overflow_sub-result
unfolding all_below at_most stays on over value spread
overflow_sub-result c = word_at-most (differ (both it (all 0x7f)) (all 0x22)) 0x80 c.args.x c.ranges.x.fits refl

pub overflow_sub-result-2 : goal.overflow_sub-result-2
unfolding all_below at_most stays on over value spread
overflow_sub-result-2 c = word_at-most (differ (both it (all 0x7f)) (all 0x5c)) 0x80 c.args.x c.ranges.x.fits refl

pub returns : goal.returns
unfolding over
returns c = refl
