-- `cut::strides::all_unmarked` meets its contract, as it stands.
-- Assumes nothing.
use mathlib.Core.Path.{refl}
use Rattle.cut.specs.Marks.{all_unmarked}
use Rattle.cut.proofs.strides.all_unmarked.Goals as goal

pub returns : goal.returns
unfolding all_unmarked
returns c = refl
