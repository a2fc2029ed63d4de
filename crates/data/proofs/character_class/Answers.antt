-- The table is the tabulated rule, by one computation over its entries.
-- Assumes nothing.
use Rattle.std.proofs.Common.{refl}
use Rattle.data.specs.Classes.{is_boundary, class_of, classes}
use Rattle.data.proofs.character_class.Goals as goal

pub returns : goal.returns
unfolding classes class_of is_boundary
returns c = refl
