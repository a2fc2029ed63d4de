-- It is computed as it is defined, within a byte.
use Rattle.std.proofs.Common.{refl}
use Rattle.data.specs.Classes.{may_be_sign}
use Rattle.data.proofs.may_be_sign.Goals as goal

pub returns : goal.returns
unfolding may_be_sign
returns c = refl
