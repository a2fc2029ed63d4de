-- A number is that of the operator that it stands for.
-- Assumes nothing.
use mathlib.Core.Path.{◌≡◌, refl, sym, ◌∙◌, ap}
use Prim.Native.Nat.{ℕ}
use Rattle.operator.specs.declared.Operator.{Operator}
use Rattle.operator.specs.declared.Operator.TheVariants.{LessThan, LessThanEqual, GreaterThan, GreaterThanEqual, NotEqual, Exact, Equal, Exists}
use Rattle.std.specs.Prelude.{Some}
use Rattle.operator.specs.Operators.{number_of, numbered}

-- every operator stands for itself
pub own_number : (o : Operator) → numbered (number_of o) ≡ Some o
unfolding numbered
own_number LessThan = refl
own_number LessThanEqual = refl
own_number GreaterThan = refl
own_number GreaterThanEqual = refl
own_number NotEqual = refl
own_number Exact = refl
own_number Equal = refl
own_number Exists = refl

pub number-named : (n : ℕ) (o : Operator) → n ≡ number_of o → Some o ≡ numbered n
number-named n o e = sym (ap numbered e ∙ own_number o)
