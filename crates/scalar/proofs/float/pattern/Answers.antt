-- `scalar::float::pattern` meets its contract: only a NaN differs from itself.
-- Assumes nothing.
use Rattle.std.proofs.Common.{◌≡◌, Bool, false, not, T, sym, refl, ap, ◌∙◌, subst}
use mathlib.Core.Bool.{false≢true}
use lib.Ieee.Compare.{differs_from_itself, nan_differs}
use lib.Ieee.{Float, nan, inf, fin, ne, is_nan}
use Rattle.scalar.specs.Float.{pattern_of}
use Rattle.scalar.proofs.float.pattern.Goals as goal

-- a value that equals itself is no NaN
no_nan : (x : Float) → ne x x ≡ false → is_nan x ≡ false
unfolding is_nan
no_nan nan e = absurd (false≢true (sym e ∙ nan_differs))
no_nan (inf s) e = refl
no_nan (fin s m e) h = refl

pub float_to_bits-result : goal.float_to_bits-result
float_to_bits-result c = subst (λ (b : Bool). T (not b)) (sym (no_nan _ c.if-x.false)) tt

pub returns-then-x : goal.returns-then-x
unfolding pattern_of is_nan
returns-then-x c = sym (ap pattern_of (differs_from_itself _ (subst T (sym c.if-x.true) tt)))

pub returns-else-x : goal.returns-else-x
unfolding pattern_of
returns-else-x c = rw (pattern_of, no_nan _ c.if-x.false)
