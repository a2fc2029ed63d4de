-- Case splits that hand over their equation, and what a test of two tells of each.
-- Assumes nothing.
use Rattle.std.specs.Prelude.{Option, Some}
use mathlib.Core.Path.{◌≡◌, refl, sym, ◌∙◌, ap}
use mathlib.Core.Bool.{Bool, true, false, ◌||◌, ◌&&◌, false≢true}

-- by whether a test holds
pub by_bool {ℓ} : {P : Type ℓ} (t : Bool) → (t ≡ true → P) → (t ≡ false → P) → P
by_bool true yes-case no-case = yes-case refl
by_bool false yes-case no-case = no-case refl

-- neither of two tests
pub neither : (a b : Bool) → (a || b) ≡ false → (a ≡ false) × (b ≡ false)
neither true b h = absurd (false≢true (sym h))
neither false b h = (refl, h)

-- both of two tests
pub both : (a b : Bool) → (a && b) ≡ true → (a ≡ true) × (b ≡ true)
both true b e = (refl, e)
both false b e = absurd (false≢true e)

-- what stands in an option, by what that is
pub some_as : {A : Type 0} {x : Option A} {y z : A} → x ≡ Some y → y ≡ z → x ≡ Some z
some_as {A} {x} {y} {z} e f = e ∙ ap (λ (a : A). Some a) f
