-- What a call tells of an argument that is known by its cases.
-- Assumes nothing.
use mathlib.Core.Path.{◌≡◌, sym, ◌∙◌, ap}

-- what holds of y holds of x, which is y
pub as_told : {A B : Type 0} (f : A → B) {x y : A} {r : B} → r ≡ f y → x ≡ y → r ≡ f x
as_told f e told = e ∙ sym (ap f told)
