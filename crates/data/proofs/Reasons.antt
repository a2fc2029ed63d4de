-- What is answered to some reasons, by whether the first is there.
-- Assumes nothing.
use mathlib.Core.Path.{◌≡◌, refl}
use mathlib.Core.Bool.{Bool, true, false}
use mathlib.Core.List.{List, [], ◌∷◌}
use Rattle.data.specs.Reasons.{Reason, if_so, first_of}

module _ {Refusal Answer : Type 0} (refuse : Refusal → Answer) (accept : Answer) (why : Refusal) (rs : List (Reason Refusal)) {there : Bool} where
  pub first-here : there ≡ true → first_of refuse accept (if_so there why ∷ rs) ≡ refuse why
  unfolding first_of
  first-here e = rw (first_of, e)

  pub first-later : there ≡ false → first_of refuse accept (if_so there why ∷ rs) ≡ first_of refuse accept rs
  unfolding first_of
  first-later e = rw (first_of, e)

pub first-none : {Refusal Answer : Type 0} (refuse : Refusal → Answer) (accept : Answer) → first_of refuse accept [] ≡ accept
unfolding first_of
first-none refuse accept = refl
