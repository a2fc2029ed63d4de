-- What is told of an answer is decided by what decides the answer.
-- Assumes nothing.
use mathlib.Core.Bool.{Bool}
use mathlib.Core.Path.{◌≡◌, ◌∙◌, ap}
use Rattle.sheet.specs.Decided.{Decided}

pub decided_as : {A B Holds : Type 0} (answer : Bool → A) (tell : A → B) {x : A} {y : B} → Decided Holds answer x → y ≡ tell x
    → Decided Holds (λ (yes : Bool). tell (answer yes)) y
decided_as answer tell d e = record { yes = d.yes; holds = d.holds; gives = e ∙ ap tell d.gives }
