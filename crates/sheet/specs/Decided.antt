-- What is answered by whether something holds that no function of this world tells by itself, as whether a sheet is sound.
use Rattle.std.specs.Prelude.{Bool, true, ◌↔◌, ◌≡◌}

-- the answer for yes where it holds, and the answer for no where it does not
pub record Decided {Answer : Type 0} (Holds : Type 0) (answer : Bool → Answer) (given : Answer) : Type 0 where
  pub yes : Bool
  pub holds : (yes ≡ true) ↔ Holds
  pub gives : given ≡ answer yes
