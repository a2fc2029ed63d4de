-- Why something is refused: the first of some reasons that is there.
use Rattle.std.specs.Prelude.{Bool, true, false, List, [], ◌∷◌}

-- a reason to refuse, and whether it is there
pub record Reason (Refusal : Type 0) : Type 0 where
  pub there : Bool
  pub refusal : Refusal

abbrev pub if_so : {Refusal : Type 0} → Bool → Refusal → Reason Refusal
if_so there refusal = record { there = there; refusal = refusal }

-- the refusal of the first that is there, or what is answered where none is
unfoldable pub first_of : {Refusal Answer : Type 0} → (Refusal → Answer) → Answer → List (Reason Refusal) → Answer
first_of refuse accept [] = accept
first_of refuse accept (r ∷ rs) = elim r.there [ true ↦ refuse r.refusal | false ↦ first_of refuse accept rs ]
