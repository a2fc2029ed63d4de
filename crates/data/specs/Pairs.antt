-- Two lists held against each other by a test.
use Rattle.std.specs.Prelude.{Bool, true, false, ◌&&◌, List, [], ◌∷◌}

-- as many in the one as in the other, and the test holds of each two that stand at the same place
unfoldable pub pairwise : {A : Type 0} → (A → A → Bool) → List A → List A → Bool
pairwise test [] [] = true
pairwise test [] (y ∷ ys) = false
pairwise test (x ∷ xs) [] = false
pairwise test (x ∷ xs) (y ∷ ys) = test x y && pairwise test xs ys
