-- When two runs of bytes are the same.
-- Assumes nothing.
use mathlib.Core.Path.{◌≡◌, refl, ap}
use mathlib.Core.Bool.{Bool, true, false, ◌&&◌, false≢true}
use mathlib.Core.List.{List, [], ◌∷◌}
use Prim.Native.Nat.{ℕ}
use borrow.Author.Tests.{eqb-true, eq-eqb}
use lib.Dec.{eqb}
use lib.Pointwise.{pointwise}
use Rattle.data.specs.Pairs.{pairwise}
use Rattle.data.proofs.Cases.{by_bool}
use Rattle.data.proofs.Pairs.{pairs_self}
use Rattle.put.specs.Equal.{equal_bytes}

-- what the library's `==` answers
pub compared : (a b : List ℕ) → pointwise eqb a b ≡ equal_bytes a b
unfolding pairwise
compared [] [] = refl
compared [] (c ∷ cs) = refl
compared (b ∷ bs) [] = refl
compared (b ∷ bs) (c ∷ cs) = ap (λ (t : Bool). eqb b c && t) (compared bs cs)

-- the same bytes are the same run
pub equal_are : (a b : List ℕ) → equal_bytes a b ≡ true → a ≡ b
unfolding pairwise
equal_are [] [] e = refl
equal_are [] (c ∷ cs) e = absurd (false≢true e)
equal_are (b ∷ bs) [] e = absurd (false≢true e)
equal_are (b ∷ bs) (c ∷ cs) e =
    by_bool (eqb b c)
    (λ t. let tail : equal_bytes bs cs ≡ true = rw t at e in rw (eqb-true b c t, equal_are bs cs tail))
    (λ f. let no : false ≡ true = rw f at e in absurd (false≢true no))

-- and every run is the same as itself
pub equal_self : (a : List ℕ) → equal_bytes a a ≡ true
equal_self a = pairs_self eqb (λ b. eq-eqb b b refl) a
