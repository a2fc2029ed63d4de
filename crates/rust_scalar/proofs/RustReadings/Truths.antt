-- The Rust's yes and no are ours.
-- Assumes nothing.
use mathlib.Core.Path.{◌≡◌, refl, ◌∙◌}
use mathlib.Core.List.{List, [], ◌∷◌}
use Prim.Native.Nat.{ℕ}
use lib.Dec.{eqb}
use Rattle.data.proofs.Cases.{by_bool}
use Rattle.scalar.specs.Truth.{yes, no, same, bool_read}
use Rattle.rust_scalar.specs.RustReadings.{matches, to_bool}
use Rattle.rust_scalar.specs.RustReadingsAlike.{rust_bool}

matches-is : (d p : List ℕ) → matches d p ≡ same d p
unfolding same
matches-is [] [] = refl
matches-is [] (b ∷ p) = refl
matches-is (a ∷ d) [] = refl
matches-is (a ∷ d) (b ∷ p) = by_bool (eqb a b) (λ t. rw (same, t) (matches-is d p)) (λ f. rw (same, f))

pub bool_same : (d : List ℕ) → to_bool d ≡ rust_bool (bool_read d)
unfolding to_bool bool_read
bool_same d =
    by_bool (same d yes)
    (λ y. rw (to_bool, matches-is d yes ∙ y, bool_read, y))
    (λ y. by_bool (same d no)
    (λ n. rw (to_bool, matches-is d yes ∙ y, matches-is d no ∙ n, bool_read, y, n))
    (λ n. rw (to_bool, matches-is d yes ∙ y, matches-is d no ∙ n, bool_read, y, n)))
