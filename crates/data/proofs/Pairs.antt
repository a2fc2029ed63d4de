-- Two lists held against each other, from an index on and as a whole.
-- Assumes nothing.
use mathlib.Core.Path.{◌≡◌, refl, ◌∙◌, ap}
use mathlib.Core.Bool.{Bool, true, false, ◌&&◌}
use mathlib.Core.List.{List, [], ◌∷◌}
use Prim.Native.Nat.{ℕ, suc, ◌+◌, ◌≤◌, ◌<◌}
use native.Mathlib.Numerals.{add-one}
use lib.ListN.{length, get_or, drop, drop_of_length-le}
use lib.Seq.{drop-cons}
use Rattle.data.specs.Pairs.{pairwise}
use Rattle.data.proofs.Cases.{by_bool}

module _ {A : Type 0} (test : A → A → Bool) where
  module _ (none : A) (xs ys : List A) (i : ℕ) where
    -- from an index on: the next two, and what follows
    pairs_next : i < length xs → i < length ys
        → pairwise test (drop i xs) (drop i ys) ≡ (test (get_or xs i none) (get_or ys i none) && pairwise test (drop (i + 1) xs) (drop (i + 1) ys))
    unfolding pairwise
    pairs_next h g = rw (drop-cons xs i none h, drop-cons ys i none g, add-one i)

    pub pairs-on : i < length xs → i < length ys → test (get_or xs i none) (get_or ys i none) ≡ true
        → pairwise test (drop i xs) (drop i ys) ≡ pairwise test (drop (i + 1) xs) (drop (i + 1) ys)
    pairs-on h g e = pairs_next h g ∙ rw e

    pub pairs_not : i < length xs → i < length ys → test (get_or xs i none) (get_or ys i none) ≡ false
        → pairwise test (drop i xs) (drop i ys) ≡ false
    pairs_not h g e = pairs_next h g ∙ rw e

  -- where nothing is left of either, nothing is wrong
  pub pairs_end : (xs ys : List A) (i : ℕ) → length xs ≤ i → length ys ≤ i → pairwise test (drop i xs) (drop i ys) ≡ true
  unfolding pairwise
  pairs_end xs ys i h g = rw (drop_of_length-le xs h, drop_of_length-le ys g)

  -- not as many in the one as in the other
  pub pairs-lengths : (xs ys : List A) → (length xs ≡ length ys → ⊥) → pairwise test xs ys ≡ false
  unfolding pairwise
  pairs-lengths [] [] h = absurd (h refl)
  pairs-lengths [] (y ∷ ys) h = refl
  pairs-lengths (x ∷ xs) [] h = refl
  pairs-lengths (x ∷ xs) (y ∷ ys) h =
      by_bool (test x y)
      (λ e. rw e (pairs-lengths xs ys (λ same. h (ap suc same))))
      (λ e. rw e)

  -- a list beside itself
  pub pairs_self : ((x : A) → test x x ≡ true) → (xs : List A) → pairwise test xs xs ≡ true
  unfolding pairwise
  pairs_self h [] = refl
  pairs_self h (x ∷ xs) = rw (h x) (pairs_self h xs)
