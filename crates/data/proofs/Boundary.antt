-- The table's rule at every number: its entry is 0 exactly where the number is none of the thirteen bytes.
-- Assumes nothing.
use mathlib.Core.Path.{◌≡◌, refl, sym, ◌∙◌, ap}
use mathlib.Core.Bool.{Bool, true, false, not, false≢true}
use mathlib.Core.List.{List, [], ◌∷◌}
use Prim.Native.Nat.{ℕ, zero, suc, ◌+◌, ◌≤◌, ◌<◌}
use native.Mathlib.Nat.{add-zero, le_of_suc-le-suc, not-suc-le-zero}
use native.Mathlib.Omega.{arith}
use borrow.Author.Tests.{ne_eqb, ltb-true, ltb-false}
use lib.Dec.{eqb, ltb}
use lib.ListN.{length, get_or, get_or-eq_default}
use Rattle.data.proofs.Cases.{by_bool}
use Rattle.data.specs.Classes.{boundary_bytes, among, is_boundary, class_of, classes_from, byte_count, classes}

-- an entry of the tabulated classes is the class of its place
from : (n b k : ℕ) → k < n → get_or (classes_from b n) k 0 ≡ class_of (b + k)
from zero b k h = absurd (not-suc-le-zero h)
from (suc n) b zero h = ap class_of (sym (add-zero b))
from (suc n) b (suc k) h = from n (b + 1) k (le_of_suc-le-suc h) ∙ ap class_of (omega arith)

length-classes : (b n : ℕ) → length (classes_from b n) ≡ n
length-classes b zero = refl
length-classes b (suc n) = ap suc (length-classes (b + 1) n)

-- a byte's entry in the table is its class
pub class_at : (b : ℕ) → b < byte_count → get_or classes b 0 ≡ class_of b
unfolding classes
class_at b h = from byte_count 0 b h ∙ ap class_of (omega arith)

-- whether every number of a list is a byte
all-bytes : List ℕ → Bool
all-bytes [] = true
all-bytes (x ∷ xs) = elim (ltb x byte_count) [ true ↦ all-bytes xs | false ↦ false ]

-- a number that is no byte stands in no list of bytes
not_among : (b : ℕ) (xs : List ℕ) → byte_count ≤ b → all-bytes xs ≡ true → among b xs ≡ false
unfolding all-bytes
not_among b [] h e = refl
not_among b (x ∷ xs) h e =
    by_bool (ltb x byte_count)
    (λ t. rw (among, ne_eqb b x (omega (arith, ltb-true x byte_count t))) (not_among b xs h (rw (all-bytes, t) at e)))
    (λ f. absurd (false≢true (rw (all-bytes, f) at e)))

past : (b : ℕ) → byte_count ≤ b → is_boundary b ≡ false
unfolding is_boundary all-bytes
past b h = not_among b boundary_bytes h refl

-- and has no entry
past-table : (b : ℕ) → byte_count ≤ b → get_or classes b 0 ≡ 0
unfolding classes
past-table b h = get_or-eq_default (classes_from 0 byte_count) 0 {n = b} (rw (length-classes 0 byte_count) h)

class_zero : (b : ℕ) (t : Bool) → is_boundary b ≡ t → eqb (class_of b) 0 ≡ not t
unfolding class_of
class_zero b true e = rw (class_of, e)
class_zero b false e = rw (class_of, e)

-- the table says of every number whether it is a boundary byte
pub entry_zero : (b : ℕ) → eqb (get_or classes b 0) 0 ≡ not (is_boundary b)
entry_zero b =
    by_bool (ltb b byte_count)
    (λ e. rw (class_at b (ltb-true b byte_count e)) (class_zero b (is_boundary b) refl))
    (λ e. rw (past-table b (ltb-false b byte_count e), past b (ltb-false b byte_count e)))
