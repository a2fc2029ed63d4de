-- A test that is computed of every number below a bound holds of each of them: so a rule over all bytes is proved once.
-- Assumes nothing.
use mathlib.Core.Path.{◌≡◌}
use mathlib.Core.Bool.{Bool, true, ◌&&◌}
use Prim.Native.Nat.{ℕ, zero, suc, ◌<◌}
use native.Mathlib.Omega.{arith}
use borrow.Author.Tests.{eqb-true, eqb-false}
use lib.Dec.{eqb}
use Rattle.data.proofs.Cases.{by_bool, both}

-- whether a test holds of every number below n
unfoldable pub all_below : (ℕ → Bool) → ℕ → Bool
all_below test zero = true
all_below test (suc n) = test n && all_below test n

pub below : (test : ℕ → Bool) (n : ℕ) → all_below test n ≡ true → (k : ℕ) → k < n → test k ≡ true
unfolding all_below
below test zero e k h = absurd (omega arith)
below test (suc n) e k h =
    let tests = both (test n) (all_below test n) e in
    by_bool (eqb k n) (λ t. rw (eqb-true k n t) tests.0) (λ f. below test n tests.1 k (omega (arith, eqb-false k n f)))
