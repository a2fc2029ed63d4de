-- `cut::split_at_scalar` meets its contract: the invariant says what is left, that the scan of the whole part ends where the scan from `i` on does.
-- Assumes nothing.
use mathlib.Core.Bool.{true, false, not}
use mathlib.Core.List.{List}
use mathlib.Core.Path.{◌≡◌, refl, sym, ◌∙◌, ap}
use Prim.Native.Nat.{ℕ}
use native.Mathlib.Omega.{arith}
use borrow.Author.Tests.{eq-eqb, ne_eqb}
use lib.ListN.{get_or}
use Rattle.cut.specs.Runs.{classed, run_by}
use Rattle.cut.proofs.Positions.{run-clamped}
use Rattle.cut.proofs.Runs.{stop_past, stop_here, stop_later}
use Rattle.cut.proofs.split_at_scalar.Goals as goal

classed-yes : (table : List ℕ) (b : ℕ) → (get_or table b 0 ≡ 0 → ⊥) → classed table b ≡ true
unfolding classed
classed-yes table b n = ap not (ne_eqb (get_or table b 0) 0 n)

classed-no : (table : List ℕ) (b : ℕ) → get_or table b 0 ≡ 0 → classed table b ≡ false
unfolding classed
classed-no table b e = ap not (eq-eqb (get_or table b 0) 0 e)

pub loop-i-init : goal.loop-i-init
loop-i-init c = refl

pub returns-then-classes-b-ne0 : goal.returns-then-classes-b-ne0
unfolding run_by
returns-then-classes-b-ne0 c =
    c.max.ensures
    ∙ omega (
      arith,
      c.loop-i-test.true,
      run-clamped (classed _) _ _
          (sym (c.loop-i.invariant ∙ stop_here (classed _) _ _ c.loop-i-test.true (classed-yes _ _ c.if-classes-b-ne0.true))),
    )

pub loop-i-preserved : goal.loop-i-preserved
loop-i-preserved c = c.loop-i.invariant ∙ stop_later (classed _) _ _ c.loop-i-test.true (classed-no _ _ c.if-classes-b-ne0.false)

pub returns : goal.returns
unfolding run_by
returns c =
    omega (
      arith,
      c.loop-i.auto.i-end,
      c.loop-i-test.false,
      run-clamped (classed _) _ _ (sym (c.loop-i.invariant ∙ stop_past (classed _) _ _ c.loop-i-test.false)),
    )
