-- `cut::strides::stop_far` meets its contract: the invariant says what is left, that the scan from the place on ends where the scan from
-- `i` on does; a stride's calm bytes are passed by the law of marks.
-- Assumes nothing.
use mathlib.Core.Path.{refl, sym, ◌∙◌}
use native.Mathlib.Omega.{arith}
use Rattle.data.specs.Classes.{is_boundary}
use Rattle.cut.proofs.Marks.{looked_ends}
use Rattle.cut.proofs.Scans.{run-passes, run-stops, run-goes_on}
use Rattle.cut.proofs.strides.stop_far.Goals as goal

pub loop-i-init : goal.loop-i-init
loop-i-init c = (c.strides-last.ensures, refl)

pub loop-i-preserved-then-all_unmarked : goal.loop-i-preserved-then-all_unmarked
loop-i-preserved-then-all_unmarked c =
    let seen = looked_ends (λ k. (c.type_inv.d k).fits) c.loop-i.invariant.0 c.loop-i-test.true
    c.eight.ensures c.may_end-x.ensures c.eight-in-loop-i.ensures c.may_end-y.ensures in (
      c.loop-i.invariant.0,
      c.loop-i.invariant.1
          ∙ run-passes is_boundary _ _ _ (seen.whole (sym c.all_unmarked.ensures ∙ c.if-all_unmarked.true)) (omega (arith, seen.within)),
    )

pub returns-then-is_boundary : goal.returns-then-is_boundary
returns-then-is_boundary c =
    let seen = looked_ends (λ k. (c.type_inv.d k).fits) c.loop-i.invariant.0 c.loop-i-test.true
    c.eight.ensures c.may_end-x.ensures c.eight-in-loop-i.ensures c.may_end-y.ensures in
    let marked = seen.marked _ c.first_mark-i.ensures.mark in
    sym
    (c.loop-i.invariant.1
    ∙ run-stops is_boundary _ _ _ marked.0 marked.1 (sym c.is_boundary.ensures ∙ c.if-is_boundary.true))

pub loop-i-preserved : goal.loop-i-preserved
loop-i-preserved c =
    let seen = looked_ends (λ k. (c.type_inv.d k).fits) c.loop-i.invariant.0 c.loop-i-test.true
    c.eight.ensures c.may_end-x.ensures c.eight-in-loop-i.ensures c.may_end-y.ensures in
    let marked = seen.marked _ c.first_mark-i.ensures.mark in (
      c.loop-i.invariant.0,
      c.loop-i.invariant.1
          ∙ run-goes_on is_boundary _ _ _ marked.0 marked.1 (sym c.is_boundary.ensures ∙ c.if-is_boundary.false),
    )

pub returns : goal.returns
returns c = c.stop_tail.ensures ∙ sym c.loop-i.invariant.1
