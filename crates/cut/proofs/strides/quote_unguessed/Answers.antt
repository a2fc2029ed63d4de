-- `cut::strides::quote_unguessed` meets its contract: the invariant says what is left, that the run of the whole part is the run from `i`
-- on, with the flag as it stands; a stride's calm bytes are passed by the law of marks.
-- Assumes nothing.
use mathlib.Core.Path.{refl, sym, ◌∙◌}
use native.Mathlib.Omega.{arith}
use Rattle.cut.specs.Quotes.{quoted_run}
use Rattle.cut.proofs.Marks.{looked_closes}
use Rattle.cut.proofs.Scans.{quote-passes, quote-closes, quote_escapes, quote-goes_on}
use Rattle.cut.proofs.strides.quote_unguessed.Goals as goal

pub loop-i-init : goal.loop-i-init
unfolding quoted_run
loop-i-init c = (c.strides-last.ensures, refl)

pub loop-i-preserved-then-all_unmarked : goal.loop-i-preserved-then-all_unmarked
loop-i-preserved-then-all_unmarked c =
    let seen = looked_closes (λ k. (c.type_inv.d k).fits) c.loop-i.invariant.0 c.loop-i-test.true
    c.eight.ensures c.may_close-x.ensures c.eight-in-loop-i.ensures c.may_close-y.ensures in (
      c.loop-i.invariant.0,
      c.loop-i.invariant.1
          ∙ quote-passes _ _ _ _ (seen.whole (sym c.all_unmarked.ensures ∙ c.if-all_unmarked.true)) (omega (arith, seen.within)),
    )

pub returns-then-b-eq34 : goal.returns-then-b-eq34
returns-then-b-eq34 c =
    let seen = looked_closes (λ k. (c.type_inv.d k).fits) c.loop-i.invariant.0 c.loop-i-test.true
    c.eight.ensures c.may_close-x.ensures c.eight-in-loop-i.ensures c.may_close-y.ensures in
    let marked = seen.marked _ c.first_mark-n.ensures.mark in
    sym (c.loop-i.invariant.1 ∙ quote-closes _ _ _ _ marked.0 marked.1 c.if-b-eq34.true)

pub loop-i-preserved-then-b-eq92 : goal.loop-i-preserved-then-b-eq92
loop-i-preserved-then-b-eq92 c =
    let seen = looked_closes (λ k. (c.type_inv.d k).fits) c.loop-i.invariant.0 c.loop-i-test.true
    c.eight.ensures c.may_close-x.ensures c.eight-in-loop-i.ensures c.may_close-y.ensures in
    let marked = seen.marked _ c.first_mark-n.ensures.mark in
    (c.loop-i.invariant.0, c.loop-i.invariant.1 ∙ quote_escapes _ _ _ _ marked.0 marked.1 c.if-b-eq92.true)

pub loop-i-preserved : goal.loop-i-preserved
loop-i-preserved c =
    let seen = looked_closes (λ k. (c.type_inv.d k).fits) c.loop-i.invariant.0 c.loop-i-test.true
    c.eight.ensures c.may_close-x.ensures c.eight-in-loop-i.ensures c.may_close-y.ensures in
    let marked = seen.marked _ c.first_mark-n.ensures.mark in (
      c.loop-i.invariant.0,
      c.loop-i.invariant.1 ∙ quote-goes_on _ _ _ _ marked.0 marked.1 c.if-b-eq34.false c.if-b-eq92.false,
    )

pub returns : goal.returns
returns c = c.quote_tail.ensures ∙ sym c.loop-i.invariant.1
