-- `sheet::nests::walk` meets its contract. The invariant: where the walk has come; the measure is how far the End is.
-- Assumes nothing.
use Rattle.data.proofs.Cases.{some_as}
use native.Mathlib.Omega.{arith}
use Rattle.sheet.proofs.Links.{read_link}
use Rattle.sheet.proofs.Nesting.{walk_ahead, jump_ahead, come_first, come_over, come_on, come_crossed, come_out}
use Rattle.sheet.proofs.nests.walk.Goals as goal

pub overflow_add-at : goal.overflow_add-at
overflow_add-at c = let h = walk_ahead _ _ _ c.requires in omega arith

pub loop-at-init : goal.loop-at-init
loop-at-init c = come_first _ _ _ c.requires

pub loop-at-smaller-in-Some-ToEnd : goal.loop-at-smaller-in-Some-ToEnd
loop-at-smaller-in-Some-ToEnd c =
    let link = read_link c.link_at.ensures (some_as c.in-Some-ToEnd.is c.in-Some-ToEnd.field-0-is) in
    let h = jump_ahead _ _ _ c.requires _ link in
    omega arith

pub loop-at-preserved-in-Some-ToEnd : goal.loop-at-preserved-in-Some-ToEnd
loop-at-preserved-in-Some-ToEnd c =
    come_over _ _ _ c.requires _ c.loop-at.invariant c.loop-at-test.true
    (read_link c.link_at.ensures (some_as c.in-Some-ToEnd.is c.in-Some-ToEnd.field-0-is))

pub returns-in-Some-ToOpener : goal.returns-in-Some-ToOpener
returns-in-Some-ToOpener c =
    come_crossed _ _ _ c.requires _ c.loop-at.invariant c.loop-at-test.true
    (read_link c.link_at.ensures (some_as c.in-Some-ToOpener.is c.in-Some-ToOpener.field-0-is))

pub loop-at-preserved : goal.loop-at-preserved
loop-at-preserved c =
    come_on _ _ _ c.requires _ c.loop-at.invariant c.loop-at-test.true
    (read_link c.link_at.ensures c.in-None.is)

pub returns : goal.returns
returns c = come_out _ _ _ c.requires _ c.loop-at.invariant c.loop-at-test.false
