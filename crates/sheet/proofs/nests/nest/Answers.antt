-- `sheet::nests::nest` meets its contract. The invariant: the containers from i on nest.
-- Assumes nothing.
use Rattle.data.proofs.Cases.{some_as}
use Rattle.sheet.proofs.Links.{read_link}
use Rattle.sheet.proofs.Nesting.{nested_past, nested_all, nested_more, nested_end, nested_none, walkable, nested_not}
use Rattle.sheet.proofs.nests.nest.Goals as goal

pub loop-i-init : goal.loop-i-init
loop-i-init c = nested_past _ _

pub walk-requires : goal.walk-requires
walk-requires c =
    walkable _ _ c.loop-i-test.true c.loop-i.invariant c.requires
    (read_link c.link_at.ensures (some_as c.in-Some-ToEnd.is c.in-Some-ToEnd.field-0-is))

pub returns-then-not-walk : goal.returns-then-not-walk
returns-then-not-walk c = nested_not _ _ c.walk.ensures c.if-not-walk.true

pub loop-i-preserved-else-not-walk : goal.loop-i-preserved-else-not-walk
loop-i-preserved-else-not-walk c =
    nested_more _ _ c.loop-i-test.true c.loop-i.invariant (c.walk.ensures.nests c.if-not-walk.false)

pub loop-i-preserved-in-Some-ToOpener : goal.loop-i-preserved-in-Some-ToOpener
loop-i-preserved-in-Some-ToOpener c =
    nested_end _ _ c.loop-i-test.true c.loop-i.invariant
    (read_link c.link_at.ensures (some_as c.in-Some-ToOpener.is c.in-Some-ToOpener.field-0-is))

pub loop-i-preserved : goal.loop-i-preserved
loop-i-preserved c =
    nested_none _ _ c.loop-i-test.true c.loop-i.invariant
    (read_link c.link_at.ensures c.in-None.is)

pub returns : goal.returns
returns c = nested_all _ c.loop-i.invariant c.loop-i-test.false
