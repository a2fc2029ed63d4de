-- `sheet::check_source` meets its contract: the three parts tell what a sound sheet is, together.
-- Assumes nothing.
use Rattle.sheet.proofs.Whole.{check_fits, check_nested}
use Rattle.sheet.proofs.check_source.Goals as goal

pub returns-then-all_stand : goal.returns-then-all_stand
returns-then-all_stand c =
    check_nested _ _ _
    (check_fits _ _ c.holds.ensures c.if-not-holds.false)
    (c.all_stand.ensures.0 c.if-all_stand.true)
    c.nest.ensures
