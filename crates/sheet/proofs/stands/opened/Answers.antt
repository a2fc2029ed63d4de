-- `sheet::stands::opened` meets its contract where the token is no opener; the check finds the rest.
-- Assumes nothing.
use Rattle.data.proofs.Cases.{some_as}
use Rattle.sheet.proofs.Links.{read_link, opened_end, opened_none}
use Rattle.sheet.proofs.stands.opened.Goals as goal

pub returns-in-Some-ToOpener : goal.returns-in-Some-ToOpener
returns-in-Some-ToOpener c =
    opened_end _ _ _ (read_link c.link_at.ensures (some_as c.in-Some-ToOpener.is c.in-Some-ToOpener.field-0-is))

pub returns-in-None : goal.returns-in-None
returns-in-None c = opened_none _ _ _ (read_link c.link_at.ensures c.in-None.is)
