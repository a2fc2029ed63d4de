-- `sheet::stands::closes` meets its contract where the token is no End; the check finds the rest.
-- Assumes nothing.
use Rattle.data.proofs.Cases.{some_as}
use Rattle.sheet.proofs.Links.{read_link, closes_opener, closes_none}
use Rattle.sheet.proofs.stands.closes.Goals as goal

pub returns-in-Some-ToEnd : goal.returns-in-Some-ToEnd
returns-in-Some-ToEnd c =
    closes_opener _ _ _ (read_link c.link_at.ensures (some_as c.in-Some-ToEnd.is c.in-Some-ToEnd.field-0-is))

pub returns-in-None : goal.returns-in-None
returns-in-None c = closes_none _ _ _ (read_link c.link_at.ensures c.in-None.is)
