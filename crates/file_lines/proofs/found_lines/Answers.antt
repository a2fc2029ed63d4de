-- `file_lines::found_lines` meets its contract: what is put is held by fewer bytes than the buffer has.
-- Assumes nothing.
use borrow.Author.Rules.{rules}
use Rattle.file_lines.proofs.Room.{whole-told}
use Rattle.file_lines.proofs.found_lines.Goals as goal

pub returns : goal.returns
returns c = whole-told _ _ _ _ _ c.put_found.ensures.lines c.put_found.ensures.held (search rules) (search rules)
