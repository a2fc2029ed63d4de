-- `report::dump::save_lines` meets its contract: what is written is held by fewer bytes than the buffer has.
-- Assumes nothing.
use borrow.Author.Rules.{rules}
use Rattle.report.proofs.Room.{save_whole}
use Rattle.report.proofs.dump.save_lines.Goals as goal

pub returns : goal.returns
returns c =
    record {
      lines = save_whole _ _ _ c.put_save.ensures.lines c.put_save.ensures.held (search rules) (search rules);
      words = c.put_save.ensures.words;
    }
