-- `report::dump::put_save` meets its contract, by whether the input is too long.
-- Assumes nothing.
use Rattle.report.specs.Dump.{save_of, save_leaves}
use Rattle.report.proofs.Room.{over-held, save_held}
use borrow.Author.Tests.{lt-ltb, le-ltb}
use Rattle.report.proofs.dump.put_save.Goals as goal

pub returns-then-input-gt-MOST_INPUT : goal.returns-then-input-gt-MOST_INPUT
unfolding save_of save_leaves
returns-then-input-gt-MOST_INPUT c =
    let longer = lt-ltb _ _ c.if-input-gt-MOST_INPUT.true in
    record { lines = rw (save_of, longer) c.put_over.ensures; words = rw (save_leaves, longer); held = over-held c.args.input.now _ longer }

pub returns : goal.returns
unfolding save_of save_leaves
returns c =
    let within = le-ltb _ _ c.if-input-gt-MOST_INPUT.false in
    record {
      lines = rw (save_of, within) c.put_dump.ensures.lines;
      words = rw (save_leaves, within) c.put_dump.ensures.words;
      held = save_held _ _ within c.put_dump.ensures.held;
    }
