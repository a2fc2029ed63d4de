-- `file_lines::put_found` meets its contract, by what the reading answers.
-- Assumes nothing.
use mathlib.Core.Path.{refl, ap}
use Rattle.put.proofs.Append.{chain}
use Rattle.report.specs.Dump.{refused_line}
use Rattle.file_lines.proofs.Told.{found_as}
use Rattle.file_lines.proofs.Room.{sheet-held, refusal-held}
use borrow.Author.Rules.{rules}
use Rattle.file_lines.proofs.put_found.Goals as goal

pub returns-in-Ok : goal.returns-in-Ok
returns-in-Ok c =
    let words = c.read.new.words in
    record {
      lines = found_as _ _ _ _ words c.read.ensures c.in-Ok.is
          (chain _ _ _ _ c.put_sheet_line-next.ensures c.put_tokens.ensures) refl;
      held = sheet-held _ _ words c.read.ensures c.in-Ok.is
          (search rules)
          (search rules)
          (search rules)
          (search rules);
    }

pub returns-in-Err : goal.returns-in-Err
returns-in-Err c =
    let words = c.read.new.words in
    record {
      lines = found_as _ _ _ _ words c.read.ensures c.in-Err.is c.put_refused_line.ensures
          (ap refused_line c.number.ensures);
      held = refusal-held _ _ words c.read.ensures c.in-Err.is;
    }
