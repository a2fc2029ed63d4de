-- `file_lines::put_sheet_line` meets its contract: its parts one behind the other.
-- Assumes nothing.
use borrow.Author.Rules.{rules}
use Rattle.put.proofs.Append.{chain}
use Rattle.file_lines.specs.Lines.{sheet_line}
use Rattle.file_lines.proofs.put_sheet_line.Goals as goal

pub returns : goal.returns
unfolding sheet_line
returns c = search (rules, chain)
