-- `report::refusals::put_refused_line` meets its contract: its parts one behind the other.
-- Assumes nothing.
use borrow.Author.Rules.{rules}
use Rattle.put.proofs.Append.{chain}
use Rattle.report.proofs.refusals.put_refused_line.Goals as goal

pub returns : goal.returns
returns c = search (rules, chain)
