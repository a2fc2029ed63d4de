-- `report::dump::put_over` meets its contract: its parts one behind the other.
-- Assumes nothing.
use borrow.Author.Rules.{rules}
use Rattle.put.proofs.Append.{chain}
use Rattle.report.proofs.dump.put_over.Goals as goal

pub returns : goal.returns
returns c = search (rules, chain)
