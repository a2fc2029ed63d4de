-- `report::refusals::put_refusal` meets its contract: its parts one behind the other.
-- Assumes nothing.
use borrow.Author.Rules.{rules}
use Rattle.put.proofs.Append.{chain}
use Rattle.report.proofs.refusals.put_refusal.Goals as goal

pub returns : goal.returns
returns c = search (rules, chain)
