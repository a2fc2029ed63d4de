-- `report::readings::put_value` meets its contract.
-- Assumes nothing.
use borrow.Author.Rules.{rules}
use Rattle.put.proofs.Append.{chain}
use Rattle.report.proofs.readings.put_value.Goals as goal

pub returns : goal.returns
returns c = search (rules, chain)
