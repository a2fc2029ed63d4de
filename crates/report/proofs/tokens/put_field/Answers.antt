-- `report::tokens::put_field` meets its contract.
-- Assumes nothing.
use borrow.Author.Rules.{rules}
use Rattle.put.proofs.Append.{chain}
use Rattle.report.proofs.tokens.put_field.Goals as goal

pub returns : goal.returns
returns c = search (rules, chain)
