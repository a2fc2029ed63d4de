-- `report::tokens::put_refused` meets its contract: its parts one behind the other.
-- Assumes nothing.
use borrow.Author.Rules.{rules}
use Rattle.report.specs.Dump.{refused_of}
use Rattle.put.proofs.Append.{chain}
use Rattle.report.proofs.tokens.put_refused.Goals as goal

pub returns : goal.returns
unfolding refused_of
returns c = search (rules, chain)
