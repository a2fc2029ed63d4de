-- `report::tokens::put_token` meets its contract: its parts one behind the other.
-- Assumes nothing.
use borrow.Author.Rules.{rules}
use Rattle.report.specs.Dump.{line_of}
use Rattle.put.proofs.Append.{chain}
use Rattle.report.proofs.tokens.put_token.Goals as goal

pub returns : goal.returns
unfolding line_of
returns c = search (rules, chain)
