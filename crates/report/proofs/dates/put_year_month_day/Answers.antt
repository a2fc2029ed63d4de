-- `report::dates::put_year_month_day` meets its contract: its parts one behind the other.
-- Assumes nothing.
use borrow.Author.Rules.{rules}
use Rattle.put.proofs.Append.{chain}
use Rattle.report.proofs.dates.put_year_month_day.Goals as goal

pub returns : goal.returns
returns c = search (rules, chain)
