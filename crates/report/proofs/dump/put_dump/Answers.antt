-- `report::dump::put_dump` meets its contract, by what the parse answers.
-- Assumes nothing.
use Rattle.report.specs.Dump.{left_by}
use Rattle.report.proofs.Lines.{dump-tokens, dump-refused}
use Rattle.put.proofs.Append.{chain, same_bytes}
use Rattle.report.proofs.Room.{dump-held, refusal-held}
use mathlib.Core.Path.{ap}
use borrow.Author.Rules.{rules}
use Rattle.report.proofs.dump.put_dump.Goals as goal

pub returns-in-Ok : goal.returns-in-Ok
returns-in-Ok c =
    record {
      lines = same_bytes _ _ _ _ (chain _ _ _ _ c.put_header-next.ensures c.put_tokens.ensures)
          (dump-tokens _ _ _ _ _ _ c.parse.ensures c.in-Ok.is);
      words = ap left_by c.parse.ensures;
      held = dump-held _ _ _ _ _ _ c.parse.ensures c.in-Ok.is (λ j. search rules) (search rules) (search rules);
    }

pub returns-in-Err : goal.returns-in-Err
returns-in-Err c =
    record {
      lines = same_bytes _ _ _ _ c.put_refused.ensures
          (dump-refused _ _ _ _ _ _ _ c.parse.ensures c.in-Err.is c.number-number.ensures c.place-place.ensures);
      words = ap left_by c.parse.ensures;
      held = refusal-held _ _ _ _ _ _ _ c.parse.ensures c.in-Err.is c.number-number.ensures c.place-place.ensures (search rules) (search rules);
    }
