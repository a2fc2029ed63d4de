-- `report::tokens::put_tokens` meets its contract: at each turn the lines that are left, put from where the buffer is, give what all of them give.
-- Assumes nothing.
use mathlib.Core.Path.{sym, ap, ◌∙◌}
use Rattle.put.proofs.Append.{put_on, put-empty, same_bytes}
use Rattle.report.proofs.Lines.{lines-on, lines_none}
use Rattle.report.specs.Dump.{line_of}
use Rattle.report.proofs.tokens.put_tokens.Goals as goal

pub loop-i-preserved : goal.loop-i-preserved
loop-i-preserved c =
    sym
    (put_on _ _ _ _ _
    (lines-on _ _ _ _ c.standing-all.ensures c.loop-i-test.true)
    (same_bytes _ _ _ _ c.put_token-next.ensures (ap (line_of _) c.token.ensures)))
    ∙ c.loop-i.invariant

pub returns : goal.returns
returns c =
    same_bytes _ _ _ _ (put-empty _ _) (sym (lines_none _ _ _ c.standing-all.ensures c.loop-i-test.false)) ∙ c.loop-i.invariant
