-- `report::sheets::put_hex_bytes` meets its contract: at each turn the digits that are left, put from where the buffer is, give what all of them give.
-- Assumes nothing.
use mathlib.Core.Path.{sym, ◌∙◌}
use Rattle.put.proofs.Append.{put_on, put-empty, same_bytes}
use Rattle.report.proofs.Hexes.{hex-on, hex-none-left}
use Rattle.report.proofs.sheets.put_hex_bytes.Goals as goal

pub loop-byte-preserved : goal.loop-byte-preserved
loop-byte-preserved c =
    sym (put_on _ _ _ _ _ (hex-on _ _ c.loop-byte-test.true) c.put_hex-next.ensures) ∙ c.loop-byte.invariant

pub returns : goal.returns
returns c = same_bytes _ _ _ _ (put-empty _ _) (sym (hex-none-left _ _ c.loop-byte-test.false)) ∙ c.loop-byte.invariant
