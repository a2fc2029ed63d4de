-- `put::put_byte` meets its contract: there is room for the byte, or there is none.
-- Assumes nothing.
use Rattle.put.proofs.Append.{put_one, put-none}
use Rattle.put.proofs.put_byte.Goals as goal

pub returns-then-at-out : goal.returns-then-at-out
returns-then-at-out c = put_one _ _ _ c.if-at-out.true

pub returns : goal.returns
returns c = put-none _ _ _ c.if-at-out.false
