-- `put::put_bytes` meets its contract: nothing finds room, or as many bytes are copied as do.
-- Assumes nothing.
use native.Mathlib.Omega.{arith}
use borrow.Author.Rules.{rules}
use Rattle.std.proofs.Math.Nat.{min-le_left, min-le_right}
use Rattle.put.proofs.Append.{put-none, put-room}
use Rattle.put.proofs.put_bytes.Goals as goal

pub returns-then-out-at : goal.returns-then-out-at
returns-then-out-at c = put-none _ _ _ c.if-out-at.true

pub returns : goal.returns
returns c =
    put-room _ c.args.at c.args.bytes.now c.min-n.result
    (omega (arith, min-le_right))
    (omega (arith, min-le_left))
    (λ short. omega arith)
    (search rules)
