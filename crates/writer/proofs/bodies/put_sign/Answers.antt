-- `writer::bodies::put_sign` meets its contract: the sign's one byte, or both.
-- Assumes nothing.
use Rattle.put.proofs.Append.{put-empty}
use Rattle.writer.specs.Pieces.{sign_bytes}
use Rattle.writer.proofs.bodies.put_sign.Goals as goal

pub returns-in-Some : goal.returns-in-Some
unfolding sign_bytes
returns-in-Some c = rw (sign_bytes, ← c.operator_numbered.ensures, c.in-Some.is, ← c.spelling.ensures) c.put_bytes.ensures

pub returns-in-None : goal.returns-in-None
unfolding sign_bytes
returns-in-None c = rw (sign_bytes, ← c.operator_numbered.ensures, c.in-None.is) (put-empty _ _)
