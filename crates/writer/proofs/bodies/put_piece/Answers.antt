-- `writer::bodies::put_piece` meets its contract: what stands before it and its own bytes, by what it is.
-- Assumes nothing.
use Rattle.writer.proofs.Puts.{put-scalar, put-heading, put-number}
use Rattle.writer.proofs.bodies.put_piece.Goals as goal

pub returns-in-Scalar : goal.returns-in-Scalar
returns-in-Scalar c =
    put-scalar _ _ _ _ _ c.in-Scalar.is c.put_lead-next.ensures c.put_scalar.ensures

pub returns-in-Heading : goal.returns-in-Heading
returns-in-Heading c =
    put-heading _ _ _ _ _ c.in-Heading.is c.put_lead-next-in-Heading.ensures c.put_scalar-in-Heading.ensures

pub returns-in-Sign : goal.returns-in-Sign
returns-in-Sign c =
    put-number _ _ _ _ _ c.in-Sign.is c.put_lead-next-in-Sign.ensures c.put_sign.ensures
