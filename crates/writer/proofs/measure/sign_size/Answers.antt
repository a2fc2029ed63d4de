-- `writer::measure::sign_size` meets its contract: the sign's bytes, two at most, or none.
-- Assumes nothing.
use native.Mathlib.Omega.{arith}
use Rattle.writer.specs.Pieces.{sign_bytes}
use Rattle.writer.proofs.Sizes.{symbol-short}
use Rattle.writer.proofs.measure.sign_size.Goals as goal

pub returns-in-Some : goal.returns-in-Some
unfolding sign_bytes
returns-in-Some c =
    record {
      exact = rw (sign_bytes, ← c.operator_numbered.ensures, c.in-Some.is, ← c.spelling.ensures);
      small = rw c.spelling.ensures (symbol-short _);
    }

pub returns-in-None : goal.returns-in-None
unfolding sign_bytes
returns-in-None c =
    record { exact = rw (sign_bytes, ← c.operator_numbered.ensures, c.in-None.is); small = omega arith }
