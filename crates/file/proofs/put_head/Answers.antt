-- `file::put_head` meets its contract: four fields, one behind the other.
-- Assumes nothing.
use native.Mathlib.Omega.{arith}
use Rattle.file.proofs.Writing.{small-total, head_put}
use Rattle.file.proofs.put_head.Goals as goal

pub overflow_cast-size : goal.overflow_cast-size
overflow_cast-size c =
    omega (arith, c.file_size-size.ensures, small-total c.args.head.version c.args.head.text_length c.args.head.count c.requires.0)

pub returns : goal.returns
returns c =
    head_put c.args.head.version _ _ _ c.requires.1
    c.file_size-size.ensures c.put_number.ensures
    c.version_number-number.ensures c.put_number-2.ensures
    c.text_width-width.ensures c.put_number-3.ensures
    c.count_at-place.ensures c.put_number-4.ensures
