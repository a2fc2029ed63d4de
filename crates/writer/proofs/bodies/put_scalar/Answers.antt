-- `writer::bodies::put_scalar` meets its contract: the bytes of the view, between quotes where there are some.
-- Assumes nothing.
use Rattle.put.specs.Parts.{view_of}
use Rattle.writer.proofs.Puts.{put-quoted, put-bare}
use Rattle.writer.proofs.bodies.put_scalar.Goals as goal

pub returns-then-quoted : goal.returns-then-quoted
returns-then-quoted c =
    let args = c.args in
    put-quoted args.out.now args.at (view_of args.text.now args.offset args.size) c.if-quoted.true c.part-bytes.ensures.bytes
    c.put_byte-open.ensures c.put_bytes-close.ensures c.put_byte.ensures

pub returns : goal.returns
returns c =
    let args = c.args in
    put-bare args.out.now args.at (view_of args.text.now args.offset args.size) c.if-quoted.false c.part-bytes.ensures.bytes
    c.put_bytes.ensures
