-- `put::part` meets its contract: the front of what stands from the offset on, or nothing where nothing does.
-- Assumes nothing.
use native.Mathlib.Omega.{arith}
use Rattle.put.proofs.Parts.{part_none, part-front}
use Rattle.put.proofs.part.Goals as goal

pub returns-then-bytes-offset : goal.returns-then-bytes-offset
returns-then-bytes-offset c =
    let args = c.args in
    let none = part_none args.bytes.now args.bytes.ref_ptr args.offset args.size c.if-bytes-offset.true in
    record { bytes = none.0; place = none.1 }

pub returns : goal.returns
returns c =
    let args = c.args in
    let part =
    part-front args.bytes.now args.bytes.ref_ptr args.offset args.size (omega arith) c.front.ensures.bytes c.front.ensures.place in
    record { bytes = part.0; place = part.1 }
