-- `writer::write` meets its contract: what was said before settles it, or what is written does.
-- Assumes nothing.
use lib.ListN.{length}
use Rattle.tape.specs.Words.{tokens_in}
use Rattle.writer.proofs.Weighing.{settled, settled-fits}
use Rattle.writer.proofs.write.Goals as goal

pub write_fitting-requires : goal.write_fitting-requires
write_fitting-requires c =
    let args = c.args in
    let fits =
    settled-fits args.text.now (tokens_in args.words.now args.count) (length args.out.now) (length args.scratch.now)
    c.weigh.ensures c.in-Ok.is
    in
    (record { text_length = _; sound = fits.0 }, fits.1)

pub returns-in-Err : goal.returns-in-Err
returns-in-Err c =
    let args = c.args in
    settled args.text.now (tokens_in args.words.now args.count) (length args.out.now) (length args.scratch.now)
    c.weigh.ensures c.in-Err.is
    c.refuse.ensures

pub returns-in-Ok : goal.returns-in-Ok
returns-in-Ok c =
    let args = c.args in
    settled args.text.now (tokens_in args.words.now args.count) (length args.out.now) (length args.scratch.now)
    c.weigh.ensures c.in-Ok.is
    c.write_fitting.ensures
