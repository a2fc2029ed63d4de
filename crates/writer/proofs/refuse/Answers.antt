-- `writer::refuse` meets its contract: both are cleared from their start.
-- Assumes nothing.
use mathlib.Core.Path.{refl, ◌∙◌}
use lib.ListN.{length}
use Rattle.tape.proofs.Clearing.{cleared-whole}
use Rattle.put.proofs.Clears.{buffer-cleared}
use Rattle.writer.proofs.Left.{refused-left}
use Rattle.writer.proofs.refuse.Goals as goal

pub returns : goal.returns
returns c =
    let args = c.args in
    refused-left args.r (length args.out.now) (length args.scratch.now) (buffer-cleared args.out.now c.clear_from.ensures refl)
    (c.clear_from-2.ensures ∙ cleared-whole args.scratch.now)
