-- `file::refuse_read` meets its contract: the words are cleared from their start.
-- Assumes nothing.
use mathlib.Core.Path.{◌∙◌, ap}
use Rattle.tape.proofs.Clearing.{cleared-whole}
use Rattle.std.specs.Prelude.{Err}
use Rattle.file.specs.Files.{left}
use Rattle.file.proofs.refuse_read.Goals as goal

pub returns : goal.returns
returns c =
    ap (left (Err c.args.r)) (c.clear_from.ensures ∙ cleared-whole c.args.words.now)
