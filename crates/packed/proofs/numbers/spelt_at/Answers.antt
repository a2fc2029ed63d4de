-- `packed::numbers::spelt_at` meets its contract: so many bytes are copied into a word.
-- Assumes nothing.
use mathlib.Core.Path.{◌∙◌}
use Rattle.packed.proofs.Spelling.{word-spelt}
use Rattle.packed.proofs.numbers.spelt_at.Goals as goal

pub returns : goal.returns
returns c = c.from_be_bytes.ensures ∙ word-spelt c.args.width c.args.bytes.now c.args.at c.bytes-size.ensures c.requires c.copy_from_slice.ensures.after
