-- `packed::numbers::spell_at` meets its contract: the last bytes of a word are copied over a part.
-- Assumes nothing.
use mathlib.Core.Path.{◌∙◌, ap, sym}
use native.Mathlib.Omega.{arith}
use lib.Seq.{sets}
use lib.ListN.{length}
use Rattle.put.proofs.Append.{part-set}
use Rattle.packed.proofs.Spelling.{word-spelled, spelled-length}
use Rattle.packed.specs.Numbers.{width_of}
use Rattle.packed.proofs.numbers.spell_at.Goals as goal

pub returns : goal.returns
returns c =
    let args = c.args in
    let last = word-spelled args.width args.n c.bytes-size.ensures c.to_be_bytes.ensures c.copy_from_slice.ensures.after in
    part-set args.out.now _ args.at (ap length last ∙ spelled-length (width_of args.width) args.n ∙ sym c.bytes-size.ensures) (omega (arith, c.bytes-size.ensures))
    ∙ ap (sets args.out.now args.at) last
