-- `packed::numbers::put_number` meets its contract, by the test for room.
-- Assumes nothing.
use mathlib.Core.Path.{◌∙◌}
use native.Mathlib.Omega.{arith}
use Rattle.std.proofs.lemmas.Bool.Decides.{nat_tests}
use Rattle.packed.specs.Numbers.{width_of}
use Rattle.packed.proofs.Spelling.{spelled-length, store-there, store-none}
use Rattle.packed.proofs.numbers.put_number.Goals as goal

pub returns-then-fits : goal.returns-then-fits
returns-then-fits c =
    let args = c.args in
    c.spell_at.ensures ∙ store-there args.out.now args.at _ (grind (arith, nat_tests, spelled-length (width_of args.width) args.n))

pub returns-else-fits : goal.returns-else-fits
returns-else-fits c =
    let args = c.args in
    store-none args.out.now args.at _ (grind (arith, nat_tests, spelled-length (width_of args.width) args.n))
