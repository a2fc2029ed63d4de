-- `tape::words::clear_from` meets its contract: zeros over the words behind the tokens that stand there.
-- Assumes nothing.
use mathlib.Core.Path.{◌∙◌, ap}
use Prim.Native.Nat.{min}
use native.Mathlib.Omega.{arith}
use Rattle.tape.proofs.Laying.{zeros_from}
use Rattle.tape.proofs.words.clear_from.Goals as goal

pub returns : goal.returns
returns c =
    zeros_from c.args.tape.now _ c.args.count (c.min-laid.ensures ∙ ap (min c.args.count) c.capacity.ensures) (omega arith) (c.fill.ensures.after (λ y e. e))
