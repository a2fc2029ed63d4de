-- `tape::words::relink` meets its contract: where there is no such word, none is read and none changes.
-- Assumes nothing.
use mathlib.Core.Path.{sym}
use mathlib.Core.List.{List}
use Prim.Native.Nat.{ℕ}
use lib.ListN.{get_or-eq_default}
use lib.Seq.{set_out}
use Rattle.tape.specs.Words.{a_word}
use Rattle.tape.proofs.words.relink.Goals as goal

pub returns : goal.returns
returns c =
    let ws : List ℕ = c.args.tape.now in
    let at : ℕ = a_word c.args.i in
    record {
      had = sym (get_or-eq_default ws 0 {n = at} c.if-at-tape.false);
      has = sym (set_out ws at c.args.link c.if-at-tape.false);
    }
