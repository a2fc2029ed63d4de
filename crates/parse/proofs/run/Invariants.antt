-- `parse::run`: the run from here, with one turn more than are left, is the run from the start; and what gets less.
use Prim.Native.Nat.{suc}
use lib.ListN.{length}
use mathlib.Core.Path.{◌≡◌}
use Rattle.tape.specs.Tape.{view}
use Rattle.parse.specs.After.{next}
use Rattle.parse.specs.Parse.{run, enough}
use Rattle.parse.proofs.Falls.{left}
use Rattle.parse.proofs.run.Given as goal

abbrev pub invariant-loop-after : goal.invariant-loop-after
invariant-loop-after l =
    (length l.tape ≡ length l.initial.tape)
    × (run l.text.bytes.now (enough l.text.bytes.now) (next l.initial.m (view l.initial.tape l.initial.m.count))
    ≡ run l.text.bytes.now (suc (left l.text.bytes.now l.m.at l.m.state)) (next l.m (view l.tape l.m.count)))

abbrev pub decreases-loop-after : goal.decreases-loop-after
decreases-loop-after l = left l.text.bytes.now l.m.at l.m.state
