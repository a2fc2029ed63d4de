-- What each turn keeps, and what gets less.
use mathlib.Core.Path.{◌≡◌}
use Prim.Native.Nat.{◌≤◌, ◌-◌}
use lib.ListN.{length}
use Rattle.cut.specs.Blanks.{skip_ws}
use Rattle.cut.proofs.Blanks.{skip_comment}
use Rattle.cut.proofs.skip_ws_t.Given as goal

abbrev pub invariant-comment : goal.invariant-comment
invariant-comment l = (l.initial.i ≤ l.i) × (l.i ≤ length l.text) × (skip_ws l.text l.at ≡ skip_comment l.text l.i)

abbrev pub decreases-comment : goal.decreases-comment
decreases-comment l = length l.text - l.i

abbrev pub invariant-blanks : goal.invariant-blanks
invariant-blanks l = skip_ws l.text l.at ≡ skip_ws l.text l.i

abbrev pub decreases-blanks : goal.decreases-blanks
decreases-blanks l = length l.text - l.i
