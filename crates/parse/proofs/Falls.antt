-- Each turn consumes a byte, or leaves KeyValueSeparator or ParseOpen for another state: what is left falls.
-- Assumes nothing.
use mathlib.Core.Path.{◌≡◌, refl, ap}
use mathlib.Core.List.{List}
use Prim.Native.Nat.{ℕ, ◌+◌, ◌-◌, ◌*◌, ◌≤◌, ◌<◌}
use native.Mathlib.Omega.{arith}
use lib.ListN.{length}
use Rattle.cut.specs.Runs.{run_end}
use Rattle.tape.specs.declared.token.Token.{Token}
use Rattle.tape.specs.declared.token.ScalarKind.{ScalarKind}
use Rattle.tape.specs.Tape.{Tape}
use Rattle.machine.specs.declared.State.{State}
use Rattle.machine.specs.declared.State.TheVariants.{Key, KeyValueSeparator, ObjectValue, ParseOpen, ArrayValue}
use Rattle.machine.specs.declared.Machine.{Machine}
use Rattle.machine.specs.Machine.{to}
use Rattle.machine.specs.Parents.{state_in}
use Rattle.parse.specs.Parse.{turn}
use Rattle.parse.proofs.Moves.{Moved, container_in, above, Asked, Valued, Came, passes, separates, takes, separates_by, operates, mixes, mixes_by}
use Rattle.parse.proofs.Moves.{opens, heads, closes, empties, settles, begins, values, objects, refuses, Over, done_bare, done_closed, too_early}
use Rattle.parse.proofs.Moves.{taken-moves, name-run, value-run, value-rest}
use Rattle.parse.proofs.Walk.{All, Meets, turn_keeps}

-- a state that a turn may leave without consuming a byte counts one more
abbrev pub rank : State → ℕ
rank Key = 0
rank KeyValueSeparator = 1
rank ObjectValue = 0
rank ParseOpen = 1
rank ArrayValue = 0

pub rank-few : (s : State) → rank s ≤ 1
rank-few Key = omega arith
rank-few KeyValueSeparator = omega arith
rank-few ObjectValue = omega arith
rank-few ParseOpen = omega arith
rank-few ArrayValue = omega arith

-- how many turns may still come, at a place in a state
abbrev pub left : List ℕ → ℕ → State → ℕ
left text at state = 2 * (length text - at) + rank state

-- a machine that has fewer left than so many
abbrev pub Fewer : List ℕ → ℕ → Machine → List Token → Type 0
Fewer text bound m ts = left text m.at m.state < bound

-- what is done has none
abbrev pub Any : ℕ → List Token → Type 0
Any n ts = Unit {0}

-- behind a parameter's value the machine is past the place where the parameter was asked for
value-past : {text : List ℕ} {at : ℕ} {kind : ScalarKind} {name start rest : ℕ} → Asked text at kind name
    → Valued text (run_end text name + 1) start rest
    → at < rest
value-past asked valued =
    let n = name-run asked in
    let v = value-run valued in
    omega (arith, n.from, n.moves, v.from, v.moves, (value-rest valued).from)

module _ (text : List ℕ) (m : Machine) (here : m.at < length text) (bound : ℕ) (most : left text m.at m.state ≤ bound) where
  -- a byte consumed is worth more than a state
  past : (at : ℕ) (state : State) → m.at < at → left text at state < bound
  past at state h = omega (arith, rank-few state)

  -- and a state that counts one more is left for one that does not
  leaves : (at : ℕ) (state : State) → rank m.state ≡ 1 → rank state ≡ 0 → m.at ≤ at → left text at state < bound
  leaves at state e f h = omega arith

  move_falls : {ts : List Token} {n : ℕ} {x : Moved} → Came text m ts n x → Meets (Fewer text bound) Any x
  move_falls (passes at {state} e h) = past at state h
  move_falls (separates at e h) = leaves at ObjectValue (ap rank e) refl h
  move_falls (takes {rest = rest} {state = state} s taken) = past rest state (taken-moves taken)
  move_falls (separates_by {w} o e f h) = past (m.at + w) ObjectValue (omega arith)
  move_falls (operates {w} o e f h) = past (m.at + w) ArrayValue (omega arith)
  move_falls (mixes e) = leaves m.at ArrayValue (ap rank e) refl (omega arith)
  move_falls (mixes_by {w} o e f s h) = past (m.at + w) ArrayValue (omega arith)
  move_falls (opens s) = past (m.at + 1) ParseOpen (omega arith)
  move_falls (heads {at} e h s) = past at ParseOpen h
  move_falls {ts} (closes s e) = past (m.at + 1) (state_in (container_in ts (above ts m.parent))) (omega arith)
  move_falls {ts} (empties e) = past (m.at + 1) (state_in (container_in ts m.parent)) (omega arith)
  move_falls (settles e) = leaves m.at ArrayValue (ap rank e) refl (omega arith)
  move_falls (begins {at = at} {state = state} e taken h s) = past at state (omega (arith, taken-moves taken))
  move_falls (values {rest = rest} asks asked valued) = past (rest + 1) Key (omega (arith, value-past asked valued))
  move_falls (objects {rest = rest} asks asked valued) = past rest KeyValueSeparator (value-past asked valued)
  move_falls (refuses r few) = tt

-- every turn that goes on has fewer left
pub turn_falls : (text : List ℕ) (t : Tape) (m : Machine) → All (Fewer text (left text m.at m.state)) Any (turn text t m)
turn_falls text t m =
    turn_keeps (Fewer text (left text m.at m.state)) Any text m t
    record {
      moves = λ {p} landed by. move_falls text (to m p m.state m.count) landed.within _ (omega (arith, landed.from)) by;
      finishes = λ by. end-stops by;
    }
  where
    end-stops : {n : ℕ} {x : Moved} → Over m t.tokens n x → Meets (Fewer text (left text m.at m.state)) Any x
    end-stops (done_bare e f) = tt
    end-stops (done_closed e f g) = tt
    end-stops too_early = tt
