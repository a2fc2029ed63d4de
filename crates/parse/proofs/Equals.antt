-- The usual `=` taken with the turn before it: what its own turn would do, so that a run is the same.
-- Assumes nothing.
use Rattle.std.specs.Prelude.{Result, Ok}
use mathlib.Core.Path.{◌≡◌, refl, sym, ◌∙◌, ap}
use mathlib.Core.Bool.{true, false, not, false≢true, ◌&&◌}
use mathlib.Core.List.{List}
use Prim.Native.Nat.{ℕ, suc, ◌+◌, ◌≤◌, ◌<◌}
use native.Mathlib.Omega.{arith}
use borrow.Author.Tests.{eqb-true, not-true}
use lib.Dec.{eqb}
use lib.ListN.{length, get_or-eq_default}
use Rattle.data.proofs.Cases.{by_bool, both}
use Rattle.data.specs.Bytes.{equals}
use Rattle.cut.specs.Blanks.{is_blank, skip_ws}
use Rattle.std.specs.Prelude.{Some}
use Rattle.cut.proofs.Blanks.{skip-here}
use Rattle.cut.proofs.Places.{by_place}
use Rattle.operator.specs.Operators.{sign, sighted}
use Rattle.operator.specs.declared.Operator.TheVariants.{Equal}
use Rattle.tape.specs.Tape.{Tape, view}
use Rattle.machine.specs.declared.State.{State}
use Rattle.machine.specs.declared.State.TheVariants.{Key, KeyValueSeparator, ObjectValue, ParseOpen, ArrayValue}
use Rattle.machine.specs.declared.Machine.{Machine}
use Rattle.machine.specs.declared.Turn.{Turn}
use Rattle.machine.specs.declared.Turn.TheVariants.{Next}
use Rattle.machine.specs.Machine.{byte_at, to}
use Rattle.parse.specs.After.{after, next}
use Rattle.parse.specs.Equals.{is_separator, at_equals, past_equals}
use Rattle.parse.specs.KeyValueSeparator.{separator_turn, separator_then}
use Rattle.parse.specs.Parse.{state_turn, turn, run}
use Rattle.parse.proofs.Falls.{left, turn_falls}
use Rattle.parse.proofs.Runs.{run-turn, run-enough}
use Rattle.machine.specs.declared.Refusal.{Refusal}

-- past the end stands no `=`
pub equals-within : (text : List ℕ) (at : ℕ) → byte_at text at ≡ equals → at < length text
equals-within text at e =
    by_place text at (λ inside. inside) (λ past. absurd (omega (arith, sym (get_or-eq_default text 0 {n = at} past) ∙ e)))

separator_is : (s : State) → is_separator s ≡ true → s ≡ KeyValueSeparator
separator_is Key e = absurd (false≢true e)
separator_is KeyValueSeparator e = refl
separator_is ObjectValue e = absurd (false≢true e)
separator_is ParseOpen e = absurd (false≢true e)
separator_is ArrayValue e = absurd (false≢true e)

-- `=` alone is the operator Equal, of one byte
sighted-alone : (first second : ℕ) → first ≡ equals → eqb second equals ≡ false → sighted first second ≡ sign Equal 1
unfolding sighted
sighted-alone first second e f = rw (e, sighted, f)

-- and no blank
skip-equals : (text : List ℕ) (at : ℕ) → byte_at text at ≡ equals → skip_ws text at ≡ Some at
unfolding is_blank
skip-equals text at e = skip-here text at (equals-within text at e) (ap is_blank e) (λ h. absurd (omega (arith, sym e ∙ h)))

module _ (text : List ℕ) (m : Machine) (there : at_equals text m ≡ true) where
  parts : (is_separator m.state ≡ true) × ((eqb (byte_at text m.at) equals && not (eqb (byte_at text (m.at + 1)) equals)) ≡ true)
  unfolding at_equals
  parts = both _ _ there

  first : byte_at text m.at ≡ equals
  first = eqb-true _ _ (both _ _ parts.1).0

  second : eqb (byte_at text (m.at + 1)) equals ≡ false
  second = not-true _ (both (eqb (byte_at text m.at) equals) _ parts.1).1

  pub equals_next : m.at < length text
  equals_next = equals-within text m.at first

  -- a turn there goes past it and lays down nothing
  equals-turn : (t : Tape) → turn text t m ≡ next (to m (m.at + 1) ObjectValue m.count) t
  unfolding turn state_turn separator_turn separator_then
  equals-turn t =
      rw (
        turn,
        skip-equals text m.at first,
        state_turn,
        separator_is m.state parts.0,
        separator_turn,
        sighted-alone _ _ first second,
        separator_then,
      )

  falls : Tape → left text (m.at + 1) ObjectValue < left text m.at m.state
  falls t = rw (equals-turn t) at (turn_falls text t m)

-- so the run is the same from the machine past it, which has as many tokens, and fewer turns are left, or as many
module _ (text : List ℕ) (m : Machine) where
  past-count : (past_equals text m).count ≡ m.count
  unfolding past_equals
  past-count = by_bool (at_equals text m) (λ e. rw (past_equals, e)) (λ e. rw (past_equals, e))

  past_fewer : (t : Tape) → left text (past_equals text m).at (past_equals text m).state ≤ left text m.at m.state
  unfolding past_equals
  past_fewer t =
      by_bool (at_equals text m) (λ e. rw (past_equals, e) (omega (arith, falls text m e t))) (λ e. rw (past_equals, e) (omega arith))

  past_runs : (t : Tape)
      → run text (suc (left text m.at m.state)) (next m t)
      ≡ run text (suc (left text (past_equals text m).at (past_equals text m).state)) (next (past_equals text m) t)
  unfolding past_equals
  past_runs t =
      by_bool (at_equals text m)
      (λ e. rw (past_equals, e) (run-turn text (left text m.at m.state) m t
      ∙ ap (run text (left text m.at m.state)) (equals-turn text m e t)
      ∙ run-enough text _ _ _ t (falls text m e t) (omega arith)))
      (λ e. rw (past_equals, e))

-- a turn and the `=` behind it, as the loop meets them: fewer turns are left, and the run goes on from there
module _ (text : List ℕ) (t : Tape) (m m' r : Machine) (tape : List ℕ) (x : Result Turn Refusal)
    (gave : after x tape ≡ turn text t m) (told : x ≡ Ok (Next m')) (past : r ≡ past_equals text m') where
  turned : turn text t m ≡ next m' (view tape m'.count)
  turned = sym gave ∙ ap (λ (y : Result Turn Refusal). after y tape) told

  turn_fell : left text m'.at m'.state < left text m.at m.state
  turn_fell = rw turned at (turn_falls text t m)

  pub fell : left text r.at r.state < left text m.at m.state
  fell = rw past (omega (arith, turn_fell, past_fewer text m' t))

  pub goes_on : run text (suc (left text m.at m.state)) (next m t) ≡ run text (suc (left text r.at r.state)) (next r (view tape r.count))
  goes_on =
      let p = past_equals text m' in
      run-turn text (left text m.at m.state) m t
      ∙ ap (run text (left text m.at m.state)) turned
      ∙ run-enough text _ _ _ _ turn_fell (omega arith)
      ∙ past_runs text m' (view tape m'.count)
      ∙ ap (λ (k : ℕ). run text (suc (left text p.at p.state)) (next p (view tape k))) (sym (past-count text m'))
      ∙ ap (λ (q : Machine). run text (suc (left text q.at q.state)) (next q (view tape q.count))) (sym past)

-- by whether it is next, at the place and in the state that the code then has
module _ (text : List ℕ) (m : Machine) (at : ℕ) (s : State) where
  pub past_there : at_equals text m ≡ true → at ≡ m.at + 1 → s ≡ ObjectValue → to m at s m.count ≡ past_equals text m
  unfolding past_equals
  past_there e p q = rw (past_equals, e, p, q)

  pub past_elsewhere : at_equals text m ≡ false → at ≡ m.at → s ≡ m.state → to m at s m.count ≡ past_equals text m
  unfolding past_equals
  past_elsewhere e p q = rw (past_equals, e, p, q)
