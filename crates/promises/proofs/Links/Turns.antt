-- Every turn keeps the tokens in order.
-- Assumes nothing.
use mathlib.Core.Path.{◌≡◌, refl, sym, ◌∙◌, ap}
use mathlib.Core.Bool.{false}
use mathlib.Core.List.{List, [], ◌∷◌, ◌++◌}
use Prim.Native.Nat.{ℕ, ◌+◌, ◌-◌, ◌≤◌, ◌<◌}
use native.Mathlib.Omega.{arith}
use borrow.Author.Tests.{eqb-false}
use lib.Dec.{eqb}
use lib.ListN.{length, set, length-set, get_or-eq_default}
use lib.Seq.{get_or-set_same}
use Rattle.cut.specs.Runs.{run_end}
use Rattle.operator.specs.declared.Operator.{Operator}
use Rattle.operator.specs.declared.Operator.TheVariants.{LessThan, LessThanEqual, GreaterThan, GreaterThanEqual, NotEqual, Exact, Equal, Exists}
use Rattle.operator.specs.Operators.{number_of, is_equal}
use Rattle.tape.specs.declared.token.Token.{Token}
use Rattle.tape.specs.declared.token.ScalarKind.{ScalarKind}
use Rattle.tape.specs.declared.token.ScalarKind.TheVariants.{Unquoted}
use Rattle.tape.specs.declared.token.ContainerKind.TheVariants.{Object}
use Rattle.tape.specs.declared.token.Standing as Standings
use Rattle.tape.specs.Token.{no_token, mixed_container_token, opener_of, operator_of, headed, standing_of}
use Rattle.tape.specs.Tape.{Tape, before_last}
use Rattle.tape.proofs.Makers.{none-standing}
use Rattle.sheet.specs.Sound.{nth}
use Rattle.machine.specs.declared.State.{State}
use Rattle.machine.specs.declared.State.TheVariants.{Key, KeyValueSeparator, ObjectValue, ParseOpen, ArrayValue}
use Rattle.machine.specs.declared.Machine.{Machine}
use Rattle.machine.specs.Machine.{to, mixed_on}
use Rattle.parse.specs.Parse.{turn}
use Rattle.parse.proofs.Moves.{Moved, Named, defined, undefined, Asked, run_token, Takes, key, value, entry, Opens, in_value, in_array, Closes}
use Rattle.parse.proofs.Moves.{as_object, as_own, Asks, asks_key, asks_open, ScalarStands, Came, passes, separates, takes, separates_by, operates, mixes}
use Rattle.parse.proofs.Moves.{mixes_by, opens, heads, closes, empties, settles, begins, values, objects, refuses}
use Rattle.parse.proofs.Walk.{Meets, Keeps, turn_keeps}
use Rattle.promises.specs.Mixed.{Scalar, equal_token}
use Rattle.promises.proofs.Links.Nest.{by-below}
use Rattle.promises.proofs.Links.Rows.{last, add-length, add-last, insert-length, CutKind, scalar_made, plain-scalar, plain-operator, Apart}
use Rattle.promises.proofs.Links.Flags.{codes-differ, not_both, scalar-no-equal}
use Rattle.promises.proofs.Links.Kept.{Kept, Resting, standing-scalar, kept-plain, kept-opener, kept-insert, kept-header}
use Rattle.promises.proofs.Links.Held.{Signed, Shaped, unsettled, Held, Finished, RestingAt, Ready, All, counted-add, Settled, settled_before, added}
use Rattle.promises.proofs.Links.Held.{taken-plain}
use Rattle.promises.proofs.Links.Closing.{close-held, end-held}
use Rattle.promises.proofs.Links.Opening.{begun_held, settled-held, object-rests, emptied_held}

-- where the last token is read as an Unquoted there is one
some-last : (ts : List Token) → standing_of (last ts) ≡ Standings.TheVariants.Unquoted → 1 ≤ length ts
some-last ts e =
    by-below 0 (length ts)
    (λ h. h)
    (λ h.
    let none : last ts ≡ no_token = get_or-eq_default ts no_token {n = length ts - 1} (omega arith) in
    let no : Standings.TheVariants.Nothing ≡ Standings.TheVariants.Unquoted = sym none-standing ∙ ap standing_of (sym none) ∙ e in
    let z : ◌≡◌ {A = ℕ} 0 1 = cc in absurd (omega arith))

-- only `=` has the Equal's number
equal-numbered : (o : Operator) → is_equal o ≡ eqb (number_of o) (number_of Equal)
equal-numbered LessThan = refl
equal-numbered LessThanEqual = refl
equal-numbered GreaterThan = refl
equal-numbered GreaterThanEqual = refl
equal-numbered NotEqual = refl
equal-numbered Exact = refl
equal-numbered Equal = refl
equal-numbered Exists = refl

no-equal : (o : Operator) → is_equal o ≡ false → operator_of (number_of o) ≡ equal_token → ⊥
no-equal o e f = eqb-false _ _ (sym (equal-numbered o) ∙ e) (ap (λ (x : Token). x.a) f)

-- a parameter's name is a run that is cut
named-cut : {text : List ℕ} {at : ℕ} {kind : ScalarKind} {name : ℕ} → Named text at kind name → CutKind kind
named-cut (defined e f) = tt
named-cut (undefined e f) = tt

takes-settled : {s state : State} → Takes s state → Settled state
takes-settled (key e) = tt
takes-settled (value e) = tt
takes-settled (entry e) = tt

-- an opener is unsettled behind tokens that a value may follow
opened-held : (m : Machine) (ts : List Token) (at : ℕ) → m.count ≡ length ts → Kept ts m.parent → 1 ≤ length ts → Signed m.mixed ts
    → Held (to m at ParseOpen (m.count + 1)) (ts ++ (unsettled ∷ []))
opened-held m ts at c k some signed = record { counted = counted-add ts unsettled c; shaped = (ts, refl, k, some, signed) }

-- a MixedContainer put in before the last token, a scalar that has none before it
mixed_ready : (m : Machine) (ts : List Token) → Ready m.count m.parent ts → Scalar (last ts) → Apart ts
    → Ready (m.count + 1) m.parent (before_last ts mixed_container_token)
mixed_ready m ts g one apart =
    let l : length (before_last ts mixed_container_token) ≡ length ts + 1 = insert-length ts mixed_container_token (length ts - 1) (omega (arith, g.some)) in
    record {
      rest = record { counted = rw (l, g.rest.counted); resting = kept-insert ts g.rest.resting g.some one apart };
      some = rw l (omega arith);
    }

module _ (text : List ℕ) (m : Machine) (ts : List Token) (h : Held m ts) where
  -- what the state says of the tokens
  at_rest : Resting ts m.parent → RestingAt m.count m.parent ts
  at_rest r = record { counted = h.counted; resting = r }

  ready : Resting ts m.parent → 1 ≤ length ts → Ready m.count m.parent ts
  ready r some = record { rest = at_rest r; some = some }

  key-shape : m.state ≡ Key → RestingAt m.count m.parent ts
  key-shape e = at_rest (rw e at h.shaped)

  separator_shape : m.state ≡ KeyValueSeparator → Shaped KeyValueSeparator m.mixed m.parent ts
  separator_shape e = rw e at h.shaped

  array_shape : m.state ≡ ArrayValue → Shaped ArrayValue m.mixed m.parent ts
  array_shape e = rw e at h.shaped

  open_shape : m.state ≡ ParseOpen → Shaped ParseOpen m.mixed m.parent ts
  open_shape e = rw e at h.shaped

  taking : {state : State} → Takes m.state state → RestingAt m.count m.parent ts
  taking (key e) = key-shape e
  taking (value e) = let s : Shaped ObjectValue m.mixed m.parent ts = rw e at h.shaped in at_rest s.0
  taking (entry e) = at_rest (array_shape e).0

  opening : Opens m.state → Ready m.count m.parent ts × Signed m.mixed ts
  opening (in_value e) = let s : Shaped ObjectValue m.mixed m.parent ts = rw e at h.shaped in (ready s.0 s.1, s.2)
  opening (in_array e) = let s = array_shape e in (ready s.0 s.1, s.2)

  closing : {kind : _} {c : _} → Closes m.state c kind → RestingAt m.count m.parent ts
  closing (as_object e) = key-shape e
  closing (as_own e) = at_rest (array_shape e).0

  asking : {parent : ℕ} {us : List Token} → Asks m ts parent us → RestingAt m.count parent us
  asking (asks_key e) = key-shape e
  asking (asks_open e off) = let s = open_shape e in object-rests m ts h.counted s.0 s.1 s.2 s.3 s.4 off

  -- a MixedContainer before the last scalar in ArrayValue
  marked : m.state ≡ ArrayValue → m.mixed ≡ false → ScalarStands (standing_of (nth ts (m.count - 1)))
      → Ready (m.count + 1) m.parent (before_last ts mixed_container_token)
  marked e off s =
      let a = array_shape e in
      let one : Scalar (last ts) = standing-scalar (a.0.kept.row.forms (length ts - 1) (omega (arith, a.1))) (rw h.counted at s) in
      mixed_ready m ts (ready a.0 a.1) one (a.3 off)

  -- behind a parameter's name
  named_ready : {parent : ℕ} {us : List Token} {kind : ScalarKind} {name : ℕ} → Asks m ts parent us → Asked text m.at kind name
      → Ready (m.count + 1) parent (us ++ (run_token kind name (run_end text name) ∷ []))
  named_ready {us = us} {kind = kind} {name = name} asks asked =
      let r = asking asks in
      let x : Token = run_token kind name (run_end text name) in
      record {
        rest = record {
          counted = counted-add us x r.counted;
          resting = kept-plain us x r.resting (plain-scalar kind name (run_end text name - name) (named-cut asked.named));
        };
        some = omega (arith, add-length us x);
      }

  -- the last token as a Header, with an opener behind it
  headed-held : {at : ℕ} → m.state ≡ Key → standing_of (nth ts (m.count - 1)) ≡ Standings.TheVariants.Unquoted
      → Held (to m at ParseOpen (m.count + 1)) (set ts (m.count - 1) (headed (nth ts (m.count - 1))) ++ (unsettled ∷ []))
  headed-held {at} e u =
      let r = key-shape e in
      let s : standing_of (last ts) ≡ Standings.TheVariants.Unquoted = rw r.counted at u in
      let some : 1 ≤ length ts = some-last ts s in
      let x : Token = headed (nth ts (m.count - 1)) in
      let us : List Token = set ts (m.count - 1) x in
      let l : length us ≡ length ts = length-set ts (m.count - 1) x in
      let there : m.count - 1 < length ts = omega (arith, r.counted) in
      let k : Kept us m.parent = rw r.counted (kept-header ts r.resting some s) in
      let header-last : Signed m.mixed us =
      λ f. codes-differ (λ z. omega arith) (rw (l, ← r.counted, get_or-set_same ts (m.count - 1) x no_token there) at f)
      in
      opened-held m us at (r.counted ∙ sym l) k (rw l some) header-last

  move_held : {n : ℕ} {x : Moved} → Came text m ts n x → Meets Held Finished x
  move_held (passes at e past) = record { counted = h.counted; shaped = rw e at h.shaped }
  move_held (separates at e past) =
      let s = separator_shape e in
      record { counted = h.counted; shaped = (s.0, s.1, λ f. scalar-no-equal s.2 f) }
  move_held (takes {x} {rest} {state} s taken) =
      added m ts x rest state (taking s) (taken-plain taken).0 (settled_before state m.mixed x (takes-settled s) (taken-plain taken).1)
  move_held (separates_by o e f past) =
      added m ts _ _ ObjectValue (at_rest (separator_shape e).0) (plain-operator o) (λ g. absurd (no-equal o f g))
  move_held (operates o e on past) = added m ts _ _ ArrayValue (at_rest (array_shape e).0) (plain-operator o) (λ g. on)
  move_held (mixes e) =
      let s = separator_shape e in
      let g = mixed_ready m ts (ready s.0 s.1) s.2 s.3 in
      record { counted = g.rest.counted; shaped = (g.rest.resting, g.some, λ f. refl, λ f. not_both refl f) }
  move_held (mixes_by o e off s past) =
      added (mixed_on m (m.count + 1)) (before_last ts mixed_container_token) _ _ ArrayValue (marked e off s).rest (plain-operator o) (λ g. refl)
  move_held (opens s) = let o = opening s in opened-held m ts (m.at + 1) h.counted o.0.rest.resting.kept o.0.some o.1
  move_held (heads e past u) = headed-held e u
  move_held (closes {kind} s e) = close-held m ts (closing s) (opener_of kind m.count m.mixed) (kind, m.mixed, refl) e
  move_held (empties e) = let o = open_shape e in emptied_held m ts h.counted o.0 o.1 o.2 o.3 o.4
  move_held (settles e) = let o = open_shape e in settled-held m ts h.counted o.0 o.1 o.2 o.3 o.4
  move_held (begins e taken past s) = let o = open_shape e in begun_held m ts h.counted o.0 o.1 o.2 o.3 o.4 taken s
  move_held (values {parent} {us} {kind} {name} {start} {rest} asks asked valued) =
      let g = named_ready asks asked in
      let m' : Machine = record { at = m.at; state = Key; parent = parent; mixed = m.mixed; count = m.count + 1 } in
      added m' (us ++ (run_token kind name (run_end text name) ∷ [])) (run_token Unquoted start (run_end text start)) (rest + 1) Key g.rest
      (plain-scalar Unquoted start (run_end text start - start) tt) tt
  move_held (objects {parent} {us} {kind} {name} {start} {rest} asks asked valued) =
      let g = named_ready asks asked in
      let ws : List Token = us ++ (run_token kind name (run_end text name) ∷ []) in
      let name-last : Scalar (last ws) = rw (add-last us (run_token kind name (run_end text name))) (scalar_made kind name (run_end text name - name)) in
      let opened = kept-opener ws Object parent g.rest.resting.kept g.some (λ k f. scalar-no-equal name-last f) in
      let r : RestingAt (m.count + 1 + 1) (m.count + 1) (ws ++ (opener_of Object parent false ∷ [])) =
      record { counted = counted-add ws (opener_of Object parent false) g.rest.counted; resting = rw g.rest.counted opened }
      in
      let m' : Machine = record { at = m.at; state = Key; parent = m.count + 1; mixed = m.mixed; count = m.count + 1 + 1 } in
      added m' (ws ++ (opener_of Object parent false ∷ [])) (run_token Unquoted start (run_end text start)) rest KeyValueSeparator r
      (plain-scalar Unquoted start (run_end text start - start) tt) (scalar_made Unquoted start (run_end text start - start))
  move_held (refuses r few) = tt

-- every turn, by its moves
pub turn-moves : (text : List ℕ) (m : Machine) (ts : List Token) → Held m ts → Keeps Held Finished text m ts
turn-moves text m ts h =
    record {
      moves = λ {p} landed by. move_held text (to m p m.state m.count) ts record { counted = h.counted; shaped = h.shaped } by;
      finishes = λ by. end-held m ts h by;
    }

pub turn-held : (text : List ℕ) (t : Tape) (m : Machine) → Held m t.tokens → All Held (turn text t m)
turn-held text t m h = turn_keeps Held Finished text m t (turn-moves text m t.tokens h)
