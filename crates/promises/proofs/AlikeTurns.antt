-- Each turn answers alike with room for k tokens and with no bound, and pays for its tokens with its bytes.
-- Assumes nothing.
use Rattle.std.specs.Prelude.{Option, None, Result}
use mathlib.Core.Path.{◌≡◌, refl, sym, ◌∙◌, ap, subst}
use mathlib.Core.Bool.{Bool, true, false}
use mathlib.Core.List.{List, [], ◌∷◌, ◌++◌}
use Prim.Native.Nat.{ℕ, ◌+◌, ◌-◌, ◌*◌, ◌≤◌, ◌<◌}
use native.Mathlib.Omega.{arith}
use lib.ListN.{length, set, length-set}
use Rattle.data.proofs.Cases.{by_bool}
use Rattle.cut.specs.Runs.{run_end}
use Rattle.cut.specs.Scalars.{scalar_cut}
use Rattle.tape.specs.declared.token.Token.{Token}
use Rattle.tape.specs.declared.token.Container.{Container}
use Rattle.tape.specs.declared.token.ScalarKind.{ScalarKind}
use Rattle.tape.specs.declared.token.ScalarKind.TheVariants.{Unquoted}
use Rattle.tape.specs.declared.token.ContainerKind.{ContainerKind}
use Rattle.tape.specs.declared.token.ContainerKind.TheVariants.{Array, Object}
use Rattle.tape.specs.declared.token.Standing as Standing
use Rattle.operator.specs.Operators.{number_of}
use Rattle.tape.specs.Token.{mixed_container_token, end_of, opener_of, operator_of, headed, opened}
use Rattle.tape.specs.Tape.{Tape, holds, unbounded, before_last, token_at, replace}
use Rattle.machine.specs.declared.State.{State}
use Rattle.machine.specs.declared.State.TheVariants.{Key, KeyValueSeparator, ObjectValue, ParseOpen, ArrayValue}
use Rattle.machine.specs.declared.Machine.{Machine}
use Rattle.machine.specs.declared.Refusal.{Refusal}
use Rattle.machine.specs.Machine.{to}
use Rattle.machine.specs.Parents.{state_in, mixed_in}
use Rattle.parse.specs.ParseOpen.{flag_parent}
use Rattle.parse.specs.Parse.{turn}
use Rattle.parse.proofs.Splits.{by-container}
use Rattle.parse.proofs.Moves.{Moved, goes, ends, stops, token_in, container_in, unsettled, run_token, above, closed_as, flagged, Taken, unquoted, quoted}
use Rattle.parse.proofs.Moves.{Named, defined, undefined, Takes, key, value, entry, Settles, with_key, with_entry, Asks, asks_key, asks_open}
use Rattle.parse.proofs.Moves.{key_bracket, open_bracket, Unasked, lone, nameless, open_name, valueless, ScalarStands, Refuses, brace_ends}
use Rattle.parse.proofs.Moves.{no_header, key_ends, value_ends, entry_ends, first_uncut, no_value, mixed_parameter, inner_ends, first_ends, stack_empty}
use Rattle.parse.proofs.Moves.{unknown, marked_unknown, nothing_precedes, no_parameter, Came, passes, separates, takes, separates_by, operates}
use Rattle.parse.proofs.Moves.{mixes, mixes_by}
use Rattle.parse.proofs.Moves.{opens, heads, closes, empties, settles, begins, values, objects, refuses, Over, done_bare, done_closed, too_early, Turned}
use Rattle.parse.proofs.Moves.{on_byte, at_end, taken-moves, name-run, value-run, value-rest}
use Rattle.parse.proofs.Walk.{told, turn_comes}
use Rattle.cut.proofs.Blanks.{skip_lands}
use Rattle.promises.specs.Mixed.{Mixes}
use Rattle.promises.specs.Room.{tape_of, name_ended, parameter_lays, key_lays, is_cut, open_lays, is_scalar, value_lays, state_lays, turn_lays, and_one}
use Rattle.promises.specs.Room.{laid_by}
use Rattle.promises.proofs.Alike.{spare, spare-few, Going, Alike, Paid, laying-alike, laying-free, added_sized, mixed-sized}
use Rattle.tape.proofs.Makers.{by_opened}
use Rattle.tape.specs.Token.{opened}

-- which token the state lays down first
module _ (text : List ℕ) (t : Tape) (m : Machine) where
  pub lays-key : m.state ≡ Key → state_lays text t m ≡ key_lays text m
  unfolding state_lays
  lays-key e = cc

  pub lays_separator : m.state ≡ KeyValueSeparator → state_lays text t m ≡ false
  unfolding state_lays
  lays_separator e = cc

  pub lays-value : m.state ≡ ObjectValue → state_lays text t m ≡ false
  unfolding state_lays
  lays-value e = cc

  pub lays_open : m.state ≡ ParseOpen → state_lays text t m ≡ open_lays text m
  unfolding state_lays
  lays_open e = cc

  pub lays-array : m.state ≡ ArrayValue → state_lays text t m ≡ value_lays text t m
  unfolding state_lays
  lays-array e = cc

-- ---- what a refused turn has laid down
-- a parameter's name counts where a `]` ends it
named-lays : {text : List ℕ} {at : ℕ} {kind : ScalarKind} {start : ℕ} → Named text at kind start → parameter_lays text at ≡ name_ended text start
unfolding parameter_lays
named-lays (defined e f) = rw (parameter_lays, e, f)
named-lays (undefined e f) = rw (parameter_lays, e, f)

unasked_lays : {text : List ℕ} {at : ℕ} {n : ℕ} {r : Refusal} → Unasked text at n r → (c : ℕ) → and_one c (parameter_lays text at) ≡ c + n
unfolding parameter_lays name_ended
unasked_lays (lone e) c = rw (parameter_lays, e) (omega arith)
unasked_lays (nameless named out) c = rw (named-lays named, name_ended, out) (omega arith)
unasked_lays (open_name named inside e) c = rw (named-lays named, name_ended, inside, e) (omega arith)
unasked_lays (valueless asked) c = rw (named-lays asked.named, name_ended, asked.inside, asked.ended)

-- a first scalar that is cut, and a scalar that stands last
taken-cut : {text : List ℕ} {at : ℕ} {x : Token} {rest : ℕ} → Taken text at x rest → is_cut (scalar_cut text at) ≡ true
taken-cut (unquoted start end rest q) = ap is_cut q
taken-cut (quoted start end rest escaped q) = ap is_cut q

stands-scalar : (x : Standing.Standing) → ScalarStands x → is_scalar x ≡ true
stands-scalar Standing.TheVariants.Unquoted s = refl
stands-scalar Standing.TheVariants.OtherScalar s = refl
stands-scalar Standing.TheVariants.End s = absurd s
stands-scalar Standing.TheVariants.Nothing s = absurd s

stands-other : (x : Standing.Standing) → (ScalarStands x → ⊥) → is_scalar x ≡ false
stands-other Standing.TheVariants.Unquoted s = absurd (s tt)
stands-other Standing.TheVariants.OtherScalar s = absurd (s tt)
stands-other Standing.TheVariants.End s = refl
stands-other Standing.TheVariants.Nothing s = refl

module _ (text : List ℕ) (m : Machine) (ts : List Token) where
  abbrev free : Tape
  free = tape_of unbounded ts

  -- the tokens before the turn, and one more where the state lays it down first
  refused-lays : {n : ℕ} {r : Refusal} → Refuses text m ts n r → and_one m.count (state_lays text free m) ≡ m.count + n
  unfolding key_lays open_lays value_lays token_at
  refused-lays (brace_ends e b) = rw (lays-key text free m e, key_lays, b) (omega arith)
  refused-lays (no_header at e b) = rw (lays-key text free m e, key_lays, b) (omega arith)
  refused-lays (key_ends e b) = rw (lays-key text free m e, key_lays, b) (omega arith)
  refused-lays (value_ends e) = rw (lays-value text free m e) (omega arith)
  refused-lays (entry_ends e b) = rw (lays-array text free m e, value_lays, b) (omega arith)
  refused-lays (first_uncut e b q) = rw (lays_open text free m e, open_lays, b, q) (omega arith)
  refused-lays (no_value e) = rw (lays-value text free m e) (omega arith)
  refused-lays (mixed_parameter e b on) = rw (lays_open text free m e, open_lays, b, on) (omega arith)
  refused-lays (inner_ends e b) = rw (lays_open text free m e, open_lays, b) (omega arith)
  refused-lays (first_ends e b taken) = rw (lays_open text free m e, open_lays, b, taken-cut taken)
  refused-lays (stack_empty e b) = rw (lays-array text free m e, value_lays, b) (omega arith)
  refused-lays (unknown e b on) = rw (lays-array text free m e, value_lays, b, on) (omega arith)
  refused-lays (marked_unknown e b off s) = rw (lays-array text free m e, value_lays, b, off, stands-scalar _ s)
  refused-lays (nothing_precedes e b off s) = rw (lays-array text free m e, value_lays, b, off, stands-other _ s) (omega arith)
  refused-lays (no_parameter (key_bracket e b) un) = rw (lays-key text free m e, key_lays, b) (unasked_lays un m.count)
  refused-lays (no_parameter (open_bracket e b off) un) = rw (lays_open text free m e, open_lays, b, off) (unasked_lays un m.count)

and_one-few : (c : ℕ) (b : _) → and_one c b ≤ c + 1
and_one-few c true = omega arith
and_one-few c false = omega arith

-- ---- what each move pays
-- a parent that is taken up
resumed-mixes : (up : Option Container) → Mixes (state_in up) (mixed_in up)
resumed-mixes up = by_opened (λ c. Mixes (state_in c) (mixed_in c)) go refl up
  where
    go : (kind : ContainerKind) (link : ℕ) (mixed : Bool) → Mixes (state_in (opened kind link mixed)) mixed
    go Array link mixed = tt
    go Object link true = tt
    go Object link false = refl

settles-mixes : {kind : ContainerKind} {state : State} → Settles kind state → Mixes state false
settles-mixes with_key = refl
settles-mixes with_entry = tt

-- the flag of a parent changes no count
flagged-length : (ts : List Token) (m : Machine) → length (flagged ts m) ≡ length ts
unfolding flag_parent token_at replace
flagged-length ts m =
    by_bool m.mixed
    (λ e. by-container (container_in ts m.parent)
    (λ kind link mixed f. rw (flagged, flag_parent, e, f) (length-set ts m.parent (opener_of kind link true)))
    (λ f. rw (flagged, flag_parent, e, f)))
    (λ e. rw (flagged, flag_parent, e))

closed-sized : (i : ℕ) (x : Token) (ts : List Token) (c : ℕ) → length ts ≡ c → length (closed_as ts i x) ≡ c + 1
closed-sized i x ts c e = added_sized (set ts i x) c (end_of i) (length-set ts i x ∙ e)

module _ (text : List ℕ) (budget : ℕ) (m : Machine) (ts : List Token) (sized : length ts ≡ m.count) (here : m.at < length text)
    (paid : m.count + spare m.state + 2 * (length text - m.at) ≤ budget) (mixing : Mixes m.state m.mixed) where
  off_in_separator : m.state ≡ KeyValueSeparator → m.mixed ≡ false
  off_in_separator e = rw e at mixing

  takes-mixes : {state : State} → Takes m.state state → Mixes state m.mixed
  takes-mixes (key e) = rw e at mixing
  takes-mixes (value e) = rw e at mixing
  takes-mixes (entry e) = tt

  asks_off : {parent : ℕ} {us : List Token} → Asks m ts parent us → m.mixed ≡ false
  asks_off (asks_key e) = rw e at mixing
  asks_off (asks_open e off) = off

  asks-sized : {parent : ℕ} {us : List Token} → Asks m ts parent us → length us ≡ m.count
  asks-sized (asks_key e) = sized
  asks-sized (asks_open e off) = length-set ts _ _ ∙ sized

  spared : m.state ≡ KeyValueSeparator → spare m.state ≡ 1
  spared e = ap spare e

  move_pays : {n : ℕ} {x : Moved} → Came text m ts n x → Paid text budget (m.count + n) x
  move_pays (passes at {state} e h) = (omega arith, sized, rw e at mixing, omega (arith, spare-few state))
  move_pays (separates at e h) = (omega arith, sized, off_in_separator e, omega (arith, spared e))
  move_pays (takes {x} {rest} {state} s taken) = (refl, added_sized ts m.count x sized, takes-mixes s, omega (arith, taken-moves taken, spare-few state))
  move_pays (separates_by o e f h) = (refl, added_sized ts m.count _ sized, off_in_separator e, omega arith)
  move_pays (operates o e on h) = (refl, added_sized ts m.count _ sized, tt, omega arith)
  move_pays (mixes e) = (refl, mixed-sized ts m.count _ sized, tt, omega (arith, spared e))
  move_pays (mixes_by o e off s h) = (
    omega arith,
    added_sized (before_last ts mixed_container_token) (m.count + 1) (operator_of (number_of o)) (mixed-sized ts m.count mixed_container_token sized),
    tt,
    omega arith,
  )
  move_pays (opens s) = (refl, added_sized ts m.count _ sized, tt, omega arith)
  move_pays (heads e h s) =
      let x : Token = headed (token_in ts (m.count - 1)) in
      (refl, added_sized (set ts (m.count - 1) x) m.count unsettled (length-set ts (m.count - 1) x ∙ sized), tt, omega arith)
  move_pays (closes {kind} s e) =
      let up : Option Container = container_in ts (above ts m.parent) in
      (refl, closed-sized m.parent _ ts m.count sized, resumed-mixes up, omega (arith, spare-few (state_in up)))
  move_pays (empties e) =
      let up : Option Container = container_in ts m.parent in
      (refl, closed-sized (m.count - 1) _ ts m.count sized, resumed-mixes up, omega (arith, spare-few (state_in up)))
  move_pays (settles e) = (omega arith, length-set ts _ _ ∙ sized, tt, omega arith)
  move_pays (begins {x} {rest} {at} {kind} {state} e taken h s) =
      let us : List Token = ts ++ (x ∷ []) in
      let same = length-set (flagged us (to m rest ParseOpen (m.count + 1))) _ _ ∙ flagged-length us (to m rest ParseOpen (m.count + 1)) in
      (refl, same ∙ added_sized ts m.count x sized, settles-mixes s, omega (arith, taken-moves taken, spare-few state))
  move_pays (values {parent} {us} {kind} {name} {start} {rest} asks asked valued) =
      let n = name-run asked in
      let v = value-run valued in
      let x : Token = run_token kind name (run_end text name) in
      let y : Token = run_token Unquoted start (run_end text start) in
      let counted = added_sized (us ++ (x ∷ [])) (m.count + 1) y (added_sized us m.count x (asks-sized asks)) in
      (omega arith, counted, asks_off asks, omega (arith, n.from, n.moves, v.from, v.moves, (value-rest valued).from))
  move_pays (objects {parent} {us} {kind} {name} {start} {rest} asks asked valued) =
      let n = name-run asked in
      let v = value-run valued in
      let r = value-rest valued in
      let x : Token = run_token kind name (run_end text name) in
      let o : Token = opener_of Object parent false in
      let y : Token = run_token Unquoted start (run_end text start) in
      let opened = added_sized (us ++ (x ∷ [])) (m.count + 1) o (added_sized us m.count x (asks-sized asks)) in
      let counted = added_sized ((us ++ (x ∷ [])) ++ (o ∷ [])) (m.count + 1 + 1) y opened in
      (omega arith, counted, asks_off asks, omega (arith, n.from, n.moves, v.from, v.moves, r.from, r.within))
  move_pays (refuses r few) = (few, omega (arith, refused-lays text m ts r, and_one-few m.count (state_lays text (tape_of unbounded ts) m)))

-- the text's end lays down at most the End of a container that is open
end_pays : (text : List ℕ) (budget : ℕ) (m : Machine) (ts : List Token) → length ts ≡ m.count → m.count ≤ budget
    → {n : ℕ} {x : Moved} → Over m ts n x
    → Paid text budget (m.count + n) x
end_pays text budget m ts sized small (done_bare e f) = (omega arith, sized, omega arith)
end_pays text budget m ts sized small (done_closed e f g) = (refl, closed-sized m.parent _ ts m.count sized, omega arith)
end_pays text budget m ts sized small too_early = (omega arith, omega arith)

-- ---- a turn
module _ (text : List ℕ) (budget : ℕ) (m : Machine) (ts : List Token) (g : Going text budget m (tape_of unbounded ts)) where
  turn_pays : {n : ℕ} {x : Moved} → Turned text m ts n x → Paid text budget (m.count + n) x
  turn_pays (on_byte {p} e by) =
      let a = skip_lands text m.at p e in
      move_pays text budget (to m p m.state m.count) ts g.sized a.within (omega (arith, g.paid, a.from)) g.mixes by
  turn_pays (at_end e by) = end_pays text budget m ts g.sized (omega (arith, g.paid)) by

  -- where it refuses, that many tokens are told
  turn-told : {n : ℕ} {x : Moved} → Turned text m ts n x
      → laid_by (and_one m.count (turn_lays text (tape_of unbounded ts) m)) (told unbounded x) ≡ m.count + n
  unfolding turn_lays
  turn-told {x = goes m' us} by = (turn_pays by).0
  turn-told {x = ends n us} by = (turn_pays by).0
  turn-told {x = stops r} (on_byte {p} e (refuses by few)) = rw (turn_lays, e) (refused-lays text (to m p m.state m.count) ts by)
  turn-told {x = stops r} (at_end e too_early) = rw (turn_lays, e) (omega arith)

  turn-same : (k : ℕ) → let w : ℕ = and_one m.count (turn_lays text (tape_of unbounded ts) m) in
      Alike text budget k m.count (laid_by w (turn text (tape_of unbounded ts) m)) (turn text (tape_of (holds k) ts) m) (turn text (tape_of unbounded ts) m)
  turn-same k =
      let x = turn_comes text m ts in
      rw (x.on (holds k), x.on unbounded, laying-free m.count x.laid x.result, turn-told x.by, ← laying-free m.count x.laid x.result)
      (laying-alike text budget k m.count x.laid (m.count + x.laid) x.result refl (turn_pays x.by))

-- each turn, from a machine whose tokens are counted and paid for
pub turn-alike : (text : List ℕ) (budget k : ℕ) (m : Machine) (t : Tape) → Going text budget m t
    → Alike text budget k m.count (laid_by (and_one m.count (turn_lays text t m)) (turn text t m))
    (turn text (tape_of (holds k) t.tokens) m) (turn text t m)
turn-alike text budget k m t g =
    let e : tape_of unbounded t.tokens ≡ t = λ i. record { room = sym g.free i; tokens = t.tokens } in
    let here : Going text budget m (tape_of unbounded t.tokens) = record { free = refl; sized = g.sized; mixes = g.mixes; paid = g.paid } in
    subst
    (λ (u : Tape). Alike text budget k m.count (laid_by (and_one m.count (turn_lays text u m)) (turn text u m))
    (turn text (tape_of (holds k) t.tokens) m) (turn text u m))
    e
    (turn-same text budget m t.tokens here k)
