-- One walk of the turns: whatever the room of the tape, a turn comes to one of the moves or refusals of Moves, laying down its tokens
-- one by one where there is room. So what each move keeps is kept by every turn and every run.
-- Assumes nothing.
use Rattle.std.specs.Prelude.{Ok, Err}
use mathlib.Core.Path.{◌≡◌, ◌∙◌, ap}
use mathlib.Core.Bool.{true, false}
use mathlib.Core.List.{List, [], ◌∷◌, ◌++◌}
use Prim.Native.Nat.{ℕ, zero, suc, ◌+◌, ◌-◌, ◌<◌}
use native.Mathlib.Omega.{arith}
use borrow.Author.Tests.{eqb-true, eqb-false}
use lib.Dec.{eqb, ltb}
use lib.ListN.{length}
use Rattle.data.specs.Bytes.{brace_open, brace_close, equals, bracket_open, bracket_close, exclamation}
use Rattle.data.proofs.Cases.{by_bool}
use Rattle.cut.specs.Blanks.{skip_ws}
use Rattle.cut.specs.Runs.{run_end}
use Rattle.cut.specs.Scalars.{scalar_cut}
use Rattle.cut.proofs.Blanks.{Landed, skip_lands}
use Rattle.operator.specs.Operators.{is_equal, sighted}
use Rattle.operator.proofs.Widths.{sighted-width}
use Rattle.tape.specs.declared.token.Token.{Token}
use Rattle.tape.specs.declared.token.ScalarKind.{ScalarKind}
use Rattle.tape.specs.declared.token.ScalarKind.TheVariants.{Unquoted}
use Rattle.tape.specs.declared.token.ContainerKind.{ContainerKind}
use Rattle.tape.specs.declared.token.ContainerKind.TheVariants.{Array, Object}
use Rattle.tape.specs.Token.{mixed_container_token, opener_of, standing_of}
use Rattle.tape.specs.Words.{capacity, tokens_in, padded}
use Rattle.tape.proofs.Views.{padded-tokens}
use Rattle.tape.specs.Tape.{Tape, Room, holds, has_room, before_last, token_at, replace, add, add_before_last, lay, lay_mixed}
use Rattle.machine.specs.declared.State.{State}
use Rattle.machine.specs.declared.State.TheVariants.{Key, KeyValueSeparator, ObjectValue, ParseOpen, ArrayValue}
use Rattle.machine.specs.declared.Machine.{Machine}
use Rattle.machine.specs.declared.Refusal.{Refusal}
use Rattle.machine.specs.declared.Refusal.TheVariants.{Eof, Full}
use Rattle.machine.specs.declared.bytes.KeyByte as KeyBytes
use Rattle.machine.specs.declared.bytes.OpenByte as OpenBytes
use Rattle.machine.specs.declared.bytes.ValueByte as ValueBytes
use Rattle.machine.specs.Refusals.{number}
use Rattle.machine.specs.Machine.{byte_at, to, within, mixed_on}
use Rattle.parse.specs.After.{After, next, done, refused, and_then, or_full, lay_then}
use Rattle.parse.specs.Scalars.{scalar_then}
use Rattle.machine.specs.Parents.{resumed, nothing_open}
use Rattle.parse.specs.Containers.{open_then, close_at, close, key_end, text_end}
use Rattle.parse.specs.Parameter.{parameter_object, value_or_object, parameter_value, parameter_named, parameter_name, parameter}
use Rattle.machine.specs.Bytes.{key_byte, open_byte, follows_key, value_byte}
use Rattle.parse.specs.Key.{key_close, open_header, key_header, key_brace, key_turn}
use Rattle.parse.specs.KeyValueSeparator.{mix_then, separator_then, separator_turn}
use Rattle.parse.specs.ObjectValue.{object_value_turn}
use Rattle.parse.specs.ParseOpen.{settle, open_empty, open_parameter, open_brace, flag_parent, open_as, open_scalar}
use Rattle.parse.specs.ParseOpen.{parse_open_turn}
use Rattle.parse.specs.ArrayValue.{array_close, operator_then, after_end, unmixed_operator, array_operator, array_value_turn}
use Rattle.machine.specs.Start.{has_bom, start}
use Rattle.machine.specs.Finish.{Outcome, outcome}
use Rattle.parse.specs.Parse.{state_turn, turn, run, enough, text_limit, answer, parse_of}
use Rattle.parse.proofs.Splits.{by_skipped, by-cut, by-sighted, by-container, by-standing, by_state, by-key_byte, by-open_byte, by-value_byte}
use Rattle.parse.proofs.States as States
use Rattle.parse.proofs.Moves.{Moved, goes, ends, stops, on_tape, token_in, container_in, above, unsettled, closed_as, flagged, Taken}
use Rattle.parse.proofs.Moves.{unquoted, quoted}
use Rattle.parse.proofs.Moves.{Named, defined, undefined, Asked, Valued, run_token, Takes, Opens, Closes, Asks, Bracketed, lone}
use Rattle.parse.proofs.Moves.{nameless, open_name, valueless, ScalarStands, Refuses, Came, Over, Turned, on_byte, at_end}
use Rattle.parse.proofs.Moves as M

-- ---- what a result is on a tape of some room
abbrev pub told : Room → Moved → After
told room (goes m ts) = next m (on_tape room ts)
told room (ends n ts) = done n (on_tape room ts)
told room (stops r) = refused r

-- an answer, if a token fits after c others
abbrev pub if_room : Room → ℕ → After → After
if_room room c x = elim (has_room room c) [ true ↦ x | false ↦ refused Full ]

-- a result for which so many tokens are laid down after c others
abbrev pub laying : Room → ℕ → ℕ → Moved → After
laying room c zero x = told room x
laying room c (suc n) x = if_room room c (laying room (c + 1) n x)

-- something that on a tape of any room comes to one result, after c tokens
pub record Comes (By : ℕ → Moved → Type 0) (c : ℕ) (go : Room → After) : Type 0 where
  pub laid : ℕ
  pub result : Moved
  pub by : By laid result
  pub on : (room : Room) → go room ≡ laying room c laid result

-- it is made out by its equation, by that of another, or behind one token more
comes : (By : ℕ → Moved → Type 0) {c n : ℕ} {x : Moved} {go : Room → After} → By n x
    → ((room : Room) → go room ≡ laying room c n x) → Comes By c go
comes By {n = n} {x = x} by on = record { laid = n; result = x; by = by; on = on }

via : {By : ℕ → Moved → Type 0} {c : ℕ} {go same : Room → After} → Comes By c same → ((room : Room) → go room ≡ same room) → Comes By c go
via x e = record { laid = x.laid; result = x.result; by = x.by; on = λ room. e room ∙ x.on room }

behind : {By : ℕ → Moved → Type 0} {c : ℕ} {go rest : Room → After} → Comes (λ n x. By (suc n) x) (c + 1) rest
    → ((room : Room) → go room ≡ if_room room c (rest room)) → Comes By c go
behind {c = c} x e = record { laid = suc x.laid; result = x.result; by = x.by; on = λ room. e room ∙ ap (if_room room c) (x.on room) }

module _ (room : Room) (ts : List Token) where
  lay-on : (c : ℕ) (x : Token) (go : ℕ → Tape → After)
      → or_full (lay (on_tape room ts) c x) go ≡ if_room room c (go (c + 1) (on_tape room (ts ++ (x ∷ []))))
  unfolding lay add
  lay-on c x go = by_bool (has_room room c) (λ e. rw (lay, if_room, e)) (λ e. rw (lay, if_room, e))

  mix-on : (m : Machine) (go : Tape → Machine → After)
      → mix_then (on_tape room ts) m go ≡ if_room room m.count (go (on_tape room (before_last ts mixed_container_token)) (mixed_on m (m.count + 1)))
  unfolding mix_then lay_mixed add_before_last
  mix-on m go = by_bool (has_room room m.count) (λ e. rw (mix_then, lay_mixed, if_room, e)) (λ e. rw (mix_then, lay_mixed, if_room, e))

  lay_then-on : (x : Token) (at : ℕ) (state : State) (m : Machine)
      → lay_then x at state (on_tape room ts) m ≡ laying room m.count 1 (goes (to m at state (m.count + 1)) (ts ++ (x ∷ [])))
  unfolding lay_then
  lay_then-on x at state m = lay-on m.count x (λ n t. next (to m at state n) t)

  and_then-on : (x : Token) (at : ℕ) (state : State) (m : Machine) (go : Tape → Machine → After)
      → and_then (lay_then x at state (on_tape room ts) m) go
      ≡ if_room room m.count (go (on_tape room (ts ++ (x ∷ []))) (to m at state (m.count + 1)))
  unfolding lay_then lay add
  and_then-on x at state m go = by_bool (has_room room m.count) (λ e. rw (lay_then, lay, if_room, e)) (λ e. rw (lay_then, lay, if_room, e))

  close-on : (i : ℕ) (kind : ContainerKind) (mixed : _) (m : Machine) (go : ℕ → Tape → After)
      → close_at i kind mixed (on_tape room ts) m go ≡ if_room room m.count
      (go (m.count + 1) (on_tape room (closed_as ts i (opener_of kind m.count mixed))))
  unfolding close_at replace lay add
  close-on i kind mixed m go =
      by_bool (has_room room m.count)
      (λ e. rw (close_at, lay, replace, if_room, e))
      (λ e. rw (close_at, lay, replace, if_room, e))

  flag-on : (m : Machine) → flag_parent (on_tape room ts) m ≡ on_tape room (flagged ts m)
  unfolding flag_parent token_at replace
  flag-on m =
      by_bool m.mixed
      (λ e. by-container (container_in ts m.parent) (λ kind link mixed f. rw (flagged, flag_parent, e, f)) (λ f. rw (flagged, flag_parent, e, f)))
      (λ e. rw (flagged, flag_parent, e))

-- which way mixed turns
module _ (text : List ℕ) (t : Tape) (m : Machine) where
  mixed_on-operator : m.mixed ≡ true → array_operator text t m ≡ operator_then text t m
  unfolding array_operator
  mixed_on-operator e = cc

  mixed_off_operator : m.mixed ≡ false → array_operator text t m ≡ unmixed_operator text t m
  unfolding array_operator
  mixed_off_operator e = cc

  mixed_off_parameter : m.mixed ≡ false
      → open_parameter text t m ≡ parameter text (replace t (m.count - 1) (opener_of Object m.parent false)) (within m (m.count - 1))
  unfolding open_parameter
  mixed_off_parameter e = cc

-- ---- the walk
module _ (text : List ℕ) (m : Machine) (ts : List Token) where
  -- what a part of a turn comes to
  abbrev Part : (Room → After) → Type 0
  Part go = Comes (Came text m ts) m.count go

  -- a move that is made out; one that is made out behind its first token; and a refusal
  moved : {n : ℕ} {x : Moved} {go : Room → After} → Came text m ts n x → ((room : Room) → go room ≡ laying room m.count n x) → Part go
  moved by on = comes (Came text m ts) by on

  abbrev Tail : (Room → After) → Type 0
  Tail go = Comes (λ n x. Came text m ts (suc n) x) (m.count + 1) go

  moved_on : {n : ℕ} {x : Moved} {go : Room → After} → Came text m ts (suc n) x
      → ((room : Room) → go room ≡ laying room (m.count + 1) n x) → Tail go
  moved_on by on = comes (λ n x. Came text m ts (suc n) x) by on

  refuse : {r : Refusal} {go : Room → After} → Refuses text m ts 0 r → number r < 11 → ((room : Room) → go room ≡ refused r) → Part go
  refuse by few on = moved (M.refuses by few) on

  -- ---- what several states use
  scalar_comes : (state : State) → Takes m.state state → Refuses text m ts 0 Eof → Part (λ room. scalar_then text state (on_tape room ts) m)
  unfolding scalar_then
  scalar_comes state s ended =
      by-cut (scalar_cut text m.at)
      (λ start end rest q. moved (M.takes s (unquoted start end rest q)) (λ room. rw (scalar_then, q) (lay_then-on room ts _ rest state m)))
      (λ start end rest escaped q. moved (M.takes s (quoted start end rest escaped q)) (λ room. rw (scalar_then, q) (lay_then-on room ts _ rest state m)))
      (λ q. refuse ended (omega arith) (λ room. rw (scalar_then, q)))

  open_comes : Opens m.state → Part (λ room. open_then (on_tape room ts) m)
  unfolding open_then
  open_comes s = moved (M.opens s) (λ room. lay_then-on room ts unsettled (m.at + 1) ParseOpen m)

  close_comes : {kind : ContainerKind} → Closes m.state (container_in ts m.parent) kind → nothing_open m.parent (above ts m.parent) ≡ false
      → Part (λ room. close kind (above ts m.parent) (on_tape room ts) m)
  unfolding close token_at
  close_comes {kind} s e =
      let up : ℕ = above ts m.parent in
      moved (M.closes s e) (λ room. close-on room ts m.parent kind m.mixed m (λ n t. next (resumed (container_in ts up) up (m.at + 1) n) t))

  -- ---- a parameter, inside a parent with some tokens
  module _ {parent : ℕ} {us : List Token} (asks : Asks m ts parent us) (bracket : Bracketed text m) where
    module _ {kind : ScalarKind} {name : ℕ} (asked : Asked text m.at kind name) where
      -- the tokens with the name, and the machine behind it
      abbrev named_tokens : List Token
      named_tokens = us ++ (run_token kind name (run_end text name) ∷ [])

      abbrev behind_name : Machine
      behind_name = to (within m parent) (run_end text name + 1) Key (m.count + 1)

      object_comes : {start rest : ℕ} → Valued text (run_end text name + 1) start rest
          → Tail (λ room. parameter_object start (run_end text start) rest (on_tape room named_tokens) behind_name)
      unfolding parameter_object
      object_comes {start} {rest} valued =
          let opener : Token = opener_of Object parent false in
          let first : Token = run_token Unquoted start (run_end text start) in
          let inner : Machine = within (to behind_name rest KeyValueSeparator (m.count + 1 + 1)) (m.count + 1) in
          behind
          (comes _ (M.objects asks asked valued) (λ room. lay_then-on room (named_tokens ++ (opener ∷ [])) first rest KeyValueSeparator inner))
          (λ room. and_then-on room named_tokens opener rest KeyValueSeparator behind_name
          (λ t' m'. lay_then first rest KeyValueSeparator t' (within m' (m.count + 1))))

      value_comes : {start rest : ℕ} → Valued text (run_end text name + 1) start rest
          → Tail (λ room. value_or_object text start (run_end text start) rest (on_tape room named_tokens) behind_name)
      unfolding value_or_object
      value_comes {start} {rest} valued =
          by_bool (eqb (byte_at text rest) bracket_close)
          (λ e. moved_on (M.values asks asked valued)
          (λ room. rw (value_or_object, e) (lay_then-on room named_tokens (run_token Unquoted start (run_end text start)) (rest + 1) Key behind_name)))
          (λ e. via (object_comes valued) (λ room. rw (value_or_object, e)))

      parameter_value_comes : Tail (λ room. parameter_value text (on_tape room named_tokens) behind_name)
      unfolding parameter_value
      parameter_value_comes =
          let ended = M.refuses (M.no_parameter bracket (valueless asked)) (omega arith) in
          by_skipped (skip_ws text (run_end text name + 1))
          (λ start e. by_skipped (skip_ws text (run_end text start))
          (λ rest f. via (value_comes (record { starts = e; goes_on = f })) (λ room. rw (parameter_value, e, f)))
          (λ f. moved_on ended (λ room. rw (parameter_value, e, f))))
          (λ e. moved_on ended (λ room. rw (parameter_value, e)))

    name_comes : {kind : ScalarKind} {name : ℕ} → Named text m.at kind name
        → Part (λ room. parameter_name text kind name (on_tape room us) (within m parent))
    unfolding parameter_name parameter_named
    name_comes {kind} {name} named =
        by_bool (ltb name (length text))
        (λ e. by_bool (eqb (byte_at text (run_end text name)) bracket_close)
        (λ f. behind (parameter_value_comes record { named = named; inside = e; ended = f })
        (λ room. rw (parameter_name, e, parameter_named, f)
        (and_then-on room us (run_token kind name (run_end text name)) (run_end text name + 1) Key (within m parent) (parameter_value text))))
        (λ f. refuse (M.no_parameter bracket (open_name named e f)) (omega arith) (λ room. rw (parameter_name, e, parameter_named, f))))
        (λ e. refuse (M.no_parameter bracket (nameless named e)) (omega arith) (λ room. rw (parameter_name, e)))

    parameter_comes : Part (λ room. parameter text (on_tape room us) (within m parent))
    unfolding parameter
    parameter_comes =
        by_bool (eqb (byte_at text (m.at + 1)) bracket_open)
        (λ e. by_bool (eqb (byte_at text (m.at + 2)) exclamation)
        (λ f. via (name_comes (undefined e f)) (λ room. rw (parameter, e, f)))
        (λ f. via (name_comes (defined e f)) (λ room. rw (parameter, e, f))))
        (λ e. refuse (M.no_parameter bracket (lone e)) (omega arith) (λ room. rw (parameter, e)))

  -- ---- Key
  module _ (st : m.state ≡ Key) where
    key_close_comes : Part (λ room. key_close (on_tape room ts) m)
    unfolding key_close token_at
    key_close_comes =
        by_bool (nothing_open m.parent (above ts m.parent))
        (λ e. moved (M.passes (m.at + 1) st (omega arith)) (λ room. rw (key_close, e)))
        (λ e. via (close_comes (M.as_object st) e) (λ room. rw (key_close, e)))

    module _ (brace : key_byte (byte_at text m.at) ≡ KeyBytes.TheVariants.Brace) where
      key_header_comes : (at : ℕ) → m.at < at → Part (λ room. key_header at (on_tape room ts) m)
      unfolding key_header open_header token_at replace
      key_header_comes at h =
          by-standing (standing_of (token_in ts (m.count - 1)))
          (λ e. moved (M.heads st h e) (λ room. rw (key_header, e) (lay_then-on room _ unsettled at ParseOpen m)))
          (λ e. refuse (M.no_header at st brace) (omega arith) (λ room. rw (key_header, e)))
          (λ e. refuse (M.no_header at st brace) (omega arith) (λ room. rw (key_header, e)))
          (λ e. refuse (M.no_header at st brace) (omega arith) (λ room. rw (key_header, e)))

      key_brace_comes : Part (λ room. key_brace text (on_tape room ts) m)
      unfolding key_brace
      key_brace_comes =
          by_skipped (skip_ws text (m.at + 1))
          (λ p e. let a = skip_lands text (m.at + 1) p e in
          by_bool (eqb (byte_at text p) brace_close)
          (λ f. moved (M.passes (p + 1) st (omega (arith, a.from))) (λ room. rw (key_brace, e, f)))
          (λ f. via (key_header_comes p (omega (arith, a.from))) (λ room. rw (key_brace, e, f))))
          (λ e. refuse (M.brace_ends st brace) (omega arith) (λ room. rw (key_brace, e)))

    key_comes : Part (λ room. key_turn text (on_tape room ts) m)
    unfolding key_turn
    key_comes =
        by-key_byte (key_byte (byte_at text m.at))
        (λ e. via key_close_comes (λ room. rw (key_turn, e)))
        (λ e. via (key_brace_comes e) (λ room. rw (key_turn, e)))
        (λ e. via (parameter_comes (M.asks_key st) (M.key_bracket st e)) (λ room. rw (key_turn, e)))
        (λ e. via (scalar_comes KeyValueSeparator (M.key st) (M.key_ends st e)) (λ room. rw (key_turn, e)))

  -- ---- KeyValueSeparator
  separator_comes : m.state ≡ KeyValueSeparator → Part (λ room. separator_turn text (on_tape room ts) m)
  unfolding separator_turn separator_then
  separator_comes st =
      by-sighted (sighted (byte_at text m.at) (byte_at text (m.at + 1)))
      (λ o w e. by_bool (is_equal o)
      (λ f. moved (M.separates (m.at + w) st (omega arith)) (λ room. rw (separator_turn, e, separator_then, f)))
      (λ f. moved (M.separates_by o st f (sighted-width _ _ o w e).some)
      (λ room. rw (separator_turn, e, separator_then, f) (lay_then-on room ts _ (m.at + w) ObjectValue m))))
      (λ e. by_bool (eqb (byte_at text m.at) brace_open)
      (λ f. moved (M.separates m.at st (omega arith)) (λ room. rw (separator_turn, e, f)))
      (λ f. moved (M.mixes st) (λ room. rw (separator_turn, e, f) (mix-on room ts m (λ t' m'. next m' t')))))

  -- ---- ObjectValue
  object-value_comes : m.state ≡ ObjectValue → Part (λ room. object_value_turn text (on_tape room ts) m)
  unfolding object_value_turn
  object-value_comes st =
      by_bool (eqb (byte_at text m.at) brace_open)
      (λ e. via (open_comes (M.in_value st)) (λ room. rw (object_value_turn, e)))
      (λ e. by_bool (eqb (byte_at text m.at) brace_close)
      (λ f. refuse (M.no_value st) (omega arith) (λ room. rw (object_value_turn, e, f)))
      (λ f. via (scalar_comes Key (M.value st) (M.value_ends st)) (λ room. rw (object_value_turn, e, f))))

  -- ---- ParseOpen
  module _ (st : m.state ≡ ParseOpen) where
    open_empty_comes : Part (λ room. open_empty (on_tape room ts) m)
    unfolding open_empty token_at
    open_empty_comes =
        moved (M.empties st)
        (λ room. close-on room ts (m.count - 1) Array false m (λ n t. next (resumed (container_in ts m.parent) m.parent (m.at + 1) n) t))

    open_parameter_comes : open_byte (byte_at text m.at) ≡ OpenBytes.TheVariants.Bracket → Part (λ room. open_parameter text (on_tape room ts) m)
    unfolding open_parameter replace
    open_parameter_comes b =
        by_bool m.mixed
        (λ e. refuse (M.mixed_parameter st b e) (omega arith) (λ room. rw (open_parameter, e)))
        (λ e. via (parameter_comes (M.asks_open st e) (M.open_bracket st b e)) (λ room. mixed_off_parameter text (on_tape room ts) m e))

    open_brace_comes : open_byte (byte_at text m.at) ≡ OpenBytes.TheVariants.Brace → Part (λ room. open_brace text (on_tape room ts) m)
    unfolding open_brace settle replace
    open_brace_comes b =
        by_skipped (skip_ws text (m.at + 1))
        (λ p e. let a = skip_lands text (m.at + 1) p e in
        by_bool (eqb (byte_at text p) brace_close)
        (λ f. moved (M.passes (p + 1) st (omega (arith, a.from))) (λ room. rw (open_brace, e, f)))
        (λ f. moved (M.settles st) (λ room. rw (open_brace, e, f))))
        (λ e. refuse (M.inner_ends st b) (omega arith) (λ room. rw (open_brace, e)))

    module _ (b : open_byte (byte_at text m.at) ≡ OpenBytes.TheVariants.Other) where
      -- the first scalar laid down, and what the byte behind it says
      first_comes : {x : Token} {rest : ℕ} → Taken text m.at x rest
          → Part (λ room. and_then (lay_then x rest ParseOpen (on_tape room ts) m) (λ t' m'. open_as text (flag_parent t' m') m'))
      unfolding open_as settle replace
      first_comes {x} {rest} taken =
          let us : List Token = ts ++ (x ∷ []) in
          let past : Machine = to m rest ParseOpen (m.count + 1) in
          behind
          (by_skipped (skip_ws text rest)
          (λ p e. let a = skip_lands text rest p e in
          by_bool (follows_key (byte_at text p))
          (λ f. moved_on (M.begins st taken a.from M.with_key) (λ room. rw (open_as, e, f)))
          (λ f. moved_on (M.begins st taken a.from M.with_entry) (λ room. rw (open_as, e, f))))
          (λ e. moved_on (M.refuses (M.first_ends st b taken) (omega arith)) (λ room. rw (open_as, e))))
          (λ room. and_then-on room ts x rest ParseOpen m (λ t' m'. open_as text (flag_parent t' m') m')
          ∙ ap (λ (t : Tape). if_room room m.count (open_as text t past)) (flag-on room us past))

      open_scalar_comes : Part (λ room. open_scalar text (on_tape room ts) m)
      unfolding open_scalar scalar_then
      open_scalar_comes =
          by-cut (scalar_cut text m.at)
          (λ start end rest q. via (first_comes (unquoted start end rest q)) (λ room. rw (open_scalar, scalar_then, q)))
          (λ start end rest escaped q. via (first_comes (quoted start end rest escaped q)) (λ room. rw (open_scalar, scalar_then, q)))
          (λ q. refuse (M.first_uncut st b q) (omega arith) (λ room. rw (open_scalar, scalar_then, q)))

    parse_open_comes : Part (λ room. parse_open_turn text (on_tape room ts) m)
    unfolding parse_open_turn
    parse_open_comes =
        by-open_byte (open_byte (byte_at text m.at))
        (λ e. via open_empty_comes (λ room. rw (parse_open_turn, e)))
        (λ e. via (open_parameter_comes e) (λ room. rw (parse_open_turn, e)))
        (λ e. via (open_brace_comes e) (λ room. rw (parse_open_turn, e)))
        (λ e. via (open_scalar_comes e) (λ room. rw (parse_open_turn, e)))

  -- ---- ArrayValue
  module _ (st : m.state ≡ ArrayValue) where
    array_close_comes : value_byte (byte_at text m.at) ≡ ValueBytes.TheVariants.Closer → Part (λ room. array_close (on_tape room ts) m)
    unfolding array_close token_at
    array_close_comes b =
        by_bool (nothing_open m.parent (above ts m.parent))
        (λ e. refuse (M.stack_empty st b) (omega arith) (λ room. rw (array_close, e)))
        (λ e. via (close_comes (M.as_own st) e) (λ room. rw (array_close, e)))

    module _ (b : value_byte (byte_at text m.at) ≡ ValueBytes.TheVariants.Sign) where
      mixed_comes : m.mixed ≡ true → Part (λ room. operator_then text (on_tape room ts) m)
      unfolding operator_then
      mixed_comes on =
          by-sighted (sighted (byte_at text m.at) (byte_at text (m.at + 1)))
          (λ o w e. moved (M.operates o st on (sighted-width _ _ o w e).some)
          (λ room. rw (operator_then, e) (lay_then-on room ts _ (m.at + w) ArrayValue m)))
          (λ e. refuse (M.unknown st b on) (omega arith) (λ room. rw (operator_then, e)))

      -- a MixedContainer before the last token, a scalar, and then the operator
      mixing_comes : m.mixed ≡ false → ScalarStands (standing_of (token_in ts (m.count - 1)))
          → Part (λ room. mix_then (on_tape room ts) m (operator_then text))
      unfolding operator_then
      mixing_comes off s =
          let us : List Token = before_last ts mixed_container_token in
          let mixed : Machine = mixed_on m (m.count + 1) in
          behind
          (by-sighted (sighted (byte_at text m.at) (byte_at text (m.at + 1)))
          (λ o w e. moved_on (M.mixes_by o st off s (sighted-width _ _ o w e).some)
          (λ room. rw (operator_then, e) (lay_then-on room us _ (m.at + w) ArrayValue mixed)))
          (λ e. moved_on (M.refuses (M.marked_unknown st b off s) (omega arith)) (λ room. rw (operator_then, e))))
          (λ room. mix-on room ts m (operator_then text))

      unmixed_comes : m.mixed ≡ false → Part (λ room. unmixed_operator text (on_tape room ts) m)
      unfolding unmixed_operator after_end token_at
      unmixed_comes off =
          by-standing (standing_of (token_in ts (m.count - 1)))
          (λ e. via (mixing_comes off (rw e tt)) (λ room. rw (unmixed_operator, e)))
          (λ e. via (mixing_comes off (rw e tt)) (λ room. rw (unmixed_operator, e)))
          (λ e. by_bool (eqb (byte_at text m.at) equals)
          (λ f. moved (M.passes (m.at + 1) st (omega arith)) (λ room. rw (unmixed_operator, e, after_end, f)))
          (λ f. refuse (M.nothing_precedes st b off (λ s. rw e at s)) (omega arith) (λ room. rw (unmixed_operator, e, after_end, f))))
          (λ e. refuse (M.nothing_precedes st b off (λ s. rw e at s)) (omega arith) (λ room. rw (unmixed_operator, e)))

      array_operator_comes : Part (λ room. array_operator text (on_tape room ts) m)
      array_operator_comes =
          by_bool m.mixed
          (λ e. via (mixed_comes e) (λ room. mixed_on-operator text (on_tape room ts) m e))
          (λ e. via (unmixed_comes e) (λ room. mixed_off_operator text (on_tape room ts) m e))

    array-value_comes : Part (λ room. array_value_turn text (on_tape room ts) m)
    unfolding array_value_turn
    array-value_comes =
        by-value_byte (value_byte (byte_at text m.at))
        (λ e. via (open_comes (M.in_array st)) (λ room. rw (array_value_turn, e)))
        (λ e. via (array_close_comes e) (λ room. rw (array_value_turn, e)))
        (λ e. via (array_operator_comes e) (λ room. rw (array_value_turn, e)))
        (λ e. via (scalar_comes ArrayValue (M.entry st) (M.entry_ends st e)) (λ room. rw (array_value_turn, e)))

  state_comes : Part (λ room. state_turn text (on_tape room ts) m)
  state_comes =
      by_state m.state
      (λ e. via (key_comes e) (λ room. States.in_key text (on_tape room ts) m e))
      (λ e. via (separator_comes e) (λ room. States.in_separator text (on_tape room ts) m e))
      (λ e. via (object-value_comes e) (λ room. States.in_object-value text (on_tape room ts) m e))
      (λ e. via (parse_open_comes e) (λ room. States.in_parse_open text (on_tape room ts) m e))
      (λ e. via (array-value_comes e) (λ room. States.in_array-value text (on_tape room ts) m e))

-- ---- the text's end, and any turn
end_comes : (m : Machine) (ts : List Token) → Comes (Over m ts) m.count (λ room. text_end (on_tape room ts) m)
unfolding text_end key_end token_at
end_comes m ts =
    by_state m.state
    (λ st. by_bool (eqb m.parent 0)
    (λ e. comes (Over m ts) (M.done_bare st (eqb-true m.parent 0 e)) (λ room. rw (text_end, st, key_end, e)))
    (λ e. by_bool (eqb (above ts m.parent) 0)
    (λ f. comes (Over m ts) (M.done_closed st (eqb-false m.parent 0 e) (eqb-true (above ts m.parent) 0 f))
    (λ room. rw (text_end, st, key_end, e, f) (close-on room ts m.parent Object false m (λ n t. done n t))))
    (λ f. comes (Over m ts) M.too_early (λ room. rw (text_end, st, key_end, e, f)))))
    (λ st. comes (Over m ts) M.too_early (λ room. rw (text_end, st)))
    (λ st. comes (Over m ts) M.too_early (λ room. rw (text_end, st)))
    (λ st. comes (Over m ts) M.too_early (λ room. rw (text_end, st)))
    (λ st. comes (Over m ts) M.too_early (λ room. rw (text_end, st)))

pub turn_comes : (text : List ℕ) (m : Machine) (ts : List Token) → Comes (Turned text m ts) m.count (λ room. turn text (on_tape room ts) m)
unfolding turn
turn_comes text m ts =
    by_skipped (skip_ws text m.at)
    (λ p e. let x = state_comes text (to m p m.state m.count) ts in comes (Turned text m ts) (on_byte e x.by) (λ room. rw (turn, e) (x.on room)))
    (λ e. let x = end_comes m ts in comes (Turned text m ts) (at_end e x.by) (λ room. rw (turn, e) (x.on room)))

-- ---- what holds of every machine that goes on, with its tokens, and of what is done
abbrev pub All : (Machine → List Token → Type 0) → (ℕ → List Token → Type 0) → After → Type 0
All P Q (next m t) = P m t.tokens
All P Q (done n t) = Q n t.tokens
All P Q (refused r) = Unit {0}

-- the same of a result
abbrev pub Meets : (Machine → List Token → Type 0) → (ℕ → List Token → Type 0) → Moved → Type 0
Meets P Q (goes m ts) = P m ts
Meets P Q (ends n ts) = Q n ts
Meets P Q (stops r) = Unit {0}

module _ (P : Machine → List Token → Type 0) (Q : ℕ → List Token → Type 0) where
  met_told : (room : Room) (x : Moved) → Meets P Q x → All P Q (told room x)
  met_told room (goes m ts) h = h
  met_told room (ends n ts) h = h
  met_told room (stops r) h = tt

  met_laying : (room : Room) (c n : ℕ) (x : Moved) → Meets P Q x → All P Q (laying room c n x)
  met_laying room c zero x h = met_told room x h
  met_laying room c (suc n) x h =
      by_bool (has_room room c)
      (λ e. rw (laying, if_room, e) (met_laying room (c + 1) n x h))
      (λ e. rw (laying, if_room, e) tt)

  module _ (text : List ℕ) where
    -- what each move and the text's end must come to
    pub record Keeps (m : Machine) (ts : List Token) : Type 0 where
      pub moves : {p n : ℕ} {x : Moved} → Landed text m.at p → Came text (to m p m.state m.count) ts n x → Meets P Q x
      pub finishes : {n : ℕ} {x : Moved} → Over m ts n x → Meets P Q x

    -- then a turn comes to it
    pub turn_keeps : (m : Machine) (t : Tape) → Keeps m t.tokens → All P Q (turn text t m)
    turn_keeps m t k =
        let x = turn_comes text m t.tokens in
        rw (x.on t.room) (met_laying t.room m.count x.laid x.result (met x.by))
      where
        met : {n : ℕ} {x : Moved} → Turned text m t.tokens n x → Meets P Q x
        met (on_byte {p} e by) = k.moves (skip_lands text m.at p e) by
        met (at_end e by) = k.finishes by

    -- and a run of turns
    pub run_keeps : ((m : Machine) (ts : List Token) → P m ts → Keeps m ts) → (n : ℕ) (x : After) → All P Q x → All P Q (run text n x)
    unfolding run
    run_keeps k zero x h = h
    run_keeps k (suc n) (next m t) h = run_keeps k n (turn text t m) (turn_keeps m t (k m t.tokens h))
    run_keeps k (suc n) (done c t) h = h
    run_keeps k (suc n) (refused r) h = h

-- ---- the parse
-- what an outcome with tokens shows
abbrev pub Shown : (ℕ → List Token → Type 0) → Outcome → Type 0
Shown Q (outcome (Ok p) words) = Q p.count (tokens_in words p.count)
Shown Q (outcome (Err r) words) = Unit {0}

module _ (P : Machine → List Token → Type 0) (Q : ℕ → List Token → Type 0) (text : List ℕ) (first : P (start (has_bom text)) [])
    (keeps : (m : Machine) (ts : List Token) → P m ts → Keeps P Q text m ts) (counted : (n : ℕ) (ts : List Token) → Q n ts → n ≡ length ts) where
  -- so many turns from the start
  pub start_keeps : (n : ℕ) (room : Room) → All P Q (run text n (next (start (has_bom text)) (on_tape room [])))
  start_keeps n room = run_keeps P Q text keeps n (next (start (has_bom text)) (on_tape room [])) first

  answer_shows : (len : ℕ) (x : After) → All P Q x → Shown Q (answer (has_bom text) len x)
  answer_shows len (next m t) h = tt
  answer_shows len (done n t) h =
      let e : tokens_in (padded len t.tokens) n ≡ t.tokens = rw (counted n t.tokens h) (padded-tokens len t.tokens) in rw e h
  answer_shows len (refused r) h = tt

  -- and the tokens that a successful parse leaves
  pub parse_keeps : (len : ℕ) → Shown Q (parse_of text len)
  unfolding parse_of tokens_in
  parse_keeps len =
      let room : Room = holds (capacity len) in
      by_bool (ltb text_limit (length text))
      (λ e. rw (parse_of, e) tt)
      (λ e. rw (parse_of, e)
      (answer_shows len (run text (enough text) (next (start (has_bom text)) (on_tape room []))) (start_keeps (enough text) room)))
