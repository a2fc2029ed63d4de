-- What a turn may come to, whatever the room of its tape: every move of the machine, with what the text and the tokens showed, and
-- every refusal. A property of machines and tokens that each move keeps is kept by every turn (Walk).
-- Assumes nothing.
use Rattle.std.specs.Prelude.{Option}
use mathlib.Core.Path.{◌≡◌}
use mathlib.Core.Bool.{Bool, true, false}
use mathlib.Core.List.{List, [], ◌∷◌, ◌++◌}
use Prim.Native.Nat.{ℕ, ◌+◌, ◌-◌, ◌≤◌, ◌<◌}
use native.Mathlib.Omega.{arith}
use borrow.Author.Tests.{ltb-true}
use lib.Dec.{eqb, ltb}
use lib.ListN.{length, get_or, set}
use Rattle.data.specs.Bytes.{bracket_open, bracket_close, exclamation}
use Rattle.cut.specs.declared.Cut as Cuts
use Rattle.std.specs.Prelude.{Some, None}
use Rattle.cut.specs.Blanks.{skip_ws}
use Rattle.cut.specs.Runs.{run_end}
use Rattle.cut.specs.Scalars.{scalar_cut}
use Rattle.cut.proofs.Blanks.{Landed, skip_lands}
use Rattle.cut.proofs.Runs.{run_end-run}
use Rattle.cut.proofs.Scalars.{unquoted_bounds, quoted_bounds}
use Rattle.operator.specs.declared.Operator.{Operator}
use Rattle.operator.specs.Operators.{number_of, is_equal}
use Rattle.tape.specs.declared.token.Token.{Token}
use Rattle.tape.specs.declared.token.ScalarKind.{ScalarKind}
use Rattle.tape.specs.declared.token.ScalarKind.TheVariants.{Unquoted, Parameter, UndefinedParameter}
use Rattle.tape.specs.declared.token.ContainerKind.{ContainerKind}
use Rattle.tape.specs.declared.token.ContainerKind.TheVariants.{Array, Object}
use Rattle.tape.specs.declared.token.Container.{Container}
use Rattle.tape.specs.declared.token.Standing as Standings
use Rattle.tape.specs.Token.{no_token, mixed_container_token, opener_of, end_of, scalar_of, operator_of, headed, container_of, standing_of}
use Rattle.tape.specs.Token.{quoted_kind}
use Rattle.tape.specs.Tape.{Tape, Room, unbounded, before_last}
use Rattle.machine.specs.declared.State.{State}
use Rattle.machine.specs.declared.State.TheVariants.{Key, KeyValueSeparator, ObjectValue, ParseOpen, ArrayValue}
use Rattle.machine.specs.declared.Machine.{Machine}
use Rattle.machine.specs.declared.Refusal.{Refusal}
use Rattle.machine.specs.declared.Refusal.TheVariants.{Eof, StackEmpty, NoHeader, NoValue, MixedParameter, NothingPrecedes, UnknownOperator}
use Rattle.machine.specs.declared.Refusal.TheVariants.{NoParameter, OpenName}
use Rattle.machine.specs.declared.bytes.KeyByte as KeyBytes
use Rattle.machine.specs.declared.bytes.OpenByte as OpenBytes
use Rattle.machine.specs.declared.bytes.ValueByte as ValueBytes
use Rattle.machine.specs.Refusals.{number}
use Rattle.machine.specs.Machine.{byte_at, to, mixed_on}
use Rattle.machine.specs.Parents.{parent_of, own_kind, resumed, nothing_open}
use Rattle.machine.specs.Bytes.{key_byte, open_byte, value_byte}
use Rattle.parse.specs.ParseOpen.{flag_parent}

-- where a turn goes on, with which tokens; with how many and which it is done; or its refusal
pub data Moved : Type 0 where
  goes : Machine → List Token → Moved
  ends : ℕ → List Token → Moved
  stops : Refusal → Moved

-- the tokens on a tape of some room
abbrev pub on_tape : Room → List Token → Tape
on_tape room ts = record { room = room; tokens = ts }

-- token i, the last of so many, and token i as a container
abbrev pub token_in : List Token → ℕ → Token
token_in ts i = get_or ts i no_token

abbrev pub container_in : List Token → ℕ → Option Container
container_in ts i = container_of (token_in ts i)

-- what an open container names: the one around it, 0 at top
abbrev pub above : List Token → ℕ → ℕ
above ts i = parent_of (container_in ts i)

-- the opener whose kind is not yet known
abbrev pub unsettled : Token
unsettled = opener_of Array 0 false

-- an opener that names its End, and the End laid down
abbrev pub closed_as : List Token → ℕ → Token → List Token
closed_as ts i opener = set ts i opener ++ (end_of i ∷ [])

-- the tokens with the flag of the machine's parent set, if mixed
abbrev pub flagged : List Token → Machine → List Token
flagged ts m = (flag_parent (on_tape unbounded ts) m).tokens

-- ---- what is cut
-- the scalar that stands at a place, as a token, and where the text goes on
pub data Taken (text : List ℕ) (at : ℕ) : Token → ℕ → Type 0 where
  unquoted : (start end rest : ℕ) → scalar_cut text at ≡ Some (Cuts.TheVariants.Unquoted start end rest)
      → Taken text at (scalar_of Unquoted start (end - start)) rest
  quoted : (start end rest : ℕ) (escaped : Bool) → scalar_cut text at ≡ Some (Cuts.TheVariants.Quoted start end rest escaped)
      → Taken text at (scalar_of (quoted_kind escaped) start (end - start)) rest

-- `[[` or `[[!`: the kind of a parameter, and where its name starts
pub data Named (text : List ℕ) (at : ℕ) : ScalarKind → ℕ → Type 0 where
  defined : eqb (byte_at text (at + 1)) bracket_open ≡ true → eqb (byte_at text (at + 2)) exclamation ≡ false → Named text at Parameter (at + 2)
  undefined : eqb (byte_at text (at + 1)) bracket_open ≡ true → eqb (byte_at text (at + 2)) exclamation ≡ true
      → Named text at UndefinedParameter (at + 3)

-- a parameter whose name a `]` ends
pub record Asked (text : List ℕ) (at : ℕ) (kind : ScalarKind) (start : ℕ) : Type 0 where
  pub named : Named text at kind start
  pub inside : ltb start (length text) ≡ true
  pub ended : eqb (byte_at text (run_end text start)) bracket_close ≡ true

-- the run that follows it, and the place after the blanks behind that run
pub record Valued (text : List ℕ) (at start rest : ℕ) : Type 0 where
  pub starts : skip_ws text at ≡ Some start
  pub goes_on : skip_ws text (run_end text start) ≡ Some rest

-- a run from one place to another as a token
abbrev pub run_token : ScalarKind → ℕ → ℕ → Token
run_token kind start end = scalar_of kind start (end - start)

-- ---- what the state says
-- the state after a scalar
pub data Takes (state : State) : State → Type 0 where
  key : state ≡ Key → Takes state KeyValueSeparator
  value : state ≡ ObjectValue → Takes state Key
  entry : state ≡ ArrayValue → Takes state ArrayValue

-- a state in which `{` opens a container
pub data Opens (state : State) : Type 0 where
  in_value : state ≡ ObjectValue → Opens state
  in_array : state ≡ ArrayValue → Opens state

-- the kind as which a state closes a container
pub data Closes (state : State) (c : Option Container) : ContainerKind → Type 0 where
  as_object : state ≡ Key → Closes state c Object
  as_own : state ≡ ArrayValue → Closes state c (own_kind c)

-- what the byte behind the first scalar makes of its container
pub data Settles : ContainerKind → State → Type 0 where
  with_key : Settles Object KeyValueSeparator
  with_entry : Settles Array ArrayValue

-- where a parameter may stand: in Key, or unmixed in ParseOpen, where the opener becomes an Object; the parent and the tokens there
pub data Asks (m : Machine) (ts : List Token) : ℕ → List Token → Type 0 where
  asks_key : m.state ≡ Key → Asks m ts m.parent ts
  asks_open : m.state ≡ ParseOpen → m.mixed ≡ false → Asks m ts (m.count - 1) (set ts (m.count - 1) (opener_of Object m.parent false))

-- a byte at which a parameter is asked for
pub data Bracketed (text : List ℕ) (m : Machine) : Type 0 where
  key_bracket : m.state ≡ Key → key_byte (byte_at text m.at) ≡ KeyBytes.TheVariants.Bracket → Bracketed text m
  open_bracket : m.state ≡ ParseOpen → open_byte (byte_at text m.at) ≡ OpenBytes.TheVariants.Bracket → m.mixed ≡ false → Bracketed text m

-- a parameter that is refused: no second `[`; no name; a name that no `]` ends; the text's end behind the name
pub data Unasked (text : List ℕ) (at : ℕ) : ℕ → Refusal → Type 0 where
  lone : eqb (byte_at text (at + 1)) bracket_open ≡ false → Unasked text at 0 (NoParameter at)
  nameless : {kind : ScalarKind} {start : ℕ} → Named text at kind start → ltb start (length text) ≡ false → Unasked text at 0 Eof
  open_name : {kind : ScalarKind} {start : ℕ} → Named text at kind start → ltb start (length text) ≡ true
      → eqb (byte_at text (run_end text start)) bracket_close ≡ false → Unasked text at 0 (OpenName (run_end text start))
  valueless : {kind : ScalarKind} {start : ℕ} → Asked text at kind start → Unasked text at 1 Eof

-- what may stand last where a MixedContainer goes in before it
abbrev pub ScalarStands : Standings.Standing → Type 0
ScalarStands Standings.TheVariants.Unquoted = Unit {0}
ScalarStands Standings.TheVariants.OtherScalar = Unit {0}
ScalarStands Standings.TheVariants.End = ⊥
ScalarStands Standings.TheVariants.Nothing = ⊥

-- ---- the refusals of a machine that stands on a byte, and how many tokens are laid down before each
pub data Refuses (text : List ℕ) (m : Machine) (ts : List Token) : ℕ → Refusal → Type 0 where
  -- Key: `{`, and the text ends after blanks, or the last token is no Unquoted
  brace_ends : m.state ≡ Key → key_byte (byte_at text m.at) ≡ KeyBytes.TheVariants.Brace → Refuses text m ts 0 Eof
  no_header : (at : ℕ) → m.state ≡ Key → key_byte (byte_at text m.at) ≡ KeyBytes.TheVariants.Brace → Refuses text m ts 0 (NoHeader at)
  -- a scalar that the text ends in
  key_ends : m.state ≡ Key → key_byte (byte_at text m.at) ≡ KeyBytes.TheVariants.Other → Refuses text m ts 0 Eof
  value_ends : m.state ≡ ObjectValue → Refuses text m ts 0 Eof
  entry_ends : m.state ≡ ArrayValue → value_byte (byte_at text m.at) ≡ ValueBytes.TheVariants.Other → Refuses text m ts 0 Eof
  first_uncut : m.state ≡ ParseOpen → open_byte (byte_at text m.at) ≡ OpenBytes.TheVariants.Other
      → scalar_cut text m.at ≡ None → Refuses text m ts 0 Eof
  -- ObjectValue: `}`
  no_value : m.state ≡ ObjectValue → Refuses text m ts 0 (NoValue m.at)
  -- ParseOpen: `[` while mixed; `{`, and the text ends after blanks; a scalar, and the text ends after blanks
  mixed_parameter : m.state ≡ ParseOpen → open_byte (byte_at text m.at) ≡ OpenBytes.TheVariants.Bracket → m.mixed ≡ true
      → Refuses text m ts 0 (MixedParameter m.at)
  inner_ends : m.state ≡ ParseOpen → open_byte (byte_at text m.at) ≡ OpenBytes.TheVariants.Brace → Refuses text m ts 0 Eof
  first_ends : {x : Token} {rest : ℕ} → m.state ≡ ParseOpen → open_byte (byte_at text m.at) ≡ OpenBytes.TheVariants.Other
      → Taken text m.at x rest → Refuses text m ts 1 Eof
  -- ArrayValue: `}` with nothing open; an operator that is not recognized, by itself or behind a MixedContainer; one that nothing may precede
  stack_empty : m.state ≡ ArrayValue → value_byte (byte_at text m.at) ≡ ValueBytes.TheVariants.Closer → Refuses text m ts 0 (StackEmpty m.at)
  unknown : m.state ≡ ArrayValue → value_byte (byte_at text m.at) ≡ ValueBytes.TheVariants.Sign → m.mixed ≡ true
      → Refuses text m ts 0 (UnknownOperator (m.at - 1))
  marked_unknown : m.state ≡ ArrayValue → value_byte (byte_at text m.at) ≡ ValueBytes.TheVariants.Sign → m.mixed ≡ false
      → ScalarStands (standing_of (token_in ts (m.count - 1))) → Refuses text m ts 1 (UnknownOperator (m.at - 1))
  nothing_precedes : m.state ≡ ArrayValue → value_byte (byte_at text m.at) ≡ ValueBytes.TheVariants.Sign → m.mixed ≡ false
      → (ScalarStands (standing_of (token_in ts (m.count - 1))) → ⊥) → Refuses text m ts 0 (NothingPrecedes (m.at - 1))
  -- a parameter, where one may stand
  no_parameter : {n : ℕ} {r : Refusal} → Bracketed text m → Unasked text m.at n r → Refuses text m ts n r

-- ---- the moves of a machine that stands on a byte, and how many tokens each lays down
pub data Came (text : List ℕ) (m : Machine) (ts : List Token) : ℕ → Moved → Type 0 where
  -- bytes are passed in the same state
  passes : (at : ℕ) {state : State} → m.state ≡ state → m.at < at → Came text m ts 0 (goes (to m at state m.count) ts)
  -- a separator that is no token, or a `{` that is left to ObjectValue
  separates : (at : ℕ) → m.state ≡ KeyValueSeparator → m.at ≤ at → Came text m ts 0 (goes (to m at ObjectValue m.count) ts)
  -- a scalar
  takes : {x : Token} {rest : ℕ} {state : State} → Takes m.state state → Taken text m.at x rest
      → Came text m ts 1 (goes (to m rest state (m.count + 1)) (ts ++ (x ∷ [])))
  -- an operator: behind a key any but `=`; under mixed in ArrayValue any
  separates_by : {w : ℕ} (o : Operator) → m.state ≡ KeyValueSeparator → is_equal o ≡ false → 1 ≤ w
      → Came text m ts 1 (goes (to m (m.at + w) ObjectValue (m.count + 1)) (ts ++ (operator_of (number_of o) ∷ [])))
  operates : {w : ℕ} (o : Operator) → m.state ≡ ArrayValue → m.mixed ≡ true → 1 ≤ w
      → Came text m ts 1 (goes (to m (m.at + w) ArrayValue (m.count + 1)) (ts ++ (operator_of (number_of o) ∷ [])))
  -- a MixedContainer before the key; or before the last scalar, and then the operator
  mixes : m.state ≡ KeyValueSeparator → Came text m ts 1 (goes (mixed_on m (m.count + 1)) (before_last ts mixed_container_token))
  mixes_by : {w : ℕ} (o : Operator) → m.state ≡ ArrayValue → m.mixed ≡ false → ScalarStands (standing_of (token_in ts (m.count - 1))) → 1 ≤ w
      → Came text m ts 2
      (goes (to (mixed_on m (m.count + 1)) (m.at + w) ArrayValue (m.count + 1 + 1))
      (before_last ts mixed_container_token ++ (operator_of (number_of o) ∷ [])))
  -- `{` where a value is due
  opens : Opens m.state → Came text m ts 1 (goes (to m (m.at + 1) ParseOpen (m.count + 1)) (ts ++ (unsettled ∷ [])))
  -- `{` behind an Unquoted, which becomes a Header
  heads : {at : ℕ} → m.state ≡ Key → m.at < at → standing_of (token_in ts (m.count - 1)) ≡ Standings.TheVariants.Unquoted
      → Came text m ts 1 (goes (to m at ParseOpen (m.count + 1)) (set ts (m.count - 1) (headed (token_in ts (m.count - 1))) ++ (unsettled ∷ [])))
  -- the container that the machine is in is closed, and its parent taken up
  closes : {kind : ContainerKind} → Closes m.state (container_in ts m.parent) kind
      → nothing_open m.parent (above ts m.parent) ≡ false
      → Came text m ts 1
      (goes (resumed (container_in ts (above ts m.parent)) (above ts m.parent) (m.at + 1) (m.count + 1))
      (closed_as ts m.parent (opener_of kind m.count m.mixed)))
  -- ParseOpen: an empty Array; an Array whose first entry is a container; a scalar, and what the byte behind it says
  empties : m.state ≡ ParseOpen
      → Came text m ts 1
      (goes (resumed (container_in ts m.parent) m.parent (m.at + 1) (m.count + 1)) (closed_as ts (m.count - 1) (opener_of Array m.count false)))
  settles : m.state ≡ ParseOpen
      → Came text m ts 0
      (goes record { at = m.at; state = ArrayValue; parent = m.count - 1; mixed = false; count = m.count }
      (set ts (m.count - 1) (opener_of Array m.parent false)))
  begins : {x : Token} {rest at : ℕ} {kind : ContainerKind} {state : State} → m.state ≡ ParseOpen → Taken text m.at x rest → rest ≤ at
      → Settles kind state
      → Came text m ts 1
      (goes record { at = at; state = state; parent = m.count + 1 - 2; mixed = false; count = m.count + 1 }
      (set (flagged (ts ++ (x ∷ [])) (to m rest ParseOpen (m.count + 1))) (m.count + 1 - 2) (opener_of kind m.parent false)))
  -- a parameter with its value; or with an Object, and its first key
  values : {parent : ℕ} {us : List Token} {kind : ScalarKind} {name start rest : ℕ} → Asks m ts parent us → Asked text m.at kind name
      → Valued text (run_end text name + 1) start rest
      → Came text m ts 2
      (goes record { at = rest + 1; state = Key; parent = parent; mixed = m.mixed; count = m.count + 1 + 1 }
      ((us ++ (run_token kind name (run_end text name) ∷ [])) ++ (run_token Unquoted start (run_end text start) ∷ [])))
  objects : {parent : ℕ} {us : List Token} {kind : ScalarKind} {name start rest : ℕ} → Asks m ts parent us → Asked text m.at kind name
      → Valued text (run_end text name + 1) start rest
      → Came text m ts 3
      (goes record { at = rest; state = KeyValueSeparator; parent = m.count + 1; mixed = m.mixed; count = m.count + 1 + 1 + 1 }
      (((us ++ (run_token kind name (run_end text name) ∷ [])) ++ (opener_of Object parent false ∷ []))
      ++ (run_token Unquoted start (run_end text start) ∷ [])))
  refuses : {n : ℕ} {r : Refusal} → Refuses text m ts n r → number r < 11 → Came text m ts n (stops r)

-- ---- the text's end: done in Key with nothing open or with one container at top level, which is closed; else Eof
pub data Over (m : Machine) (ts : List Token) : ℕ → Moved → Type 0 where
  done_bare : m.state ≡ Key → m.parent ≡ 0 → Over m ts 0 (ends m.count ts)
  done_closed : m.state ≡ Key → (m.parent ≡ 0 → ⊥) → above ts m.parent ≡ 0
      → Over m ts 1 (ends (m.count + 1) (closed_as ts m.parent (opener_of Object m.count false)))
  too_early : Over m ts 0 (stops Eof)

-- ---- a turn: blanks, and then a byte or the text's end
pub data Turned (text : List ℕ) (m : Machine) (ts : List Token) : ℕ → Moved → Type 0 where
  on_byte : {p n : ℕ} {x : Moved} → skip_ws text m.at ≡ Some p → Came text (to m p m.state m.count) ts n x → Turned text m ts n x
  at_end : {n : ℕ} {x : Moved} → skip_ws text m.at ≡ None → Over m ts n x → Turned text m ts n x

-- ---- where what is cut stands, and where the text goes on
pub taken-moves : {text : List ℕ} {at : ℕ} {x : Token} {rest : ℕ} → Taken text at x rest → at < rest
taken-moves {text} {at} (unquoted start end rest q) = let b = unquoted_bounds text at start end rest q in omega (arith, b.moves, b.goes_on)
taken-moves {text} {at} (quoted start end rest escaped q) =
    let b = quoted_bounds text at start end rest escaped q in omega (arith, b.starts, b.run.from, b.goes_on)

-- a run that starts at or after a place, with a byte or more in it
pub record RunFrom (text : List ℕ) (at start : ℕ) : Type 0 where
  pub from : at ≤ start
  pub moves : start < run_end text start
  pub within : run_end text start ≤ length text

run-from : (text : List ℕ) (at start : ℕ) → at ≤ start → start < length text → RunFrom text at start
run-from text at start h k = let r = run_end-run text start k in record { from = h; moves = r.moves; within = r.within }

pub name-run : {text : List ℕ} {at : ℕ} {kind : ScalarKind} {name : ℕ} → Asked text at kind name → RunFrom text (at + 2) name
name-run {text} {at} {kind} {name} a = run-from text (at + 2) name (starts a.named) (ltb-true name (length text) a.inside)
  where
    starts : {kind : ScalarKind} {name : ℕ} → Named text at kind name → at + 2 ≤ name
    starts (defined e f) = omega arith
    starts (undefined e f) = omega arith

pub value-run : {text : List ℕ} {at start rest : ℕ} → Valued text at start rest → RunFrom text at start
value-run {text} {at} {start} v = let a = skip_lands text at start v.starts in run-from text at start a.from a.within

pub value-rest : {text : List ℕ} {at start rest : ℕ} → Valued text at start rest → Landed text (run_end text start) rest
value-rest {text} {at} {start} {rest} v = skip_lands text (run_end text start) rest v.goes_on
