-- The Rust's parser in the words of its text/tape.rs: its tokens, its states, its errors and `ParserState` with all the branches of its loop.
-- It shares nothing with our own definitions but the names of bytes. A part of the text is its bytes; a byte that a slice pattern asks for is read
-- as 0 where the part has none there, and no byte that is asked for is 0. A `Vec` is a list, and it is kept where the parse returns an error too.
-- How an unquoted run is cut is lent to it: `rust_parse` is the parse by the Rust's own cut (RustCuts), and Demand2 speaks of the parse by ours too.
use Rattle.std.specs.Prelude.{ℕ, zero, suc, ◌+◌, ◌-◌, ◌*◌, Bool, true, false, ◌&&◌, List, [], ◌∷◌, ◌++◌, eqb, ltb, length, get_or, take, drop, set}
use Rattle.std.proofs.Math.Option.{Option, none, some}
use Rattle.data.specs.Bytes.{tab, line_feed, carriage_return, space, exclamation, quote, hash, semicolon, less_than, equals, greater_than}
use Rattle.data.specs.Bytes.{question, at_sign, bracket_open, bracket_close, brace_open, brace_close}
use Rattle.data.specs.Classes.{among}
use Rattle.rust_tape.specs.RustCuts.{forward_search, split_at_scalar, parse_quote_scalar}

infix 15 ◌⇒◌
-- ---- `Operator`, `TextToken`, `ParseState`, `ErrorKind`
pub data Operator : Type 0 where
  LessThan : Operator
  LessThanEqual : Operator
  GreaterThan : Operator
  GreaterThanEqual : Operator
  NotEqual : Operator
  Exact : Operator
  Equal : Operator
  Exists : Operator

-- the five variants of `TextToken` that hold a `Scalar`
pub data Variant : Type 0 where
  Unquoted : Variant
  Quoted : Variant
  Parameter : Variant
  UndefinedParameter : Variant
  Header : Variant

-- `TextToken`; a `Scalar` is where its slice starts in the text, and how many bytes it has
pub data TextToken : Type 0 where
  Array : (end : ℕ) → (mixed : Bool) → TextToken
  Object : (end : ℕ) → (mixed : Bool) → TextToken
  MixedContainer : TextToken
  OfScalar : Variant → (start size : ℕ) → TextToken
  OfOperator : Operator → TextToken
  End : (start-idx : ℕ) → TextToken

pub data ParseState : Type 0 where
  Key : ParseState
  KeyValueSeparator : ParseState
  ObjectValue : ParseState
  ArrayValue : ParseState
  ParseOpen : ParseState

-- what `InvalidSyntax` says in `msg`
pub data Message : Type 0 where
  -- "invalid syntax for token headers"
  TokenHeaders : Message
  -- "encountered '}' for object value"
  ClosedValue : Message
  -- "mixed object and array container not expected"
  MixedNotExpected : Message
  -- "expected a scalar to precede an operator"
  ScalarToPrecede : Message
  -- "unrecognized operator"
  Unrecognized : Message
  -- "expected start of parameter definition"
  ParameterStart : Message
  -- "expected end of parameter name"
  NameEnd : Message

pub data ErrorKind : Type 0 where
  Eof : ErrorKind
  StackEmpty : (offset : ℕ) → ErrorKind
  InvalidSyntax : Message → (offset : ℕ) → ErrorKind

-- ---- what a turn of the loop works on, and what it comes to
-- what no turn changes: how many bytes the text has, and how many bytes of a part are cut off as an unquoted run
pub record Source : Type 0 where
  pub size : ℕ
  pub cut : List ℕ → ℕ

-- a text that is parsed by a cut
abbrev pub source : (List ℕ → ℕ) → List ℕ → Source
source cut text = record { size = length text; cut = cut }

-- the locals of `parse` and the tape; `data` is `rest` here
pub record Parser : Type 0 where
  pub rest : List ℕ
  pub state : ParseState
  pub parent_ind : ℕ
  pub mixed_mode : Bool
  pub token_tape : List TextToken

-- the loop goes on, `parse` returns Ok or Err with what stands on the tape, or the Rust panics
pub data Flow : Type 0 where
  loop : Parser → Flow
  ok : List TextToken → Flow
  err : ErrorKind → List TextToken → Flow
  panic : Flow

-- ---- what panics in the Rust, each `none` where it does (a difference below 0 in a build with overflow checks)
-- what comes of a value that there may not be
abbrev pub checked : {A : Type 0} → Option A → (A → Flow) → Flow
checked (some x) go = go x
checked none go = panic

-- `a - b` of usize
unfoldable pub minus : ℕ → ℕ → Option ℕ
minus a b = elim (ltb a b) [ true ↦ none | false ↦ some (a - b) ]

-- `d[i]`
unfoldable pub index : List ℕ → ℕ → Option ℕ
index d i = elim (ltb i (length d)) [ true ↦ some (get_or d i 0) | false ↦ none ]

-- `&d[i..]`
unfoldable pub slice_from : List ℕ → ℕ → Option (List ℕ)
slice_from d i = elim (ltb (length d) i) [ true ↦ none | false ↦ some (drop i d) ]

-- `token_tape[i] = x`
unfoldable pub assign : List TextToken → ℕ → TextToken → Option (List TextToken)
assign ts i x = elim (ltb i (length ts)) [ true ↦ some (set ts i x) | false ↦ none ]

-- `token_tape.insert(i, x)`
unfoldable pub insert : List TextToken → ℕ → TextToken → Option (List TextToken)
insert ts i x = elim (ltb (length ts) i) [ true ↦ none | false ↦ some (take i ts ++ (x ∷ drop i ts)) ]

-- ---- what does not
-- `token_tape.push(x)`
abbrev pub push : List TextToken → TextToken → List TextToken
push ts x = ts ++ (x ∷ [])

-- `token_tape.get(i)` and `get_mut(i)`
unfoldable pub get : List TextToken → ℕ → Option TextToken
get ts i = elim (ltb i (length ts)) [ true ↦ some (get_or ts i MixedContainer) | false ↦ none ]

-- `token_tape.last()` and `last_mut()`
abbrev pub last : List TextToken → Option TextToken
last ts = get ts (length ts - 1)

-- whether a part has a byte at a place: `data.get(i)` and `data.first()` compared with one, and slice patterns
abbrev pub has : List ℕ → ℕ → ℕ → Bool
has d i b = eqb (get_or d i 0) b

-- where a part starts in a text of n bytes, whose end is its own end
abbrev pub start_of : ℕ → List ℕ → ℕ
start_of n d = n - length d

-- ---- matches on tokens
-- `match self.token_tape.get(i)`: its arms are everywhere `Some(Array { end, mixed })`, `Some(Object { end, mixed })` and `_`
pub data Container : Type 0 where
  AnArray : (end : ℕ) → (mixed : Bool) → Container
  AnObject : (end : ℕ) → (mixed : Bool) → Container
  Neither : Container

-- the arm that a token falls in
abbrev pub container : Option TextToken → Container
container none = Neither
container (some (Array end mixed)) = AnArray end mixed
container (some (Object end mixed)) = AnObject end mixed
container (some MixedContainer) = Neither
container (some (OfScalar variant start size)) = Neither
container (some (OfOperator operator)) = Neither
container (some (End start-idx)) = Neither

-- `grand_ind`
abbrev pub its_end : Container → ℕ
its_end (AnArray end mixed) = end
its_end (AnObject end mixed) = end
its_end Neither = 0

-- `is_array`
abbrev pub is_array : Container → Bool
is_array (AnArray end mixed) = true
is_array (AnObject end mixed) = false
is_array Neither = false

-- whether `matches!` finds a container
abbrev pub is_container : Container → Bool
is_container (AnArray end mixed) = true
is_container (AnObject end mixed) = true
is_container Neither = false

-- `mixed_mode` where a container is left, by what stands around it
abbrev pub mode_in : Container → Bool
mode_in (AnArray end mixed) = mixed
mode_in (AnObject end mixed) = mixed
mode_in Neither = false

-- and `state`
abbrev pub state_in : Container → ParseState
state_in (AnArray end mixed) = ArrayValue
state_in (AnObject end mixed) = elim mixed [ true ↦ ArrayValue | false ↦ Key ]
state_in Neither = Key

-- what `last()` is matched with: `Some(Unquoted(header))` and `Some(End(start_idx))`, with what they hold, and whether `as_scalar()` is some
pub data Last : Type 0 where
  AnUnquoted : (start size : ℕ) → Last
  AnotherScalar : Last
  AnEnd : (start-idx : ℕ) → Last
  NoScalar : Last

-- of a token that holds a `Scalar`
abbrev pub as_scalar : Variant → ℕ → ℕ → Last
as_scalar Unquoted start size = AnUnquoted start size
as_scalar Quoted start size = AnotherScalar
as_scalar Parameter start size = AnotherScalar
as_scalar UndefinedParameter start size = AnotherScalar
as_scalar Header start size = AnotherScalar

-- and of any
abbrev pub as_last : Option TextToken → Last
as_last none = NoScalar
as_last (some (Array end mixed)) = NoScalar
as_last (some (Object end mixed)) = NoScalar
as_last (some MixedContainer) = NoScalar
as_last (some (OfScalar variant start size)) = as_scalar variant start size
as_last (some (OfOperator operator)) = NoScalar
as_last (some (End start-idx)) = AnEnd start-idx

-- ---- a `match` by its arms: the first that fits, and else the last
pub record Arm (A : Type 0) : Type 0 where
  pub fits : Bool
  pub gives : A

-- an arm: whether its pattern fits, and what it gives
abbrev pub ◌⇒◌ : {A : Type 0} → Bool → A → Arm A
fits ⇒ gives = record { fits = fits; gives = gives }

-- what a `match` gives
abbrev pub arms : {A : Type 0} → List (Arm A) → A → A
arms [] other = other
arms (a ∷ later) other = elim a.fits [ true ↦ a.gives | false ↦ arms later other ]

-- ---- `impl ParserState`. Each call that may return early is given what comes after it
-- `offset`
abbrev pub offset : ℕ → List ℕ → Option ℕ
offset n d = minus n (length d)

-- an `InvalidSyntax` that carries the offset of a part
abbrev pub syntax_error : Source → Message → List ℕ → List TextToken → Flow
syntax_error src msg d ts = checked (offset src.size d) (λ at. err (InvalidSyntax msg at) ts)

-- `skip_ws_t`, outside a comment, and inside one
unfoldable mutual
  pub skip_ws_t : List ℕ → Option (List ℕ)
  skip_ws_t [] = none
  skip_ws_t (b ∷ bs) =
      elim (among b (space ∷ tab ∷ line_feed ∷ carriage_return ∷ semicolon ∷ [])) [
        | true ↦ skip_ws_t bs
        | false ↦ elim (eqb b hash) [ true ↦ skip_comment_t bs | false ↦ some (b ∷ bs) ]
      ]

  pub skip_comment_t : List ℕ → Option (List ℕ)
  skip_comment_t [] = none
  skip_comment_t (b ∷ bs) = elim (eqb b line_feed) [ true ↦ skip_ws_t bs | false ↦ skip_comment_t bs ]

-- `self.skip_ws_t(data).ok_or_else(Error::eof)?`
abbrev pub ws_or_eof : Option (List ℕ) → List TextToken → (List ℕ → Flow) → Flow
ws_or_eof (some d) ts go = go d
ws_or_eof none ts go = err Eof ts

-- `parse_quote_scalar`
unfoldable pub parse_quote : Source → List ℕ → List TextToken → (List ℕ → List TextToken → Flow) → Flow
parse_quote src d ts go =
    checked (slice_from d 1)
    (λ haystack. elim (parse_quote_scalar d) [
      | some k ↦ checked (slice_from haystack (k + 1)) (λ rest. go rest (push ts (OfScalar Quoted (start_of src.size haystack) k)))
      | none ↦ err Eof ts
    ])

-- `split_at_scalar`: the part is split where the cut ends the run; the Rust's own ends it past a part that has no byte
unfoldable pub split_scalar : Source → List ℕ → (ℕ → ℕ → List ℕ → Flow) → Flow
split_scalar src d go = checked (slice_from d (src.cut d)) (λ rest. go (start_of src.size d) (src.cut d) rest)

-- `parse_scalar`
unfoldable pub parse_scalar : Source → List ℕ → List TextToken → (List ℕ → List TextToken → Flow) → Flow
parse_scalar src d ts go = split_scalar src d (λ start size rest. go rest (push ts (OfScalar Unquoted start size)))

-- `parse_variable`
unfoldable pub parse_variable : Source → List ℕ → List TextToken → (List ℕ → List TextToken → Flow) → Flow
parse_variable src d ts go =
    elim (has d 1 bracket_open) [
      | true ↦ elim (forward_search (λ b. eqb b bracket_close) (drop 2 d) 2) [
        | some pos ↦ checked (slice_from d (pos + 1)) (λ rest. go rest (push ts (OfScalar Unquoted (start_of src.size d) (pos + 1))))
        | none ↦ err Eof ts
      ]
      | false ↦ parse_scalar src d ts go
    ]

-- the arms `"`, `@` and `_` of Key, ObjectValue, ParseOpen and ArrayValue, of a part that begins with b
unfoldable pub parse_by : ℕ → Source → List ℕ → List TextToken → (List ℕ → List TextToken → Flow) → Flow
parse_by b src d ts go =
    elim (eqb b quote) [
      | true ↦ parse_quote src d ts go
      | false ↦ elim (eqb b at_sign) [ true ↦ parse_variable src d ts go | false ↦ parse_scalar src d ts go ]
    ]

-- the locals with other data, state and tape
abbrev pub with_data : Parser → List ℕ → ParseState → List TextToken → Parser
with_data p rest state ts =
    record { rest = rest; state = state; parent_ind = p.parent_ind; mixed_mode = p.mixed_mode; token_tape = ts }

-- so many bytes are passed, and a state comes
abbrev pub pass : Parser → ℕ → ParseState → List TextToken → Flow
pass p width state ts = checked (slice_from p.rest width) (λ rest. loop (with_data p rest state ts))

-- ---- `None` of the loop's `skip_ws_t`
unfoldable pub at_end : Parser → Flow
at_end p =
    elim p.state [
      | Key ↦ elim (eqb p.parent_ind 0) [
        | true ↦ ok p.token_tape
        | false ↦
            let grand-ind : ℕ = its_end (container (get p.token_tape p.parent_ind)) in
            elim (eqb grand-ind 0) [
              | true ↦
                  checked (assign (push p.token_tape (End p.parent_ind)) p.parent_ind (Object (length p.token_tape) false)) (λ ts. ok ts)
              | false ↦ err Eof p.token_tape
            ]
      ]
      | KeyValueSeparator ↦ err Eof p.token_tape
      | ObjectValue ↦ err Eof p.token_tape
      | ArrayValue ↦ err Eof p.token_tape
      | ParseOpen ↦ err Eof p.token_tape
    ]

-- ---- `parse_parameter_definition`, from its end to its start
-- `key_or_value` has been cut, and blanks skipped
unfoldable pub parameter_value : ℕ → ℕ → List ℕ → Parser → Flow
parameter_value start size rest p =
    let key-or-value : TextToken = OfScalar Unquoted start size in
    checked (index rest 0)
    (λ b. elim (eqb b bracket_close) [
      | true ↦ pass (with_data p rest p.state p.token_tape) 1 Key (push p.token_tape key-or-value)
      | false ↦ loop (record {
        rest = rest;
        state = KeyValueSeparator;
        parent_ind = length p.token_tape;
        mixed_mode = p.mixed_mode;
        token_tape = push (push p.token_tape (Object p.parent_ind false)) key-or-value;
      })
    ])

-- what follows the name, whose token has been pushed
unfoldable pub parameter_rest : Source → Parser → Flow
parameter_rest src p =
    ws_or_eof (skip_ws_t p.rest) p.token_tape
    (λ d. split_scalar src d (λ start size after. ws_or_eof (skip_ws_t after) p.token_tape (λ rest. parameter_value start size rest p)))

-- the name, of the part after `[[` or `[[!`
unfoldable pub parameter_name : Source → Variant → List ℕ → Parser → Flow
parameter_name src variant d p =
    elim (eqb (length d) 0) [
      | true ↦ err Eof p.token_tape
      | false ↦ split_scalar src d (λ start size after. elim (has after 0 bracket_close) [
        | true ↦
            checked (slice_from after 1)
            (λ rest. parameter_rest src (with_data p rest p.state (push p.token_tape (OfScalar variant start size))))
        | false ↦ syntax_error src NameEnd after p.token_tape
      ])
    ]

-- `data.get(2 + is_undefined as usize..)`
unfoldable pub parameter_from : Source → Variant → ℕ → Parser → Flow
parameter_from src variant skips p =
    elim (ltb (length p.rest) skips) [
      | true ↦ err Eof p.token_tape
      | false ↦ parameter_name src variant (drop skips p.rest) p
    ]

-- `initial`: the opener that is last becomes an Object, and the parent
abbrev pub initially : Bool → Parser → (Parser → Flow) → Flow
initially true p go =
    checked (minus (length p.token_tape) 1)
    (λ ind. checked (assign p.token_tape ind (Object p.parent_ind false))
    (λ ts. go (record { rest = p.rest; state = p.state; parent_ind = ind; mixed_mode = p.mixed_mode; token_tape = ts })))
initially false p go = go p

-- from its start: `[[`, and whether `!` follows
unfoldable pub parse_parameter_definition : Source → Bool → Parser → Flow
parse_parameter_definition src initial p =
    elim (has p.rest 1 bracket_open) [
      | true ↦ initially initial p (λ q. elim (has q.rest 2 exclamation) [
        | true ↦ parameter_from src UndefinedParameter 3 q
        | false ↦ parameter_from src Parameter 2 q
      ])
      | false ↦ syntax_error src ParameterStart p.rest p.token_tape
    ]

-- ---- Key
-- `}` or `]`: the state and the mode are set before it is seen whether anything is open
unfoldable pub key_close : Parser → Flow
key_close p =
    let ts : List TextToken = p.token_tape in
    let grand-ind : ℕ = its_end (container (get ts p.parent_ind)) in
    let around : Container = container (get ts grand-ind) in
    elim (eqb p.parent_ind 0 && eqb grand-ind 0) [
      | true ↦ checked (slice_from p.rest 1) (λ rest. loop (record {
        rest = rest;
        state = state_in around;
        parent_ind = p.parent_ind;
        mixed_mode = mode_in around;
        token_tape = ts;
      }))
      | false ↦
          checked (assign (push ts (End p.parent_ind)) p.parent_ind (Object (length ts) p.mixed_mode))
          (λ us. checked (slice_from p.rest 1) (λ rest. loop (record {
            rest = rest;
            state = state_in around;
            parent_ind = grand-ind;
            mixed_mode = mode_in around;
            token_tape = us;
          })))
    ]

-- `{` with no `}` behind it: a token header
unfoldable pub key_header : Source → List ℕ → Parser → Flow
key_header src rest p =
    let ts : List TextToken = p.token_tape in
    elim (as_last (last ts)) [
      | AnUnquoted start size ↦
          loop (with_data p rest ParseOpen (push (set ts (length ts - 1) (OfScalar Header start size)) (Array 0 false)))
      | AnotherScalar ↦ syntax_error src TokenHeaders rest ts
      | AnEnd start-idx ↦ syntax_error src TokenHeaders rest ts
      | NoScalar ↦ syntax_error src TokenHeaders rest ts
    ]

-- `{`: an empty object, or a token header
unfoldable pub key_brace : Source → Parser → Flow
key_brace src p =
    checked (slice_from p.rest 1)
    (λ after. ws_or_eof (skip_ws_t after) p.token_tape
    (λ rest. checked (index rest 0)
    (λ b. elim (eqb b brace_close) [
      | true ↦ pass (with_data p rest p.state p.token_tape) 1 p.state p.token_tape
      | false ↦ key_header src rest p
    ])))

-- `ParseState::Key`: `match data[0]`
unfoldable pub key_arm : Source → Parser → Flow
key_arm src p =
    checked (index p.rest 0)
    (λ b. arms (
    (eqb b brace_close ⇒ key_close p)
    ∷ (eqb b bracket_close ⇒ key_close p)
    ∷ (eqb b brace_open ⇒ key_brace src p)
    ∷ (eqb b bracket_open ⇒ parse_parameter_definition src false p)
    ∷ [])
    (parse_by b src p.rest p.token_tape (λ rest ts. loop (with_data p rest KeyValueSeparator ts))))

-- ---- KeyValueSeparator
-- an operator is pushed, so many bytes are passed, and a state comes
abbrev pub sign : Parser → Operator → ℕ → ParseState → Flow
sign p operator width state = pass p width state (push p.token_tape (OfOperator operator))

-- `MixedContainer` goes in before the last token, ArrayValue (where that is not the state already), mixed on
abbrev pub mix : Parser → (Parser → Flow) → Flow
mix p go =
    checked (minus (length p.token_tape) 1)
    (λ before. checked (insert p.token_tape before MixedContainer)
    (λ ts. go (record { rest = p.rest; state = ArrayValue; parent_ind = p.parent_ind; mixed_mode = true; token_tape = ts })))

-- `match data`, by its first two bytes
unfoldable pub separator_by : ℕ → ℕ → Parser → Flow
separator_by b c p =
    arms (
    ((eqb b less_than && eqb c equals) ⇒ sign p LessThanEqual 2 ObjectValue)
    ∷ (eqb b less_than ⇒ sign p LessThan 1 ObjectValue)
    ∷ ((eqb b greater_than && eqb c equals) ⇒ sign p GreaterThanEqual 2 ObjectValue)
    ∷ (eqb b greater_than ⇒ sign p GreaterThan 1 ObjectValue)
    ∷ ((eqb b exclamation && eqb c equals) ⇒ sign p NotEqual 2 ObjectValue)
    ∷ ((eqb b question && eqb c equals) ⇒ sign p Exists 2 ObjectValue)
    ∷ ((eqb b equals && eqb c equals) ⇒ sign p Exact 2 ObjectValue)
    ∷ ((eqb b equals && p.mixed_mode) ⇒ sign p Equal 1 p.state)
    ∷ (eqb b equals ⇒ pass p 1 ObjectValue p.token_tape)
    ∷ (eqb b brace_open ⇒ loop (with_data p p.rest ObjectValue p.token_tape))
    ∷ (eqb b brace_close ⇒ mix p (λ q. loop q))
    ∷ [])
    (mix p (λ q. loop q))

-- `ParseState::KeyValueSeparator`
abbrev pub separator_arm : Parser → Flow
separator_arm p = separator_by (get_or p.rest 0 0) (get_or p.rest 1 0) p

-- ---- ObjectValue
-- `{` where a value is due
abbrev pub open_array : Parser → Flow
open_array p = pass p 1 ParseOpen (push p.token_tape (Array 0 false))

-- `ParseState::ObjectValue`: `match data[0]`
unfoldable pub value_arm : Source → Parser → Flow
value_arm src p =
    checked (index p.rest 0)
    (λ b. arms ((eqb b brace_open ⇒ open_array p) ∷ (eqb b brace_close ⇒ syntax_error src ClosedValue p.rest p.token_tape) ∷ [])
    (parse_by b src p.rest p.token_tape (λ rest ts. loop (with_data p rest Key ts))))

-- ---- ParseOpen
-- `}`: an empty array
unfoldable pub open_close : Parser → Flow
open_close p =
    let ts : List TextToken = p.token_tape in
    let around : Container = container (get ts p.parent_ind) in
    checked (minus (length ts) 1)
    (λ ind. checked (assign ts ind (Array (ind + 1) false))
    (λ us. checked (slice_from p.rest 1) (λ rest. loop (record {
      rest = rest;
      state = state_in around;
      parent_ind = p.parent_ind;
      mixed_mode = mode_in around;
      token_tape = push us (End ind);
    }))))

-- the opener so far back becomes what it is, and the parent; mixed off
abbrev pub opened_as : (ℕ → Bool → TextToken) → ℕ → List ℕ → ParseState → Parser → Flow
opened_as kind back rest state p =
    checked (minus (length p.token_tape) back)
    (λ ind. checked (assign p.token_tape ind (kind p.parent_ind false))
    (λ ts. loop (record { rest = rest; state = state; parent_ind = ind; mixed_mode = false; token_tape = ts })))

-- `{`: array of objects, another array
unfoldable pub open_brace : Parser → Flow
open_brace p =
    checked (slice_from p.rest 1)
    (λ after. ws_or_eof (skip_ws_t after) p.token_tape
    (λ scratch. checked (index scratch 0)
    (λ b. elim (eqb b brace_close) [
      | true ↦ pass (with_data p scratch p.state p.token_tape) 1 p.state p.token_tape
      | false ↦ opened_as Array 1 p.rest ArrayValue p
    ])))

-- `*mixed = mixed_mode` of what `get_mut(parent_ind)` finds, if mixed and if it is a container
abbrev pub flag : Container → Bool → List TextToken → ℕ → List TextToken
flag (AnArray end mixed) mode ts i = set ts i (Array end mode)
flag (AnObject end mixed) mode ts i = set ts i (Object end mode)
flag Neither mode ts i = ts

-- the tape behind it
unfoldable pub flagged : Parser → List TextToken
flagged p =
    elim p.mixed_mode [
      | true ↦ flag (container (get p.token_tape p.parent_ind)) p.mixed_mode p.token_tape p.parent_ind
      | false ↦ p.token_tape
    ]

-- what follows the first scalar
unfoldable pub open_first : Parser → Flow
open_first p =
    ws_or_eof (skip_ws_t p.rest) (flagged p)
    (λ rest. checked (index rest 0)
    (λ b. elim (among b (equals ∷ greater_than ∷ less_than ∷ question ∷ exclamation ∷ [])) [
      | true ↦ opened_as Object 2 rest KeyValueSeparator (with_data p rest p.state (flagged p))
      | false ↦ opened_as Array 2 rest ArrayValue (with_data p rest p.state (flagged p))
    ]))

-- `[`: the start of a parameter definition
unfoldable pub open_bracket : Source → Parser → Flow
open_bracket src p =
    elim p.mixed_mode [
      | true ↦ syntax_error src MixedNotExpected p.rest p.token_tape
      | false ↦ parse_parameter_definition src true p
    ]

-- `ParseState::ParseOpen`: `match data[0]`
unfoldable pub open_arm : Source → Parser → Flow
open_arm src p =
    checked (index p.rest 0)
    (λ b. arms (
    (eqb b brace_close ⇒ open_close p)
    ∷ (eqb b bracket_open ⇒ open_bracket src p)
    ∷ (eqb b brace_open ⇒ open_brace p)
    ∷ [])
    (parse_by b src p.rest p.token_tape (λ rest ts. open_first (with_data p rest p.state ts))))

-- ---- ArrayValue
-- the container that is left gets its End, its own kind and the mode in force
abbrev pub closed_as : Bool → ℕ → Bool → TextToken
closed_as true end mixed = Array end mixed
closed_as false end mixed = Object end mixed

-- `}`: the container is closed, and its parent taken up
unfoldable pub array_close : Source → Parser → Flow
array_close src p =
    let ts : List TextToken = p.token_tape in
    let parent : Container = container (get ts p.parent_ind) in
    let grand-ind : ℕ = its_end parent in
    let around : Container = container (get ts grand-ind) in
    elim (eqb p.parent_ind 0 && eqb grand-ind 0) [
      | true ↦ checked (offset src.size p.rest) (λ at. err (StackEmpty at) ts)
      | false ↦
          checked (assign ts p.parent_ind (closed_as (is_array parent) (length ts) p.mixed_mode))
          (λ us. checked (slice_from p.rest 1) (λ rest. loop (record {
            rest = rest;
            state = state_in around;
            parent_ind = grand-ind;
            mixed_mode = mode_in around;
            token_tape = push us (End p.parent_ind);
          })))
    ]

-- `offset: self.offset(data) - 1`
abbrev pub error_before : Source → Message → List ℕ → List TextToken → Flow
error_before src msg d ts = checked (offset src.size d) (λ at. checked (minus at 1) (λ before. err (InvalidSyntax msg before) ts))

-- the operator, once mixed is on: `match data`, by its first two bytes
unfoldable pub operator_by : Source → ℕ → ℕ → Parser → Flow
operator_by src b c p =
    arms (
    ((eqb b less_than && eqb c equals) ⇒ sign p LessThanEqual 2 p.state)
    ∷ (eqb b less_than ⇒ sign p LessThan 1 p.state)
    ∷ ((eqb b greater_than && eqb c equals) ⇒ sign p GreaterThanEqual 2 p.state)
    ∷ (eqb b greater_than ⇒ sign p GreaterThan 1 p.state)
    ∷ ((eqb b exclamation && eqb c equals) ⇒ sign p NotEqual 2 p.state)
    ∷ ((eqb b equals && eqb c equals) ⇒ sign p Exact 2 p.state)
    ∷ (eqb b equals ⇒ sign p Equal 1 p.state)
    ∷ [])
    (error_before src Unrecognized p.rest p.token_tape)

-- so of the data
abbrev pub array_operator : Source → Parser → Flow
array_operator src p = operator_by src (get_or p.rest 0 0) (get_or p.rest 1 0) p

-- `can_precede_operator` after an End: object template syntax, where its opener is a container and the byte is `=`
unfoldable pub after_end : Source → ℕ → ℕ → Parser → Flow
after_end src b start-idx p =
    let never : Flow = error_before src ScalarToPrecede p.rest p.token_tape in
    elim (is_container (container (get p.token_tape start-idx))) [
      | true ↦ elim (eqb b equals) [ true ↦ pass p 1 p.state p.token_tape | false ↦ never ]
      | false ↦ never
    ]

-- `<` `>` `!` `=`: where mixed is off, `can_precede_operator`, and what comes of it
unfoldable pub array_sign : Source → ℕ → Parser → Flow
array_sign src b p =
    elim p.mixed_mode [
      | true ↦ array_operator src p
      | false ↦ elim (as_last (last p.token_tape)) [
        | AnUnquoted start size ↦ mix p (array_operator src)
        | AnotherScalar ↦ mix p (array_operator src)
        | AnEnd start-idx ↦ after_end src b start-idx p
        | NoScalar ↦ error_before src ScalarToPrecede p.rest p.token_tape
      ]
    ]

-- `ParseState::ArrayValue`: `match data[0]`
unfoldable pub array_arm : Source → Parser → Flow
array_arm src p =
    checked (index p.rest 0)
    (λ b. arms (
    (eqb b brace_open ⇒ open_array p)
    ∷ (eqb b brace_close ⇒ array_close src p)
    ∷ (among b (less_than ∷ greater_than ∷ exclamation ∷ equals ∷ []) ⇒ array_sign src b p)
    ∷ [])
    (parse_by b src p.rest p.token_tape (λ rest ts. loop (with_data p rest ArrayValue ts))))

-- ---- `parse`
-- `match state`, on data that begins with no blank
unfoldable pub by_its_state : Source → Parser → Flow
by_its_state src p =
    elim p.state [
      | Key ↦ key_arm src p
      | KeyValueSeparator ↦ separator_arm p
      | ObjectValue ↦ value_arm src p
      | ArrayValue ↦ array_arm src p
      | ParseOpen ↦ open_arm src p
    ]

-- a turn of the loop
unfoldable pub rust_turn : Source → Parser → Flow
rust_turn src p =
    elim (skip_ws_t p.rest) [
      | some d ↦ by_its_state src (with_data p d p.state p.token_tape)
      | none ↦ at_end p
    ]

-- so many turns, or fewer where it returns before
unfoldable pub rust_loop : Source → ℕ → Flow → Flow
rust_loop src zero x = x
rust_loop src (suc turns) (loop p) = rust_loop src turns (rust_turn src p)
rust_loop src (suc turns) (ok ts) = ok ts
rust_loop src (suc turns) (err e ts) = err e ts
rust_loop src (suc turns) panic = panic

-- `utf8_bom`
unfoldable pub utf8_bom : List ℕ → Bool
utf8_bom text = has text 0 0xef && (has text 1 0xbb && has text 2 0xbf)

-- the locals before the first turn, of the text past its BOM
abbrev pub begin_at : List ℕ → Parser
begin_at rest = record { rest = rest; state = Key; parent_ind = 0; mixed_mode = false; token_tape = [] }

-- `&data[3..]` where there is one
unfoldable pub begin : List ℕ → Flow
begin text =
    elim (utf8_bom text) [
      | true ↦ checked (slice_from text 3) (λ rest. loop (begin_at rest))
      | false ↦ loop (begin_at text)
    ]

-- the parse by a cut, after so many turns of its loop
unfoldable pub turns_by : (List ℕ → ℕ) → List ℕ → ℕ → Flow
turns_by cut text turns = rust_loop (source cut text) turns (begin text)

-- the parse by a cut: 2n + 2 turns for n bytes. Where Demand2's `RunsBy` holds it has returned by then (`returns`), and more leave its answer (`settles`)
unfoldable pub parsed_by : (List ℕ → ℕ) → List ℕ → Flow
parsed_by cut text = turns_by cut text (2 * length text + 2)

-- the parse by the Rust's own cut
abbrev pub rust_parse : List ℕ → Flow
rust_parse text = parsed_by split_at_scalar text

-- how many tokens its `Vec` holds, also where it returns an error
abbrev pub held : Flow → ℕ
held (loop p) = length p.token_tape
held (ok ts) = length ts
held (err e ts) = length ts
held panic = 0
