-- Our tokens as the Rust has them: what is laid down, changed and read off is the same, from what holds of every machine that a run reaches.
-- Assumes nothing.
use Rattle.std.specs.Prelude.{Some, None}
use Rattle.std.specs.Prelude.{Option as Maybe}
use Prim.Native.Nat.{ℕ, zero, suc, ◌+◌, ◌-◌, ◌≤◌, ◌<◌}
use mathlib.Core.Path.{◌≡◌, refl, sym, ◌∙◌, ap}
use mathlib.Core.Bool.{Bool, true, false, ◌&&◌}
use mathlib.Core.List.{List, [], ◌∷◌, ◌++◌, map}
use mathlib.Core.Option
use mathlib.Core.Option.{Option, none, some}
use native.Mathlib.Omega.{arith}
use borrow.Author.Tests.{eqb-true, eqb-false, lt-ltb, le-ltb}
use lib.Dec.{eqb}
use lib.ListN.{length, get_or, take, drop, set, length-map, get_or-map, get_or-eq_default}
use Rattle.data.proofs.Cases.{by_bool}
use Rattle.tape.specs.declared.token.Token.{Token}
use Rattle.tape.specs.declared.token.ContainerKind.{ContainerKind}
use Rattle.tape.specs.declared.token.ContainerKind.TheVariants.{Array, Object}
use Rattle.tape.specs.declared.token.ScalarKind.{ScalarKind}
use Rattle.tape.specs.declared.token.ScalarKind.TheVariants.{Unquoted, Quoted, Parameter, UndefinedParameter, Header, QuotedEscape}
use Rattle.tape.specs.declared.token.Container as Containers
use Rattle.tape.specs.declared.token.Standing as Standings
use Rattle.tape.specs.declared.shape.Link.TheVariants.{ToOpener}
use Rattle.tape.specs.Token.{array_code, object_code, mixed_container_code, unquoted_code, quoted_code, parameter_code, opened}
use Rattle.tape.specs.Token.{undefined_parameter_code, operator_code, end_code, header_code, quoted_escape_code, container_code, scalar_named, named_among}
use Rattle.tape.specs.Token.{is_scalar_code, quoted_kind, no_token, mixed_container_token, opener_of, end_of, scalar_of, operator_of, headed}
use Rattle.tape.specs.Token.{container_of, standing_of}
use Rattle.tape.specs.Tape.{unbounded, token_at, before_last}
use Rattle.tape.proofs.Shapes.{end-link}
use Rattle.tape.proofs.Makers.{end_uncoded}
use Rattle.operator.specs.declared.Operator as Ours
use Rattle.operator.specs.Operators.{number_of}
use Rattle.sheet.specs.Sound.{nth, Form, container, mixed_container, scalar, operator, closing}
use Rattle.machine.specs.declared.State.{State}
use Rattle.machine.specs.declared.State.TheVariants.{Key, KeyValueSeparator, ObjectValue, ParseOpen, ArrayValue}
use Rattle.machine.specs.Parents.{parent_of, own_kind, state_in, mixed_in, nothing_open}
use Rattle.parse.proofs.Splits.{by-container}
use Rattle.promises.specs.Room.{tape_of}
use Rattle.promises.specs.Mixed.{Scalar}
use Rattle.rust_tape.specs.RustTape as Rust
use Rattle.rust_tape.specs.RustTape.{TextToken, ParseState}
use Rattle.rust_tape.specs.AsRust.{operator_as_rust, token_as_rust}
use Rattle.promises.proofs.Links.Nest.{by-below, opener-below}
use Rattle.promises.proofs.Links.Rows.{not_scalar}
use Rattle.promises.proofs.Links.Kept.{link_at, Kept, link-container}
use Rattle.promises.proofs.Links.Closing.{reads-opener, in_container}
use Rattle.tape.proofs.Makers.{by_opened}

-- ---- a token as the Rust has it; what is no token is read as one that opens nothing and is no scalar
unfoldable pub read : Token → TextToken
read t = Option.get_or (token_as_rust t) Rust.MixedContainer

abbrev pub rust_tape : List Token → List TextToken
rust_tape ts = map read ts

abbrev pub as_state : State → ParseState
as_state Key = Rust.Key
as_state KeyValueSeparator = Rust.KeyValueSeparator
as_state ObjectValue = Rust.ObjectValue
as_state ParseOpen = Rust.ParseOpen
as_state ArrayValue = Rust.ArrayValue

abbrev pub opener_as : ContainerKind → ℕ → Bool → TextToken
opener_as Array end mixed = Rust.Array end mixed
opener_as Object end mixed = Rust.Object end mixed

abbrev pub as_variant : ScalarKind → Rust.Variant
as_variant Unquoted = Rust.Unquoted
as_variant Quoted = Rust.Quoted
as_variant Parameter = Rust.Parameter
as_variant UndefinedParameter = Rust.UndefinedParameter
as_variant Header = Rust.Header
as_variant QuotedEscape = Rust.Quoted

abbrev pub as_operator : Ours.Operator → Rust.Operator
as_operator Ours.TheVariants.LessThan = Rust.LessThan
as_operator Ours.TheVariants.LessThanEqual = Rust.LessThanEqual
as_operator Ours.TheVariants.GreaterThan = Rust.GreaterThan
as_operator Ours.TheVariants.GreaterThanEqual = Rust.GreaterThanEqual
as_operator Ours.TheVariants.NotEqual = Rust.NotEqual
as_operator Ours.TheVariants.Exact = Rust.Exact
as_operator Ours.TheVariants.Equal = Rust.Equal
as_operator Ours.TheVariants.Exists = Rust.Exists

-- what is made is read so
pub opener-read : (kind : ContainerKind) (link : ℕ) (mixed : Bool) → token_as_rust (opener_of kind link mixed) ≡ some (opener_as kind link mixed)
unfolding token_as_rust
opener-read Array link true = refl
opener-read Array link false = refl
opener-read Object link true = refl
opener-read Object link false = refl

pub scalar_read : (kind : ScalarKind) (start size : ℕ) → token_as_rust (scalar_of kind start size) ≡ some (Rust.OfScalar (as_variant kind) start size)
unfolding token_as_rust
scalar_read Unquoted start size = refl
scalar_read Quoted start size = refl
scalar_read Parameter start size = refl
scalar_read UndefinedParameter start size = refl
scalar_read Header start size = refl
scalar_read QuotedEscape start size = refl

pub operator-read : (o : Ours.Operator) → token_as_rust (operator_of (number_of o)) ≡ some (Rust.OfOperator (as_operator o))
unfolding token_as_rust operator_as_rust
operator-read Ours.TheVariants.LessThan = refl
operator-read Ours.TheVariants.LessThanEqual = refl
operator-read Ours.TheVariants.GreaterThan = refl
operator-read Ours.TheVariants.GreaterThanEqual = refl
operator-read Ours.TheVariants.NotEqual = refl
operator-read Ours.TheVariants.Exact = refl
operator-read Ours.TheVariants.Equal = refl
operator-read Ours.TheVariants.Exists = refl

pub end_read : (opener : ℕ) → token_as_rust (end_of opener) ≡ some (Rust.End opener)
unfolding token_as_rust
end_read opener = refl

-- ---- what a list of tokens becomes
pub tape-length : (ts : List Token) (n : ℕ) → length ts ≡ n → length (rust_tape ts) ≡ n
tape-length ts n sized = length-map ts read ∙ sized

add_read : (ts : List Token) (x : Token) → rust_tape (ts ++ (x ∷ [])) ≡ Rust.push (rust_tape ts) (read x)
add_read [] x = refl
add_read (t ∷ ts) x = ap (λ (r : List TextToken). read t ∷ r) (add_read ts x)

set-read : (ts : List Token) (i : ℕ) (x : Token) → rust_tape (set ts i x) ≡ set (rust_tape ts) i (read x)
set-read [] i x = refl
set-read (t ∷ ts) zero x = refl
set-read (t ∷ ts) (suc i) x = ap (λ (r : List TextToken). read t ∷ r) (set-read ts i x)

module _ (ts : List Token) where
  laid : (x : Token) (u : TextToken) → token_as_rust x ≡ some u → rust_tape (ts ++ (x ∷ [])) ≡ Rust.push (rust_tape ts) u
  unfolding read
  laid x u e = add_read ts x ∙ ap (λ (v : Option TextToken). Rust.push (rust_tape ts) (Option.get_or v Rust.MixedContainer)) e

  changed : (i : ℕ) (x : Token) (u : TextToken) → token_as_rust x ≡ some u → rust_tape (set ts i x) ≡ set (rust_tape ts) i u
  unfolding read
  changed i x u e = set-read ts i x ∙ ap (λ (v : Option TextToken). set (rust_tape ts) i (Option.get_or v Rust.MixedContainer)) e

  pub laid-scalar : (kind : ScalarKind) (start size : ℕ)
      → rust_tape (ts ++ (scalar_of kind start size ∷ [])) ≡ Rust.push (rust_tape ts) (Rust.OfScalar (as_variant kind) start size)
  laid-scalar kind start size = laid (scalar_of kind start size) (Rust.OfScalar (as_variant kind) start size) (scalar_read kind start size)

  -- a quoted run is one with an escape or without
  pub laid-quoted : (escaped : Bool) (start size : ℕ)
      → rust_tape (ts ++ (scalar_of (quoted_kind escaped) start size ∷ [])) ≡ Rust.push (rust_tape ts) (Rust.OfScalar Rust.Quoted start size)
  laid-quoted true start size = laid-scalar QuotedEscape start size
  laid-quoted false start size = laid-scalar Quoted start size

  pub laid-opener : (kind : ContainerKind) (link : ℕ) (mixed : Bool)
      → rust_tape (ts ++ (opener_of kind link mixed ∷ [])) ≡ Rust.push (rust_tape ts) (opener_as kind link mixed)
  laid-opener kind link mixed = laid (opener_of kind link mixed) (opener_as kind link mixed) (opener-read kind link mixed)

  pub laid_end : (opener : ℕ) → rust_tape (ts ++ (end_of opener ∷ [])) ≡ Rust.push (rust_tape ts) (Rust.End opener)
  laid_end opener = laid (end_of opener) (Rust.End opener) (end_read opener)

  pub laid-operator : (o : Ours.Operator)
      → rust_tape (ts ++ (operator_of (number_of o) ∷ [])) ≡ Rust.push (rust_tape ts) (Rust.OfOperator (as_operator o))
  laid-operator o = laid (operator_of (number_of o)) (Rust.OfOperator (as_operator o)) (operator-read o)

  pub changed_opener : (i : ℕ) (kind : ContainerKind) (link : ℕ) (mixed : Bool)
      → rust_tape (set ts i (opener_of kind link mixed)) ≡ set (rust_tape ts) i (opener_as kind link mixed)
  changed_opener i kind link mixed = changed i (opener_of kind link mixed) (opener_as kind link mixed) (opener-read kind link mixed)

  pub changed_header : (i : ℕ) (t : Token) → rust_tape (set ts i (headed t)) ≡ set (rust_tape ts) i (Rust.OfScalar Rust.Header t.a t.b)
  changed_header i t = changed i (headed t) (Rust.OfScalar Rust.Header t.a t.b) (scalar_read Header t.a t.b)

-- no write at one of the tokens panics
pub assign-there : (us : List TextToken) (i : ℕ) (x : TextToken) → i < length us → Rust.assign us i x ≡ some (set us i x)
unfolding Rust.assign
assign-there us i x h = rw (Rust.assign, lt-ltb i (length us) h)

-- what goes in at one less than the length goes in before the last
insert-before : (ts : List Token) → 1 ≤ length ts
    → take (length (rust_tape ts) - 1) (rust_tape ts) ++ (Rust.MixedContainer ∷ drop (length (rust_tape ts) - 1) (rust_tape ts))
    ≡ rust_tape (before_last ts mixed_container_token)
unfolding read token_as_rust
insert-before [] some-token = absurd (omega arith)
insert-before (t ∷ []) some-token = refl
insert-before (t ∷ u ∷ ts) some-token =
    let e : length (rust_tape (t ∷ u ∷ ts)) - 1 ≡ suc (length (rust_tape (u ∷ ts)) - 1) = omega arith in
    rw e (ap (λ (r : List TextToken). read t ∷ r) (insert-before (u ∷ ts) (omega arith)))

pub insert-read : (ts : List Token) → 1 ≤ length ts
    → Rust.insert (rust_tape ts) (length (rust_tape ts) - 1) Rust.MixedContainer ≡ some (rust_tape (before_last ts mixed_container_token))
unfolding Rust.insert
insert-read ts h =
    let n : ℕ = length (rust_tape ts) in
    rw (Rust.insert, le-ltb n (n - 1) (omega arith)) (ap some (insert-before ts h))

-- ---- what is read off: a missing token as one that opens nothing and is no scalar
at_read : (ts : List Token) (i : ℕ) → get_or (rust_tape ts) i Rust.MixedContainer ≡ read (nth ts i)
unfolding read token_as_rust
at_read ts i = get_or-map read ts i no_token

get-read : {A : Type 0} (match : Option TextToken → A) → match none ≡ match (some Rust.MixedContainer) → (ts : List Token) (i : ℕ)
    → match (Rust.get (rust_tape ts) i) ≡ match (some (read (nth ts i)))
unfolding Rust.get read token_as_rust
get-read match missing ts i =
    let long : length (rust_tape ts) ≡ length ts = length-map ts read in
    by-below i (length ts)
    (λ h. rw (Rust.get, lt-ltb i (length (rust_tape ts)) (omega arith), at_read ts i))
    (λ h.
    let no : nth ts i ≡ no_token = get_or-eq_default ts no_token {n = i} h in
    rw (Rust.get, le-ltb i (length (rust_tape ts)) (omega arith), no) missing)

-- a code that is none of the scalars' names none
names-none : (code : ℕ) → eqb code unquoted_code ≡ false → eqb code quoted_code ≡ false → eqb code parameter_code ≡ false
    → eqb code undefined_parameter_code ≡ false → eqb code header_code ≡ false → eqb code quoted_escape_code ≡ false
    → scalar_named code ≡ None
unfolding scalar_named
names-none code a b c d e f = rw (scalar_named, named_among, a, b, c, d, e, f)

-- by a token's code
by_code : {P : Type 0} (t : Token)
    → (t.code ≡ array_code → P) → (t.code ≡ object_code → P) → (t.code ≡ mixed_container_code → P) → (t.code ≡ unquoted_code → P)
    → (t.code ≡ quoted_code → P) → (t.code ≡ parameter_code → P) → (t.code ≡ undefined_parameter_code → P)
    → (t.code ≡ operator_code → P)
    → (t.code ≡ end_code → P) → (t.code ≡ header_code → P) → (t.code ≡ quoted_escape_code → P)
    → (container_of t ≡ None → standing_of t ≡ Standings.TheVariants.Nothing → token_as_rust t ≡ none → P) → P
unfolding container_of standing_of token_as_rust
by_code t f1 f2 f3 f4 f5 f6 f7 f8 f9 f10 f11 other =
    by_bool (eqb t.code array_code) (λ e. f1 (eqb-true _ _ e)) (λ e1.
    by_bool (eqb t.code object_code) (λ e. f2 (eqb-true _ _ e)) (λ e2.
    by_bool (eqb t.code mixed_container_code) (λ e. f3 (eqb-true _ _ e)) (λ e3.
    by_bool (eqb t.code unquoted_code) (λ e. f4 (eqb-true _ _ e)) (λ e4.
    by_bool (eqb t.code quoted_code) (λ e. f5 (eqb-true _ _ e)) (λ e5.
    by_bool (eqb t.code parameter_code) (λ e. f6 (eqb-true _ _ e)) (λ e6.
    by_bool (eqb t.code undefined_parameter_code) (λ e. f7 (eqb-true _ _ e)) (λ e7.
    by_bool (eqb t.code operator_code) (λ e. f8 (eqb-true _ _ e)) (λ e8.
    by_bool (eqb t.code end_code) (λ e. f9 (eqb-true _ _ e)) (λ e9.
    by_bool (eqb t.code header_code) (λ e. f10 (eqb-true _ _ e)) (λ e10.
    by_bool (eqb t.code quoted_escape_code) (λ e. f11 (eqb-true _ _ e)) (λ e11.
    other (rw (container_of, e1, e2)) (rw (standing_of, e4, names-none t.code e4 e5 e6 e7 e10 e11, e9))
    (rw (token_as_rust, e1, e2, e3, e4, e5, e6, e7, e8, e9, e10, e11)))))))))))))

-- an operator is one by whatever number
by_number : {P : Type 0} (n : ℕ) → ((o : Rust.Operator) → operator_as_rust n ≡ some (Rust.OfOperator o) → P)
    → (operator_as_rust n ≡ none → P) → P
unfolding operator_as_rust
by_number n f g =
    by_bool (eqb n 1) (λ e. f Rust.LessThan (rw (operator_as_rust, e))) (λ e1.
    by_bool (eqb n 2) (λ e. f Rust.LessThanEqual (rw (operator_as_rust, e1, e))) (λ e2.
    by_bool (eqb n 3) (λ e. f Rust.GreaterThan (rw (operator_as_rust, e1, e2, e))) (λ e3.
    by_bool (eqb n 4) (λ e. f Rust.GreaterThanEqual (rw (operator_as_rust, e1, e2, e3, e))) (λ e4.
    by_bool (eqb n 5) (λ e. f Rust.NotEqual (rw (operator_as_rust, e1, e2, e3, e4, e))) (λ e5.
    by_bool (eqb n 6) (λ e. f Rust.Exact (rw (operator_as_rust, e1, e2, e3, e4, e5, e))) (λ e6.
    by_bool (eqb n 7) (λ e. f Rust.Equal (rw (operator_as_rust, e1, e2, e3, e4, e5, e6, e))) (λ e7.
    by_bool (eqb n 8) (λ e. f Rust.Exists (rw (operator_as_rust, e1, e2, e3, e4, e5, e6, e7, e))) (λ e8.
    g (rw (operator_as_rust, e1, e2, e3, e4, e5, e6, e7, e8))))))))))

-- a container, by the Rust's match and by ours
abbrev pub container_as : ContainerKind → ℕ → Bool → Rust.Container
container_as Array link mixed = Rust.AnArray link mixed
container_as Object link mixed = Rust.AnObject link mixed

abbrev pub as_container : Maybe Containers.Container → Rust.Container
as_container (Some c) = container_as c.kind c.link c.mixed
as_container None = Rust.Neither

token_container : (t : Token) → Rust.container (some (read t)) ≡ as_container (container_of t)
unfolding read token_as_rust container_of
token_container t =
    by_code t
    (λ e. rw e) (λ e. rw e) (λ e. rw e) (λ e. rw e) (λ e. rw e) (λ e. rw e) (λ e. rw e)
    (λ e. rw e (by_number t.a (λ o q. rw q) (λ q. rw q)))
    (λ e. rw e) (λ e. rw e) (λ e. rw e)
    (λ c s q. rw (read, q, c))

pub container-read : (ts : List Token) (i : ℕ) → Rust.container (Rust.get (rust_tape ts) i) ≡ as_container (container_of (nth ts i))
container-read ts i = get-read Rust.container refl ts i ∙ token_container (nth ts i)

-- what a container is read for
pub ends_same : (c : Maybe Containers.Container) → Rust.its_end (as_container c) ≡ parent_of c
ends_same c =
    by_opened (λ c. Rust.its_end (as_container c) ≡ parent_of c) (elim [ Array ↦ λ link mixed. refl | Object ↦ λ link mixed. refl ]) refl c

pub mode_same : (c : Maybe Containers.Container) → Rust.mode_in (as_container c) ≡ mixed_in c
mode_same c =
    by_opened (λ c. Rust.mode_in (as_container c) ≡ mixed_in c) (elim [ Array ↦ λ link mixed. refl | Object ↦ λ link mixed. refl ]) refl c

pub state-same : (c : Maybe Containers.Container) → Rust.state_in (as_container c) ≡ as_state (state_in c)
state-same c = by_opened (λ c. Rust.state_in (as_container c) ≡ as_state (state_in c)) go refl c
  where
    go : (kind : ContainerKind) (link : ℕ) (mixed : Bool)
        → Rust.state_in (as_container (opened kind link mixed)) ≡ as_state (state_in (opened kind link mixed))
    go Array link mixed = refl
    go Object link true = refl
    go Object link false = refl

pub kind-same : (c : Maybe Containers.Container) (end : ℕ) (mixed : Bool)
    → Rust.closed_as (Rust.is_array (as_container c)) end mixed ≡ opener_as (own_kind c) end mixed
kind-same c end mixed =
    by_opened (λ c. Rust.closed_as (Rust.is_array (as_container c)) end mixed ≡ opener_as (own_kind c) end mixed)
    (elim [ Array ↦ λ link flag. refl | Object ↦ λ link flag. refl ]) refl c

-- ---- what stands last: an Unquoted, another scalar, an End, or none of these
-- what stands is told by its code alone
module _ (t : Token) {c : ℕ} (coded : t.code ≡ c) where
  by-unquoted : {answer : Bool} → eqb c unquoted_code ≡ answer → eqb t.code unquoted_code ≡ answer
  by-unquoted f = ap (λ (x : ℕ). eqb x unquoted_code) coded ∙ f

  by_scalar : {answer : Bool} → is_scalar_code c ≡ answer → is_scalar_code t.code ≡ answer
  by_scalar f = ap is_scalar_code coded ∙ f

  by_end : {answer : Bool} → eqb c end_code ≡ answer → eqb t.code end_code ≡ answer
  by_end f = ap (λ (x : ℕ). eqb x end_code) coded ∙ f

  stands-unquoted : eqb c unquoted_code ≡ true → standing_of t ≡ Standings.TheVariants.Unquoted
  unfolding standing_of
  stands-unquoted f = rw (standing_of, by-unquoted f)

  stands-other : eqb c unquoted_code ≡ false → is_scalar_code c ≡ true → standing_of t ≡ Standings.TheVariants.OtherScalar
  unfolding standing_of
  stands-other f g = rw (standing_of, by-unquoted f, by_scalar g)

  stands-end : eqb c unquoted_code ≡ false → is_scalar_code c ≡ false → eqb c end_code ≡ true → standing_of t ≡ Standings.TheVariants.End
  unfolding standing_of
  stands-end f g h = rw (standing_of, by-unquoted f, by_scalar g, by_end h)

  stands-nothing : eqb c unquoted_code ≡ false → is_scalar_code c ≡ false → eqb c end_code ≡ false
      → standing_of t ≡ Standings.TheVariants.Nothing
  unfolding standing_of
  stands-nothing f g h = rw (standing_of, by-unquoted f, by_scalar g, by_end h)

token-stands : {P : Type 0} (t : Token)
    → (standing_of t ≡ Standings.TheVariants.Unquoted → Rust.as_last (some (read t)) ≡ Rust.AnUnquoted t.a t.b → P)
    → (standing_of t ≡ Standings.TheVariants.OtherScalar → Rust.as_last (some (read t)) ≡ Rust.AnotherScalar → P)
    → (standing_of t ≡ Standings.TheVariants.End → Rust.as_last (some (read t)) ≡ Rust.AnEnd t.a → t.code ≡ end_code → P)
    → (standing_of t ≡ Standings.TheVariants.Nothing → Rust.as_last (some (read t)) ≡ Rust.NoScalar → P)
    → P
unfolding read token_as_rust standing_of scalar_named
token-stands t unquoted other ended nothing =
    by_code t
    (λ e. nothing (stands-nothing t e refl refl refl) (rw e))
    (λ e. nothing (stands-nothing t e refl refl refl) (rw e))
    (λ e. nothing (stands-nothing t e refl refl refl) (rw e))
    (λ e. unquoted (stands-unquoted t e refl) (rw e))
    (λ e. other (stands-other t e refl refl) (rw e))
    (λ e. other (stands-other t e refl refl) (rw e))
    (λ e. other (stands-other t e refl refl) (rw e))
    (λ e. nothing (stands-nothing t e refl refl refl) (rw e (by_number t.a (λ o q. rw q) (λ q. rw q))))
    (λ e. ended (stands-end t e refl refl refl) (rw e) e)
    (λ e. other (stands-other t e refl refl) (rw e))
    (λ e. other (stands-other t e refl refl) (rw e))
    (λ c s q. nothing s (rw (read, q)))

pub by-stands : {P : Type 0} (ts : List Token) (n : ℕ) → length ts ≡ n → let t = nth ts (n - 1) in
    (standing_of t ≡ Standings.TheVariants.Unquoted → Rust.as_last (Rust.last (rust_tape ts)) ≡ Rust.AnUnquoted t.a t.b → P)
    → (standing_of t ≡ Standings.TheVariants.OtherScalar → Rust.as_last (Rust.last (rust_tape ts)) ≡ Rust.AnotherScalar → P)
    → (standing_of t ≡ Standings.TheVariants.End → Rust.as_last (Rust.last (rust_tape ts)) ≡ Rust.AnEnd t.a → t.code ≡ end_code → P)
    → (standing_of t ≡ Standings.TheVariants.Nothing → Rust.as_last (Rust.last (rust_tape ts)) ≡ Rust.NoScalar → P)
    → P
by-stands ts n sized unquoted other ended nothing =
    let same : Rust.as_last (Rust.last (rust_tape ts)) ≡ Rust.as_last (some (read (nth ts (n - 1)))) =
    ap (λ (k : ℕ). Rust.as_last (Rust.get (rust_tape ts) (k - 1))) (tape-length ts n sized) ∙ get-read Rust.as_last refl ts (n - 1) in
    token-stands (nth ts (n - 1))
    (λ e f. unquoted e (same ∙ f))
    (λ e f. other e (same ∙ f))
    (λ e f g. ended e (same ∙ f) g)
    (λ e f. nothing e (same ∙ f))

-- ---- what a run keeps
both : (a b : Bool) → (a && b) ≡ true → a ≡ true
both true b e = refl
both false b e = e

container-few : (k : ContainerKind) → container_code k ≤ 2
container-few Array = omega arith
container-few Object = omega arith

-- a token of a form whose code is that of an End is one
closing-form : (t : Token) → Form t → t.code ≡ end_code → t ≡ end_of t.a
closing-form t (container end o) e =
    let z : t.code ≡ container_code o.0 = ap (λ (x : Token). x.code) o.2 in absurd (omega (arith, container-few o.0))
closing-form t (mixed_container q) e = let z : t.code ≡ mixed_container_code = ap (λ (x : Token). x.code) q in absurd (omega arith)
closing-form t (scalar offset size v) e =
    let r : Scalar t = record { kind = v.0; offset = offset; size = size; made = v.1 } in
    absurd (not_scalar {t = t} (ap is_scalar_code e ∙ end_uncoded 0) r)
closing-form t (operator number low high q) e = let z : t.code ≡ operator_code = ap (λ (x : Token). x.code) q in absurd (omega arith)
closing-form t (closing opener q) e = q ∙ ap end_of (sym (ap (λ (x : Token). x.a) q))

is-opened : (kind : ContainerKind) (link : ℕ) (mixed : Bool) → Rust.is_container (as_container (opened kind link mixed)) ≡ true
is-opened Array link mixed = refl
is-opened Object link mixed = refl

module _ (ts : List Token) {p : ℕ} (s : Kept ts p) where
  -- token 0 opens nothing
  pub top-nothing : container_of (nth ts 0) ≡ None
  top-nothing = by-container (container_of (nth ts 0)) (λ k l f c. absurd (s.links.top l (reads-opener ts s 0 c))) (λ c. c)

  -- where something is open, the parent is one of the tokens
  pub parent-within : nothing_open p (parent_of (container_of (nth ts p))) ≡ false → p < length ts
  unfolding token_at
  parent-within e = opener-below s.links (in_container (tape_of unbounded ts) p s e).link

  -- where nothing is, the parent is 0
  pub parent-none : nothing_open p (parent_of (container_of (nth ts p))) ≡ true → p ≡ 0
  parent-none e = eqb-true p 0 (both (eqb p 0) (eqb (parent_of (container_of (nth ts p))) 0) e)

  -- the opener that an End names opens
  pub end-opens : (j : ℕ) → j < length ts → (nth ts j).code ≡ end_code
      → Rust.is_container (Rust.container (Rust.get (rust_tape ts) (nth ts j).a)) ≡ true
  end-opens j h e =
      let named : link_at ts j ≡ Some (ToOpener (nth ts j).a) = end-link (nth ts j) (closing-form (nth ts j) (s.row.forms j h) e) in
      let o = link-container (nth ts (nth ts j).a) (s.links.opened j (nth ts j).a named).1 in
      ap Rust.is_container (container-read ts (nth ts j).a ∙ ap as_container o.2) ∙ is-opened o.0 j o.1

  -- so does the one that the last token names, where it is an End
  pub end-last : 1 ≤ length ts → (i : ℕ) → Rust.as_last (Rust.last (rust_tape ts)) ≡ Rust.AnEnd i
      → Rust.is_container (Rust.container (Rust.get (rust_tape ts) i)) ≡ true
  end-last some-token i l =
      by-stands ts (length ts) refl
      (λ e f. let z : ◌≡◌ {A = ℕ} 0 1 = cc in absurd (omega arith))
      (λ e f. let z : ◌≡◌ {A = ℕ} 0 1 = cc in absurd (omega arith))
      (λ e f g.
      let named : (nth ts (length ts - 1)).a ≡ i = cc in
      rw (← named) (end-opens (length ts - 1) (omega arith) g))
      (λ e f. let z : ◌≡◌ {A = ℕ} 0 1 = cc in absurd (omega arith))

-- ---- where each token has a form, each is one of the Rust's
operator-some : (n : ℕ) → 1 ≤ n → n ≤ 8 → operator_as_rust n ≡ some (Option.get_or (operator_as_rust n) Rust.MixedContainer)
unfolding operator_as_rust
operator-some n low high =
    by_bool (eqb n 1) (λ e. rw (operator_as_rust, e)) (λ e1.
    by_bool (eqb n 2) (λ e. rw (operator_as_rust, e1, e)) (λ e2.
    by_bool (eqb n 3) (λ e. rw (operator_as_rust, e1, e2, e)) (λ e3.
    by_bool (eqb n 4) (λ e. rw (operator_as_rust, e1, e2, e3, e)) (λ e4.
    by_bool (eqb n 5) (λ e. rw (operator_as_rust, e1, e2, e3, e4, e)) (λ e5.
    by_bool (eqb n 6) (λ e. rw (operator_as_rust, e1, e2, e3, e4, e5, e)) (λ e6.
    by_bool (eqb n 7) (λ e. rw (operator_as_rust, e1, e2, e3, e4, e5, e6, e)) (λ e7.
    by_bool (eqb n 8) (λ e. rw (operator_as_rust, e1, e2, e3, e4, e5, e6, e7, e)) (λ e8.
    let more : 8 + 1 ≤ n = past 8 (past 7 (past 6 (past 5 (past 4 (past 3 (past 2 (past 1 low e1) e2) e3) e4) e5) e6) e7) e8 in
    absurd (omega arith)))))))))
  where
    past : (k : ℕ) → k ≤ n → eqb n k ≡ false → k + 1 ≤ n
    past k least other = let no = eqb-false n k other in omega arith

form-read : (t : Token) → Form t → token_as_rust t ≡ some (read t)
unfolding read token_as_rust
form-read t (container end o) = rw (o.2, opener-read o.0 end o.1)
form-read t (mixed_container q) = rw q
form-read t (scalar offset size v) = rw (v.1, scalar_read v.0 offset size)
form-read t (operator number low high q) = rw q (operator-some number low high)
form-read t (closing opener q) = rw q

pub forms-read : (ts : List Token) → ((i : ℕ) → i < length ts → Form (nth ts i)) → map token_as_rust ts ≡ map some (rust_tape ts)
forms-read [] forms = refl
forms-read (t ∷ ts) forms =
    rw (form-read t (forms 0 (omega arith)), forms-read ts (λ i h. forms (suc i) (omega arith)))
