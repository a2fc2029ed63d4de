-- What it is that a turn of the Rust's loop is ours; and the turns in KeyValueSeparator and ObjectValue.
-- Assumes nothing.
use Prim.Native.Nat.{ℕ, ◌+◌, ◌-◌, ◌≤◌, ◌<◌}
use mathlib.Core.Path.{◌≡◌, refl, sym, ◌∙◌}
use mathlib.Core.Bool.{true, false}
use mathlib.Core.List.{List}
use mathlib.Core.Option.{some}
use native.Mathlib.Omega.{arith}
use borrow.Author.Tests.{eqb-true, ltb-true, ltb-false}
use lib.Dec.{eqb, ltb}
use lib.ListN.{length, drop, get_or-eq_default}
use Rattle.data.proofs.Cases.{by_bool}
use Rattle.data.specs.Bytes.{exclamation, less_than, equals, greater_than, question, brace_open, brace_close}
use Rattle.cut.proofs.Runs.{head_here}
use Rattle.cut.specs.Scalars.{scalar_cut}
use Rattle.operator.specs.declared.Operator as Ours
use Rattle.std.specs.Prelude.{Some, None}
use Rattle.operator.specs.Operators.{sighted}
use Rattle.tape.specs.declared.token.Token.{Token}
use Rattle.tape.specs.declared.token.ContainerKind.TheVariants.{Array}
use Rattle.tape.specs.declared.token.ScalarKind.TheVariants.{Unquoted}
use Rattle.tape.specs.Tape.{Tape, unbounded, add, add_before_last, lay, lay_mixed}
use Rattle.machine.specs.declared.State.{State}
use Rattle.machine.specs.declared.State.TheVariants.{Key, ObjectValue}
use Rattle.machine.specs.declared.Machine.{Machine}
use Rattle.machine.specs.Refusals.{number, place}
use Rattle.machine.specs.Machine.{byte_at, to}
use Rattle.parse.specs.After.{After, next, done, refused, lay_then}
use Rattle.parse.specs.Scalars.{scalar_then}
use Rattle.parse.specs.Containers.{open_then}
use Rattle.parse.specs.KeyValueSeparator.{mix_then, separator_then, separator_turn}
use Rattle.parse.specs.ObjectValue.{object_value_turn}
use Rattle.parse.proofs.Splits.{by-cut}
use Rattle.promises.specs.Room.{tape_of}
use Rattle.rust_tape.specs.RustTape as Rust
use Rattle.rust_tape.specs.RustTape.{Parser, Flow, TextToken, source}
use Rattle.promises.specs.Each.{Each}
use Rattle.rust_tape.specs.RustDomain.{CutAlike, scalar_runs, object_runs}
use Rattle.rust_tape.specs.Answers.{error_number, error_place}
use Rattle.rust_tape.proofs.RustParts.{byte_next, minus-there, index-there, slice-there, offset-there, any_same}
use Rattle.rust_tape.proofs.RustReads.{rust_tape, as_state, tape-length, laid-scalar, laid-quoted, laid-opener, laid-operator, insert-read}

-- a machine and its tokens as the Rust has them
abbrev pub parser_of : List ℕ → Machine → List Token → Parser
parser_of text m ts =
    record { rest = drop m.at text; state = as_state m.state; parent_ind = m.parent; mixed_mode = m.mixed; token_tape = rust_tape ts }

-- what the Rust's turn comes to is what ours comes to; a refusal leaves w tokens, and nothing panics
abbrev pub Same : List ℕ → ℕ → Flow → After → Type 0
Same text w (Rust.loop p) (next m t) = p ≡ parser_of text m t.tokens
Same text w (Rust.loop p) (done n t) = ⊥
Same text w (Rust.loop p) (refused r) = ⊥
Same text w (Rust.ok us) (next m t) = ⊥
Same text w (Rust.ok us) (done n t) = us ≡ rust_tape t.tokens
Same text w (Rust.ok us) (refused r) = ⊥
Same text w (Rust.err e us) (next m t) = ⊥
Same text w (Rust.err e us) (done n t) = ⊥
Same text w (Rust.err e us) (refused r) = (error_number e ≡ number r) × (error_place e ≡ place r) × (length us ≡ w)
Same text w Rust.panic x = ⊥

-- where a byte other than 0 is read, a byte stands
pub byte-stands : (text : List ℕ) (at b : ℕ) → byte_at text at ≡ b → (b ≡ 0 → ⊥) → at < length text
byte-stands text at b e some_byte =
    by_bool (ltb at (length text))
    (λ t. omega (arith, ltb-true at (length text) t))
    (λ f. absurd (some_byte (sym e ∙ get_or-eq_default text 0 {n = at} (ltb-false at (length text) f))))

-- our turn in KeyValueSeparator by its two bytes
unfoldable separator_on : ℕ → ℕ → Tape → Machine → After
separator_on b c t m =
    elim (sighted b c) [
      | Some sign ↦ separator_then sign.operator sign.width t m
      | None ↦ elim (eqb b brace_open) [
        | true ↦ next (to m m.at ObjectValue m.count) t
        | false ↦ mix_then t m (λ t' m'. next m' t')
      ]
    ]

separator_two : (text : List ℕ) (t : Tape) (m : Machine)
    → separator_turn text t m ≡ separator_on (byte_at text m.at) (byte_at text (m.at + 1)) t m
unfolding separator_turn separator_on
separator_two text t m = refl

module _ (cut : List ℕ → ℕ) (text : List ℕ) (ts : List Token) (m : Machine) (sized : length ts ≡ m.count) (here : m.at < length text) where
  -- the rest of the text there, our tape, and the Rust's tokens
  abbrev there : List ℕ
  there = drop m.at text

  abbrev tape : Tape
  tape = tape_of unbounded ts

  abbrev parser : Parser
  parser = parser_of text m ts

  abbrev us : List TextToken
  us = rust_tape ts

  -- ---- a scalar
  pub scalar-same : (state : State) → Each (CutAlike cut text) (scalar_runs text m.at)
      → Same text m.count
      (Rust.parse_by (byte_at text m.at) (source cut text) there us (λ rest vs. Rust.loop (Rust.with_data parser rest (as_state state) vs)))
      (scalar_then text state tape m)
  unfolding scalar_then lay_then lay add
  scalar-same state i =
      rw (any_same cut text m.at us (λ rest vs. Rust.loop (Rust.with_data parser rest (as_state state) vs)) here i)
      (by-cut (scalar_cut text m.at)
      (λ start end rest q. rw (q, scalar_then, laid-scalar ts Unquoted start (end - start)))
      (λ start end rest escaped q. rw (q, scalar_then, laid-quoted ts escaped start (end - start)))
      (λ q. rw (q, scalar_then) (refl, refl, tape-length ts m.count sized)))

  -- ---- KeyValueSeparator
  mix-same : 1 ≤ length ts → Same text m.count (Rust.mix parser (λ q. Rust.loop q)) (mix_then tape m (λ t' m'. next m' t'))
  unfolding mix_then lay_mixed add_before_last
  mix-same some-token =
      let long : length us ≡ length ts = tape-length ts (length ts) refl in
      rw (minus-there (length us) 1 (omega arith), insert-read ts some-token)

  pub separator_same : m.mixed ≡ false → 1 ≤ length ts → Same text m.count (Rust.separator_arm parser) (separator_turn text tape m)
  unfolding Rust.separator_by separator_on separator_then sighted lay_then lay add
  separator_same off some-token =
      let b : ℕ = byte_at text m.at in
      let c : ℕ = byte_at text (m.at + 1) in
      let one : Rust.slice_from there 1 ≡ some (drop (m.at + 1) text) = slice-there text m.at 1 (omega arith) in
      rw (head_here text m.at, byte_next text m.at 1, separator_two text tape m)
      (by_bool (eqb c equals)
      (λ g.
      let z : c ≡ equals = eqb-true c equals g in
      let second : m.at + 1 < length text = byte-stands text (m.at + 1) equals z (λ n. omega arith) in
      let two : Rust.slice_from there 2 ≡ some (drop (m.at + 2) text) = slice-there text m.at 2 (omega arith) in
      by_bool (eqb b less_than)
      (λ e. rw (eqb-true b less_than e, z, two, laid-operator ts Ours.TheVariants.LessThanEqual))
      (λ e1. by_bool (eqb b greater_than)
      (λ e. rw (eqb-true b greater_than e, z, two, laid-operator ts Ours.TheVariants.GreaterThanEqual))
      (λ e2. by_bool (eqb b exclamation)
      (λ e. rw (eqb-true b exclamation e, z, two, laid-operator ts Ours.TheVariants.NotEqual))
      (λ e3. by_bool (eqb b question)
      (λ e. rw (eqb-true b question e, z, two, laid-operator ts Ours.TheVariants.Exists))
      (λ e4. by_bool (eqb b equals)
      (λ e. rw (eqb-true b equals e, z, two, laid-operator ts Ours.TheVariants.Exact))
      (λ e5. others e1 e2 e3 e4 e5))))))
      (λ g. by_bool (eqb b less_than)
      (λ e. rw (eqb-true b less_than e) (rw (Rust.separator_by, separator_on, g, one, laid-operator ts Ours.TheVariants.LessThan)))
      (λ e1. by_bool (eqb b greater_than)
      (λ e. rw (eqb-true b greater_than e) (rw (Rust.separator_by, separator_on, g, one, laid-operator ts Ours.TheVariants.GreaterThan)))
      (λ e2. by_bool (eqb b exclamation)
      (λ e. rw (eqb-true b exclamation e) (rw (Rust.separator_by, separator_on, g) (mix-same some-token)))
      (λ e3. by_bool (eqb b question)
      (λ e. rw (eqb-true b question e) (rw (Rust.separator_by, separator_on, g) (mix-same some-token)))
      (λ e4. by_bool (eqb b equals)
      (λ e. rw (eqb-true b equals e) (rw (Rust.separator_by, separator_on, g, off, one, off)))
      (λ e5. others e1 e2 e3 e4 e5)))))))
    where
      others : eqb (byte_at text m.at) less_than ≡ false → eqb (byte_at text m.at) greater_than ≡ false
          → eqb (byte_at text m.at) exclamation ≡ false → eqb (byte_at text m.at) question ≡ false → eqb (byte_at text m.at) equals ≡ false
          → Same text m.count (Rust.separator_by (byte_at text m.at) (byte_at text (m.at + 1)) parser)
          (separator_on (byte_at text m.at) (byte_at text (m.at + 1)) tape m)
      others e1 e2 e3 e4 e5 =
          rw (separator_on, Rust.separator_by, e1, e2, e3, e4, e5)
          (by_bool (eqb (byte_at text m.at) brace_open)
          (λ e. rw e)
          (λ e. rw e
          (by_bool (eqb (byte_at text m.at) brace_close)
          (λ f. rw f (mix-same some-token))
          (λ f. rw f (mix-same some-token)))))

  -- ---- ObjectValue
  pub object-value-same : Each (CutAlike cut text) (object_runs text m.at)
      → Same text m.count (Rust.value_arm (source cut text) parser) (object_value_turn text tape m)
  unfolding Rust.value_arm object_value_turn open_then lay_then lay add object_runs
  object-value-same i =
      let byte : Rust.index there 0 ≡ some (byte_at text m.at) = index-there text m.at here in
      let one : Rust.slice_from there 1 ≡ some (drop (m.at + 1) text) = slice-there text m.at 1 (omega arith) in
      by_bool (eqb (byte_at text m.at) brace_open)
      (λ e. rw (Rust.value_arm, object_value_turn, byte, e, one, laid-opener ts Array 0 false))
      (λ e. by_bool (eqb (byte_at text m.at) brace_close)
      (λ f. rw (Rust.value_arm, object_value_turn, byte, e, f, offset-there text m.at (omega arith))
      (refl, refl, tape-length ts m.count sized))
      (λ f. rw (Rust.value_arm, object_value_turn, byte, e, f) (scalar-same Key (rw (object_runs, e, f) at i))))
