-- The Rust's turn in ArrayValue is ours.
-- Assumes nothing.
use Prim.Native.Nat.{ℕ, ◌+◌, ◌-◌, ◌≤◌, ◌<◌}
use mathlib.Core.Path.{◌≡◌, refl}
use mathlib.Core.Bool.{true, false, false≢true}
use mathlib.Core.List.{List, [], ◌∷◌}
use mathlib.Core.Option.{some}
use native.Mathlib.Omega.{arith}
use borrow.Author.Tests.{eqb-true}
use lib.Dec.{eqb}
use lib.ListN.{length, drop, set}
use Rattle.cut.proofs.Runs.{head_here}
use Rattle.data.proofs.Cases.{by_bool}
use Rattle.data.specs.Bytes.{exclamation, less_than, equals, greater_than, brace_open, brace_close}
use Rattle.data.specs.Classes.{among}
use Rattle.operator.specs.declared.Operator as Ours
use Rattle.std.specs.Prelude.{Some, None, Option}
use Rattle.operator.specs.Operators.{number_of, sighted}
use Rattle.tape.specs.declared.token.Token.{Token}
use Rattle.tape.specs.declared.token.ContainerKind.TheVariants.{Array}
use Rattle.tape.specs.declared.token.Container as Containers
use Rattle.tape.specs.Token.{mixed_container_token, opener_of, operator_of, container_of, standing_of}
use Rattle.tape.specs.Tape.{Tape, unbounded, token_at, replace, add, before_last, add_before_last, lay, lay_mixed}
use Rattle.sheet.specs.Sound.{nth}
use Rattle.machine.specs.declared.State.TheVariants.{ArrayValue}
use Rattle.machine.specs.declared.Machine.{Machine}
use Rattle.machine.specs.declared.Refusal.TheVariants.{UnknownOperator}
use Rattle.machine.specs.Machine.{byte_at, mixed_on}
use Rattle.parse.specs.After.{After, refused, lay_then}
use Rattle.machine.specs.Parents.{parent_of, own_kind, nothing_open}
use Rattle.parse.specs.Containers.{open_then, close_at, close}
use Rattle.parse.specs.KeyValueSeparator.{mix_then}
use Rattle.machine.specs.Bytes.{begins_operator, value_byte}
use Rattle.parse.specs.ArrayValue.{array_close, operator_then, after_end, unmixed_operator, array_operator, array_value_turn}
use Rattle.promises.specs.Room.{tape_of, is_scalar, value_lays, and_one}
use Rattle.rust_tape.specs.RustTape as Rust
use Rattle.rust_tape.specs.RustTape.{Parser, TextToken, source}
use Rattle.promises.specs.Each.{Each}
use Rattle.rust_tape.specs.RustDomain.{CutAlike, array_runs}
use Rattle.promises.proofs.Alike.{mixed-sized}
use Rattle.promises.proofs.Links.Kept.{Kept}
use Rattle.rust_tape.proofs.RustParts.{byte_next, minus-there, index-there, slice-there, offset-there}
use Rattle.rust_tape.proofs.RustReads.{rust_tape, opener_as, tape-length, laid-opener}
use Rattle.rust_tape.proofs.RustReads.{laid_end, laid-operator, changed_opener, insert-read, assign-there}
use Rattle.rust_tape.proofs.RustReads.{container-read, mode_same, state-same, kind-same, by-stands, parent-within, end-opens}
use Rattle.rust_tape.proofs.RustTurns.{parser_of, Same, byte-stands, scalar-same}
use Rattle.rust_tape.proofs.RustKey.{up_same, open_test}

-- our operator by its two bytes
unfoldable operator_on : ℕ → ℕ → Tape → Machine → After
operator_on b c t m =
    elim (sighted b c) [
      | Some sign ↦ lay_then (operator_of (number_of sign.operator)) (m.at + sign.width) ArrayValue t m
      | None ↦ refused (UnknownOperator (m.at - 1))
    ]

operator_two : (text : List ℕ) (t : Tape) (m : Machine) → operator_then text t m ≡ operator_on (byte_at text m.at) (byte_at text (m.at + 1)) t m
unfolding operator_then operator_on
operator_two text t m = refl

-- the operator of ArrayValue: its first byte is no `?`
operator-same : (cut : List ℕ → ℕ) (text : List ℕ) (ts : List Token) (m : Machine) → length ts ≡ m.count → m.at < length text → 1 ≤ m.at
    → m.state ≡ ArrayValue → begins_operator (byte_at text m.at) ≡ true
    → Same text m.count (Rust.array_operator (source cut text) (parser_of text m ts)) (operator_then text (tape_of unbounded ts) m)
unfolding Rust.operator_by operator_on sighted lay_then lay add begins_operator
operator-same cut text ts m sized here past in_array begins =
    let b : ℕ = byte_at text m.at in
    let c : ℕ = byte_at text (m.at + 1) in
    let one : Rust.slice_from (drop m.at text) 1 ≡ some (drop (m.at + 1) text) = slice-there text m.at 1 (omega arith) in
    rw (head_here text m.at, byte_next text m.at 1, operator_two text (tape_of unbounded ts) m)
    (by_bool (eqb c equals)
    (λ g.
    let z : c ≡ equals = eqb-true c equals g in
    let second : m.at + 1 < length text = byte-stands text (m.at + 1) equals z (λ n. omega arith) in
    let two : Rust.slice_from (drop m.at text) 2 ≡ some (drop (m.at + 2) text) = slice-there text m.at 2 (omega arith) in
    by_bool (eqb b less_than)
    (λ e. rw (eqb-true b less_than e, z, two, in_array, laid-operator ts Ours.TheVariants.LessThanEqual))
    (λ e1. by_bool (eqb b greater_than)
    (λ e. rw (eqb-true b greater_than e, z, two, in_array, laid-operator ts Ours.TheVariants.GreaterThanEqual))
    (λ e2. by_bool (eqb b exclamation)
    (λ e. rw (eqb-true b exclamation e, z, two, in_array, laid-operator ts Ours.TheVariants.NotEqual))
    (λ e3. by_bool (eqb b equals)
    (λ e. rw (eqb-true b equals e, z, two, in_array, laid-operator ts Ours.TheVariants.Exact))
    (λ e4. absurd (false≢true (rw (begins_operator, among, e1, e2, e3, e4) at begins)))))))
    (λ g. by_bool (eqb b less_than)
    (λ e. rw (eqb-true b less_than e) (rw (Rust.operator_by, operator_on, g, one, in_array, laid-operator ts Ours.TheVariants.LessThan)))
    (λ e1. by_bool (eqb b greater_than)
    (λ e. rw (eqb-true b greater_than e) (rw (Rust.operator_by, operator_on, g, one, in_array, laid-operator ts Ours.TheVariants.GreaterThan)))
    (λ e2. by_bool (eqb b exclamation)
    (λ e. rw (eqb-true b exclamation e)
    (rw (Rust.operator_by, operator_on, g, offset-there text m.at (omega arith), minus-there m.at 1 past)
    (refl, refl, tape-length ts m.count sized)))
    (λ e3. by_bool (eqb b equals)
    (λ e. rw (eqb-true b equals e) (rw (Rust.operator_by, operator_on, g, one, in_array, laid-operator ts Ours.TheVariants.Equal)))
    (λ e4. absurd (false≢true (rw (begins_operator, among, e1, e2, e3, e4) at begins))))))))

module _ (cut : List ℕ → ℕ) (text : List ℕ) (ts : List Token) (m : Machine) (sized : length ts ≡ m.count) (here : m.at < length text)
    (some-token : 1 ≤ length ts) where
  abbrev there : List ℕ
  there = drop m.at text

  abbrev tape : Tape
  tape = tape_of unbounded ts

  abbrev parser : Parser
  parser = parser_of text m ts

  abbrev us : List TextToken
  us = rust_tape ts

  long : length us ≡ m.count
  long = tape-length ts m.count sized

  one : Rust.slice_from there 1 ≡ some (drop (m.at + 1) text)
  one = slice-there text m.at 1 (omega arith)

  place : Rust.offset (length text) there ≡ some m.at
  place = offset-there text m.at (omega arith)

  array_close-same : Kept ts m.parent → Same text m.count (Rust.array_close (source cut text) parser) (array_close tape m)
  unfolding Rust.array_close array_close close close_at lay add replace token_at
  array_close-same s =
      let parent : Option Containers.Container = container_of (nth ts m.parent) in
      by_bool (nothing_open m.parent (parent_of parent))
      (λ e. rw (Rust.array_close, open_test ts m.parent e, place, array_close, e) (refl, refl, long))
      (λ e.
      let grand : ℕ = parent_of parent in
      let within : m.parent < length us = let l = long in omega (arith, parent-within ts s e) in
      let own : Rust.Container = Rust.container (Rust.get us m.parent) in
      let kind : Rust.closed_as (Rust.is_array own) (length us) m.mixed ≡ opener_as (own_kind parent) m.count m.mixed =
      rw (container-read ts m.parent, long) (kind-same parent m.count m.mixed) in
      let closed : List Token = set ts m.parent (opener_of (own_kind parent) m.count m.mixed) in
      rw (
        Rust.array_close,
        open_test ts m.parent e,
        kind,
        assign-there us m.parent (opener_as (own_kind parent) m.count m.mixed) within,
        one,
        up_same ts m.parent,
        container-read ts grand,
        state-same (container_of (nth ts grand)),
        mode_same (container_of (nth ts grand)),
        array_close,
        e,
        laid_end closed m.parent,
        changed_opener ts m.parent (own_kind parent) m.count m.mixed,
      ))

  -- the MixedContainer goes in before the operator is looked at
  mixing_same : 1 ≤ m.at → begins_operator (byte_at text m.at) ≡ true
      → Same text (m.count + 1) (Rust.mix parser (Rust.array_operator (source cut text)))
      (operator_then text (tape_of unbounded (before_last ts mixed_container_token)) (mixed_on m (m.count + 1)))
  mixing_same past begins =
      let mixed : List Token = before_last ts mixed_container_token in
      let l = long in
      rw (minus-there (length us) 1 (omega arith), insert-read ts some-token)
      (operator-same cut text mixed (mixed_on m (m.count + 1)) (mixed-sized ts m.count mixed_container_token sized) here past refl begins)

  array_sign-same : m.state ≡ ArrayValue → 1 ≤ m.at → Kept ts m.parent → begins_operator (byte_at text m.at) ≡ true
      → Same text (and_one m.count (elim m.mixed [ true ↦ false | false ↦ is_scalar (standing_of (token_at tape (m.count - 1))) ]))
      (Rust.array_sign (source cut text) (byte_at text m.at) parser) (array_operator text tape m)
  unfolding Rust.array_sign Rust.after_end array_operator unmixed_operator after_end mix_then lay_mixed add_before_last token_at
  array_sign-same in_array past s begins =
      let before : Rust.minus m.at 1 ≡ some (m.at - 1) = minus-there m.at 1 past in
      by_bool m.mixed
      (λ on. rw (Rust.array_sign, on, array_operator) (operator-same cut text ts m sized here past in_array begins))
      (λ off. by-stands ts m.count sized
      (λ e f. rw (Rust.array_sign, off, f, array_operator, unmixed_operator, e) (mixing_same past begins))
      (λ e f. rw (Rust.array_sign, off, f, array_operator, unmixed_operator, e) (mixing_same past begins))
      (λ e f g.
      let opens : Rust.is_container (Rust.container (Rust.get us (nth ts (m.count - 1)).a)) ≡ true = end-opens ts s (m.count - 1) (omega arith) g in
      by_bool (eqb (byte_at text m.at) equals)
      (λ y. rw (Rust.array_sign, off, f, Rust.after_end, opens, array_operator, unmixed_operator, e, after_end, y, one, in_array))
      (λ y. rw (Rust.array_sign, off, f, Rust.after_end, opens, array_operator, unmixed_operator, e, after_end, y, place, before) (refl, refl, long)))
      (λ e f. rw (Rust.array_sign, off, f, place, before, array_operator, unmixed_operator, e) (refl, refl, long)))

  pub array-value-same : m.state ≡ ArrayValue → 1 ≤ m.at → Kept ts m.parent → Each (CutAlike cut text) (array_runs text m.at)
      → Same text (and_one m.count (value_lays text tape m)) (Rust.array_arm (source cut text) parser) (array_value_turn text tape m)
  unfolding Rust.array_arm array_value_turn value_byte value_lays array_runs open_then lay_then lay add begins_operator
  array-value-same in_array past s i =
      let b : ℕ = byte_at text m.at in
      let byte : Rust.index there 0 ≡ some b = index-there text m.at here in
      by_bool (eqb b brace_open)
      (λ e1. rw (Rust.array_arm, array_value_turn, value_byte, value_lays, byte, e1, one, laid-opener ts Array 0 false))
      (λ e1. by_bool (eqb b brace_close)
      (λ e2. rw (Rust.array_arm, array_value_turn, value_byte, value_lays, byte, e1, e2) (array_close-same s))
      (λ e2. by_bool (among b (less_than ∷ greater_than ∷ exclamation ∷ equals ∷ []))
      (λ e3. rw (Rust.array_arm, array_value_turn, value_byte, value_lays, byte, e1, e2, e3) (array_sign-same in_array past s e3))
      (λ e3. rw (Rust.array_arm, array_value_turn, value_byte, value_lays, byte, e1, e2, e3)
      (scalar-same cut text ts m sized here ArrayValue (rw (array_runs, value_byte, e1, e2, e3) at i)))))
