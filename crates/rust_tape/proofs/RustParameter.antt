-- The Rust's parameter is ours.
-- Assumes nothing.
use Prim.Native.Nat.{ℕ, ◌+◌, ◌-◌, ◌≤◌, ◌<◌}
use mathlib.Core.Path.{◌≡◌, refl, sym, ◌∙◌, ap}
use mathlib.Core.Bool.{Bool, true, false}
use mathlib.Core.List.{List, [], ◌∷◌, ◌++◌}
use mathlib.Core.Option.{some}
use native.Mathlib.Omega.{arith}
use borrow.Author.Tests.{eqb-true, ltb-true, ltb-false, le-ltb, eq-eqb, ne_eqb}
use lib.Dec.{eqb, ltb}
use lib.ListN.{length, drop, length-drop}
use lib.Seq.{drop-drop}
use Rattle.data.proofs.Cases.{by_bool}
use Rattle.data.specs.Bytes.{exclamation, bracket_open, bracket_close}
use Rattle.cut.specs.Blanks.{skip_ws}
use Rattle.cut.specs.Runs.{run_end}
use Rattle.cut.proofs.Blanks.{skip_lands}
use Rattle.cut.proofs.Runs.{run_end-run}
use Rattle.tape.specs.declared.token.Token.{Token}
use Rattle.tape.specs.declared.token.ContainerKind.TheVariants.{Object}
use Rattle.tape.specs.declared.token.ScalarKind.{ScalarKind}
use Rattle.tape.specs.declared.token.ScalarKind.TheVariants.{Unquoted, Parameter, UndefinedParameter}
use Rattle.tape.specs.Token.{opener_of, scalar_of}
use Rattle.tape.specs.Tape.{unbounded, add, lay}
use Rattle.machine.specs.declared.State.TheVariants.{Key}
use Rattle.machine.specs.declared.Machine.{Machine}
use Rattle.machine.specs.Machine.{byte_at, to}
use Rattle.parse.specs.After.{lay_then}
use Rattle.parse.specs.Parameter.{parameter_object, value_or_object, parameter_value, parameter_named, parameter_name, parameter}
use Rattle.parse.proofs.Splits.{by_skipped}
use Rattle.promises.specs.Room.{tape_of, name_ended, parameter_lays, and_one}
use Rattle.rust_tape.specs.RustTape as Rust
use Rattle.rust_tape.specs.RustTape.{Parser, ParseState, Flow, source}
use Rattle.promises.specs.Each.{Each}
use Rattle.rust_tape.specs.RustDomain.{CutAlike, value_runs, name_runs, parameter_runs}
use Rattle.promises.proofs.Alike.{added_sized}
use Rattle.rust_tape.proofs.RustParts.{test_there, test_next, index-there, slice-there, offset-there, skip-same, split-same}
use Rattle.rust_tape.proofs.RustReads.{rust_tape, as_variant, tape-length, laid-scalar, laid-opener}
use Rattle.rust_tape.proofs.RustTurns.{Same, byte-stands}

-- the locals at a place, in whatever state
abbrev pub located : List ℕ → ℕ → ParseState → Machine → List Token → Parser
located text at state m ts = record { rest = drop at text; state = state; parent_ind = m.parent; mixed_mode = m.mixed; token_tape = rust_tape ts }

module _ (cut : List ℕ → ℕ) (text : List ℕ) where
  -- `key_or_value` from start to end, and what stands at a place after blanks
  value_same : (at : ℕ) (state : ParseState) (start end rest : ℕ) (ts : List Token) (m : Machine) → length ts ≡ m.count → rest < length text
      → Same text m.count (Rust.parameter_value start (end - start) (drop rest text) (located text at state m ts))
      (value_or_object text start end rest (tape_of unbounded ts) m)
  unfolding Rust.parameter_value value_or_object parameter_object lay_then lay add
  value_same at state start end rest ts m sized h =
      let byte : Rust.index (drop rest text) 0 ≡ some (byte_at text rest) = index-there text rest h in
      let opened : List Token = ts ++ (opener_of Object m.parent false ∷ []) in
      by_bool (eqb (byte_at text rest) bracket_close)
      (λ g. rw (
        Rust.parameter_value,
        value_or_object,
        byte,
        Rust.checked,
        g,
        slice-there text rest 1 (omega arith),
        laid-scalar ts Unquoted start (end - start),
      ))
      (λ g. rw (
        Rust.parameter_value,
        value_or_object,
        byte,
        Rust.checked,
        g,
        tape-length ts m.count sized,
        laid-scalar opened Unquoted start (end - start),
        laid-opener ts Object m.parent false,
      ))

  rest-same : (state : ParseState) (ts : List Token) (m : Machine) → length ts ≡ m.count → Each (CutAlike cut text) (value_runs text m.at)
      → Same text m.count (Rust.parameter_rest (source cut text) (located text m.at state m ts)) (parameter_value text (tape_of unbounded ts) m)
  unfolding Rust.parameter_rest parameter_value value_runs
  rest-same state ts m sized i =
      let p : Parser = located text m.at state m ts in
      let long : length (rust_tape ts) ≡ m.count = tape-length ts m.count sized in
      let go : ℕ → ℕ → List ℕ → Flow =
      λ start size after. Rust.ws_or_eof (Rust.skip_ws_t after) (rust_tape ts) (λ rest. Rust.parameter_value start size rest p) in
      by_skipped (skip_ws text m.at)
      (λ start e.
      let in-it : start < length text = (skip_lands text m.at start e).within in
      let alike : CutAlike cut text start = (rw (value_runs, e) at i).0 in
      by_skipped (skip_ws text (run_end text start))
      (λ rest f. rw (
        Rust.parameter_rest,
        skip-same text m.at e,
        split-same cut text start go in-it alike,
        skip-same text (run_end text start) f,
        parameter_value,
        e,
        f,
      ) (value_same m.at state start (run_end text start) rest ts m sized (skip_lands text (run_end text start) rest f).within))
      (λ f. rw (
        Rust.parameter_rest,
        skip-same text m.at e,
        split-same cut text start go in-it alike,
        skip-same text (run_end text start) f,
        parameter_value,
        e,
        f,
      ) (refl, refl, long)))
      (λ e. rw (Rust.parameter_rest, skip-same text m.at e, parameter_value, e) (refl, refl, long))

  name-same : (state : ParseState) (kind : ScalarKind) (at start : ℕ) (ts : List Token) (m : Machine) → length ts ≡ m.count
      → Each (CutAlike cut text) (name_runs text start)
      → Same text (and_one m.count (name_ended text start))
      (Rust.parameter_name (source cut text) (as_variant kind) (drop start text) (located text at state m ts))
      (parameter_name text kind start (tape_of unbounded ts) m)
  unfolding Rust.parameter_name parameter_name parameter_named name_ended lay_then lay add name_runs
  name-same state kind at start ts m sized i =
      let p : Parser = located text at state m ts in
      let bytes : length (drop start text) ≡ length text - start = length-drop start text in
      let long : length (rust_tape ts) ≡ m.count = tape-length ts m.count sized in
      let go : ℕ → ℕ → List ℕ → Flow =
      λ from size after. elim (Rust.has after 0 bracket_close) [
        | true ↦
            Rust.checked (Rust.slice_from after 1)
            (λ rest. Rust.parameter_rest (source cut text)
            (Rust.with_data p rest state (Rust.push (rust_tape ts) (Rust.OfScalar (as_variant kind) from size))))
        | false ↦ Rust.syntax_error (source cut text) Rust.NameEnd after (rust_tape ts)
      ] in
      by_bool (ltb start (length text))
      (λ t.
      let in-it : start < length text = ltb-true _ _ t in
      let some_bytes : eqb (length (drop start text)) 0 ≡ false = ne_eqb (length (drop start text)) 0 (λ z. omega arith) in
      let alike : CutAlike cut text start = (rw (name_runs, t) at i).0 in
      let run = run_end-run text start in-it in
      let end : ℕ = run_end text start in
      by_bool (eqb (byte_at text end) bracket_close)
      (λ g.
      let x : Token = scalar_of kind start (end - start) in
      let closes : end < length text = byte-stands text end bracket_close (eqb-true _ _ g) (λ z. omega arith) in
      rw (
        Rust.parameter_name,
        some_bytes,
        split-same cut text start go in-it alike,
        test_there text end bracket_close ∙ g,
        slice-there text end 1 (omega arith),
        sym (laid-scalar ts kind start (end - start)),
        parameter_name,
        name_ended,
        t,
        parameter_named,
        g,
      )
      (rest-same state (ts ++ (x ∷ [])) (to m (end + 1) Key (m.count + 1)) (added_sized ts m.count x sized) (rw (name_runs, t, g) at i).1))
      (λ g. rw (
        Rust.parameter_name,
        some_bytes,
        split-same cut text start go in-it alike,
        test_there text end bracket_close ∙ g,
        offset-there text end run.within,
        parameter_name,
        name_ended,
        t,
        parameter_named,
        g,
      ) (refl, refl, long)))
      (λ t.
      let past : length text ≤ start = ltb-false _ _ t in
      let no_bytes : eqb (length (drop start text)) 0 ≡ true = eq-eqb (length (drop start text)) 0 (omega arith) in
      rw (Rust.parameter_name, no_bytes, parameter_name, name_ended, t) (refl, refl, long))

  from-same : (state : ParseState) (kind : ScalarKind) (skips : ℕ) (ts : List Token) (m : Machine) → length ts ≡ m.count
      → Each (CutAlike cut text) (name_runs text (m.at + skips))
      → Same text (and_one m.count (name_ended text (m.at + skips)))
      (Rust.parameter_from (source cut text) (as_variant kind) skips (located text m.at state m ts))
      (parameter_name text kind (m.at + skips) (tape_of unbounded ts) m)
  unfolding Rust.parameter_from parameter_name name_ended
  from-same state kind skips ts m sized i =
      let bytes : length (drop m.at text) ≡ length text - m.at = length-drop m.at text in
      by_bool (ltb (length (drop m.at text)) skips)
      (λ t.
      let few : length (drop m.at text) < skips = ltb-true _ _ t in
      let past : ltb (m.at + skips) (length text) ≡ false = le-ltb (m.at + skips) (length text) (omega arith) in
      rw (Rust.parameter_from, t, parameter_name, name_ended, past) (refl, refl, tape-length ts m.count sized))
      (λ t. rw (Rust.parameter_from, t, drop-drop skips m.at text) (name-same state kind m.at (m.at + skips) ts m sized i))

  -- `[[` or `[[!`, once the opener has been settled where the parameter is initial
  pub parameter-same : (initial : Bool) (p : Parser) (ts : List Token) (m : Machine) (state : ParseState)
      → p.rest ≡ drop m.at text → length p.token_tape ≡ m.count
      → (Rust.has p.rest 1 bracket_open ≡ true → (go : Parser → Flow) → Rust.initially initial p go ≡ go (located text m.at state m ts))
      → length ts ≡ m.count → m.at < length text → Each (CutAlike cut text) (parameter_runs text m.at)
      → Same text (and_one m.count (parameter_lays text m.at))
      (Rust.parse_parameter_definition (source cut text) initial p) (parameter text (tape_of unbounded ts) m)
  unfolding Rust.parse_parameter_definition parameter parameter_lays parameter_runs
  parameter-same initial p ts m state there counted starts sized here i =
      let at : ℕ = m.at in
      let second : Rust.has p.rest 1 bracket_open ≡ eqb (byte_at text (at + 1)) bracket_open =
      ap (λ (x : List ℕ). Rust.has x 1 bracket_open) there ∙ test_next text at 1 bracket_open in
      let go : Parser → Flow =
      λ q. elim (Rust.has q.rest 2 exclamation) [
        | true ↦ Rust.parameter_from (source cut text) Rust.UndefinedParameter 3 q
        | false ↦ Rust.parameter_from (source cut text) Rust.Parameter 2 q
      ] in
      by_bool (eqb (byte_at text (at + 1)) bracket_open)
      (λ f. by_bool (eqb (byte_at text (at + 2)) exclamation)
      (λ g. rw (
        Rust.parse_parameter_definition,
        second ∙ f,
        starts (second ∙ f) go,
        test_next text at 2 exclamation ∙ g,
        parameter,
        parameter_lays,
        f,
        g,
      ) (from-same state UndefinedParameter 3 ts m sized (rw (parameter_runs, f, g) at i)))
      (λ g. rw (
        Rust.parse_parameter_definition,
        second ∙ f,
        starts (second ∙ f) go,
        test_next text at 2 exclamation ∙ g,
        parameter,
        parameter_lays,
        f,
        g,
      ) (from-same state Parameter 2 ts m sized (rw (parameter_runs, f, g) at i))))
      (λ f. rw (Rust.parse_parameter_definition, second ∙ f, there, offset-there text at (omega arith), parameter, parameter_lays, f)
      (refl, refl, counted))
