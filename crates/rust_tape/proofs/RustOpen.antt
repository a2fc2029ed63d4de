-- The Rust's turn in ParseOpen is ours.
-- Assumes nothing.
use Rattle.std.specs.Prelude.{None, Option}
use Prim.Native.Nat.{ℕ, ◌+◌, ◌-◌, ◌≤◌, ◌<◌}
use mathlib.Core.Path.{◌≡◌, refl, sym, ◌∙◌, ap}
use mathlib.Core.Bool.{Bool, true, false}
use mathlib.Core.List.{List, [], ◌∷◌, ◌++◌}
use mathlib.Core.Option.{some}
use native.Mathlib.Omega.{arith}
use lib.Dec.{eqb}
use lib.ListN.{length, drop, set, length-set}
use Rattle.data.proofs.Cases.{by_bool}
use Rattle.data.specs.Bytes.{exclamation, less_than, equals, greater_than, question, bracket_open, brace_open, brace_close}
use Rattle.data.specs.Classes.{among}
use Rattle.cut.specs.Blanks.{skip_ws}
use Rattle.cut.specs.Scalars.{scalar_cut}
use Rattle.cut.proofs.Blanks.{skip_lands}
use Rattle.tape.specs.declared.token.Token.{Token}
use Rattle.tape.specs.declared.token.ContainerKind.TheVariants.{Array, Object}
use Rattle.tape.specs.declared.token.ScalarKind.TheVariants.{Unquoted}
use Rattle.tape.specs.declared.token.Container as Containers
use Rattle.tape.specs.Token.{opener_of, scalar_of, quoted_kind, container_of, opened}
use Rattle.tape.specs.Tape.{Tape, unbounded, token_at, replace, add, lay}
use Rattle.sheet.specs.Sound.{nth}
use Rattle.machine.specs.declared.State.TheVariants.{ParseOpen}
use Rattle.machine.specs.declared.Machine.{Machine}
use Rattle.machine.specs.declared.Refusal.TheVariants.{MixedParameter}
use Rattle.machine.specs.Machine.{byte_at, to, within}
use Rattle.parse.specs.After.{refused, lay_then}
use Rattle.parse.specs.Scalars.{scalar_then}
use Rattle.parse.specs.Containers.{close_at}
use Rattle.parse.specs.Parameter.{parameter}
use Rattle.machine.specs.Bytes.{open_byte, follows_key}
use Rattle.parse.specs.ParseOpen.{settle, open_empty, open_parameter, open_brace, flag_parent, open_as, open_scalar, parse_open_turn}
use Rattle.parse.proofs.Splits.{by_skipped, by-cut}
use Rattle.promises.specs.Room.{tape_of, parameter_lays, is_cut, open_lays, and_one}
use Rattle.rust_tape.specs.RustTape as Rust
use Rattle.rust_tape.specs.RustTape.{Parser, ParseState, Flow, TextToken, source}
use Rattle.promises.specs.Each.{Each}
use Rattle.rust_tape.specs.RustDomain.{CutAlike, scalar_runs, parameter_runs, open_runs}
use Rattle.promises.proofs.Alike.{added_sized}
use Rattle.rust_tape.proofs.RustParts.{minus-there, index-there, slice-there, offset-there, skip-same, any_same}
use Rattle.rust_tape.proofs.RustReads.{rust_tape, tape-length, laid-scalar, laid-quoted, laid_end, changed_opener, assign-there}
use Rattle.rust_tape.proofs.RustReads.{container-read, mode_same, state-same}
use Rattle.rust_tape.proofs.RustTurns.{parser_of, Same}
use Rattle.rust_tape.proofs.RustParameter.{located, parameter-same}
use Rattle.tape.proofs.Makers.{by_opened}

by-opened : {P : Type 0} (c : Option Containers.Container) → ((link : ℕ) (flag : Bool) → c ≡ opened Array link flag → P)
    → ((link : ℕ) (flag : Bool) → c ≡ opened Object link flag → P) → (c ≡ None → P) → P
by-opened {P} c f g h =
    by_opened (λ x. c ≡ x → P)
    (elim [ Array ↦ λ link flag e. f link flag e | Object ↦ λ link flag e. g link flag e ])
    h c refl

-- ---- the flag of the parent: our tokens behind it are the Rust's, as many as before
pub record Flagged (text : List ℕ) (state : ParseState) (ts : List Token) (m : Machine) : Type 0 where
  pub left : List Token
  pub ours : flag_parent (tape_of unbounded ts) m ≡ tape_of unbounded left
  pub rusts : Rust.flagged (located text m.at state m ts) ≡ rust_tape left
  pub kept : length left ≡ length ts

flag_same : (text : List ℕ) (state : ParseState) (ts : List Token) (m : Machine) → Flagged text state ts m
unfolding Rust.flagged flag_parent replace token_at
flag_same text state ts m =
    let i : ℕ = m.parent in
    by_bool m.mixed
    (λ on. by-opened (container_of (nth ts i))
    (λ link flag c. record {
      left = set ts i (opener_of Array link true);
      ours = rw (flag_parent, on, c);
      rusts = rw (Rust.flagged, on, container-read ts i, c, on, changed_opener ts i Array link true);
      kept = length-set ts i (opener_of Array link true);
    })
    (λ link flag c. record {
      left = set ts i (opener_of Object link true);
      ours = rw (flag_parent, on, c);
      rusts = rw (Rust.flagged, on, container-read ts i, c, on, changed_opener ts i Object link true);
      kept = length-set ts i (opener_of Object link true);
    })
    (λ c. record { left = ts; ours = rw (flag_parent, on, c); rusts = rw (Rust.flagged, on, container-read ts i, c); kept = refl }))
    (λ off. record { left = ts; ours = rw (flag_parent, off); rusts = rw (Rust.flagged, off); kept = refl })

-- what follows the first scalar, on the tokens behind the flag
first-same : (text : List ℕ) (p : Parser) (vs : List Token) (m : Machine) → p.rest ≡ drop m.at text → p.parent_ind ≡ m.parent
    → Rust.flagged p ≡ rust_tape vs → length vs ≡ m.count → 2 ≤ m.count
    → Same text m.count (Rust.open_first p) (open_as text (tape_of unbounded vs) m)
unfolding Rust.open_first open_as settle replace follows_key
first-same text p vs m there parent flags sized two =
    let long : length (rust_tape vs) ≡ m.count = tape-length vs m.count sized in
    let ind : ℕ = m.count - 2 in
    let back : Rust.minus m.count 2 ≡ some ind = minus-there m.count 2 two in
    let written : (x : TextToken) → Rust.assign (rust_tape vs) ind x ≡ some (set (rust_tape vs) ind x) =
    λ x. assign-there (rust_tape vs) ind x (omega arith) in
    let skipped : Rust.skip_ws_t p.rest ≡ Rust.skip_ws_t (drop m.at text) = ap Rust.skip_ws_t there in
    by_skipped (skip_ws text m.at)
    (λ q e.
    let byte : Rust.index (drop q text) 0 ≡ some (byte_at text q) = index-there text q (skip_lands text m.at q e).within in
    by_bool (among (byte_at text q) (equals ∷ greater_than ∷ less_than ∷ question ∷ exclamation ∷ []))
    (λ f. rw (
      Rust.open_first,
      skipped ∙ skip-same text m.at e,
      byte,
      Rust.checked,
      open_as,
      follows_key,
      e,
      f,
      flags,
      long,
      back,
      parent,
      written (Rust.Object m.parent false),
      changed_opener vs ind Object m.parent false,
    ))
    (λ f. rw (
      Rust.open_first,
      skipped ∙ skip-same text m.at e,
      byte,
      Rust.checked,
      open_as,
      follows_key,
      e,
      f,
      flags,
      long,
      back,
      parent,
      written (Rust.Array m.parent false),
      changed_opener vs ind Array m.parent false,
    )))
    (λ e. rw (Rust.open_first, skipped ∙ skip-same text m.at e, flags, open_as, e) (refl, refl, long))

open_as-same : (text : List ℕ) (ts : List Token) (m : Machine) (state : ParseState) → length ts ≡ m.count → 2 ≤ m.count
    → Same text m.count (Rust.open_first (located text m.at state m ts)) (open_as text (flag_parent (tape_of unbounded ts) m) m)
open_as-same text ts m state sized two =
    let flags = flag_same text state ts m in
    rw flags.ours (first-same text (located text m.at state m ts) flags.left m refl refl flags.rusts (flags.kept ∙ sized) two)

module _ (cut : List ℕ → ℕ) (text : List ℕ) (ts : List Token) (m : Machine) (sized : length ts ≡ m.count) (here : m.at < length text)
    (some-token : 1 ≤ length ts) where
  abbrev there : List ℕ
  there = drop m.at text

  abbrev tape : Tape
  tape = tape_of unbounded ts

  abbrev parser : Parser
  parser = parser_of text m ts

  abbrev us : List TextToken
  us = rust_tape ts

  long : length us ≡ m.count
  long = tape-length ts m.count sized

  one : Rust.slice_from there 1 ≡ some (drop (m.at + 1) text)
  one = slice-there text m.at 1 (omega arith)

  -- the last token, which is the opener
  back : Rust.minus m.count 1 ≡ some (m.count - 1)
  back = minus-there m.count 1 (omega arith)

  written : (x : TextToken) → Rust.assign us (m.count - 1) x ≡ some (set us (m.count - 1) x)
  written x = let l = long in assign-there us (m.count - 1) x (omega arith)

  open_empty-same : Same text m.count (Rust.open_close parser) (open_empty tape m)
  unfolding Rust.open_close open_empty close_at lay add replace token_at
  open_empty-same =
      let last : m.count - 1 + 1 ≡ m.count = omega arith in
      let around : Option Containers.Container = container_of (nth ts m.parent) in
      rw (
        Rust.open_close,
        long,
        back,
        last,
        written (Rust.Array m.count false),
        one,
        container-read ts m.parent,
        state-same around,
        mode_same around,
        open_empty,
        laid_end (set ts (m.count - 1) (opener_of Array m.count false)) (m.count - 1),
        changed_opener ts (m.count - 1) Array m.count false,
      )

  open_brace-same : m.state ≡ ParseOpen → Same text m.count (Rust.open_brace parser) (open_brace text tape m)
  unfolding Rust.open_brace open_brace settle replace
  open_brace-same in-open =
      by_skipped (skip_ws text (m.at + 1))
      (λ p e.
      let in-it : p < length text = (skip_lands text (m.at + 1) p e).within in
      let byte : Rust.index (drop p text) 0 ≡ some (byte_at text p) = index-there text p in-it in
      by_bool (eqb (byte_at text p) brace_close)
      (λ f. rw (Rust.open_brace, one, skip-same text (m.at + 1) e, byte, Rust.checked, open_brace, e, f, slice-there text p 1 (omega arith), in-open))
      (λ f. rw (
        Rust.open_brace,
        one,
        skip-same text (m.at + 1) e,
        byte,
        Rust.checked,
        open_brace,
        e,
        f,
        long,
        back,
        written (Rust.Array m.parent false),
        changed_opener ts (m.count - 1) Array m.parent false,
      )))
      (λ e. rw (Rust.open_brace, one, skip-same text (m.at + 1) e, open_brace, e) (refl, refl, long))

  open_scalar-same : Each (CutAlike cut text) (scalar_runs text m.at)
      → Same text (and_one m.count (is_cut (scalar_cut text m.at)))
      (Rust.parse_by (byte_at text m.at) (source cut text) there us (λ rest vs. Rust.open_first (Rust.with_data parser rest parser.state vs)))
      (open_scalar text tape m)
  unfolding open_scalar scalar_then lay_then lay add
  open_scalar-same i =
      rw (any_same cut text m.at us (λ rest vs. Rust.open_first (Rust.with_data parser rest parser.state vs)) here i)
      (by-cut (scalar_cut text m.at)
      (λ start end rest q.
      let x : Token = scalar_of Unquoted start (end - start) in
      rw (q, open_scalar, scalar_then, sym (laid-scalar ts Unquoted start (end - start)))
      (open_as-same text (ts ++ (x ∷ [])) (to m rest ParseOpen (m.count + 1)) parser.state (added_sized ts m.count x sized) (omega arith)))
      (λ start end rest escaped q.
      let x : Token = scalar_of (quoted_kind escaped) start (end - start) in
      rw (q, open_scalar, scalar_then, sym (laid-quoted ts escaped start (end - start)))
      (open_as-same text (ts ++ (x ∷ [])) (to m rest ParseOpen (m.count + 1)) parser.state (added_sized ts m.count x sized) (omega arith)))
      (λ q. rw (q, open_scalar, scalar_then) (refl, refl, long)))

  -- `[`: a parameter, unless mixed
  open_unmixed : m.mixed ≡ false
      → open_parameter text tape m
      ≡ parameter text (tape_of unbounded (set ts (m.count - 1) (opener_of Object m.parent false))) (within m (m.count - 1))
  unfolding open_parameter replace
  open_unmixed off = cc

  open_mixed : m.mixed ≡ true → open_parameter text tape m ≡ refused (MixedParameter m.at)
  unfolding open_parameter
  open_mixed on = cc

  initial-same : (go : Parser → Flow) → Rust.initially true parser go
      ≡ go (located text m.at parser.state (within m (m.count - 1)) (set ts (m.count - 1) (opener_of Object m.parent false)))
  initial-same go = rw (long, back, written (Rust.Object m.parent false), changed_opener ts (m.count - 1) Object m.parent false)

  bracket-same : (mixed : Bool) → m.mixed ≡ mixed → Each (CutAlike cut text) (elim mixed [ true ↦ [] | false ↦ parameter_runs text m.at ])
      → Same text (and_one m.count (elim mixed [ true ↦ false | false ↦ parameter_lays text m.at ]))
      (elim mixed [
        | true ↦ Rust.syntax_error (source cut text) Rust.MixedNotExpected there us
        | false ↦ Rust.parse_parameter_definition (source cut text) true parser
      ])
      (open_parameter text tape m)
  bracket-same true on i = rw (open_mixed on, offset-there text m.at (omega arith)) (refl, refl, long)
  bracket-same false off i =
      rw (open_unmixed off)
      (parameter-same cut text true parser (set ts (m.count - 1) (opener_of Object m.parent false)) (within m (m.count - 1)) parser.state
      refl long (λ f go. initial-same go) (length-set ts (m.count - 1) (opener_of Object m.parent false) ∙ sized) here i)

  pub parse_open_same : m.state ≡ ParseOpen → Each (CutAlike cut text) (open_runs text m.mixed m.at)
      → Same text (and_one m.count (open_lays text m)) (Rust.open_arm (source cut text) parser) (parse_open_turn text tape m)
  unfolding Rust.open_arm Rust.open_bracket parse_open_turn open_byte open_lays open_runs
  parse_open_same in-open i =
      let b : ℕ = byte_at text m.at in
      let byte : Rust.index there 0 ≡ some b = index-there text m.at here in
      by_bool (eqb b brace_close)
      (λ e1. rw (Rust.open_arm, parse_open_turn, open_byte, open_lays, byte, e1) open_empty-same)
      (λ e1. by_bool (eqb b bracket_open)
      (λ e2. rw (Rust.open_arm, parse_open_turn, open_byte, open_lays, byte, e1, e2, Rust.open_bracket)
      (bracket-same m.mixed refl (rw (open_runs, open_byte, e1, e2) at i)))
      (λ e2. by_bool (eqb b brace_open)
      (λ e3. rw (Rust.open_arm, parse_open_turn, open_byte, open_lays, byte, e1, e2, e3) (open_brace-same in-open))
      (λ e3. rw (Rust.open_arm, parse_open_turn, open_byte, open_lays, byte, e1, e2, e3)
      (open_scalar-same (rw (open_runs, open_byte, e1, e2, e3) at i)))))
