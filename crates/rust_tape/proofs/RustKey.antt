-- The Rust's turn in Key is ours, and so is the text's end.
-- Assumes nothing.
use Prim.Native.Nat.{ℕ, ◌+◌, ◌-◌, ◌≤◌, ◌<◌}
use mathlib.Core.Path.{◌≡◌, refl, ◌∙◌, ap}
use mathlib.Core.Bool.{Bool, false, ◌&&◌}
use mathlib.Core.List.{List, [], ◌∷◌}
use mathlib.Core.Option.{some}
use native.Mathlib.Omega.{arith}
use lib.Dec.{eqb}
use lib.ListN.{length, drop, set, length-append}
use lib.Seq.{set-append_left}
use Rattle.data.proofs.Cases.{by_bool}
use Rattle.data.specs.Bytes.{bracket_open, bracket_close, brace_open, brace_close}
use Rattle.cut.specs.Blanks.{skip_ws}
use Rattle.cut.proofs.Blanks.{skip_lands}
use Rattle.tape.specs.declared.token.Token.{Token}
use Rattle.tape.specs.declared.token.ContainerKind.TheVariants.{Array, Object}
use Rattle.tape.specs.Token.{opener_of, headed, container_of}
use Rattle.tape.specs.Tape.{Tape, unbounded, token_at, replace, add, lay}
use Rattle.sheet.specs.Sound.{nth}
use Rattle.machine.specs.declared.State.TheVariants.{Key, KeyValueSeparator}
use Rattle.machine.specs.declared.Machine.{Machine}
use Rattle.machine.specs.Machine.{byte_at}
use Rattle.parse.specs.After.{lay_then}
use Rattle.machine.specs.Parents.{parent_of, nothing_open}
use Rattle.parse.specs.Containers.{close_at, close, key_end, text_end}
use Rattle.machine.specs.Bytes.{key_byte}
use Rattle.parse.specs.Key.{key_close, open_header, key_header, key_brace, key_turn}
use Rattle.parse.proofs.Splits.{by_skipped, by_state}
use Rattle.promises.specs.Room.{tape_of, key_lays, and_one}
use Rattle.rust_tape.specs.RustTape as Rust
use Rattle.rust_tape.specs.RustTape.{Parser, TextToken, source}
use Rattle.promises.specs.Each.{Each}
use Rattle.rust_tape.specs.RustDomain.{CutAlike, key_runs}
use Rattle.promises.proofs.Links.Kept.{Kept}
use Rattle.rust_tape.proofs.RustParts.{index-there, slice-there, offset-there, skip-same}
use Rattle.rust_tape.proofs.RustReads.{rust_tape, as_container, tape-length, laid-opener, laid_end, changed_opener, changed_header, assign-there}
use Rattle.rust_tape.proofs.RustReads.{container-read, ends_same, mode_same, state-same, by-stands, top-nothing, parent-within, parent-none}
use Rattle.rust_tape.proofs.RustTurns.{parser_of, Same, scalar-same}
use Rattle.rust_tape.proofs.RustParameter.{parameter-same}

-- what the Rust takes for the parent's own
pub up_same : (ts : List Token) (i : ℕ) → Rust.its_end (Rust.container (Rust.get (rust_tape ts) i)) ≡ parent_of (container_of (nth ts i))
up_same ts i = ap Rust.its_end (container-read ts i) ∙ ends_same (container_of (nth ts i))

-- nothing open, by the Rust and by us
pub open_test : (ts : List Token) (p : ℕ) {b : Bool} → nothing_open p (parent_of (container_of (nth ts p))) ≡ b
    → (eqb p 0 && eqb (Rust.its_end (Rust.container (Rust.get (rust_tape ts) p))) 0) ≡ b
open_test ts p e = ap (λ (x : ℕ). eqb p 0 && eqb x 0) (up_same ts p) ∙ e

-- an End pushed before its opener is written
pub ended-first : (ts : List Token) (p : ℕ) (x : TextToken) → p < length ts
    → Rust.assign (Rust.push (rust_tape ts) (Rust.End p)) p x ≡ some (Rust.push (set (rust_tape ts) p x) (Rust.End p))
ended-first ts p x h =
    let long : length (rust_tape ts) ≡ length ts = tape-length ts (length ts) refl in
    let longer : length (Rust.push (rust_tape ts) (Rust.End p)) ≡ length (rust_tape ts) + 1 = length-append (rust_tape ts) (Rust.End p ∷ []) in
    assign-there (Rust.push (rust_tape ts) (Rust.End p)) p x (omega arith)
    ∙ ap some (set-append_left (rust_tape ts) (Rust.End p ∷ []) p x (omega arith))

module _ (cut : List ℕ → ℕ) (text : List ℕ) (ts : List Token) (m : Machine) (sized : length ts ≡ m.count) (here : m.at < length text) where
  abbrev there : List ℕ
  there = drop m.at text

  abbrev tape : Tape
  tape = tape_of unbounded ts

  abbrev parser : Parser
  parser = parser_of text m ts

  abbrev us : List TextToken
  us = rust_tape ts

  long : length us ≡ m.count
  long = tape-length ts m.count sized

  one : Rust.slice_from there 1 ≡ some (drop (m.at + 1) text)
  one = slice-there text m.at 1 (omega arith)

  key_close-same : m.mixed ≡ false → Kept ts m.parent → Same text m.count (Rust.key_close parser) (key_close tape m)
  unfolding Rust.key_close key_close close close_at lay add replace token_at
  key_close-same off s =
      by_bool (nothing_open m.parent (parent_of (container_of (nth ts m.parent))))
      (λ e.
      let top : m.parent ≡ 0 = parent-none ts s e in
      let up : Rust.its_end (Rust.container (Rust.get us m.parent)) ≡ 0 =
      up_same ts m.parent ∙ ap (λ (i : ℕ). parent_of (container_of (nth ts i))) top ∙ ap parent_of (top-nothing ts s) in
      let around : Rust.container (Rust.get us 0) ≡ Rust.Neither = container-read ts 0 ∙ ap as_container (top-nothing ts s) in
      rw (Rust.key_close, open_test ts m.parent e, one, key_close, e, up, around, off))
      (λ e.
      let grand : ℕ = parent_of (container_of (nth ts m.parent)) in
      let closed : List Token = set ts m.parent (opener_of Object m.count m.mixed) in
      rw (
        Rust.key_close,
        open_test ts m.parent e,
        long,
        ended-first ts m.parent (Rust.Object m.count m.mixed) (parent-within ts s e),
        one,
        up_same ts m.parent,
        container-read ts grand,
        state-same (container_of (nth ts grand)),
        mode_same (container_of (nth ts grand)),
        key_close,
        e,
        laid_end closed m.parent,
        changed_opener ts m.parent Object m.count m.mixed,
      ))

  key_header-same : (at : ℕ) → at ≤ length text → Same text m.count (Rust.key_header (source cut text) (drop at text) parser) (key_header at tape m)
  unfolding Rust.key_header key_header open_header lay_then lay add replace token_at
  key_header-same at h =
      let t : Token = nth ts (m.count - 1) in
      let place : Rust.offset (length text) (drop at text) ≡ some at = offset-there text at h in
      by-stands ts m.count sized
      (λ e f. rw (
        Rust.key_header,
        f,
        long,
        key_header,
        e,
        laid-opener (set ts (m.count - 1) (headed t)) Array 0 false,
        changed_header ts (m.count - 1) t,
      ))
      (λ e f. rw (Rust.key_header, f, place, key_header, e) (refl, refl, long))
      (λ e f g. rw (Rust.key_header, f, place, key_header, e) (refl, refl, long))
      (λ e f. rw (Rust.key_header, f, place, key_header, e) (refl, refl, long))

  key_brace-same : m.state ≡ Key → Same text m.count (Rust.key_brace (source cut text) parser) (key_brace text tape m)
  unfolding Rust.key_brace key_brace
  key_brace-same in_key =
      by_skipped (skip_ws text (m.at + 1))
      (λ p e.
      let in-it : p < length text = (skip_lands text (m.at + 1) p e).within in
      let byte : Rust.index (drop p text) 0 ≡ some (byte_at text p) = index-there text p in-it in
      by_bool (eqb (byte_at text p) brace_close)
      (λ f. rw (Rust.key_brace, one, skip-same text (m.at + 1) e, byte, Rust.checked, key_brace, e, f, slice-there text p 1 (omega arith), in_key))
      (λ f. rw (Rust.key_brace, one, skip-same text (m.at + 1) e, byte, Rust.checked, key_brace, e, f) (key_header-same p (omega arith))))
      (λ e. rw (Rust.key_brace, one, skip-same text (m.at + 1) e, key_brace, e) (refl, refl, long))

  pub key-same : m.state ≡ Key → m.mixed ≡ false → Kept ts m.parent → Each (CutAlike cut text) (key_runs text m.at)
      → Same text (and_one m.count (key_lays text m)) (Rust.key_arm (source cut text) parser) (key_turn text tape m)
  unfolding Rust.key_arm key_turn key_byte key_lays key_runs
  key-same in_key off s i =
      let b : ℕ = byte_at text m.at in
      let byte : Rust.index there 0 ≡ some b = index-there text m.at here in
      by_bool (eqb b brace_close)
      (λ e1. rw (Rust.key_arm, key_turn, key_byte, key_lays, byte, e1) (key_close-same off s))
      (λ e1. by_bool (eqb b bracket_close)
      (λ e2. rw (Rust.key_arm, key_turn, key_byte, key_lays, byte, e1, e2) (key_close-same off s))
      (λ e2. by_bool (eqb b brace_open)
      (λ e3. rw (Rust.key_arm, key_turn, key_byte, key_lays, byte, e1, e2, e3) (key_brace-same in_key))
      (λ e3. by_bool (eqb b bracket_open)
      (λ e4. rw (Rust.key_arm, key_turn, key_byte, key_lays, byte, e1, e2, e3, e4)
      (parameter-same cut text false parser ts m parser.state refl long (λ f go. refl) sized here (rw (key_runs, key_byte, e1, e2, e3, e4) at i)))
      (λ e4. rw (Rust.key_arm, key_turn, key_byte, key_lays, byte, e1, e2, e3, e4)
      (scalar-same cut text ts m sized here KeyValueSeparator (rw (key_runs, key_byte, e1, e2, e3, e4) at i))))))

-- ---- the text's end
pub end_same : (text : List ℕ) (ts : List Token) (m : Machine) → length ts ≡ m.count → (m.state ≡ Key → Kept ts m.parent)
    → Same text m.count (Rust.at_end (parser_of text m ts)) (text_end (tape_of unbounded ts) m)
unfolding Rust.at_end text_end key_end close_at lay add replace token_at
end_same text ts m sized s =
    let long : length (rust_tape ts) ≡ m.count = tape-length ts m.count sized in
    let up : Rust.its_end (Rust.container (Rust.get (rust_tape ts) m.parent)) ≡ parent_of (container_of (nth ts m.parent)) = up_same ts m.parent in
    let closed : List Token = set ts m.parent (opener_of Object m.count false) in
    by_state m.state
    (λ st. by_bool (eqb m.parent 0)
    (λ e. rw (Rust.at_end, st, e, text_end, key_end))
    (λ e. by_bool (eqb (parent_of (container_of (nth ts m.parent))) 0)
    (λ f.
    let some-open : nothing_open m.parent (parent_of (container_of (nth ts m.parent))) ≡ false = rw e in
    rw (
      Rust.at_end,
      st,
      e,
      up,
      text_end,
      key_end,
      f,
      long,
      ended-first ts m.parent (Rust.Object m.count false) (parent-within ts (s st) some-open),
      laid_end closed m.parent,
      changed_opener ts m.parent Object m.count false,
    ))
    (λ f. rw (Rust.at_end, st, e, up, text_end, key_end, f) (refl, refl, long))))
    (λ st. rw (Rust.at_end, st, text_end) (refl, refl, long))
    (λ st. rw (Rust.at_end, st, text_end) (refl, refl, long))
    (λ st. rw (Rust.at_end, st, text_end) (refl, refl, long))
    (λ st. rw (Rust.at_end, st, text_end) (refl, refl, long))
