-- The rest of the text that the Rust goes by, and the place in it that we go by: bytes, blanks, runs and scalars are the same, and no slice of it panics.
-- Assumes nothing.
use Prim.Native.Nat.{ℕ, ◌+◌, ◌-◌, ◌≤◌, ◌<◌}
use mathlib.Core.Path.{◌≡◌, refl, ◌∙◌, ap}
use mathlib.Core.Bool.{Bool, true, false}
use mathlib.Core.List.{List, [], ◌∷◌}
use mathlib.Core.Option.{Option, none, some}
use native.Mathlib.Nat.{zero-add}
use native.Mathlib.Omega.{arith}
use borrow.Author.Tests.{eqb-true, eqb-false, ltb-true, ltb-false, lt-ltb, le-ltb}
use lib.Dec.{eqb, ltb}
use lib.ListN.{length, get_or, drop, length-drop}
use lib.Seq.{get_or-drop, drop-drop}
use Rattle.data.proofs.Cases.{by_bool}
use Rattle.data.specs.Bytes.{line_feed, hash, quote, at_sign, bracket_open}
use Rattle.data.specs.Classes.{is_boundary}
use Rattle.std.specs.Prelude.{Some, None}
use Rattle.std.specs.Prelude as Ours
use Rattle.cut.specs.declared.Cut as Cuts
use Rattle.cut.specs.declared.QuotedRun.{QuotedRun}
use Rattle.cut.specs.Blanks.{is_blank, blanks_from, comment_from, skip_ws}
use Rattle.cut.specs.Runs.{stop_from, run_end_of, unquoted_run, run_end}
use Rattle.cut.specs.Quotes.{quoted_run, closed}
use Rattle.cut.specs.Scalars.{closes_bracket, bracket_run, opens_variable, variable_cut, scalar_cut}
use Rattle.cut.proofs.Quotes.{quoted_run-closes}
use Rattle.cut.proofs.Runs.{head_here, run_end-run}
use Rattle.cut.proofs.Scalars.{opens_not, opens-next, cut-quoted, cut_variable, cut-run}
use Rattle.rust_tape.specs.RustCuts.{forward_search}
use Rattle.rust_tape.specs.RustTape as Rust
use Rattle.rust_tape.specs.RustTape.{TextToken, Flow, source}
use Rattle.promises.specs.Each.{Each}
use Rattle.rust_tape.specs.RustDomain.{CutAlike, scalar_runs}
use Rattle.rust_tape.proofs.Domain.{as_found, quoted-end-alike}

-- ---- bytes
pub byte_next : (text : List ℕ) (at i : ℕ) → get_or (drop at text) i 0 ≡ get_or text (at + i) 0
byte_next text at i = get_or-drop at text i 0

part-next : (text : List ℕ) (at i : ℕ) → drop i (drop at text) ≡ drop (at + i) text
part-next text at i = drop-drop i at text

-- so a test of a part is one of the text
pub test_there : (text : List ℕ) (at : ℕ) (b : ℕ) → Rust.has (drop at text) 0 b ≡ eqb (get_or text at 0) b
test_there text at b = ap (λ (x : ℕ). eqb x b) (head_here text at)

pub test_next : (text : List ℕ) (at i : ℕ) (b : ℕ) → Rust.has (drop at text) i b ≡ eqb (get_or text (at + i) 0) b
test_next text at i b = ap (λ (x : ℕ). eqb x b) (byte_next text at i)

-- ---- what does not panic
pub minus-there : (a b : ℕ) → b ≤ a → Rust.minus a b ≡ some (a - b)
unfolding Rust.minus
minus-there a b h = rw (Rust.minus, le-ltb a b h)

pub index-there : (text : List ℕ) (at : ℕ) → at < length text → Rust.index (drop at text) 0 ≡ some (get_or text at 0)
unfolding Rust.index
index-there text at h =
    let some_bytes : 0 < length (drop at text) = rw length-drop (omega arith) in
    rw (Rust.index, lt-ltb 0 (length (drop at text)) some_bytes, head_here text at)

pub slice-there : (text : List ℕ) (at i : ℕ) → at + i ≤ length text → Rust.slice_from (drop at text) i ≡ some (drop (at + i) text)
unfolding Rust.slice_from
slice-there text at i h =
    let long : i ≤ length (drop at text) = rw length-drop (omega arith) in
    rw (Rust.slice_from, le-ltb (length (drop at text)) i long, part-next text at i)

-- where a part starts
pub start-there : (text : List ℕ) (at : ℕ) → at ≤ length text → Rust.start_of (length text) (drop at text) ≡ at
start-there text at h = rw length-drop (omega arith)

pub offset-there : (text : List ℕ) (at : ℕ) → at ≤ length text → Rust.offset (length text) (drop at text) ≡ some at
offset-there text at h =
    minus-there (length text) (length (drop at text)) (rw length-drop (omega arith)) ∙ ap some (start-there text at h)

-- ---- blanks
abbrev pub from_there : List ℕ → Ours.Option ℕ → Option (List ℕ)
from_there text (Some p) = some (drop p text)
from_there text None = none

mutual
  unfolding Rust.skip_ws_t Rust.skip_comment_t blanks_from comment_from is_blank

  blanks_same : (text bytes : List ℕ) (at : ℕ) → bytes ≡ drop at text → Rust.skip_ws_t bytes ≡ from_there text (blanks_from bytes at)
  blanks_same text [] at e = refl
  blanks_same text (b ∷ bs) at e =
      let later : bs ≡ drop (at + 1) text = ap (drop 1) e ∙ part-next text at 1 in
      by_bool (is_blank b)
      (λ t. rw (Rust.skip_ws_t, blanks_from, t) (blanks_same text bs (at + 1) later))
      (λ f. by_bool (eqb b hash)
      (λ t. rw (Rust.skip_ws_t, blanks_from, f, t) (comment_same text bs (at + 1) later))
      (λ g. rw (Rust.skip_ws_t, blanks_from, f, g) (ap some e)))

  comment_same : (text bytes : List ℕ) (at : ℕ) → bytes ≡ drop at text → Rust.skip_comment_t bytes ≡ from_there text (comment_from bytes at)
  comment_same text [] at e = refl
  comment_same text (b ∷ bs) at e =
      let later : bs ≡ drop (at + 1) text = ap (drop 1) e ∙ part-next text at 1 in
      by_bool (eqb b line_feed)
      (λ t. rw (Rust.skip_comment_t, comment_from, t) (blanks_same text bs (at + 1) later))
      (λ f. rw (Rust.skip_comment_t, comment_from, f) (comment_same text bs (at + 1) later))

skip-there : (text : List ℕ) (at : ℕ) → Rust.skip_ws_t (drop at text) ≡ from_there text (skip_ws text at)
unfolding skip_ws
skip-there text at = blanks_same text (drop at text) at refl

pub skip-same : (text : List ℕ) (at : ℕ) {s : Ours.Option ℕ} → skip_ws text at ≡ s → Rust.skip_ws_t (drop at text) ≡ from_there text s
skip-same text at e = skip-there text at ∙ ap (from_there text) e

-- ---- an unquoted run, where the cut is ours
split-count : (cut : List ℕ → ℕ) (text : List ℕ) (at : ℕ) → at < length text → CutAlike cut text at
    → cut (drop at text) ≡ run_end text at - at
unfolding run_end run_end_of unquoted_run
split-count cut text at h alike = let e = alike h in omega arith

pub split-same : (cut : List ℕ → ℕ) (text : List ℕ) (at : ℕ) (go : ℕ → ℕ → List ℕ → Flow) → at < length text → CutAlike cut text at
    → Rust.split_scalar (source cut text) (drop at text) go ≡ go at (run_end text at - at) (drop (run_end text at) text)
unfolding Rust.split_scalar
split-same cut text at go h alike =
    let run = run_end-run text at h in
    let ends : at + (run_end text at - at) ≡ run_end text at = omega (arith, run.moves) in
    let fits : at + (run_end text at - at) ≤ length text = omega (arith, run.within) in
    rw (Rust.split_scalar, split-count cut text at h alike, slice-there text at (run_end text at - at) fits, start-there text at (omega arith), ends)

-- ---- scalars
abbrev pub taken_by : List ℕ → List TextToken → (List ℕ → List TextToken → Flow) → Ours.Option Cuts.Cut → Flow
taken_by text us go (Some (Cuts.TheVariants.Unquoted start end rest)) = go (drop rest text) (Rust.push us (Rust.OfScalar Rust.Unquoted start (end - start)))
taken_by text us go (Some (Cuts.TheVariants.Quoted start end rest escaped)) = go (drop rest text) (Rust.push us (Rust.OfScalar Rust.Quoted start (end - start)))
taken_by text us go None = Rust.err Rust.Eof us

by-quoted : {P : Type 0} (q : Ours.Option QuotedRun) → ((k : ℕ) (escaped : Bool) → q ≡ closed k escaped → P)
    → (q ≡ None → P) → P
by-quoted (Some run) f g = f run.length run.escaped refl
by-quoted None f g = g refl

-- a search that starts at a place, as a scan from 0
abbrev found : Bool → ℕ → Option ℕ
found true at = some at
found false at = none

search_found : (wanted : ℕ → Bool) (bytes : List ℕ) (at k : ℕ)
    → forward_search wanted bytes (at + k) ≡ found (ltb (stop_from wanted bytes k) (k + length bytes)) (at + stop_from wanted bytes k)
unfolding forward_search stop_from
search_found wanted [] at k = rw (le-ltb k (k + 0) (omega arith))
search_found wanted (b ∷ bs) at k =
    let later : at + k + 1 ≡ at + (k + 1) = omega arith in
    let longer : k + 1 + length bs ≡ k + length (b ∷ bs) = omega arith in
    by_bool (wanted b)
    (λ t. rw (forward_search, stop_from, t, lt-ltb k (k + length (b ∷ bs)) (omega arith)))
    (λ f. rw (forward_search, stop_from, f)
    (ap (forward_search wanted bs) later ∙ search_found wanted bs at (k + 1)
    ∙ ap (λ (l : ℕ). found (ltb (stop_from wanted bs (k + 1)) l) (at + stop_from wanted bs (k + 1))) longer))

module _ (cut : List ℕ → ℕ) (text : List ℕ) (at : ℕ) (us : List TextToken) (go : List ℕ → List TextToken → Flow) (here : at < length text) where
  quote-same : get_or text at 0 ≡ quote → Rust.parse_quote (source cut text) (drop at text) us go ≡ taken_by text us go (scalar_cut text at)
  unfolding Rust.parse_quote scalar_cut
  quote-same q =
      let haystack : Rust.slice_from (drop at text) 1 ≡ some (drop (at + 1) text) = slice-there text at 1 (omega arith) in
      by-quoted (quoted_run (drop (at + 1) text))
      (λ k escaped e.
      let closing = quoted_run-closes (drop (at + 1) text) k escaped e in
      let long : length (drop (at + 1) text) ≡ length text - (at + 1) = length-drop (at + 1) text in
      let fits : at + 1 + (k + 1) ≤ length text = omega (arith, closing.within) in
      let rest : at + 1 + (k + 1) ≡ at + 1 + k + 1 = omega arith in
      let size : k ≡ at + 1 + k - (at + 1) = omega arith in
      rw (
        Rust.parse_quote,
        haystack,
        quoted-end-alike text at here ∙ ap as_found e,
        slice-there text (at + 1) (k + 1) fits,
        start-there text (at + 1) (omega arith),
        scalar_cut,
        cut-quoted is_boundary text at here q,
        e,
      ) (cc))
      (λ e. rw (Rust.parse_quote, haystack, quoted-end-alike text at here ∙ ap as_found e, scalar_cut, cut-quoted is_boundary text at here q, e))

  run-same : (get_or text at 0 ≡ quote → ⊥) → opens_variable text at ≡ false → CutAlike cut text at
      → Rust.parse_scalar (source cut text) (drop at text) us go ≡ taken_by text us go (scalar_cut text at)
  unfolding Rust.parse_scalar scalar_cut run_end
  run-same q v i =
      rw (Rust.parse_scalar, scalar_cut, cut-run is_boundary text at here q v)
      (split-same cut text at (λ start size rest. go rest (Rust.push us (Rust.OfScalar Rust.Unquoted start size))) here i)

  variable_same : (get_or text at 0 ≡ quote → ⊥) → opens_variable text at ≡ true → get_or text (at + 1) 0 ≡ bracket_open
      → Rust.parse_variable (source cut text) (drop at text) us go ≡ taken_by text us go (scalar_cut text at)
  unfolding Rust.parse_variable scalar_cut variable_cut bracket_run closes_bracket
  variable_same q v b =
      let s : ℕ = stop_from closes_bracket (drop (at + 2) text) 0 in
      let opened : Rust.has (drop at text) 1 bracket_open ≡ true = rw (byte_next text at 1, b) in
      let long : length (drop (at + 2) text) ≡ length text - (at + 2) = length-drop (at + 2) text in
      let search : forward_search closes_bracket (drop 2 (drop at text)) 2 ≡ found (ltb s (length (drop (at + 2) text))) (2 + s) =
      rw (part-next text at 2) (rw zero-add at (search_found closes_bracket (drop (at + 2) text) 2 0)) in
      by_bool (ltb s (length (drop (at + 2) text)))
      (λ t.
      let h : s < length (drop (at + 2) text) = ltb-true _ _ t in
      let fits : at + (2 + s + 1) ≤ length text = omega arith in
      let rest : at + (2 + s + 1) ≡ at + 2 + s + 1 = omega arith in
      let size : 2 + s + 1 ≡ at + 2 + s + 1 - at = omega arith in
      rw (
        Rust.parse_variable,
        opened,
        search,
        t,
        slice-there text at (2 + s + 1) fits,
        start-there text at (omega arith),
        scalar_cut,
        cut_variable is_boundary text at here q v,
        variable_cut,
        lt-ltb (at + 2 + s) (length text) (omega arith),
      ) (cc))
      (λ t.
      let h : length (drop (at + 2) text) ≤ s = ltb-false _ _ t in
      rw (
        Rust.parse_variable,
        opened,
        search,
        t,
        scalar_cut,
        cut_variable is_boundary text at here q v,
        variable_cut,
        le-ltb (at + 2 + s) (length text) (omega arith),
      ))

  plain-same : eqb (get_or text (at + 1) 0) bracket_open ≡ false
      → Rust.parse_variable (source cut text) (drop at text) us go ≡ Rust.parse_scalar (source cut text) (drop at text) us go
  unfolding Rust.parse_variable
  plain-same b = rw (Rust.parse_variable, byte_next text at 1, b)

  -- whichever scalar stands there
  pub any_same : Each (CutAlike cut text) (scalar_runs text at)
      → Rust.parse_by (get_or text at 0) (source cut text) (drop at text) us go ≡ taken_by text us go (scalar_cut text at)
  unfolding Rust.parse_by scalar_runs
  any_same i =
      by_bool (eqb (get_or text at 0) quote)
      (λ q. rw (Rust.parse_by, q) (quote-same (eqb-true _ _ q)))
      (λ q. by_bool (eqb (get_or text at 0) at_sign)
      (λ a.
      let next-byte = opens-next text at (eqb-true _ _ a) in
      by_bool (eqb (get_or text (at + 1) 0) bracket_open)
      (λ b. rw (Rust.parse_by, q, a) (variable_same (eqb-false _ _ q) (next-byte ∙ b) (eqb-true _ _ b)))
      (λ b. rw (Rust.parse_by, q, a)
      (plain-same b ∙ run-same (eqb-false _ _ q) (next-byte ∙ b) (rw (scalar_runs, q, next-byte ∙ b) at i).0)))
      (λ a.
      let no-variable = opens_not text at (eqb-false _ _ a) in
      rw (Rust.parse_by, q, a) (run-same (eqb-false _ _ q) no-variable (rw (scalar_runs, q, no-variable) at i).0)))
