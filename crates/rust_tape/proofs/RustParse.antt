-- On every text of the domain the Rust's parse answers as ours with no bound on tokens does, has laid down as many tokens, and never panics.
-- By our own unquoted cut its parse does so on every text within the limit: both are `runs_alike`, of a cut that is ours wherever our parse cuts.
-- Assumes nothing.
use Prim.Native.Nat.{ℕ, zero, suc, ◌+◌, ◌-◌, ◌*◌, ◌≤◌, ◌<◌}
use mathlib.Core.Path.{◌≡◌, refl, sym, ◌∙◌, ap, subst}
use mathlib.Core.Bool.{Bool, true, false, ◌&&◌, false≢true}
use mathlib.Core.List.{List, []}
use native.Mathlib.Nat.{zero-add, suc-add}
use native.Mathlib.Omega.{arith}
use borrow.Author.Tests.{eqb-true, le-ltb}
use lib.Dec.{eqb}
use lib.ListN.{length, replicate}
use Rattle.data.proofs.Cases.{by_bool}
use Rattle.cut.specs.Blanks.{skip_ws}
use Rattle.cut.specs.Runs.{unquoted_run}
use Rattle.cut.proofs.Blanks.{skip_lands}
use Rattle.tape.specs.declared.token.Token.{Token}
use Rattle.tape.specs.Tape.{Tape, unbounded}
use Rattle.tape.specs.Words.{words_of, padded}
use Rattle.tape.proofs.Views.{tokens-back}
use Rattle.machine.specs.declared.State.{State}
use Rattle.machine.specs.declared.State.TheVariants.{Key, KeyValueSeparator, ObjectValue, ParseOpen, ArrayValue}
use Rattle.machine.specs.declared.Machine.{Machine}
use Rattle.machine.specs.declared.Refusal as Refusals
use Rattle.machine.specs.declared.Refusal.{Refusal}
use Rattle.machine.specs.Refusals.{number}
use Rattle.machine.specs.Machine.{byte_at, to}
use Rattle.parse.specs.After.{After, next, done, refused}
use Rattle.machine.specs.Start.{has_bom, start}
use Rattle.parse.specs.Parse.{state_turn, turn, run, enough, text_limit, answer}
use Rattle.parse.specs.Told.{bit, tell_parse}
use Rattle.parse.proofs.Splits.{by_skipped, by_state}
use Rattle.parse.proofs.States.{in_key, in_separator, in_object-value, in_parse_open, in_array-value}
use Rattle.parse.proofs.Runs.{run-done, run-refused, Ended, run_ends, within-enough}
use Rattle.promises.specs.Mixed.{Mixes}
use Rattle.promises.specs.Room.{tape_of, after_turns, run_in, unbounded_parse, state_lays, turn_lays, and_one, laid_by, laid_in, laid_down}
use Rattle.rust_tape.specs.RustCuts.{split_at_scalar}
use Rattle.rust_tape.specs.RustTape as Rust
use Rattle.rust_tape.specs.RustTape.{Parser, Flow, TextToken, ErrorKind, Source, source, rust_turn, rust_loop, turns_by, parsed_by}
use Rattle.rust_tape.specs.RustDomain.{InDomain, CutAlike, key_runs, object_runs, open_runs, array_runs, state_runs, turn_runs}
use Rattle.promises.specs.Each.{Each}
use Rattle.rust_tape.specs.RustDomain.{Along, Throughout}
use Rattle.rust_tape.specs.Answers.{as_rust, answered, answer_by}
use Rattle.rust_tape.specs.Demand2.{SpokenOf, Returned, NeverTaken, RunsBy, RustRuns}
use Rattle.promises.proofs.Alike.{Going, Known}
use Rattle.promises.proofs.AlikeTurns.{turn-alike, lays-key, lays_separator, lays-value, lays_open, lays-array}
use Rattle.promises.proofs.Room.{laid_done, laid-refused, turns-alike, run-alike}
use Rattle.promises.proofs.Links.Nest.{by-below}
use Rattle.promises.proofs.Links.Rows.{add-length}
use Rattle.promises.proofs.Links.Held.{Held, Shaped, All, unsettled}
use Rattle.promises.proofs.Links.Turns.{turn-held}
use Rattle.promises.proofs.Links.Parse.{run-from-start}
use Rattle.rust_tape.proofs.Domain.{in_domain-alike}
use Rattle.rust_tape.proofs.RustDomain.{throughout_all, throughout_map}
use Rattle.rust_tape.proofs.RustParts.{slice-there, skip-same}
use Rattle.rust_tape.proofs.RustReads.{as_state, as_container, tape-length, container-read, forms-read, top-nothing, end-last}
use Rattle.rust_tape.proofs.RustTurns.{parser_of, Same, byte-stands, separator_same, object-value-same}
use Rattle.rust_tape.proofs.RustKey.{key-same, end_same}
use Rattle.rust_tape.proofs.RustOpen.{parse_open_same}
use Rattle.rust_tape.proofs.RustArray.{array-value-same}

-- ---- which turn a state makes, and what it cuts
module _ (src : Source) (p : Parser) where
  rust_key : p.state ≡ Rust.Key → Rust.by_its_state src p ≡ Rust.key_arm src p
  unfolding Rust.by_its_state
  rust_key e = cc

  rust_separator : p.state ≡ Rust.KeyValueSeparator → Rust.by_its_state src p ≡ Rust.separator_arm p
  unfolding Rust.by_its_state
  rust_separator e = cc

  rust_value : p.state ≡ Rust.ObjectValue → Rust.by_its_state src p ≡ Rust.value_arm src p
  unfolding Rust.by_its_state
  rust_value e = cc

  rust_open : p.state ≡ Rust.ParseOpen → Rust.by_its_state src p ≡ Rust.open_arm src p
  unfolding Rust.by_its_state
  rust_open e = cc

  rust_array : p.state ≡ Rust.ArrayValue → Rust.by_its_state src p ≡ Rust.array_arm src p
  unfolding Rust.by_its_state
  rust_array e = cc

module _ (text : List ℕ) (m : Machine) where
  runs_key : m.state ≡ Key → state_runs text m ≡ key_runs text m.at
  unfolding state_runs
  runs_key e = cc

  runs_value : m.state ≡ ObjectValue → state_runs text m ≡ object_runs text m.at
  unfolding state_runs
  runs_value e = cc

  runs_open : m.state ≡ ParseOpen → state_runs text m ≡ open_runs text m.mixed m.at
  unfolding state_runs
  runs_open e = cc

  runs_array : m.state ≡ ArrayValue → state_runs text m ≡ array_runs text m.at
  unfolding state_runs
  runs_array e = cc

-- ---- a turn
module _ (cut : List ℕ → ℕ) (text : List ℕ) (ts : List Token) (m : Machine) (sized : length ts ≡ m.count) (mixes : Mixes m.state m.mixed)
    (held : Held m ts) where
  shape : (s : State) → m.state ≡ s → Shaped s m.mixed m.parent ts
  shape s e = subst (λ (x : State). Shaped x m.mixed m.parent ts) e held.shaped

  off : (s : State) → m.state ≡ s → Mixes s m.mixed
  off s e = subst (λ (x : State). Mixes x m.mixed) e mixes

  opened : m.state ≡ ParseOpen → 1 ≤ length ts
  opened e = let s = shape ParseOpen e in rw s.1 (omega (arith, add-length s.0 unsettled))

  -- at a byte that is no blank; a token stands only past a byte
  state-same : m.at < length text → (1 ≤ length ts → 1 ≤ m.at) → Each (CutAlike cut text) (state_runs text m)
      → Same text (and_one m.count (state_lays text (tape_of unbounded ts) m)) (Rust.by_its_state (source cut text) (parser_of text m ts))
      (state_turn text (tape_of unbounded ts) m)
  state-same here past i =
      let src : Source = source cut text in
      let p : Parser = parser_of text m ts in
      let t : Tape = tape_of unbounded ts in
      by_state m.state
      (λ e. rw (lays-key text t m e, rust_key src p (rw e), in_key text t m e)
      (key-same cut text ts m sized here e (off Key e) (shape Key e).kept (rw (runs_key text m e) at i)))
      (λ e. rw (lays_separator text t m e, rust_separator src p (rw e), in_separator text t m e)
      (separator_same cut text ts m sized here (off KeyValueSeparator e) (shape KeyValueSeparator e).1))
      (λ e. rw (lays-value text t m e, rust_value src p (rw e), in_object-value text t m e)
      (object-value-same cut text ts m sized here (rw (runs_value text m e) at i)))
      (λ e. rw (lays_open text t m e, rust_open src p (rw e), in_parse_open text t m e)
      (parse_open_same cut text ts m sized here (opened e) e (rw (runs_open text m e) at i)))
      (λ e.
      let s = shape ArrayValue e in
      rw (lays-array text t m e, rust_array src p (rw e), in_array-value text t m e)
      (array-value-same cut text ts m sized here s.1 e (past s.1) s.0.kept (rw (runs_array text m e) at i)))

pub turn-same : (cut : List ℕ → ℕ) (text : List ℕ) (ts : List Token) (m : Machine) → Going text (2 * length text) m (tape_of unbounded ts)
    → Held m ts → Each (CutAlike cut text) (turn_runs text m)
    → Same text (and_one m.count (turn_lays text (tape_of unbounded ts) m)) (rust_turn (source cut text) (parser_of text m ts))
    (turn text (tape_of unbounded ts) m)
unfolding rust_turn turn turn_lays turn_runs
turn-same cut text ts m g h i =
    by_skipped (skip_ws text m.at)
    (λ q e.
    let landed = skip_lands text m.at q e in
    let moved : Held (to m q m.state m.count) ts = record { counted = h.counted; shaped = h.shaped } in
    let past : 1 ≤ length ts → 1 ≤ q = λ one. omega (arith, g.sized, g.paid, landed.from, landed.within) in
    rw (rust_turn, skip-same text m.at e, turn, turn_lays, e)
    (state-same cut text ts (to m q m.state m.count) g.sized g.mixes moved landed.within past (rw (turn_runs, e) at i)))
    (λ e.
    rw (rust_turn, skip-same text m.at e, turn, turn_lays, e)
    (end_same text ts m g.sized (λ st. (subst (λ (x : State). Shaped x m.mixed m.parent ts) st h.shaped).kept)))

-- ---- a run
loop-ok : (src : Source) (turns : ℕ) (us : List TextToken) → rust_loop src turns (Rust.ok us) ≡ Rust.ok us
unfolding rust_loop
loop-ok src zero us = refl
loop-ok src (suc turns) us = refl

loop-err : (src : Source) (turns : ℕ) (e : ErrorKind) (us : List TextToken) → rust_loop src turns (Rust.err e us) ≡ Rust.err e us
unfolding rust_loop
loop-err src zero e us = refl
loop-err src (suc turns) e us = refl

loop-panic : (src : Source) (turns : ℕ) → rust_loop src turns Rust.panic ≡ Rust.panic
unfolding rust_loop
loop-panic src zero = refl
loop-panic src (suc turns) = refl

loop-add : (src : Source) (a b : ℕ) (x : Flow) → rust_loop src (a + b) x ≡ rust_loop src b (rust_loop src a x)
unfolding rust_loop
loop-add src zero b x = rw (zero-add b)
loop-add src (suc a) b (Rust.loop p) = rw (suc-add a b) (loop-add src a b (rust_turn src p))
loop-add src (suc a) b (Rust.ok us) = loop-ok src (suc a + b) us ∙ sym (loop-ok src b us)
loop-add src (suc a) b (Rust.err e us) = loop-err src (suc a + b) e us ∙ sym (loop-err src b e us)
loop-add src (suc a) b Rust.panic = loop-panic src (suc a + b) ∙ sym (loop-panic src b)

module _ (cut : List ℕ → ℕ) (text : List ℕ) where
  abbrev most : ℕ
  most = 2 * length text

  abbrev Runs : ℕ → Type 0
  Runs n = (m : Machine) (ts : List Token) (w : ℕ) → Going text most m (tape_of unbounded ts) → Held m ts
      → Along (CutAlike cut text) text n (next m (tape_of unbounded ts))
      → Same text (laid_in text n w (next m (tape_of unbounded ts))) (rust_loop (source cut text) n (Rust.loop (parser_of text m ts)))
      (run text n (next m (tape_of unbounded ts)))

  free-tape : (m : Machine) (t : Tape) → Going text most m t → t ≡ tape_of unbounded t.tokens
  free-tape m t g = λ i. record { room = g.free i; tokens = t.tokens }

  rest-same : (n w : ℕ) (x : Flow) (u : After) → Runs n → Same text w x u → Known text most u → All Held u → Along (CutAlike cut text) text n u
      → Same text (laid_in text n w u) (rust_loop (source cut text) n x) (run text n u)
  rest-same n w (Rust.loop p) (next m t) runs s k h d =
      let free = free-tape m t k in
      rw (s, free)
      (runs m t.tokens w (subst (λ (v : Tape). Going text most m v) free k) h (subst (λ (v : Tape). Along (CutAlike cut text) text n (next m v)) free d))
  rest-same n w (Rust.loop p) (done c t) runs s k h d = absurd s
  rest-same n w (Rust.loop p) (refused r) runs s k h d = absurd s
  rest-same n w (Rust.ok us) (next m t) runs s k h d = absurd s
  rest-same n w (Rust.ok us) (done c t) runs s k h d = rw (laid_done text n w c t, loop-ok (source cut text) n us, run-done text n c t) s
  rest-same n w (Rust.ok us) (refused r) runs s k h d = absurd s
  rest-same n w (Rust.err e us) (next m t) runs s k h d = absurd s
  rest-same n w (Rust.err e us) (done c t) runs s k h d = absurd s
  rest-same n w (Rust.err e us) (refused r) runs s k h d = rw (laid-refused text n w r, loop-err (source cut text) n e us, run-refused text n r) s
  rest-same n w Rust.panic u runs s k h d = absurd s

  runs_same : (n : ℕ) → Runs n
  unfolding run laid_in rust_loop
  runs_same zero m ts w g h d = refl
  runs_same (suc n) m ts w g h d =
      let t : Tape = tape_of unbounded ts in
      rest-same n (and_one m.count (turn_lays text t m)) (rust_turn (source cut text) (parser_of text m ts)) (turn text t m) (runs_same n)
      (turn-same cut text ts m g h d.0) (turn-alike text most 0 m t g).known (turn-held text t m h) d.1

-- ---- the parse
both-ones : (a b c : Bool) → (a && (b && c)) ≡ true → c ≡ true
both-ones true true c e = e
both-ones true false c e = absurd (false≢true e)
both-ones false b c e = absurd (false≢true e)

begins : (text : List ℕ) → Rust.begin text ≡ Rust.loop (parser_of text (start (has_bom text)) [])
unfolding Rust.begin Rust.utf8_bom has_bom start
begins text =
    by_bool (has_bom text)
    (λ e.
    let last : eqb (byte_at text 2) 0xbf ≡ true = both-ones (eqb (byte_at text 0) 0xef) (eqb (byte_at text 1) 0xbb) (eqb (byte_at text 2) 0xbf) e in
    let third : 2 < length text = byte-stands text 2 0xbf (eqb-true (byte_at text 2) 0xbf last) (λ z. omega arith) in
    rw (Rust.begin, e, slice-there text 0 3 (omega arith)))
    (λ e. rw (Rust.begin, e))

-- how many tokens ours has laid down after so many turns
abbrev pub laid_after : List ℕ → ℕ → ℕ
laid_after text n = laid_in text n 0 (next (start (has_bom text)) (tape_of unbounded []))

-- after any number of turns
pub turns_same : (cut : List ℕ → ℕ) (text : List ℕ) (n : ℕ)
    → Along (CutAlike cut text) text n (next (start (has_bom text)) (tape_of unbounded []))
    → Same text (laid_after text n) (turns_by cut text n) (after_turns text n unbounded)
unfolding turns_by start run
turns_same cut text n d =
    rw (turns_by, begins text)
    (runs_same cut text n (start (has_bom text)) [] 0
    (record { free = refl; sized = refl; mixes = refl; paid = omega arith }) (run-from-start text 0 (has_bom text) (tape_of unbounded []) refl) d)

-- what holds along more turns does along fewer
along-less : (P : ℕ → Type 0) (text : List ℕ) (n more : ℕ) (x : After) → Along P text (n + more) x → Along P text n x
along-less P text zero more x d = tt
along-less P text (suc n) more (next m t) d = let e = rw (suc-add n more) at d in (e.0, along-less P text n more (turn text t m) e.1)
along-less P text (suc n) more (done c t) d = tt
along-less P text (suc n) more (refused r) d = tt

-- what is the same as an answer that has ended has returned, and more turns leave it
returned_same : (text : List ℕ) (w : ℕ) (x : Flow) (u : After) → Ended u → Same text w x u → Returned x
returned_same text w (Rust.loop p) (next m t) k s = k
returned_same text w (Rust.loop p) (done c t) k s = s
returned_same text w (Rust.loop p) (refused r) k s = s
returned_same text w (Rust.ok us) u k s = tt
returned_same text w (Rust.err e us) u k s = tt
returned_same text w Rust.panic u k s = s

returned_rests : (src : Source) (turns : ℕ) (x : Flow) → Returned x → rust_loop src turns x ≡ x
returned_rests src turns (Rust.loop p) h = absurd h
returned_rests src turns (Rust.ok us) h = loop-ok src turns us
returned_rests src turns (Rust.err e us) h = loop-err src turns e us
returned_rests src turns Rust.panic h = absurd h

-- what is the same has laid down as much
held_same : (text : List ℕ) (w budget : ℕ) (x : Flow) (u : After) → Known text budget u → laid_by w u ≡ w → Same text w x u → Rust.held x ≡ w
held_same text w budget (Rust.loop p) (next m t) k l s = rw s (tape-length t.tokens m.count k.sized ∙ l)
held_same text w budget (Rust.loop p) (done c t) k l s = absurd s
held_same text w budget (Rust.loop p) (refused r) k l s = absurd s
held_same text w budget (Rust.ok us) (next m t) k l s = absurd s
held_same text w budget (Rust.ok us) (done c t) k l s = rw s (tape-length t.tokens c k ∙ l)
held_same text w budget (Rust.ok us) (refused r) k l s = absurd s
held_same text w budget (Rust.err e us) (next m t) k l s = absurd s
held_same text w budget (Rust.err e us) (done c t) k l s = absurd s
held_same text w budget (Rust.err e us) (refused r) k l s = s.2
held_same text w budget Rust.panic u k l s = absurd s

-- ---- what is the same is told the same
bit-read : (b : Bool) → eqb (bit b) 1 ≡ b
bit-read true = refl
bit-read false = refl

some_number : (r : Refusal) → eqb (number r) 0 ≡ false
some_number Refusals.TheVariants.TooLong = refl
some_number Refusals.TheVariants.Eof = refl
some_number (Refusals.TheVariants.StackEmpty p) = refl
some_number (Refusals.TheVariants.NoHeader p) = refl
some_number (Refusals.TheVariants.NoValue p) = refl
some_number (Refusals.TheVariants.MixedParameter p) = refl
some_number (Refusals.TheVariants.NothingPrecedes p) = refl
some_number (Refusals.TheVariants.UnknownOperator p) = refl
some_number (Refusals.TheVariants.NoParameter p) = refl
some_number (Refusals.TheVariants.OpenName p) = refl
some_number Refusals.TheVariants.Full = refl

told_same : (text : List ℕ) (bom : Bool) (len w budget : ℕ) (x : Flow) (u : After) → Known text budget u → All Held u → Ended u → Same text w x u
    → as_rust (tell_parse (answer bom len u)) ≡ answered bom x
unfolding padded
told_same text bom len w budget (Rust.loop p) (next m t) k h d s = absurd d
told_same text bom len w budget (Rust.loop p) (done c t) k h d s = absurd s
told_same text bom len w budget (Rust.loop p) (refused r) k h d s = absurd s
told_same text bom len w budget (Rust.ok us) (next m t) k h d s = absurd s
told_same text bom len w budget (Rust.ok us) (done c t) k h d s =
    let ts : List Token = t.tokens in
    let zeros : List ℕ = replicate (len - length (words_of ts)) 0 in
    rw (bit-read bom, padded, sym k, tokens-back ts zeros, forms-read ts h.tokens.forms, s)
told_same text bom len w budget (Rust.ok us) (refused r) k h d s = absurd s
told_same text bom len w budget (Rust.err e us) (next m t) k h d s = absurd s
told_same text bom len w budget (Rust.err e us) (done c t) k h d s = absurd s
told_same text bom len w budget (Rust.err e us) (refused r) k h d s = rw (as_rust, some_number r, s.0, s.1)
told_same text bom len w budget Rust.panic u k h d s = absurd s

bom-same : (text : List ℕ) → Rust.utf8_bom text ≡ has_bom text
unfolding Rust.utf8_bom has_bom
bom-same text = refl

-- a state is not two
abbrev rank : Rust.ParseState → ℕ
rank Rust.Key = 0
rank Rust.KeyValueSeparator = 1
rank Rust.ObjectValue = 2
rank Rust.ArrayValue = 3
rank Rust.ParseOpen = 4

other-state : {a b : Rust.ParseState} → a ≡ b → (rank a ≡ rank b → ⊥) → ⊥
other-state e apart = apart (ap rank e)

-- ---- the three branches, of the locals that are those of a machine
never_of : (text : List ℕ) (m : Machine) (ts : List Token) → Mixes m.state m.mixed → Held m ts → NeverTaken (parser_of text m ts)
never_of text m ts mixes held =
    by_state m.state
    (λ e.
    let s = subst (λ (x : State). Shaped x m.mixed m.parent ts) e held.shaped in
    record {
      unmixed = λ f. absurd (other-state (sym f ∙ ap as_state e) (λ z. omega arith));
      opened = λ f. absurd (other-state (sym f ∙ ap as_state e) (λ z. omega arith));
      top = λ f. container-read ts 0 ∙ ap as_container (top-nothing ts s.kept);
    })
    (λ e. record {
      unmixed = λ f. subst (λ (x : State). Mixes x m.mixed) e mixes;
      opened = λ f. absurd (other-state (sym f ∙ ap as_state e) (λ z. omega arith));
      top = λ f. absurd (other-state (sym f ∙ ap as_state e) (λ z. omega arith));
    })
    (λ e. record {
      unmixed = λ f. absurd (other-state (sym f ∙ ap as_state e) (λ z. omega arith));
      opened = λ f. absurd (other-state (sym f ∙ ap as_state e) (λ z. omega arith));
      top = λ f. absurd (other-state (sym f ∙ ap as_state e) (λ z. omega arith));
    })
    (λ e. record {
      unmixed = λ f. absurd (other-state (sym f ∙ ap as_state e) (λ z. omega arith));
      opened = λ f. absurd (other-state (sym f ∙ ap as_state e) (λ z. omega arith));
      top = λ f. absurd (other-state (sym f ∙ ap as_state e) (λ z. omega arith));
    })
    (λ e.
    let s = subst (λ (x : State). Shaped x m.mixed m.parent ts) e held.shaped in
    record {
      unmixed = λ f. absurd (other-state (sym f ∙ ap as_state e) (λ z. omega arith));
      opened = λ f i l. end-last ts s.0.kept s.1 i l;
      top = λ f. absurd (other-state (sym f ∙ ap as_state e) (λ z. omega arith));
    })

-- ---- a text within the limit, where the cut is ours wherever our parse cuts
module _ (cut : List ℕ → ℕ) (text : List ℕ) (within : length text ≤ text_limit) (alike : Throughout (CutAlike cut text) text) where
  -- our own run with no bound, and that it has ended
  ended : Ended (run_in unbounded text)
  unfolding run_in
  ended = run_ends text (enough text) (start (has_bom text)) (tape_of unbounded []) (within-enough text (start (has_bom text)))

  holds : All Held (run_in unbounded text)
  unfolding run_in
  holds = run-from-start text (enough text) (has_bom text) (tape_of unbounded []) refl

  whole : Same text (laid_after text (enough text)) (parsed_by cut text) (run_in unbounded text)
  unfolding parsed_by run_in
  whole = turns_same cut text (enough text) alike

  returns : Returned (parsed_by cut text)
  returns = returned_same text (laid_after text (enough text)) (parsed_by cut text) (run_in unbounded text) ended whole

  settles : (more : ℕ) → turns_by cut text (2 * length text + 2 + more) ≡ parsed_by cut text
  unfolding turns_by parsed_by
  settles more =
      loop-add (source cut text) (2 * length text + 2) more (Rust.begin text) ∙ returned_rests (source cut text) more (parsed_by cut text) returns

  reached : (p : Parser) (w : ℕ) (u : After) → Same text w (Rust.loop p) u → Known text (2 * length text) u → All Held u → NeverTaken p
  reached p w (next m t) s k h = rw s (never_of text m t.tokens k.mixes h)
  reached p w (done c t) s k h = absurd s
  reached p w (refused r) s k h = absurd s

  within-turns : (n more : ℕ) (p : Parser) → enough text ≡ n + more → turns_by cut text n ≡ Rust.loop p → NeverTaken p
  within-turns n more p long e =
      let d = subst (λ (k : ℕ). Along (CutAlike cut text) text k (next (start (has_bom text)) (tape_of unbounded []))) long alike in
      let s = turns_same cut text n (along-less (CutAlike cut text) text n more (next (start (has_bom text)) (tape_of unbounded [])) d) in
      reached p (laid_after text n) (after_turns text n unbounded)
      (subst (λ (x : Flow). Same text (laid_after text n) x (after_turns text n unbounded)) e s)
      (turns-alike text n 0).known (run-from-start text n (has_bom text) (tape_of unbounded []) refl)

  never : (n : ℕ) (p : Parser) → turns_by cut text n ≡ Rust.loop p → NeverTaken p
  never n p e =
      by-below n (enough text)
      (λ h. within-turns n (enough text - n) p (omega arith) e)
      (λ h.
      let long : 2 * length text + 2 + (n - enough text) ≡ n = omega arith in
      let same : turns_by cut text n ≡ parsed_by cut text = ap (turns_by cut text) (sym long) ∙ settles (n - enough text) in
      absurd (subst Returned (sym same ∙ e) returns))

  -- the same refusal with its place, or the same tokens and BOM
  told : (len : ℕ) → as_rust (tell_parse (unbounded_parse text len)) ≡ answer_by cut text
  unfolding unbounded_parse answer_by
  told len =
      rw (unbounded_parse, le-ltb text_limit (length text) within, bom-same text)
      (told_same text (has_bom text) len (laid_after text (enough text)) (2 * length text) (parsed_by cut text) (run_in unbounded text)
      (run-alike text 0).known holds ended whole)

  -- and as many tokens laid down, where it refuses too
  laid : Rust.held (parsed_by cut text) ≡ laid_down text
  unfolding laid_down run_in
  laid =
      rw (laid_down, le-ltb text_limit (length text) within)
      (held_same text (laid_after text (enough text)) (2 * length text) (parsed_by cut text) (run_in unbounded text)
      (run-alike text 0).known (run-alike text 0).told whole)

  runs_alike : RunsBy cut text
  runs_alike = record { alike = told; laid = laid; returns = returns; settles = settles; never = never }

-- the Rust's parse by our own cut, on every text within the limit
pub runs_by_our_cut : (text : List ℕ) → length text ≤ text_limit → RunsBy unquoted_run text
runs_by_our_cut text within = runs_alike unquoted_run text within (throughout_all (CutAlike unquoted_run text) text (λ at h. refl))

-- and by its own, on a text of the domain
pub rust_runs : (text : List ℕ) → SpokenOf text → RustRuns text
rust_runs text spoken =
    runs_alike split_at_scalar text spoken.within
    (throughout_map (InDomain text) (CutAlike split_at_scalar text) text (in_domain-alike text) spoken.domain)
