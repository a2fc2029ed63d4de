-- Which quoted runs hold an escape, as specs/Escapes states it: a scalar's kind is its cut's, and no move changes a quoted token.
-- Assumes nothing.
use Rattle.std.specs.Prelude.{Result, Ok, Err}
use mathlib.Core.Path.{◌≡◌, refl, sym}
use mathlib.Core.Bool.{Bool, true, false, false≢true}
use mathlib.Core.List.{List, [], ◌∷◌, ◌++◌}
use Prim.Native.Nat.{ℕ, ◌+◌, ◌-◌, ◌≤◌}
use native.Mathlib.Omega.{arith}
use lib.ListN.{length, set}
use Rattle.data.proofs.Cases.{by_bool}
use Rattle.cut.specs.Quotes.{Tells}
use Rattle.cut.proofs.Scalars.{quoted_bounds}
use Rattle.tape.specs.declared.token.Token.{Token}
use Rattle.tape.specs.declared.token.ContainerKind.{ContainerKind}
use Rattle.tape.specs.declared.token.ContainerKind.TheVariants.{Array, Object}
use Rattle.tape.specs.declared.token.ScalarKind.{ScalarKind}
use Rattle.tape.specs.declared.token.ScalarKind.TheVariants.{Unquoted, Parameter, UndefinedParameter}
use Rattle.tape.specs.Token.{quoted_code, quoted_escape_code, no_token, mixed_container_token, opener_of, scalar_of, quoted_kind, headed, nth}
use Rattle.tape.specs.Words.{token_in, tokens_in}
use Rattle.tape.specs.Tape.{before_last, token_at, replace}
use Rattle.machine.specs.declared.Machine.{Machine}
use Rattle.machine.specs.declared.Parsed.{Parsed}
use Rattle.machine.specs.Machine.{to}
use Rattle.machine.specs.Start.{has_bom, start}
use Rattle.machine.specs.Finish.{outcome, with_tokens}
use Rattle.parse.specs.ParseOpen.{flag_parent}
use Rattle.parse.specs.Parse.{parse_of}
use Rattle.parse.specs.Told.{tell_parse}
use Rattle.parse.proofs.Splits.{by-container}
use Rattle.parse.proofs.Moves.{Moved, goes, ends, stops, container_in, unsettled, closed_as, flagged, Taken, unquoted, quoted, Named, defined}
use Rattle.parse.proofs.Moves.{undefined, Asks}
use Rattle.parse.proofs.Moves.{asks_key, asks_open, Came, passes, separates, takes, separates_by, operates, mixes, mixes_by, opens, heads, closes, empties}
use Rattle.parse.proofs.Moves.{settles, begins, values, objects, refuses, Over, done_bare, done_closed, too_early}
use Rattle.parse.proofs.Walk.{Meets, Keeps, parse_keeps}
use Rattle.parse.proofs.parse.Reads as parse
use Rattle.promises.specs.Escapes.{Says, EscapesTold}
use Rattle.promises.proofs.Demand1.{numbered}
use Rattle.promises.specs.Each.{Each}
use Rattle.promises.proofs.Each.{each-add, each_set, each-before_last, each_at}
use Rattle.promises.proofs.Rising.{start-kept}
use Rattle.promises.proofs.Rising.Turns.{Risen, RisenWhole, turn_keeps}
use Rattle.machine.specs.declared.Refusal.{Refusal}

module _ (text : List ℕ) where
  -- each of some tokens; it is not looked into, so that lists may be left for the checker to find
  unfoldable Saying : List Token → Type 0
  Saying ts = Each (Says text) ts

  none_says : Saying []
  unfolding Saying
  none_says = tt

  add_says : (ts : List Token) (x : Token) → Says text x → Saying ts → Saying (ts ++ (x ∷ []))
  unfolding Saying
  add_says ts x s h = each-add (Says text) ts x s h

  set_says : (ts : List Token) (i : ℕ) (x : Token) → Says text x → Saying ts → Saying (set ts i x)
  unfolding Saying
  set_says ts i x s h = each_set (Says text) ts i x s h

  -- ---- what is laid down
  -- a token of another code says nothing
  silent : (x : Token) → (x.code ≡ quoted_escape_code → ⊥) → (x.code ≡ quoted_code → ⊥) → Says text x
  silent x e f = record { escaped = λ c. absurd (e c); plain = λ c. absurd (f c) }

  opener_says : (kind : ContainerKind) (link : ℕ) (mixed : Bool) → Says text (opener_of kind link mixed)
  opener_says Array link mixed = silent (opener_of Array link mixed) (λ e. omega arith) (λ e. omega arith)
  opener_says Object link mixed = silent (opener_of Object link mixed) (λ e. omega arith) (λ e. omega arith)

  name_says : {at : ℕ} {kind : ScalarKind} {start : ℕ} → Named text at kind start → (offset size : ℕ) → Says text (scalar_of kind offset size)
  name_says (defined e f) offset size = silent (scalar_of Parameter offset size) (λ c. omega arith) (λ c. omega arith)
  name_says (undefined e f) offset size = silent (scalar_of UndefinedParameter offset size) (λ c. omega arith) (λ c. omega arith)

  run_says : (offset size : ℕ) → Says text (scalar_of Unquoted offset size)
  run_says offset size = silent (scalar_of Unquoted offset size) (λ c. omega arith) (λ c. omega arith)

  quoted_says : (start end : ℕ) (escaped : Bool) → start ≤ end → Tells text start end escaped
      → Says text (scalar_of (quoted_kind escaped) start (end - start))
  quoted_says start end true h t =
      let ends : end ≡ start + (end - start) = omega arith in
      record { escaped = λ c. rw (← ends) (t.0 refl); plain = λ c. absurd (omega arith) }
  quoted_says start end false h t =
      let ends : start + (end - start) ≡ end = omega arith in
      record { escaped = λ c. absurd (omega arith); plain = λ c s. false≢true (t.1 (rw ends at s)) }

  taken_says : {at : ℕ} {x : Token} {rest : ℕ} → Taken text at x rest → Says text x
  taken_says (unquoted start end rest q) = run_says start (end - start)
  taken_says {at} (quoted start end rest escaped q) =
      let v = quoted_bounds text at start end rest escaped q in quoted_says start end escaped v.run.from v.run.tells

  -- ---- what the moves keep
  -- the parent's stored flag
  flagged_says : (ts : List Token) (m : Machine) → Saying ts → Saying (flagged ts m)
  unfolding flag_parent token_at replace
  flagged_says ts m h =
      by_bool m.mixed
      (λ e. by-container (container_in ts m.parent)
      (λ kind link mixed f. rw (flagged, flag_parent, e, f) (set_says ts m.parent (opener_of kind link true) (opener_says kind link true) h))
      (λ f. rw (flagged, flag_parent, e, f) h))
      (λ e. rw (flagged, flag_parent, e) h)

  -- where a parameter is asked for
  asks_says : {m : Machine} {ts : List Token} {parent : ℕ} {us : List Token} → Asks m ts parent us → Saying ts → Saying us
  asks_says (asks_key e) h = h
  asks_says {m} {ts} (asks_open e off) h = set_says ts (m.count - 1) (opener_of Object m.parent false) (opener_says Object m.parent false) h

  -- an opener that is closed
  closed_says : (ts : List Token) (i : ℕ) (kind : ContainerKind) (link : ℕ) (mixed : Bool) → Saying ts
      → Saying (closed_as ts i (opener_of kind link mixed))
  closed_says ts i kind link mixed h =
      add_says (set ts i (opener_of kind link mixed)) _ (silent _ (λ c. omega arith) (λ c. omega arith)) (set_says ts i _ (opener_says kind link mixed) h)

  abbrev Going : Machine → List Token → Type 0
  Going m ts = Saying ts

  abbrev Ended : ℕ → List Token → Type 0
  Ended n ts = Saying ts

  -- a token of another code that is laid down
  other : (ts : List Token) (x : Token) → (x.code ≡ quoted_escape_code → ⊥) → (x.code ≡ quoted_code → ⊥) → Saying ts
      → Saying (ts ++ (x ∷ []))
  other ts x e f h = add_says ts x (silent x e f) h

  mixed_says : (ts : List Token) → Saying ts → Saying (before_last ts mixed_container_token)
  unfolding Saying
  mixed_says ts h = each-before_last (Says text) ts mixed_container_token (silent mixed_container_token (λ c. omega arith) (λ c. omega arith)) h

  opened_says : (ts : List Token) → Saying ts → Saying (ts ++ (unsettled ∷ []))
  opened_says ts h = add_says ts unsettled (opener_says Array 0 false) h

  move_says : (m : Machine) (ts : List Token) → Saying ts → {n : ℕ} {x : Moved} → Came text m ts n x → Meets Going Ended x
  move_says m ts h (passes at e f) = h
  move_says m ts h (separates at e f) = h
  move_says m ts h (takes {x} s taken) = add_says ts x (taken_says taken) h
  move_says m ts h (separates_by o e f g) = other ts _ (λ c. omega arith) (λ c. omega arith) h
  move_says m ts h (operates o e f g) = other ts _ (λ c. omega arith) (λ c. omega arith) h
  move_says m ts h (mixes e) = mixed_says ts h
  move_says m ts h (mixes_by o e f s g) =
      other (before_last ts mixed_container_token) _ (λ c. omega arith) (λ c. omega arith) (mixed_says ts h)
  move_says m ts h (opens s) = opened_says ts h
  move_says m ts h (heads e f s) =
      opened_says _ (set_says ts (m.count - 1) _ (silent (headed (nth ts (m.count - 1))) (λ c. omega arith) (λ c. omega arith)) h)
  move_says m ts h (closes {kind} s e) = closed_says ts m.parent kind m.count m.mixed h
  move_says m ts h (empties e) = closed_says ts (m.count - 1) Array m.count false h
  move_says m ts h (settles e) = set_says ts (m.count - 1) _ (opener_says Array m.parent false) h
  move_says m ts h (begins {x} {rest} {kind = kind} e taken f s) =
      set_says _ (m.count + 1 - 2) _ (opener_says kind m.parent false) (flagged_says (ts ++ (x ∷ [])) _ (add_says ts x (taken_says taken) h))
  move_says m ts h (values {us = us} asks asked valued) =
      add_says _ _ (run_says _ _) (add_says us _ (name_says asked.named _ _) (asks_says asks h))
  move_says m ts h (objects {parent} {us} asks asked valued) =
      add_says _ _ (run_says _ _) (add_says _ _ (opener_says Object parent false) (add_says us _ (name_says asked.named _ _) (asks_says asks h)))
  move_says m ts h (refuses r few) = tt

  end_says : (m : Machine) (ts : List Token) → Saying ts → {n : ℕ} {x : Moved} → Over m ts n x → Meets Going Ended x
  end_says m ts h (done_bare e f) = h
  end_says m ts h (done_closed e f g) = closed_says ts m.parent Object m.count false h
  end_says m ts h too_early = tt

  -- ---- with the views, whose walk counts the tokens
  abbrev Walks : Machine → List Token → Type 0
  Walks m ts = Risen (length text) m ts × Saying ts

  abbrev Walked : ℕ → List Token → Type 0
  Walked n ts = RisenWhole (length text) n ts × Saying ts

  both : (x : Moved) → Meets (Risen (length text)) (RisenWhole (length text)) x → Meets Going Ended x → Meets Walks Walked x
  both (goes m ts) a b = (a, b)
  both (ends n ts) a b = (a, b)
  both (stops r) a b = tt

  keeps : (m : Machine) (ts : List Token) → Walks m ts → Keeps Walks Walked text m ts
  keeps m ts h =
      let k = turn_keeps text m ts h.0 in
      record {
        moves = λ {p} {n} {x} landed by. both x (k.moves landed by) (move_says (to m p m.state m.count) ts h.1 by);
        finishes = λ {n} {x} by. both x (k.finishes by) (end_says m ts h.1 by);
      }

  parse_says : (len count : ℕ) (bom : Bool) (words : List ℕ) → parse_of text len ≡ outcome (with_tokens count bom) words
      → (i : ℕ) → Says text (token_in words count i)
  unfolding token_in Saying
  parse_says len count bom words e i =
      let ended : Walked count (tokens_in words count) =
      rw e at (parse_keeps Walks Walked text (start-kept (length text) (has_bom text), none_says) keeps (λ n ts h. h.0.counted) len) in
      each_at (Says text) (tokens_in words count) i (silent no_token (λ c. omega arith) (λ c. omega arith)) ended.1

-- ---- of the contract of `parse` itself
told_says : (text : List ℕ) (len : ℕ) (r : Result Parsed Refusal) (words : List ℕ) → outcome r words ≡ parse_of text len
    → EscapesTold text (tell_parse (outcome r words))
told_says text len (Ok p) words e = λ z. parse_says text len p.count p.bom words (sym e)
told_says text len (Err r) words e = λ z. absurd (numbered r z)

-- whatever answer and tape it allows
pub parse_tells : (κs : _) (args : _) (r : Result Parsed Refusal) (xs : _) → parse.Post κs args r xs
    → let text_lent : List ℕ = args.0.now in
    let tape_left : List ℕ = xs.1.0.now in
    EscapesTold text_lent (tell_parse (outcome r tape_left))
parse_tells κs args r xs p = told_says args.0.now (length args.1.0.now) r xs.1.0.now p
