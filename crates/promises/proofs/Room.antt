-- The parse with room for k tokens is Full exactly when the one with no bound lays down more than k, and otherwise answers the same.
-- Assumes nothing.
use Rattle.std.specs.Prelude.{Result, Ok, Err}
use mathlib.Core.Path.{◌≡◌, refl, sym, ◌∙◌, ap}
use mathlib.Core.Bool.{Bool, true, false}
use mathlib.Core.List.{List, []}
use mathlib.Core.Logic.{◌↔◌}
use Prim.Native.Nat.{ℕ, zero, suc, ◌+◌, ◌*◌, ◌≤◌, ◌<◌}
use native.Mathlib.Omega.{arith}
use borrow.Author.Tests.{ltb-true, ltb-false}
use lib.Dec.{ltb}
use lib.ListN.{length}
use Rattle.data.proofs.Cases.{by_bool}
use Rattle.tape.specs.Words.{capacity}
use Rattle.tape.specs.Tape.{Tape, holds, unbounded}
use Rattle.machine.specs.declared.Machine.{Machine}
use Rattle.machine.specs.declared.Refusal.{Refusal}
use Rattle.machine.specs.declared.Refusal.TheVariants.{TooLong, Full}
use Rattle.machine.specs.declared.Parsed.{Parsed}
use Rattle.machine.specs.Refusals.{number}
use Rattle.parse.specs.After.{After, next, done, refused}
use Rattle.machine.specs.Start.{has_bom, start}
use Rattle.machine.specs.Finish.{Outcome, outcome, refuse}
use Rattle.parse.specs.Parse.{turn, run, enough, text_limit, answer, parse_of}
use Rattle.parse.proofs.Runs.{run-done, run-refused}
use Rattle.promises.specs.Room.{tape_of, after_turns, run_in, unbounded_parse, turn_lays, and_one, laid_by, laid_in, laid_down}
use Rattle.promises.proofs.Alike.{in_room, Going, Known, Alike}
use Rattle.promises.proofs.AlikeTurns.{turn-alike}

-- what has ended has laid down what it has
pub laid_done : (text : List ℕ) (n w k : ℕ) (t : Tape) → laid_in text n w (done k t) ≡ k
unfolding laid_in
laid_done text zero w k t = refl
laid_done text (suc n) w k t = refl

pub laid-refused : (text : List ℕ) (n w : ℕ) (r : Refusal) → laid_in text n w (refused r) ≡ w
unfolding laid_in
laid-refused text zero w r = refl
laid-refused text (suc n) w r = refl

module _ (text : List ℕ) (budget k : ℕ) where
  -- a run from a machine that goes on
  abbrev Runs : ℕ → Type 0
  Runs n = (m : Machine) (t : Tape) (w : ℕ) → Going text budget m t
      → Alike text budget k m.count (laid_in text n w (next m t)) (run text n (next m (tape_of (holds k) t.tokens))) (run text n (next m t))

  -- a turn, and the rest of the run
  rest-alike : (n : ℕ) (c w : ℕ) (b u : After) → Runs n → Alike text budget k c (laid_by w u) b u
      → Alike text budget k c (laid_in text n w u) (run text n b) (run text n u)
  rest-alike n c w b (next m t) runs a =
      let i = runs m t w a.known in
      record {
        grows = omega (arith, a.grows, i.grows);
        most = i.most;
        fits = λ h. ap (run text n) (a.fits (omega (arith, i.grows))) ∙ i.fits h;
        full = λ h g. by_bool (ltb k m.count)
            (λ e. ap (run text n) (a.full h (ltb-true _ _ e)) ∙ run-refused text n Full)
            (λ e. let fit : m.count ≤ k = ltb-false _ _ e in ap (run text n) (a.fits fit) ∙ i.full fit g);
        told = i.told;
        known = i.known;
      }
  rest-alike n c w b (done j t) runs a =
      rw (laid_done text n w j t, run-done text n j t)
      record {
        grows = a.grows;
        most = a.most;
        fits = λ h. ap (run text n) (a.fits h) ∙ run-done text n j _;
        full = λ h g. ap (run text n) (a.full h g) ∙ run-refused text n Full;
        told = a.told;
        known = a.known;
      }
  rest-alike n c w b (refused r) runs a =
      rw (laid-refused text n w r, run-refused text n r)
      record {
        grows = a.grows;
        most = a.most;
        fits = λ h. ap (run text n) (a.fits h) ∙ run-refused text n r;
        full = λ h g. ap (run text n) (a.full h g) ∙ run-refused text n Full;
        told = a.told;
        known = a.known;
      }

  runs_alike : (n : ℕ) → Runs n
  unfolding run laid_in
  runs_alike zero m t w g =
      record { grows = omega arith; most = omega (arith, g.paid); fits = λ h. refl; full = λ h i. absurd (omega arith); told = refl; known = g }
  runs_alike (suc n) m t w g =
      rest-alike n m.count (and_one m.count (turn_lays text t m)) (turn text (tape_of (holds k) t.tokens) m) (turn text t m)
      (runs_alike n) (turn-alike text budget k m t g)

module _ (text : List ℕ) where
  -- how many tokens so many turns with no bound lay down
  abbrev pub laid_in_turns : ℕ → ℕ
  laid_in_turns n = laid_in text n 0 (next (start (has_bom text)) (tape_of unbounded []))

  abbrev pub laid_run : ℕ
  laid_run = laid_in_turns (enough text)

  pub turns-alike : (n k : ℕ) → Alike text (2 * length text) k 0 (laid_in_turns n) (after_turns text n (holds k)) (after_turns text n unbounded)
  unfolding start
  turns-alike n k =
      runs_alike text (2 * length text) k n (start (has_bom text)) (tape_of unbounded []) 0
      record { free = refl; sized = refl; mixes = refl; paid = omega arith }

  -- the whole run, from an empty tape
  pub run-alike : (k : ℕ) → Alike text (2 * length text) k 0 laid_run (run_in (holds k) text) (run_in unbounded text)
  unfolding run_in
  run-alike k = turns-alike (enough text) k

-- how an answer is told does not depend on the room
told-alike : (bom : Bool) (len k : ℕ) (x : After) → answer bom len (in_room k x) ≡ answer bom len x
told-alike bom len k (next m t) = refl
told-alike bom len k (done n t) = refl
told-alike bom len k (refused r) = refl

-- ---- a text within the limit, and one over it
module _ (text : List ℕ) (len : ℕ) where
  pub parse_within : ltb text_limit (length text) ≡ false → parse_of text len ≡ answer (has_bom text) len (run_in (holds (capacity len)) text)
  unfolding parse_of run_in start
  parse_within e = rw (parse_of, e)

  pub parse_over : ltb text_limit (length text) ≡ true → parse_of text len ≡ refuse len TooLong
  unfolding parse_of
  parse_over e = rw (parse_of, e)

  unbounded-within : ltb text_limit (length text) ≡ false → unbounded_parse text len ≡ answer (has_bom text) len (run_in unbounded text)
  unfolding unbounded_parse
  unbounded-within e = rw (unbounded_parse, e)

  unbounded-over : ltb text_limit (length text) ≡ true → unbounded_parse text len ≡ refuse len TooLong
  unfolding unbounded_parse
  unbounded-over e = rw (unbounded_parse, e)

laid-within : (text : List ℕ) → ltb text_limit (length text) ≡ false → laid_down text ≡ laid_run text
unfolding laid_down
laid-within text e = rw (laid_down, e)

laid-over : (text : List ℕ) → ltb text_limit (length text) ≡ true → laid_down text ≡ 0
unfolding laid_down
laid-over text e = rw (laid_down, e)

-- a text of n bytes has at most 2n + 1 tokens laid down for it
pub laid-most : (text : List ℕ) → laid_down text ≤ 2 * length text + 1
laid-most text =
    by_bool (ltb text_limit (length text))
    (λ e. rw (laid-over text e) (omega arith))
    (λ e. rw (laid-within text e) (run-alike text 0).most)

module _ (text : List ℕ) (len : ℕ) where
  -- while the tape has room for what is laid down, the parse answers as the one with no bound does
  pub same_with_room : laid_down text ≤ capacity len → parse_of text len ≡ unbounded_parse text len
  same_with_room h =
      by_bool (ltb text_limit (length text))
      (λ e. parse_over text len e ∙ sym (unbounded-over text len e))
      (λ e.
      let k : ℕ = capacity len in
      let fit : laid_run text ≤ k = rw (laid-within text e) at h in
      parse_within text len e ∙ ap (answer (has_bom text) len) ((run-alike text k).fits fit) ∙ told-alike (has_bom text) len k (run_in unbounded text)
      ∙ sym (unbounded-within text len e))

  -- and past that it is refused for room
  pub full-past-room : capacity len < laid_down text → parse_of text len ≡ refuse len Full
  full-past-room h =
      by_bool (ltb text_limit (length text))
      (λ e. absurd (omega (arith, laid-over text e)))
      (λ e.
      let k : ℕ = capacity len in
      let over : k < laid_run text = rw (laid-within text e) at h in
      parse_within text len e ∙ ap (answer (has_bom text) len) ((run-alike text k).full (omega arith) over))

-- what a run with room for k tokens has where it is done: its count is that of its tokens, and they fit
abbrev pub Fitting : ℕ → After → Type 0
Fitting k (next m t) = Unit {0}
Fitting k (done n t) = (length t.tokens ≡ n) × (n ≤ k)
Fitting k (refused r) = Unit {0}

done-counted : (text : List ℕ) (budget k w : ℕ) (x : After) → Known text budget x → laid_by w x ≡ w → w ≤ k → Fitting k (in_room k x)
done-counted text budget k w (next m t) a e h = tt
done-counted text budget k w (done n t) a e h = (a, omega arith)
done-counted text budget k w (refused r) a e h = tt

pub run_fits : (text : List ℕ) (k : ℕ) → Fitting k (run_in (holds k) text)
run_fits text k =
    let a = run-alike text k in
    by_bool (ltb k (laid_run text))
    (λ e. rw (a.full (omega arith) (ltb-true _ _ e)) tt)
    (λ e. let fit : laid_run text ≤ k = ltb-false _ _ e in
    rw (a.fits fit) (done-counted text (2 * length text) k (laid_run text) (run_in unbounded text) a.known a.told fit))

-- what is refused, and for another reason than room
abbrev OtherThanFull : Outcome → Type 0
OtherThanFull (outcome (Ok p) ws) = Unit {0}
OtherThanFull (outcome (Err r) ws) = number r < 11

answered-other : (text : List ℕ) (budget : ℕ) (bom : Bool) (len : ℕ) (x : After) → Known text budget x → OtherThanFull (answer bom len x)
answered-other text budget bom len (next m t) h = omega arith
answered-other text budget bom len (done n t) h = tt
answered-other text budget bom len (refused r) h = h

unbounded-other : (text : List ℕ) (len : ℕ) → OtherThanFull (unbounded_parse text len)
unbounded-other text len =
    by_bool (ltb text_limit (length text))
    (λ e. rw (unbounded-over text len e) (omega arith))
    (λ e. rw (unbounded-within text len e) (answered-other text (2 * length text) (has_bom text) len (run_in unbounded text) (run-alike text 0).known))

-- the parse with no bound is never refused for room
pub unbounded-never_full : (text : List ℕ) (len : ℕ) (ws : List ℕ) → outcome (Err Full) ws ≡ unbounded_parse text len → ⊥
unbounded-never_full text len ws e =
    let no : number Full < 11 = rw (← e) at (unbounded-other text len) in
    omega arith

-- Whatever answer and tape the contract of `parse` allows, the answer is Full exactly when the parse with no bound lays down more tokens
-- than the tape has room for.
pub full-exactly : (text : List ℕ) (len : ℕ) (r : Result Parsed Refusal) (ws : List ℕ) → outcome r ws ≡ parse_of text len
    → (r ≡ Err Full) ↔ (capacity len < laid_down text)
full-exactly text len r ws e = (
  λ f. by_bool (ltb (capacity len) (laid_down text))
      (λ g. ltb-true _ _ g)
      (λ g. absurd (unbounded-never_full text len ws
      (ap (λ (x : Result Parsed Refusal). outcome x ws) (sym f) ∙ e ∙ same_with_room text len (ltb-false _ _ g)))),
  λ h. let g : parse_of text len ≡ refuse len Full = full-past-room text len h in
      cc,
)

-- and any other answer is that of the parse with no bound
pub same_otherwise : (text : List ℕ) (len : ℕ) (r : Result Parsed Refusal) (ws : List ℕ) → outcome r ws ≡ parse_of text len → (r ≡ Err Full → ⊥)
    → outcome r ws ≡ unbounded_parse text len
same_otherwise text len r ws e n =
    by_bool (ltb (capacity len) (laid_down text))
    (λ g. absurd (n ((full-exactly text len r ws e).1 (ltb-true _ _ g))))
    (λ g. e ∙ same_with_room text len (ltb-false _ _ g))
