-- The room of a tape shows only where it runs out. A turn lays down at most three tokens, so a run's count stays small, and two rooms
-- that are alike for counts below a bound are alike for a run that stays below it. So it never shows that a word numbers no more than
-- 4,294,967,295 tokens: an index always fits its word.
-- Assumes nothing.
use mathlib.Core.Path.{◌≡◌, refl, sym, ◌∙◌}
use mathlib.Core.Bool.{Bool, true, false}
use mathlib.Core.List.{List}
use Prim.Native.Nat.{ℕ, zero, suc, ◌+◌, ◌*◌, ◌≤◌, ◌<◌, min}
use native.Mathlib.Omega.{arith}
use borrow.Author.Tests.{lt-ltb, le-ltb, ltb-true, ltb-false}
use lib.Dec.{ltb}
use Rattle.data.proofs.Cases.{by_bool}
use Rattle.tape.specs.declared.token.Token.{Token}
use Rattle.tape.specs.Words.{greatest_word}
use Rattle.tape.specs.Tape.{Room, holds, has_room}
use Rattle.machine.specs.declared.Machine.{Machine}
use Rattle.machine.specs.declared.Refusal.{Refusal}
use Rattle.machine.specs.declared.Refusal.TheVariants.{Full}
use Rattle.parse.specs.After.{After, next, done, refused}
use Rattle.parse.specs.Parse.{run, answer}
use Rattle.parse.proofs.Runs.{run-done, run-refused, run-turn}
use Rattle.parse.proofs.Moves.{Moved, goes, ends, stops, on_tape, Unasked, Refuses, Came, Over, Turned, on_byte, at_end}
use Rattle.parse.proofs.Moves as M
use Rattle.parse.proofs.Walk.{told, if_room, laying, turn_comes}

-- ---- how many tokens a turn lays down: three at most, a parameter's, its Object's and its first key's
abbrev pub most_a_turn : ℕ
most_a_turn = 3

-- and a machine that goes on has counted no more
abbrev pub Counted : ℕ → Moved → Type 0
Counted most (goes m ts) = m.count ≤ most
Counted most (ends n ts) = Unit {0}
Counted most (stops r) = Unit {0}

pub record Few (count laid : ℕ) (x : Moved) : Type 0 where
  pub laid_few : laid ≤ most_a_turn
  pub counted : Counted (count + most_a_turn) x

unasked_few : {text : List ℕ} {at n : ℕ} {r : Refusal} → Unasked text at n r → n ≤ most_a_turn
unasked_few (M.lone e) = omega arith
unasked_few (M.nameless e f) = omega arith
unasked_few (M.open_name e f g) = omega arith
unasked_few (M.valueless e) = omega arith

refused-few : {text : List ℕ} {m : Machine} {ts : List Token} {n : ℕ} {r : Refusal} → Refuses text m ts n r → n ≤ most_a_turn
refused-few (M.brace_ends e f) = omega arith
refused-few (M.no_header at e f) = omega arith
refused-few (M.key_ends e f) = omega arith
refused-few (M.value_ends e) = omega arith
refused-few (M.entry_ends e f) = omega arith
refused-few (M.first_uncut e f g) = omega arith
refused-few (M.no_value e) = omega arith
refused-few (M.mixed_parameter e f g) = omega arith
refused-few (M.inner_ends e f) = omega arith
refused-few (M.first_ends e f g) = omega arith
refused-few (M.stack_empty e f) = omega arith
refused-few (M.unknown e f g) = omega arith
refused-few (M.marked_unknown e f g h) = omega arith
refused-few (M.nothing_precedes e f g h) = omega arith
refused-few (M.no_parameter e f) = unasked_few f

came_few : {text : List ℕ} {m : Machine} {ts : List Token} {n : ℕ} {x : Moved} → Came text m ts n x → Few m.count n x
came_few (M.passes at e h) = record { laid_few = omega arith; counted = omega arith }
came_few (M.separates at e h) = record { laid_few = omega arith; counted = omega arith }
came_few (M.takes s t) = record { laid_few = omega arith; counted = omega arith }
came_few (M.separates_by o e f h) = record { laid_few = omega arith; counted = omega arith }
came_few (M.operates o e f h) = record { laid_few = omega arith; counted = omega arith }
came_few (M.mixes e) = record { laid_few = omega arith; counted = omega arith }
came_few (M.mixes_by o e f s h) = record { laid_few = omega arith; counted = omega arith }
came_few (M.opens s) = record { laid_few = omega arith; counted = omega arith }
came_few (M.heads e h s) = record { laid_few = omega arith; counted = omega arith }
came_few (M.closes s e) = record { laid_few = omega arith; counted = omega arith }
came_few (M.empties e) = record { laid_few = omega arith; counted = omega arith }
came_few (M.settles e) = record { laid_few = omega arith; counted = omega arith }
came_few (M.begins e t h s) = record { laid_few = omega arith; counted = omega arith }
came_few (M.values a b c) = record { laid_few = omega arith; counted = omega arith }
came_few (M.objects a b c) = record { laid_few = omega arith; counted = omega arith }
came_few (M.refuses r f) = record { laid_few = refused-few r; counted = tt }

over-few : {m : Machine} {ts : List Token} {n : ℕ} {x : Moved} → Over m ts n x → Few m.count n x
over-few (M.done_bare e f) = record { laid_few = omega arith; counted = tt }
over-few (M.done_closed e f g) = record { laid_few = omega arith; counted = tt }
over-few M.too_early = record { laid_few = omega arith; counted = tt }

pub turned_few : {text : List ℕ} {m : Machine} {ts : List Token} {n : ℕ} {x : Moved} → Turned text m ts n x → Few m.count n x
turned_few (on_byte e by) = came_few by
turned_few (at_end e by) = over-few by

-- ---- two rooms that are alike below a bound
module _ (text : List ℕ) (room other : Room) (bound : ℕ) (alike : (n : ℕ) → n < bound → has_room room n ≡ has_room other n) where
  -- an answer, on a tape of the other room
  abbrev pub moved : After → After
  moved (next m t) = next m (on_tape other t.tokens)
  moved (done n t) = done n (on_tape other t.tokens)
  moved (refused r) = refused r

  -- a run that goes on from so many tokens comes to the same in both
  abbrev Runs : ℕ → Type 0
  Runs n =
      (m : Machine) (ts : List Token) → m.count + most_a_turn * n ≤ bound
      → moved (run text n (next m (on_tape room ts))) ≡ run text n (next m (on_tape other ts))

  ended-refused : (n : ℕ) (r : Refusal) → moved (run text n (refused r)) ≡ run text n (refused r)
  ended-refused n r = rw (run-refused text n r)

  told-alike : (n : ℕ) → Runs n → (x : Moved) (most : ℕ) → Counted most x → most + most_a_turn * n ≤ bound
      → moved (run text n (told room x)) ≡ run text n (told other x)
  told-alike n runs (goes m ts) most h few = runs m ts (omega arith)
  told-alike n runs (ends k ts) most h few = rw (run-done text n k (on_tape room ts), run-done text n k (on_tape other ts))
  told-alike n runs (stops r) most h few = ended-refused n r

  laid-alike : (n : ℕ) → Runs n → (x : Moved) (most : ℕ) → Counted most x → most + most_a_turn * n ≤ bound → (l c : ℕ) → c + l ≤ most
      → moved (run text n (laying room c l x)) ≡ run text n (laying other c l x)
  laid-alike n runs x most h few zero c fits = told-alike n runs x most h few
  laid-alike n runs x most h few (suc l) c fits =
      by_bool (has_room room c)
      (λ e. let f : has_room other c ≡ true = sym (alike c (omega arith)) ∙ e in
      rw (laying, if_room, e, laying, if_room, f) (laid-alike n runs x most h few l (c + 1) (omega arith)))
      (λ e. let f : has_room other c ≡ false = sym (alike c (omega arith)) ∙ e in
      rw (laying, if_room, e, laying, if_room, f) (ended-refused n Full))

  pub runs_alike : (n : ℕ) → Runs n
  unfolding run
  runs_alike zero m ts h = refl
  runs_alike (suc n) m ts h =
      let x = turn_comes text m ts in
      let few = turned_few x.by in
      rw (run-turn text n m (on_tape room ts), run-turn text n m (on_tape other ts), x.on room, x.on other)
      (laid-alike n (runs_alike n) x.result (m.count + most_a_turn) few.counted (omega arith) x.laid m.count (omega (arith, few.laid_few)))

-- how an answer is told does not depend on the room
pub told_moved : (text : List ℕ) (room other : Room) (bound : ℕ) (alike : (n : ℕ) → n < bound → has_room room n ≡ has_room other n)
    (bom : Bool) (len : ℕ) (x : After) → answer bom len (moved text room other bound alike x) ≡ answer bom len x
told_moved text room other bound alike bom len (next m t) = refl
told_moved text room other bound alike bom len (done n t) = refl
told_moved text room other bound alike bom len (refused r) = refl

-- ---- what a word can number
pub word-alike : (k n : ℕ) → n < greatest_word → has_room (holds k) n ≡ has_room (holds (min k greatest_word)) n
word-alike k n h =
    by_bool (ltb n k)
    (λ e. let f : n < k = ltb-true n k e in e ∙ sym (lt-ltb n (min k greatest_word) (omega arith)))
    (λ e. let f : k ≤ n = ltb-false n k e in e ∙ sym (le-ltb n (min k greatest_word) (omega arith)))
