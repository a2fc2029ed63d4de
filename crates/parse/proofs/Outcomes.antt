-- What a parse leaves on a tape depends on the tape's length alone.
-- Assumes nothing.
use Rattle.std.specs.Prelude.{Result, Ok, Err}
use mathlib.Core.Path.{◌≡◌, refl, sym, ◌∙◌, ap}
use mathlib.Core.Bool.{Bool}
use mathlib.Core.List.{List, []}
use Prim.Native.Nat.{ℕ, ◌≤◌, ◌<◌, min}
use native.Mathlib.Omega.{arith}
use borrow.Author.Tests.{lt-ltb, le-ltb}
use lib.ListN.{length, replicate}
use Rattle.tape.specs.Words.{capacity, greatest_word, room_of, tokens_in, cleared}
use Rattle.tape.specs.Tape.{Room, holds, view, empty_tape}
use Rattle.machine.specs.declared.Machine.{Machine}
use Rattle.machine.specs.declared.Refusal.TheVariants.{TooLong}
use Rattle.parse.specs.After.{next}
use Rattle.machine.specs.Start.{has_bom, start}
use Rattle.machine.specs.Finish.{outcome, finish}
use Rattle.parse.specs.Parse.{run, ending, enough, text_limit, answer, parse_of}
use Rattle.parse.proofs.Moves.{on_tape}
use Rattle.parse.proofs.Rooms.{runs_alike, told_moved, word-alike}
use Rattle.machine.specs.declared.Refusal.{Refusal}

pub parse_too_long : (text ws : List ℕ) → text_limit < length text → parse_of text (length ws) ≡ outcome (Err TooLong) (replicate (length ws) 0)
unfolding parse_of
parse_too_long text ws h = rw (parse_of, lt-ltb text_limit (length text) h)

-- the words that a parse is given have the room of their length: a word numbers more tokens than a text within the limit has turns for
numbered : (text ws : List ℕ) → length text ≤ text_limit
    → answer (has_bom text) (length ws) (run text (enough text) (next (start (has_bom text)) (empty_tape (length ws))))
    ≡ answer (has_bom text) (length ws) (run text (enough text) (next (start (has_bom text)) (view ws (start (has_bom text)).count)))
unfolding start room_of tokens_in
numbered text ws h =
    let room : Room = holds (capacity (length ws)) in
    let other : Room = holds (min (capacity (length ws)) greatest_word) in
    let alike = word-alike (capacity (length ws)) in
    let from : Machine = start (has_bom text) in
    sym (told_moved text room other greatest_word alike (has_bom text) (length ws) (run text (enough text) (next from (on_tape room []))))
    ∙ ap (answer (has_bom text) (length ws)) (runs_alike text room other greatest_word alike (enough text) from [] (omega arith))

pub parse_runs : (text ws : List ℕ) → length text ≤ text_limit
    → parse_of text (length ws)
    ≡ answer (has_bom text) (length ws) (run text (enough text) (next (start (has_bom text)) (view ws (start (has_bom text)).count)))
unfolding parse_of
parse_runs text ws h = rw (parse_of, le-ltb text_limit (length text) h) (numbered text ws h)

-- what the end of a run is made into is the answer of the run
pub finish_answers : (ws : List ℕ) (e : Result ℕ Refusal) (bom : Bool) → finish ws e bom ≡ answer bom (length ws) (ending e ws)
unfolding finish cleared
finish_answers ws (Ok n) bom = refl
finish_answers ws (Err r) bom = refl
