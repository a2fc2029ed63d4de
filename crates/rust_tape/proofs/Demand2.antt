-- Demand 2: on every text of the domain the answer of `parse` is the Rust's, and refusal 11 comes exactly when the Rust would lay down more tokens than
-- the tape holds. On every text within the limit the same is so of the Rust's parser when it cuts its unquoted runs as we do.
-- Said of the contract of `parse` itself: of the text and the tape as they are lent, and of the tape as it is left.
-- Assumes nothing.
use Rattle.std.specs.Prelude.{Result, Err}
use Prim.Native.Nat.{ℕ, ◌≤◌, ◌<◌}
use mathlib.Core.Path.{◌≡◌, ◌∙◌, ap}
use mathlib.Core.List.{List}
use mathlib.Core.Logic.{◌↔◌}
use lib.ListN.{length}
use Rattle.cut.specs.Runs.{unquoted_run}
use Rattle.tape.specs.Words.{capacity}
use Rattle.machine.specs.declared.Refusal.TheVariants.{Full}
use Rattle.machine.specs.declared.Parsed.{Parsed}
use Rattle.machine.specs.Refusals.{number}
use Rattle.machine.specs.Finish.{Outcome, outcome}
use Rattle.parse.proofs.parse.Reads as parse
use Rattle.parse.specs.Parse.{text_limit}
use Rattle.parse.specs.Told.{ParseTold, tell_parse}
use Rattle.promises.specs.Room.{laid_down, refusal_told}
use Rattle.rust_tape.specs.RustCuts.{split_at_scalar}
use Rattle.rust_tape.specs.Answers.{as_rust}
use Rattle.rust_tape.specs.Demand2.{SpokenOf, AnswersBy, Demand2, ByOurCut, RunsBy}
use Rattle.promises.proofs.Full.{parse_full-exactly, parse_same-otherwise, full-told}
use Rattle.rust_tape.proofs.RustParse.{runs_by_our_cut, rust_runs}
use Rattle.machine.specs.declared.Refusal.{Refusal}

module _ (κs : _) (args : _) (r : Result Parsed Refusal) (xs : _) (post : parse.Post κs args r xs) where
  -- the text and the tape as they are lent, the tape as it is left, and what is told of it
  abbrev text_lent : List ℕ
  text_lent = args.0.now

  abbrev tape_lent : List ℕ
  tape_lent = args.1.0.now

  abbrev tape_left : List ℕ
  tape_left = xs.1.0.now

  abbrev told : ParseTold
  told = tell_parse (outcome r tape_left)

  -- the answer that the contract of `parse` allows is that of the Rust's parser by a cut, where it runs as our parse with no bound on tokens does
  runs_answer : (cut : List ℕ → ℕ) → RunsBy cut text_lent → AnswersBy cut text_lent (length tape_lent) told
  runs_answer cut runs =
      let room : (r ≡ Err Full) ↔ (capacity (length tape_lent) < laid_down text_lent) = parse_full-exactly κs args r xs post in
      let tells : r ≡ Err Full → refusal_told told ≡ number Full = λ e. ap (λ (s : Result Parsed Refusal). refusal_told (tell_parse (outcome s tape_left))) e in
      record {
        full = (λ e. rw runs.laid (room.0 (full-told r tape_left e)), λ h. tells (room.1 (rw runs.laid at h)));
        otherwise = λ other.
            ap (λ (o : Outcome). as_rust (tell_parse o)) (parse_same-otherwise κs args r xs post (λ e. other (tells e))) ∙ runs.alike (length tape_lent);
      }

  -- it is the Rust's on every text of the domain
  pub parse_as_rust : SpokenOf text_lent → Demand2 text_lent (length tape_lent) told
  parse_as_rust spoken = runs_answer split_at_scalar (rust_runs text_lent spoken)

  -- and on every text within the limit that of the Rust's parser by our own cut
  pub parse_by_our_cut : length text_lent ≤ text_limit → ByOurCut text_lent (length tape_lent) told
  parse_by_our_cut within = runs_answer unquoted_run (runs_by_our_cut text_lent within)
