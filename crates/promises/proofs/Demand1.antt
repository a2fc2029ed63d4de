-- Demand 1: a refused parse leaves every word of the lent tape zero, and one that succeeds every word past its tokens.
-- Assumes nothing.
use Rattle.std.specs.Prelude.{Result, Ok, Err}
use mathlib.Core.Path.{◌≡◌, refl, sym, subst}
use mathlib.Core.Bool.{Bool}
use mathlib.Core.List.{List}
use Prim.Native.Nat.{ℕ, ◌-◌, ◌≤◌}
use native.Mathlib.Omega.{arith}
use lib.Dec.{ltb}
use lib.ListN.{length, replicate}
use lib.Seq.{drop_at}
use Rattle.data.proofs.Cases.{by_bool}
use Rattle.tape.specs.declared.token.Token.{Token}
use Rattle.tape.specs.Words.{words_for, capacity, words_of, padded}
use Rattle.tape.specs.Tape.{holds}
use Rattle.tape.proofs.Views.{words-length, padded-length}
use Rattle.machine.specs.declared.Refusal as Refusals
use Rattle.machine.specs.declared.Refusal.{Refusal}
use Rattle.machine.specs.declared.Parsed.{Parsed}
use Rattle.machine.specs.Refusals.{number}
use Rattle.parse.specs.Told.{tell_parse}
use Rattle.parse.specs.After.{After, next, done, refused}
use Rattle.machine.specs.Start.{has_bom}
use Rattle.machine.specs.Finish.{Outcome, outcome, with_tokens}
use Rattle.parse.specs.Parse.{answer, text_limit, parse_of}
use Rattle.parse.proofs.parse.Reads as parse
use Rattle.promises.specs.Demand1.{Laid_out, Demand1}
use Rattle.promises.specs.Room.{run_in}
use Rattle.promises.proofs.Room.{Fitting, run_fits, parse_within, parse_over}

-- what an outcome leaves of so many words
abbrev Leaves : ℕ → Outcome → Type 0
Leaves len (outcome (Ok p) ws) = Laid_out len p.count ws
Leaves len (outcome (Err r) ws) = ws ≡ replicate len 0

padded_out : (len n : ℕ) (ts : List Token) → length ts ≡ n → n ≤ capacity len → Laid_out len n (padded len ts)
unfolding padded
padded_out len n ts e h =
    let words : length (words_of ts) ≡ words_for n = omega (arith, words-length ts) in
    let fit : words_for n ≤ len = omega arith in
    record {
      kept = padded-length len ts (omega arith);
      within = fit;
      zero_past = rw (padded, words) (drop_at (words_of ts) (replicate (len - words_for n) 0) (words_for n) words);
    }

answer-left : (bom : Bool) (len : ℕ) (x : After) → Fitting (capacity len) x → Leaves len (answer bom len x)
answer-left bom len (next m t) h = refl
answer-left bom len (done n t) h = padded_out len n t.tokens h.0 h.1
answer-left bom len (refused r) h = refl

parse_left : (text : List ℕ) (len : ℕ) → Leaves len (parse_of text len)
parse_left text len =
    by_bool (ltb text_limit (length text))
    (λ e. rw (parse_over text len e) refl)
    (λ e. rw (parse_within text len e)
    (answer-left (has_bom text) len (run_in (holds (capacity len)) text) (run_fits text (capacity len))))

-- a success leaves every word past its tokens zero
pub success_zeroes_past : (text : List ℕ) (len n : ℕ) (bom : Bool) (ws : List ℕ) → outcome (with_tokens n bom) ws ≡ parse_of text len → Laid_out len n ws
success_zeroes_past text len n bom ws e = rw (← e) at (parse_left text len)

-- ---- told by document 01's numbers
-- no refusal has number 0
pub numbered : (r : Refusal) → number r ≡ 0 → ⊥
numbered Refusals.TheVariants.TooLong e = omega arith
numbered Refusals.TheVariants.Eof e = omega arith
numbered (Refusals.TheVariants.StackEmpty p) e = omega arith
numbered (Refusals.TheVariants.NoHeader p) e = omega arith
numbered (Refusals.TheVariants.NoValue p) e = omega arith
numbered (Refusals.TheVariants.MixedParameter p) e = omega arith
numbered (Refusals.TheVariants.NothingPrecedes p) e = omega arith
numbered (Refusals.TheVariants.UnknownOperator p) e = omega arith
numbered (Refusals.TheVariants.NoParameter p) e = omega arith
numbered (Refusals.TheVariants.OpenName p) e = omega arith
numbered Refusals.TheVariants.Full e = omega arith

told-left : (len : ℕ) (x : Outcome) → Leaves len x → Demand1 len (tell_parse x)
told-left len (outcome (Ok p) ws) h = record { parsed = λ e. h; refused = λ some. absurd (some refl) }
told-left len (outcome (Err r) ws) h =
    record { parsed = λ e. absurd (numbered r e); refused = λ some. record { zero_all = h; no_token = refl; no_bom = refl } }

-- whatever answer and tape the contract of `parse` allows
pub parse_zeroes : (κs : _) (args : _) (r : Result Parsed Refusal) (xs : _) → parse.Post κs args r xs
    → let tape_lent : List ℕ = args.1.0.now in
    let tape_left : List ℕ = xs.1.0.now in
    Demand1 (length tape_lent) (tell_parse (outcome r tape_left))
parse_zeroes κs args r xs p =
    let text_lent : List ℕ = args.0.now in
    let tape_lent : List ℕ = args.1.0.now in
    let len : ℕ = length tape_lent in
    subst (λ (o : Outcome). Demand1 len (tell_parse o)) (sym p) (told-left len (parse_of text_lent len) (parse_left text_lent len))
