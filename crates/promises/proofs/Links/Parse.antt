-- Every tape left by a successful parse is tied: its tokens have forms, its openers and Ends name each other and nest, token 0
-- opens nothing, and a Header has a container next.
-- Assumes nothing.
use mathlib.Core.Path.{◌≡◌, refl, ap}
use mathlib.Core.Bool.{Bool}
use mathlib.Core.List.{List, []}
use Prim.Native.Nat.{ℕ}
use native.Mathlib.Omega.{arith}
use Rattle.tape.specs.Token.{no_token}
use Rattle.tape.specs.Shape.{linked}
use Rattle.tape.specs.Words.{tokens_in}
use Rattle.tape.specs.Tape.{Tape}
use Rattle.tape.proofs.Shapes.{no-shape}
use Rattle.parse.specs.After.{next}
use Rattle.machine.specs.Start.{start, has_bom}
use Rattle.machine.specs.Finish.{outcome, with_tokens}
use Rattle.parse.specs.Parse.{run, parse_of}
use Rattle.parse.proofs.Walk.{run_keeps, parse_keeps}
use Rattle.promises.proofs.Links.Nest.{nest_none}
use Rattle.promises.proofs.Links.Rows.{unmarked, unheaded}
use Rattle.promises.proofs.Links.Flags.{codes-differ}
use Rattle.promises.proofs.Links.Held.{Held, Finished, All}
use Rattle.promises.proofs.Links.Turns.{turn-moves}

-- before the first turn there is no token
start-held : (bom : Bool) → Held (start bom) []
unfolding start
start-held bom = record {
  counted = refl;
  shaped = record {
    kept = record {
      row = record {
        forms = λ i h. absurd (omega arith);
        headed = λ i offset size e h. absurd (omega arith);
        marked = λ i e. absurd (unmarked no_token (λ z. omega arith) e);
      };
      links = nest_none (λ i. ap linked no-shape);
      flags = λ i c mixed e. codes-differ (λ z. omega arith) e;
    };
    rests = unheaded no_token (λ z. omega arith);
  };
}

pub run-from-start : (text : List ℕ) (n : ℕ) (bom : Bool) (t : Tape) → t.tokens ≡ [] → All Held (run text n (next (start bom) t))
run-from-start text n bom t none = run_keeps Held Finished text (turn-moves text) n (next (start bom) t) (rw none (start-held bom))

-- the words of a successful parse hold as many tokens as it answers, and they are tied
pub parse_tied : (text : List ℕ) (len count : ℕ) (bom : Bool) (words : List ℕ) → parse_of text len ≡ outcome (with_tokens count bom) words
    → Finished count (tokens_in words count)
parse_tied text len count bom words e = rw e at (parse_keeps Held Finished text (start-held (has_bom text)) (turn-moves text) (λ n ts h. h.counted) len)
