-- A parse lays down the same tokens on any tape with room for the count.
-- Assumes nothing.
use Rattle.std.specs.Prelude.{Err}
use mathlib.Core.Path.{◌≡◌, refl, sym, ◌∙◌, ap}
use mathlib.Core.Bool.{Bool, false}
use mathlib.Core.List.{List}
use Prim.Native.Nat.{ℕ, ◌*◌, ◌≤◌}
use native.Mathlib.Omega.{arith}
use lib.Dec.{ltb}
use lib.ListN.{length}
use Rattle.data.proofs.Cases.{by_bool}
use Rattle.tape.specs.declared.token.Token.{Token}
use Rattle.tape.specs.Words.{padded, capacity, tokens_in}
use Rattle.tape.specs.Tape.{Tape, unbounded}
use Rattle.tape.proofs.Views.{padded-tokens}
use Rattle.machine.specs.declared.Refusal.{Refusal}
use Rattle.machine.specs.declared.Refusal.TheVariants.{TooLong, Eof}
use Rattle.machine.specs.Start.{has_bom}
use Rattle.machine.specs.Finish.{Outcome, outcome, with_tokens}
use Rattle.parse.specs.After.{After, next, done, refused}
use Rattle.parse.specs.Parse.{text_limit, answer, parse_of}
use Rattle.promises.specs.Room.{run_in, unbounded_parse, laid_by}
use Rattle.promises.proofs.Room.{laid_run, run-alike, parse_within, same_otherwise}
use Rattle.promises.proofs.Alike.{in_room, Known}
use Rattle.machine.proofs.Outcomes.{same_outcome}

-- what a run with no bound on tokens comes to is what the parse says, where there is room for it
pub with_room : (text : List ℕ) (len n : ℕ) (t : Tape) → ltb text_limit (length text) ≡ false → run_in unbounded text ≡ done n t
    → n ≤ capacity len
    → parse_of text len ≡ outcome (with_tokens n (has_bom text)) (padded len t.tokens)
with_room text len n t short e room =
    let a = run-alike text (capacity len) in
    let told : n ≡ laid_run text = ap (laid_by (laid_run text)) (sym e) ∙ a.told in
    parse_within text len short
    ∙ ap (answer (has_bom text) len) (a.fits (omega arith) ∙ ap (in_room (capacity len)) e)

-- what a parse that succeeds once says of the text on every tape
pub record Laid (text : List ℕ) (n : ℕ) (bom : Bool) (us : List Token) : Type 0 where
  pub counted : length us ≡ n
  pub parsed : (len : ℕ) → n ≤ capacity len → parse_of text len ≡ outcome (with_tokens n bom) (padded len us)

-- the tokens that are found there are those
pub found : (len n : ℕ) (us : List Token) → length us ≡ n → tokens_in (padded len us) n ≡ us
found len n us c = ap (tokens_in (padded len us)) (sym c) ∙ padded-tokens len us

never : {P : Type 0} (x : Outcome) (n : ℕ) (bom : Bool) (r : Refusal) (ws vs : List ℕ) → x ≡ outcome (with_tokens n bom) ws
    → x ≡ outcome (Err r) vs → P
never x n bom r ws vs e f = let z : ◌≡◌ {A = ℕ} 0 1 = cc in absurd (omega arith)

module _ (text : List ℕ) (len n : ℕ) (bom : Bool) (words : List ℕ) (e : parse_of text len ≡ outcome (with_tokens n bom) words) where
  answered : (x : After) → run_in unbounded text ≡ x → Known text (2 * length text) x → ltb text_limit (length text) ≡ false
      → outcome (with_tokens n bom) words ≡ answer (has_bom text) len x → Laid text n bom (tokens_in words n)
  answered (next m t) s k short a = never _ n bom Eof words _ refl a
  answered (refused r) s k short a = never _ n bom r words _ refl a
  answered (done c t) s k short a =
      let same = same_outcome a in
      let c-is : c ≡ n = sym same.0 in
      let bom-is : has_bom text ≡ bom = sym same.1 in
      let words_are : words ≡ padded len t.tokens = same.2 in
      let counted : length t.tokens ≡ n = k ∙ c-is in
      rw (ap (λ (ws : List ℕ). tokens_in ws n) words_are ∙ found len n t.tokens counted)
      record {
        counted = counted;
        parsed = λ other room. with_room text other n t short (s ∙ ap (λ (m : ℕ). done m t) c-is) room
            ∙ ap (λ (b : Bool). outcome (with_tokens n b) (padded other t.tokens)) bom-is;
      }

  pub laid_anywhere : Laid text n bom (tokens_in words n)
  unfolding unbounded_parse
  laid_anywhere =
      let same = same_otherwise text len (with_tokens n bom) words (sym e) (λ f. let z : ◌≡◌ {A = ℕ} 0 1 = cc in omega arith) in
      by_bool (ltb text_limit (length text))
      (λ t. never _ n bom TooLong words _ refl (rw (unbounded_parse, t) at same))
      (λ t. answered (run_in unbounded text) refl (run-alike text 0).known t (rw (unbounded_parse, t) at same))
