-- What follows from what a sound sheet is: document 01's last two sentences on it, and sheets that are made of tokens.
-- Assumes nothing.
use Rattle.std.specs.Prelude.{Some, None}
use mathlib.Core.Path.{◌≡◌, refl, sym, ◌∙◌, ap, subst}
use mathlib.Core.Bool.{Bool, true, false, false≢true}
use mathlib.Core.List.{List}
use mathlib.Core.Logic.{◌↔◌}
use Prim.Native.Nat.{ℕ, ◌≤◌}
use native.Mathlib.Omega.{arith}
use borrow.Author.Tests.{le-leb}
use lib.Dec.{ltb}
use lib.ListN.{length}
use Rattle.data.proofs.Cases.{by_bool}
use Rattle.tape.specs.declared.token.Token.{Token}
use Rattle.tape.specs.declared.token.ScalarKind.TheVariants.{Header}
use Rattle.tape.specs.Words.{words_for, tokens_in, token_in, padded}
use Rattle.tape.proofs.Views.{tokens-first, padded-length, padded-tokens, tokens-length}
use Rattle.sheet.specs.Sound.{Sheet, Sound}
use Rattle.sheet.specs.Views.{viewed}
use Rattle.sheet.specs.Laws.{NoneSound, LaterIgnored, CheckIgnores, ViewIgnores, RefusedPlace}
use Rattle.sheet.proofs.Tokens.{opener_in, end_in, view_in}

-- count 0 is sound
pub none-sound : NoneSound
none-sound L words =
    let none : length (tokens_in words 0) ≤ 0 = omega (arith, tokens-length words 0) in
    let ts : List Token = tokens_in words 0 in
    record {
      fits = omega arith;
      tokens =
          record {
            forms = λ i h. absurd (omega arith);
            closed = λ i end o. absurd (omega (arith, opener_in ts i o));
            opened = λ i opener e. absurd (omega (arith, end_in ts i e));
            nested = λ i end j inner o. absurd (omega (arith, opener_in ts i o));
            within = λ i offset size v. absurd (omega (arith, view_in ts i v));
            rising = λ i j o l p m h v w. absurd (omega (arith, view_in ts i v));
            apart = λ i j o l p m h n v w. absurd (omega (arith, view_in ts i v));
            filled = λ i kind offset e. absurd (omega (arith, view_in ts i (kind, e)));
            top = λ end o. omega (arith, opener_in ts 0 o);
            headed = λ i offset size e. absurd (omega (arith, view_in ts i (Header, e)));
          };
    }

-- the check's contract allows one answer
pub one_answer : {P : Type 0} (a b : Bool) → (a ≡ true) ↔ P → (b ≡ true) ↔ P → a ≡ b
one_answer true true s t = refl
one_answer true false s t = absurd (false≢true (t.1 (s.0 refl)))
one_answer false true s t = absurd (false≢true (s.1 (t.0 refl)))
one_answer false false s t = refl

-- later words are ignored
pub later_ignored : LaterIgnored
later_ignored L words others count fits same s =
    record {
      fits = fits;
      tokens = subst (λ (ts : List Token). Sheet L ts) tokens-same s.tokens;
    }
  where
    tokens-same : tokens_in words count ≡ tokens_in others count
    tokens-same = sym (tokens-first words count) ∙ ap (λ (ws : List ℕ). tokens_in ws count) same ∙ tokens-first others count

-- and a check then answers the same
pub check_ignores : CheckIgnores
check_ignores L words others count fits fits' same a b p q =
    one_answer a b p
    (λ e. later_ignored L others words count fits (sym same) (q.0 e), λ s. q.1 (later_ignored L words others count fits' same s))

-- a view reads nothing past the count's words either
pub view_ignores : ViewIgnores
unfolding viewed token_in
view_ignores L words others count i fits fits' same =
    let tokens : tokens_in words count ≡ tokens_in others count =
    sym (tokens-first words count) ∙ ap (λ (ws : List ℕ). tokens_in ws count) same ∙ tokens-first others count in
    by_bool (ltb i count)
    (λ e. rw (viewed, viewed, e, le-leb (words_for count) (length words) fits, le-leb (words_for count) (length others) fits', tokens))
    (λ e. rw (viewed, viewed, e))

-- refusal 12 stands at 0
pub refused-place : RefusedPlace
refused-place (Some v) e = refl
refused-place None e = refl

-- tokens that are sound are a sound sheet, laid down with zeros behind them
pub padded-sound : (L len : ℕ) (ts : List Token) → words_for (length ts) ≤ len → Sheet L ts → Sound L (padded len ts) (length ts)
padded-sound L len ts fits s =
    record {
      fits = omega (arith, padded-length len ts fits);
      tokens = subst (λ (us : List Token). Sheet L us) (sym (padded-tokens len ts)) s;
    }
