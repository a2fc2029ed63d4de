-- What a sheet owes of its views, of tokens whose views rise up to the text's end.
-- Assumes nothing.
use mathlib.Core.List.{List}
use Prim.Native.Nat.{ℕ}
use native.Mathlib.Omega.{arith}
use Rattle.data.proofs.Cases.{by_bool}
use Rattle.tape.specs.declared.token.Token.{Token}
use Rattle.tape.specs.Token.{may_be_empty}
use Rattle.sheet.specs.Sound.{Within, Rising, Apart, Filled}
use Rattle.promises.proofs.Rising.Spans.{spans, Upto, upto-at, upto-spaced}

-- the sentences of a sheet that speak of its views
pub record Viewed (text_length : ℕ) (ts : List Token) : Type 0 where
  pub within : (i : ℕ) → Within text_length ts i
  pub rising : (i : ℕ) → Rising ts i
  pub apart : (i : ℕ) → Apart ts i
  pub filled : (i : ℕ) → Filled ts i

pub viewed : (text_length : ℕ) (ts : List Token) → Upto 0 (spans ts) text_length → Viewed text_length ts
viewed L ts u =
    record {
      within = λ i offset size v. (upto-at ts 0 L i v.0 offset size u v.1).ends;
      rising = λ i j offset size later more h v w. (upto-spaced ts 0 L i j v.0 w.0 offset size later more u h v.1 w.1).0;
      apart = λ i j offset size later more h none v w. (upto-spaced ts 0 L i j v.0 w.0 offset size later more u h v.1 w.1).1;
      filled = λ i kind offset e.
          by_bool (may_be_empty kind) (λ t. t) (λ f. absurd (omega (arith, (upto-at ts 0 L i kind offset 0 u e).full f)));
    }
