-- Two sheets held against each other, a token at a time.
-- Assumes nothing.
use mathlib.Core.Path.{◌≡◌, sym, ◌∙◌, ap}
use mathlib.Core.Bool.{Bool, true, false}
use mathlib.Core.List.{List}
use Prim.Native.Nat.{ℕ, ◌+◌, ◌≤◌, ◌<◌}
use native.Mathlib.Omega.{arith}
use borrow.Author.Tests.{eq-eqb, ne_eqb, leb-true, leb-false}
use lib.Dec.{leb}
use lib.ListN.{length, drop, replicate}
use Rattle.data.proofs.Pairs.{pairs-on, pairs_not, pairs_end, pairs-lengths}
use Rattle.tape.specs.declared.token.Token.{Token}
use Rattle.tape.specs.Token.{no_token}
use Rattle.tape.specs.Words.{words_for, tokens_in, token_in, cleared}
use Rattle.tape.proofs.Views.{tokens-length, tokens-counted}
use Rattle.tape.proofs.Clearing.{cleared-whole}
use Rattle.alike.specs.Alike.{same_token, alike, found_alike}

-- ---- a tape that is cleared from its first token on
pub all_cleared : (tape : List ℕ) → cleared tape 0 ≡ replicate (length tape) 0
all_cleared tape = cleared-whole tape

-- ---- some tokens beside as many as were found on a tape
-- what is left of both from i on decides
pub record Beside (text other : List ℕ) (ts : List Token) (tape : List ℕ) (found i : ℕ) : Type 0 where
  pub decides : found_alike text other ts found tape ≡ alike text other (drop i ts) (drop i (tokens_in tape found))
  pub here : length ts ≡ found
  pub there : length (tokens_in tape found) ≡ found

module _ (text other : List ℕ) (ts : List Token) (tape : List ℕ) (found : ℕ) {n : ℕ} (held : n ≡ length ts) where
  -- another count
  pub found-other : (found ≡ n → ⊥) → false ≡ found_alike text other ts found tape
  unfolding found_alike
  found-other h = rw (found_alike, ne_eqb found (length ts) (λ e. h (e ∙ sym held)))

  module _ (same : found ≡ n) {r : Bool} (told : r ≡ leb (words_for found) (length tape)) where
    counted : found_alike text other ts found tape ≡ alike text other ts (tokens_in tape found)
    unfolding found_alike
    counted = rw (found_alike, eq-eqb found (length ts) (same ∙ held))

    -- fewer tokens than were told
    pub found-short : r ≡ false → false ≡ found_alike text other ts found tape
    found-short f =
        let short = leb-false (words_for found) (length tape) (sym told ∙ f) in
        let fewer : length ts ≡ length (tokens_in tape found) → ⊥ = λ z. omega (arith, z, short, same, held, tokens-length tape found) in
        sym (counted ∙ pairs-lengths (same_token text other) _ _ fewer)

    pub beside : r ≡ true → Beside text other ts tape found 0
    beside f =
        record {
          decides = counted;
          here = sym (same ∙ held);
          there = tokens-counted tape found (leb-true (words_for found) (length tape) (sym told ∙ f));
        }

module _ (text other words tape : List ℕ) (count found i : ℕ) (b : Beside text other (tokens_in words count) tape found i) where
  pub beside_on : {x y : Token} {r : Bool} → i < found → x ≡ token_in words count i → y ≡ token_in tape found i
      → r ≡ same_token text other x y → r ≡ true → Beside text other (tokens_in words count) tape found (i + 1)
  unfolding token_in
  beside_on h e f s t =
      record {
        decides = b.decides ∙ pairs-on (same_token text other) no_token _ _ i (omega (arith, b.here)) (omega (arith, b.there))
            (sym (ap (λ (z : Token). same_token text other z (token_in tape found i)) e) ∙ sym (ap (same_token text other _) f) ∙ sym s ∙ t);
        here = b.here;
        there = b.there;
      }

  pub beside_not : {x y : Token} {r : Bool} → i < found → x ≡ token_in words count i → y ≡ token_in tape found i
      → r ≡ same_token text other x y → r ≡ false → false ≡ found_alike text other (tokens_in words count) found tape
  unfolding token_in
  beside_not h e f s t =
      sym (b.decides ∙ pairs_not (same_token text other) no_token _ _ i (omega (arith, b.here)) (omega (arith, b.there))
      (sym (ap (λ (z : Token). same_token text other z (token_in tape found i)) e) ∙ sym (ap (same_token text other _) f) ∙ sym s ∙ t))

  pub beside_end : found ≤ i → true ≡ found_alike text other (tokens_in words count) found tape
  beside_end h = sym (b.decides ∙ pairs_end (same_token text other) _ _ i (omega (arith, b.here)) (omega (arith, b.there)))
