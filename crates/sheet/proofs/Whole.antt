-- A sound sheet is what the parts of the check tell, together.
-- Assumes nothing.
use mathlib.Core.Path.{◌≡◌, refl, sym, ◌∙◌, subst}
use mathlib.Core.Bool.{Bool, true, false, false≢true}
use mathlib.Core.List.{List}
use mathlib.Core.Logic.{◌↔◌, inl, inr}
use Prim.Native.Nat.{ℕ, zero, suc, ◌+◌, ◌-◌, ◌≤◌, ◌<◌}
use native.Mathlib.Omega.{arith}
use borrow.Author.Tests.{leb-true, leb-false}
use lib.Dec.{leb}
use lib.ListN.{length}
use Rattle.tape.specs.declared.token.Token.{Token}
use Rattle.tape.specs.declared.token.ScalarKind.TheVariants.{Header}
use Rattle.tape.specs.Shape.{shape_of, Opens}
use Rattle.tape.specs.Words.{words_for, tokens_in}
use Rattle.tape.proofs.Shapes.{shape-made}
use Rattle.sheet.specs.Sound.{nth, Views, Nested, Sheet, Sound}
use Rattle.sheet.specs.Steps.{AllStand, Linked}
use Rattle.sheet.proofs.Links.{told-no, told_through}
use Rattle.sheet.proofs.Tokens.{opener_in, end_in, view_in, views_not}
use Rattle.sheet.proofs.Scan.{ScalarOr, scalar_or}
use Rattle.sheet.proofs.Nesting.{by_order}

-- ---- of tokens that stand, all but the nesting holds
pub standing_linked : (L : ℕ) (ts : List Token) → AllStand L ts → Linked ts
standing_linked L ts s =
    record {
      closed = λ i end o. (s.held i (opener_in ts i o)).closed end o;
      opened = λ i opener e. (s.held i (end_in ts i e)).opened opener e;
    }

pub standing-sheet : (L : ℕ) (ts : List Token) → AllStand L ts → ((i : ℕ) → Nested ts i) → Sheet L ts
standing-sheet L ts s n =
    record {
      forms = λ i h. (s.held i h).form;
      closed = (standing_linked L ts s).closed;
      opened = (standing_linked L ts s).opened;
      nested = n;
      within = λ i offset size v. (s.held i (view_in ts i v)).within offset size v;
      rising = λ i j o l p m h v w. (s.spaced j (view_in ts j w) i o l p m h v w).0;
      apart = λ i j o l p m h none v w. (s.spaced j (view_in ts j w) i o l p m h v w).1;
      filled = λ i kind offset e. (s.held i (view_in ts i (kind, e))).filled kind offset e;
      top = λ end o. (s.held 0 (opener_in ts 0 o)).top refl end o;
      headed = λ i offset size e. (s.held i (view_in ts i (Header, e))).headed offset size e;
    }

-- ---- and of a sheet, every later view is past every earlier one, not the next alone
-- no token between i and k has a view
abbrev Clear : List Token → ℕ → ℕ → Type 0
Clear ts i k = (x a b : ℕ) → i < x → x < k → Views (nth ts x) a b → ⊥

module _ (L : ℕ) (ts : List Token) (s : Sheet L ts) (i j o l p m : ℕ) (v : Views (nth ts i) o l) (w : Views (nth ts j) p m) where
  -- by what stands at k: a view, past which j's is, or none, and the search goes on
  past-at : (k : ℕ) → i < k → k < j → Clear ts i k → ScalarOr (shape_of (nth ts k)) → (Clear ts i (k + 1) → o + l ≤ p) → o + l ≤ p
  past-at k h g clear (inl (kind, q, n, e)) on =
      let here : Views (nth ts k) q n = (kind, shape-made (nth ts k) e) in
      omega (arith, s.apart i k o l q n h clear v here, s.rising k j q n p m g here w)
  past-at k h g clear (inr none) on =
      on (λ x a b f t u.
      by_order x k
      (λ d. clear x a b f d u)
      (λ e. views_not (nth ts k) refl none (subst (λ (y : ℕ). Views (nth ts y) a b) e u))
      (λ d. omega arith))

  past-from : (left k : ℕ) → k + left ≡ j → i < k → Clear ts i k → o + l ≤ p
  past-from zero k e h clear =
      let here : k ≡ j = omega arith in
      s.apart i j o l p m (omega arith) (subst (λ (x : ℕ). Clear ts i x) here clear) v w
  past-from (suc left) k e h clear =
      past-at k h (omega arith) clear (scalar_or (shape_of (nth ts k))) (λ more. past-from left (k + 1) (omega arith) (omega arith) more)

pub sheet-standing : (L : ℕ) (ts : List Token) → Sheet L ts → AllStand L ts
sheet-standing L ts s =
    record {
      held = λ i h.
          record {
            form = s.forms i h;
            closed = s.closed i;
            opened = s.opened i;
            within = s.within i;
            filled = s.filled i;
            top = λ z end o. s.top end (subst (λ (x : ℕ). Opens (nth ts x) end) z o);
            headed = s.headed i;
          };
      spaced = λ j g i o l p m h v w.
          (s.rising i j o l p m h v w, past-from L ts s i j o l p m v w (j - (i + 1)) (i + 1) (omega arith) (omega arith) (λ x a b f t u. omega arith));
    }

-- ---- what the check answers
pub check_fits : (ws : List ℕ) (n : ℕ) {r : Bool} → r ≡ leb (words_for n) (length ws) → r ≡ true → words_for n ≤ length ws
check_fits ws n e f = leb-true (words_for n) (length ws) (sym e ∙ f)

module _ (L : ℕ) (ws : List ℕ) (n : ℕ) where
  pub check_short : {r : Bool} → r ≡ leb (words_for n) (length ws) → r ≡ false → (false ≡ true) ↔ Sound L ws n
  check_short e f = told-no (λ s. absurd (omega (arith, leb-false (words_for n) (length ws) (sym e ∙ f), s.fits)))

  pub check_fallen : {r : Bool} → (r ≡ true) ↔ AllStand L (tokens_in ws n) → r ≡ false → (false ≡ true) ↔ Sound L ws n
  check_fallen t f = told-no (λ s. false≢true (sym f ∙ t.1 (sheet-standing L (tokens_in ws n) s.tokens)))

  pub check_nested : {r : Bool} → words_for n ≤ length ws → AllStand L (tokens_in ws n)
      → (r ≡ true) ↔ ((i : ℕ) → Nested (tokens_in ws n) i) → (r ≡ true) ↔ Sound L ws n
  check_nested fits stand t =
      told_through t (λ nest. record { fits = fits; tokens = standing-sheet L (tokens_in ws n) stand nest }) (λ s. s.tokens.nested)
