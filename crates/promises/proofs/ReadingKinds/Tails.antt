-- The bytes of a scalar: what stands after its digits in front, and by that whether it holds a digit or a point, and whether it ends in `f`
-- without a point.
-- Assumes nothing.
use mathlib.Core.Path.{◌≡◌, refl, sym, ◌∙◌, ap}
use mathlib.Core.Bool.{Bool, true, false, not, ◌&&◌, ◌||◌, false≢true}
use mathlib.Core.List.{List, [], ◌∷◌}
use Prim.Native.Nat.{ℕ}
use native.Mathlib.Omega.{arith}
use borrow.Author.Tests.{eq-eqb, ne_eqb, eqb-true, ltb-false}
use lib.Dec.{eqb}
use lib.ListN.{length, drop, drop_of_length-le}
use Rattle.data.proofs.Cases.{by_bool}
use Rattle.data.specs.Bytes.{point, letter_f}
use Rattle.scalar.specs.Digits.{is_digit, digit_run}
use Rattle.scalar.specs.Float.{rest, tail_of, after_f}
use Rattle.scalar.specs.Kind.{some_digit}
use Rattle.scalar.specs.Whole.{has_tail}
use Rattle.scalar.specs.declared.float.Tail.TheVariants.{End, Point, Other}
use Rattle.scalar.specs.declared.float.Tail.{Tail}
use Rattle.scalar.proofs.Gathers.{tail_on, tail_here}
use Rattle.scalar.proofs.Rests.{rest-digit, rest-other}
use Rattle.scalar.proofs.Runs.{digit_bounds, run-digit, run-other}
use Rattle.promises.specs.ReadingKinds.{holds, has_digit, has_point, ends_in_f, bare_f}

-- ---- what stands after them

pub by_tail {ℓ} : {P : Type ℓ} (t : Tail) → (t ≡ End → P) → (t ≡ Point → P) → (t ≡ Other → P) → P
by_tail End end point other = end refl
by_tail Point end point other = point refl
by_tail Other end point other = other refl

-- the three by a number, so that no two of them are one
abbrev pub tail_number : Tail → ℕ
tail_number End = 0
tail_number Point = 1
tail_number Other = 2

f_closes : (s : List ℕ) → after_f s ≡ End → s ≡ []
f_closes [] e = refl
f_closes (b ∷ s) e = absurd (omega (arith, ap tail_number e))

no-point-after_f : (s : List ℕ) → after_f s ≡ Point → ⊥
no-point-after_f [] e = omega (arith, ap tail_number e)
no-point-after_f (b ∷ s) e = omega (arith, ap tail_number e)

-- one byte that ends them is an `f`, and the last
end_is : (b : ℕ) (s : List ℕ) → tail_of (b ∷ s) ≡ End → (b ≡ letter_f) × (s ≡ [])
unfolding tail_of
end_is b s e =
    by_bool (eqb b point)
    (λ t. absurd (omega (arith, ap tail_number (rw (tail_of, t) at e))))
    (λ f. by_bool (eqb b letter_f)
    (λ t. (eqb-true b letter_f t, f_closes s (rw (tail_of, f, t) at e)))
    (λ g. absurd (omega (arith, ap tail_number (rw (tail_of, f, g) at e)))))

pub point-is : (b : ℕ) (s : List ℕ) → tail_of (b ∷ s) ≡ Point → b ≡ point
unfolding tail_of
point-is b s e =
    by_bool (eqb b point)
    (λ t. eqb-true b point t)
    (λ f. by_bool (eqb b letter_f)
    (λ t. absurd (no-point-after_f s (rw (tail_of, f, t) at e)))
    (λ g. absurd (omega (arith, ap tail_number (rw (tail_of, f, g) at e)))))

-- where nothing is left over, that is the end
pub untailed_end : (s : List ℕ) → has_tail s ≡ false → tail_of (rest s) ≡ End
unfolding tail_of
untailed_end s e = ap tail_of (drop_of_length-le s (ltb-false (length (digit_run s)) (length s) e))

pub tailed : (s : List ℕ) → (tail_of (rest s) ≡ End → ⊥) → has_tail s ≡ true
tailed s h = by_bool (has_tail s) (λ t. t) (λ f. absurd (h (untailed_end s f)))

-- ---- what stands in a scalar

seen : (test : ℕ → Bool) (b : ℕ) (s : List ℕ) → test b ≡ true → holds test (b ∷ s) ≡ true
unfolding holds
seen test b s e = ap (λ (t : Bool). t || holds test s) e

pub passed : (test : ℕ → Bool) (b : ℕ) (s : List ℕ) → test b ≡ false → holds test (b ∷ s) ≡ holds test s
unfolding holds
passed test b s e = ap (λ (t : Bool). t || holds test s) e

-- a byte in front that is neither `f` nor a point
pub bare-past : (b : ℕ) (s : List ℕ) → (b ≡ letter_f → ⊥) → (b ≡ point → ⊥) → bare_f (b ∷ s) ≡ bare_f s
unfolding ends_in_f
bare-past b [] f p = ap (λ (t : Bool). t && not (has_point (b ∷ []))) (ne_eqb b letter_f f)
bare-past b (c ∷ s) f p = ap (λ (t : Bool). ends_in_f (c ∷ s) && not t) (passed (λ x. eqb x point) b (c ∷ s) (ne_eqb b point p))

digit-past : (b : ℕ) (s : List ℕ) → is_digit b ≡ true → bare_f (b ∷ s) ≡ bare_f s
digit-past b s e = bare-past b s (λ f. omega (arith, digit_bounds b e)) (λ p. omega (arith, digit_bounds b e))

-- digits alone end in no `f`
pub plain : (s : List ℕ) → has_tail s ≡ false → bare_f s ≡ false
unfolding ends_in_f
plain [] e = refl
plain (b ∷ s) e =
    by_bool (is_digit b)
    (λ t. digit-past b s t ∙ plain s (sym (tail_on b s t) ∙ e))
    (λ f. absurd (false≢true (sym e ∙ tail_here b s f)))

-- digits that something ends, and no point, end in an `f`
pub closed : (s : List ℕ) → tail_of (rest s) ≡ End → has_tail s ≡ true → bare_f s ≡ true
unfolding digit_run ends_in_f holds
closed [] e h = absurd (false≢true h)
closed (b ∷ s) e h =
    by_bool (is_digit b)
    (λ t. digit-past b s t ∙ closed s (ap tail_of (sym (rest-digit b s t)) ∙ e) (sym (tail_on b s t) ∙ h))
    (λ f. let parts = end_is b s (ap tail_of (sym (rest-other b s f)) ∙ e) in λ j. bare_f (parts.0 j ∷ parts.1 j))

-- digits with a point behind them hold a point
pointed-holds : (s : List ℕ) → tail_of (rest s) ≡ Point → has_point s ≡ true
unfolding digit_run tail_of
pointed-holds [] e = absurd (omega (arith, ap tail_number e))
pointed-holds (b ∷ s) e =
    by_bool (is_digit b)
    (λ t. passed (λ x. eqb x point) b s (ne_eqb b point (λ p. omega (arith, digit_bounds b t)))
    ∙ pointed-holds s (ap tail_of (sym (rest-digit b s t)) ∙ e))
    (λ f. seen (λ x. eqb x point) b s (eq-eqb b point (point-is b s (ap tail_of (sym (rest-other b s f)) ∙ e))))

-- and so they end in no `f` without one
pub pointed-bare : (s : List ℕ) → tail_of (rest s) ≡ Point → bare_f s ≡ false
pointed-bare s e = ap (λ (t : Bool). ends_in_f s && not t) (pointed-holds s e) ∙ none (ends_in_f s)
  where
    none : (t : Bool) → (t && false) ≡ false
    none true = refl
    none false = refl

-- a digit stands in digits and what ends them where there is one among the digits
pub ended-digit : (s : List ℕ) → tail_of (rest s) ≡ End → has_digit s ≡ some_digit (digit_run s) []
unfolding digit_run some_digit holds is_digit
ended-digit [] e = refl
ended-digit (b ∷ s) e =
    by_bool (is_digit b)
    (λ t. seen is_digit b s t ∙ ap (λ (r : List ℕ). some_digit r []) (sym (run-digit b s t)))
    (λ f. let parts = end_is b s (ap tail_of (sym (rest-other b s f)) ∙ e) in
    (λ j. has_digit (parts.0 j ∷ parts.1 j)) ∙ ap (λ (r : List ℕ). some_digit r []) (sym (run-other b s f)))

either_side : (r : List ℕ) → some_digit r [] ≡ some_digit [] r
unfolding some_digit
either_side [] = refl
either_side (b ∷ r) = refl

-- about a point, on either side
pub pointed-digit : (s : List ℕ) → tail_of (rest s) ≡ Point → tail_of (rest (drop 1 (rest s))) ≡ End
    → has_digit s ≡ some_digit (digit_run s) (digit_run (drop 1 (rest s)))
unfolding digit_run tail_of some_digit
pointed-digit [] e h = absurd (omega (arith, ap tail_number e))
pointed-digit (b ∷ s) e h =
    by_bool (is_digit b)
    (λ t. seen is_digit b s t ∙ ap (λ (r : List ℕ). some_digit r (digit_run (drop 1 (rest (b ∷ s))))) (sym (run-digit b s t)))
    (λ f. let after = ap (drop 1) (rest-other b s f) in
    passed is_digit b s f
    ∙ ended-digit s (ap (λ (r : List ℕ). tail_of (rest r)) (sym after) ∙ h)
    ∙ either_side (digit_run s)
    ∙ sym (λ j. some_digit (run-other b s f j) (digit_run (after j))))
