-- How a scalar begins: with a sign, a digit or a point, and then what stands after the sign tells all that is asked of it; or as no number does.
-- Assumes nothing.
use mathlib.Core.Path.{◌≡◌, refl, sym, ◌∙◌, ap}
use mathlib.Core.Bool.{Bool, true, false, not, ◌||◌, false≢true}
use mathlib.Core.List.{List, [], ◌∷◌}
use mathlib.Core.Logic.{◌⊎◌, inl, inr}
use Prim.Native.Nat.{ℕ}
use native.Mathlib.Omega.{arith}
use borrow.Author.Tests.{eq-eqb, ne_eqb, eqb-true, eqb-false}
use lib.Dec.{eqb, ltb}
use Rattle.data.proofs.Cases.{by_bool}
use Rattle.data.specs.Bytes.{plus, minus, point}
use Rattle.scalar.specs.Digits.{is_digit, digit_run, value}
use Rattle.scalar.specs.Float.{rest, tail_of, f64_digits, f64_read, begins}
use Rattle.scalar.specs.Kind.{kind_after_sign, number_or_name}
use Rattle.scalar.specs.Numbers.{answered, whole_refusal_of}
use Rattle.scalar.specs.Whole.{most_i64, has_tail, i64_read}
use Rattle.std.specs.Prelude.{ℤ, Result, Err}
use Rattle.scalar.specs.declared.errors.DecimalError.TheVariants as Decimal
use Rattle.scalar.specs.declared.errors.WholeError.TheVariants.{AllDigits}
use Rattle.scalar.specs.declared.errors.WholeError.{WholeError}
use Rattle.scalar.specs.declared.kinds.ReadingKind.TheVariants as Kind
use Rattle.scalar.proofs.Floats.{f64_none, f64_minus, f64_plus, f64_bare, f64_other}
use Rattle.scalar.proofs.Forms.{unpointed_tail, sign-end, sign-other, nothing, after_minus, after_plus, unsigned}
use Rattle.scalar.proofs.Gathers.{tail_here}
use Rattle.scalar.proofs.Rests.{rest-other}
use Rattle.scalar.proofs.Runs.{run-other}
use Rattle.scalar.proofs.Wholes.{i64-none, i64-minus, i64-plus, i64-bare, i64-other, read_refused}
use Rattle.promises.specs.ReadingKinds.{kind_by_i64, i64_answers, has_digit, bare_f}
use Rattle.promises.proofs.ReadingKinds.Tails.{by_tail, point-is, passed, bare-past, plain}
use Rattle.promises.proofs.ReadingKinds.AfterSign.{i64_after, past_is, tail_is, i64-is-after, no_number, unless, unless-both, after_sign}

-- ---- how a scalar begins

-- as a number does: what stands after its sign tells all that is asked
pub record Begun (d : List ℕ) : Type 0 where
  pub negative : Bool
  pub after : List ℕ
  pub whole : i64_read d ≡ i64_after negative after
  pub float : f64_read d ≡ f64_digits negative after
  pub form : number_or_name d ≡ kind_after_sign negative after
  pub digit : has_digit d ≡ has_digit after
  pub bare : bare_f d ≡ bare_f after

-- or as none does
pub record Alien (d : List ℕ) : Type 0 where
  pub whole : i64_read d ≡ Err AllDigits
  pub float : f64_read d ≡ Err Decimal.AllDigits
  pub form : number_or_name d ≡ Kind.Name

minus-begins : (b : ℕ) (s : List ℕ) → b ≡ minus → Begun (b ∷ s)
unfolding is_digit
minus-begins b s e = record {
  negative = true;
  after = s;
  whole = i64-is-after (b ∷ s) s true 1 (i64-minus b s e) (omega arith);
  float = f64_minus b s e;
  form = after_minus b s e;
  digit = passed is_digit b s (ap is_digit e);
  bare = bare-past b s (λ f. omega arith) (λ p. omega arith);
}

plus-begins : (b : ℕ) (s : List ℕ) → (b ≡ minus → ⊥) → b ≡ plus → Begun (b ∷ s)
unfolding is_digit
plus-begins b s h e = record {
  negative = false;
  after = s;
  whole = i64-is-after (b ∷ s) s false 1 (i64-plus b s h e) (omega arith);
  float = f64_plus b s h e;
  form = after_plus b s h e;
  digit = passed is_digit b s (ap is_digit e);
  bare = bare-past b s (λ f. omega arith) (λ p. omega arith);
}

digit-begins : (b : ℕ) (s : List ℕ) → (b ≡ minus → ⊥) → (b ≡ plus → ⊥) → is_digit b ≡ true → Begun (b ∷ s)
unfolding begins
digit-begins b s h k e = record {
  negative = false;
  after = b ∷ s;
  whole = i64-is-after (b ∷ s) (b ∷ s) false 0 (i64-bare b s h k e) (omega arith);
  float = f64_bare b s h k (rw (begins, e));
  form = unsigned b s h k;
  digit = refl;
  bare = refl;
}

point-begins : (b : ℕ) (s : List ℕ) → (b ≡ minus → ⊥) → (b ≡ plus → ⊥) → is_digit b ≡ false → b ≡ point → Begun (b ∷ s)
unfolding begins value
point-begins b s h k e p = record {
  negative = false;
  after = b ∷ s;
  whole =
      read_refused (b ∷ s) _ (i64-other b s h k e)
      ∙ sym (tail_is false (b ∷ s) (ap (λ (r : List ℕ). ltb most_i64 (value 0 r)) (run-other b s e)) (tail_here b s e));
  float = f64_bare b s h k (rw (begins, e, eq-eqb b point p));
  form = unsigned b s h k;
  digit = refl;
  bare = refl;
}

none_alien : Alien []
none_alien = record { whole = read_refused [] _ i64-none; float = f64_none; form = nothing }

other_alien : (b : ℕ) (s : List ℕ) → (b ≡ minus → ⊥) → (b ≡ plus → ⊥) → is_digit b ≡ false → (b ≡ point → ⊥) → Alien (b ∷ s)
unfolding begins
other_alien b s h k e p = record {
  whole = read_refused (b ∷ s) _ (i64-other b s h k e);
  float = f64_other b s h k (rw (begins, e, ne_eqb b point p));
  form =
      unsigned b s h k
      ∙ by_tail (tail_of (rest (b ∷ s)))
      (λ t. sign-end false (b ∷ s) t ∙ unpointed_tail false (b ∷ s) (tail_here b s e))
      (λ t. absurd (p (point-is b s (ap tail_of (sym (rest-other b s e)) ∙ t))))
      (λ t. sign-other false (b ∷ s) t);
}

pub start : (d : List ℕ) → Begun d ⊎ Alien d
start [] = inr none_alien
start (b ∷ s) =
    by_bool (eqb b minus) (λ t. inl (minus-begins b s (eqb-true b minus t))) (λ f.
    let h = eqb-false b minus f in
    by_bool (eqb b plus) (λ t. inl (plus-begins b s h (eqb-true b plus t))) (λ g.
    let k = eqb-false b plus g in
    by_bool (is_digit b) (λ t. inl (digit-begins b s h k t)) (λ e.
    by_bool (eqb b point) (λ t. inl (point-begins b s h k e (eqb-true b point t))) (λ p. inr (other_alien b s h k e (eqb-false b point p))))))

-- ---- the two kinds of a scalar that is no truth

pub now-is : (d : List ℕ) → Begun d ⊎ Alien d → number_or_name d ≡ unless (no_number d) (kind_by_i64 (f64_read d) (i64_read d))
now-is d (inl b) =
    b.form
    ∙ after_sign b.negative b.after
    ∙ sym (λ j. unless (not (b.digit j) || b.bare j) (kind_by_i64 (b.float j) (b.whole j)))
now-is d (inr a) = unless-both (no_number d) _ _ a.form (λ j. kind_by_i64 (a.float j) (a.whole j))

-- where the i64 answers, no `f` stands
pub answered-plain : (d : List ℕ) → Begun d ⊎ Alien d → i64_answers d ≡ true → bare_f d ≡ false
answered-plain d (inl b) e =
    by_bool (has_tail b.after)
    (λ t. absurd (refused t))
    (λ f. b.bare ∙ plain b.after f)
  where
    told : eqb (whole_refusal_of (i64_after b.negative b.after)) answered ≡ true
    told = ap (λ (r : Result ℤ WholeError). eqb (whole_refusal_of r) answered) (sym b.whole) ∙ e

    refused : has_tail b.after ≡ true → ⊥
    refused t =
        by_bool (ltb most_i64 (value 0 (digit_run b.after)))
        (λ u. false≢true (ap (λ (r : Result ℤ WholeError). eqb (whole_refusal_of r) answered) (sym (past_is b.negative b.after u)) ∙ told))
        (λ v. false≢true (ap (λ (r : Result ℤ WholeError). eqb (whole_refusal_of r) answered) (sym (tail_is b.negative b.after v t)) ∙ told))
answered-plain d (inr a) e = absurd (false≢true (ap (λ (r : Result ℤ WholeError). eqb (whole_refusal_of r) answered) (sym a.whole) ∙ e))
