-- The kind beside the readings, as specs/ReadingKinds states it: sign by sign and tail by tail both kinds ask the same of a scalar, and the new
-- one asks for a digit as well, and for a point where an `f` closes it.
-- Assumes nothing.
pub mod Tails
pub mod AfterSign
pub mod Begins
use mathlib.Core.Path.{◌≡◌, refl, sym, ◌∙◌, ap}
use mathlib.Core.Bool.{Bool, true, false, not, ◌||◌, false≢true}
use mathlib.Core.List.{List, [], ◌∷◌}
use mathlib.Core.Logic.{◌↔◌, ◌⊎◌, inl, inr}
use Prim.Native.Nat.{ℕ}
use native.Mathlib.Omega.{arith}
use borrow.Author.Tests.{eqb-true}
use lib.Dec.{eqb}
use Rattle.data.proofs.Cases.{by_bool}
use Rattle.scalar.specs.Digits.{is_digit, digit_run, value}
use Rattle.scalar.specs.Float.{tail_of, f64_read}
use Rattle.scalar.specs.Kind.{kind_above, kind_by_size, kind_of_digits, kind_unpointed, some_digit, kind_pointed, kind_after_point, kind_after_sign}
use Rattle.scalar.specs.Kind.{number_or_name, kind_of}
use Rattle.scalar.specs.Numbers.{answered, precision_loss, bool_error_number, whole_error_number, bool_refusal_of, whole_refusal_of, f64_refusal_of}
use Rattle.scalar.specs.Numbers.{kind_bool, kind_whole, kind_decimal, kind_name, kind_number_of}
use Rattle.scalar.specs.Truth.{yes, no, same, bool_read}
use Rattle.scalar.specs.Whole.{i64_part, i64_read}
use Rattle.std.specs.Prelude.{Float, ℤ, Result, Ok, Err}
use Rattle.scalar.specs.declared.errors.BoolError.TheVariants.{InvalidBool}
use Rattle.scalar.specs.declared.errors.BoolError.{BoolError}
use Rattle.scalar.specs.declared.errors.DecimalError.TheVariants as Decimal
use Rattle.scalar.specs.declared.errors.DecimalError.{DecimalError}
use Rattle.scalar.specs.declared.errors.WholeError.TheVariants.{AllDigits, Overflow}
use Rattle.scalar.specs.declared.errors.WholeError.{WholeError}
use Rattle.scalar.proofs.Forms.{truth, no_truth}
use Rattle.promises.specs.Cases.{bytes}
use Rattle.promises.specs.ReadingKinds.{kind_by_f64, kind_by_i64, kind_by_bool, kind_by_readings, old_number, new_number, is_number, bool_answers}
use Rattle.promises.specs.ReadingKinds.{i64_answers, f64_counts, has_digit, bare_f, Differ, Worded, edges, EdgesHold}
use Rattle.promises.proofs.ReadingKinds.AfterSign.{no_number, unless}
use Rattle.promises.proofs.ReadingKinds.Begins.{start, now-is, answered-plain}

-- ---- both kinds, by what is asked of a scalar: whether it is a truth (t), whether it is no number (n), whether the i64 answers (a), and whether
-- the f64 counts (f)

abbrev by_readings : Bool → Bool → Bool → ℕ
by_readings t a f =
    elim t [
      | true ↦ kind_bool
      | false ↦ elim a [ true ↦ kind_whole | false ↦ elim f [ true ↦ kind_decimal | false ↦ kind_name ] ]
    ]

abbrev by_form : Bool → Bool → Bool → Bool → ℕ
by_form t n a f = elim t [ true ↦ kind_bool | false ↦ elim n [ true ↦ kind_name | false ↦ by_readings false a f ] ]

-- a refusal is no answer
no_truth-refused : (e : BoolError) → eqb (bool_error_number e) answered ≡ false
no_truth-refused InvalidBool = refl

no_whole-refused : (e : WholeError) → eqb (whole_error_number e) answered ≡ false
no_whole-refused AllDigits = refl
no_whole-refused Overflow = refl

-- whether an f64 answers or gives 24
abbrev counts : Result Float DecimalError → Bool
counts x = eqb (f64_refusal_of x) answered || eqb (f64_refusal_of x) precision_loss

by_f64 : (x : Result Float DecimalError) → kind_number_of (kind_by_f64 x) ≡ by_readings false false (counts x)
by_f64 (Ok x) = refl
by_f64 (Err (Decimal.PrecisionLoss x)) = refl
by_f64 (Err Decimal.AllDigits) = refl
by_f64 (Err Decimal.Overflow) = refl

by-i64 : (x : Result Float DecimalError) (w : Result ℤ WholeError) → kind_number_of (kind_by_i64 x w) ≡ by_readings false (eqb (whole_refusal_of w) answered) (counts x)
by-i64 x (Ok n) = refl
by-i64 x (Err e) = by_f64 x ∙ sym (ap (λ (a : Bool). by_readings false a (counts x)) (no_whole-refused e))

by-bool_read : (x : Result Float DecimalError) (w : Result ℤ WholeError) (r : Result Bool BoolError)
    → kind_number_of (kind_by_bool x w r) ≡ by_readings (eqb (bool_refusal_of r) answered) (eqb (whole_refusal_of w) answered) (counts x)
by-bool_read x w (Ok b) = refl
by-bool_read x w (Err e) =
    by-i64 x w ∙ sym (ap (λ (t : Bool). by_readings t (eqb (whole_refusal_of w) answered) (counts x)) (no_truth-refused e))

old_is : (d : List ℕ) → old_number d ≡ by_readings (bool_answers d) (i64_answers d) (f64_counts d)
unfolding kind_by_readings
old_is d = by-bool_read (f64_read d) (i64_read d) (bool_read d)

by_truth : {P : Type 0} (r : Result Bool BoolError) → ((b : Bool) → r ≡ Ok b → P) → ((e : BoolError) → r ≡ Err e → P) → P
by_truth (Ok b) is none = is b refl
by_truth (Err e) is none = none e refl

by-unless : (n : Bool) (x : Result Float DecimalError) (w : Result ℤ WholeError)
    → kind_number_of (unless n (kind_by_i64 x w)) ≡ by_form false n (eqb (whole_refusal_of w) answered) (counts x)
by-unless true x w = refl
by-unless false x w = by-i64 x w

new_is : (d : List ℕ) → new_number d ≡ by_form (bool_answers d) (no_number d) (i64_answers d) (f64_counts d)
new_is d =
    by_truth (bool_read d)
    (λ b e. ap kind_number_of (truth d b e) ∙ sym (ap form e))
    (λ why e. ap kind_number_of (no_truth d why e ∙ now-is d (start d)) ∙ by-unless (no_number d) (f64_read d) (i64_read d) ∙ sym (ap form e ∙ ap (λ (t : Bool). by_form t (no_number d) (i64_answers d) (f64_counts d)) (no_truth-refused why)))
  where
    form : Result Bool BoolError → ℕ
    form r = by_form (eqb (bool_refusal_of r) answered) (no_number d) (i64_answers d) (f64_counts d)

-- ---- neither of the two words is a number

same-is : (s t : List ℕ) → same s t ≡ true → s ≡ t
unfolding same
same-is [] [] e = refl
same-is [] (b ∷ t) e = absurd (false≢true e)
same-is (a ∷ s) [] e = absurd (false≢true e)
same-is (a ∷ s) (b ∷ t) e =
    by_bool (eqb a b)
    (λ u. let first = eqb-true a b u in let others = same-is s t (rw (same, u) at e) in λ j. first j ∷ others j)
    (λ f. absurd (false≢true (rw (same, f) at e)))

two_words : (d : List ℕ) → bool_answers d ≡ true → (d ≡ yes) ⊎ (d ≡ no)
unfolding bool_read
two_words d e =
    by_bool (same d yes)
    (λ t. inl (same-is d yes t))
    (λ f. by_bool (same d no)
    (λ t. inr (same-is d no t))
    (λ g. absurd (false≢true (rw (bool_read, f, g) at e))))

word-refused : (d : List ℕ) → (d ≡ yes) ⊎ (d ≡ no) → i64_answers d ≡ false
unfolding i64_read i64_part is_digit
word-refused d (inl e) = ap i64_answers e
word-refused d (inr e) = ap i64_answers e

-- ---- what is promised, by those

exactly : (t n a f : Bool) → (by_readings t a f ≡ by_form t n a f → ⊥) ↔ ((is_number (by_readings t a f) ≡ true) × (n ≡ true))
exactly true n a f = (λ h. absurd (h refl), λ p. absurd (false≢true p.0))
exactly false true true f = (λ h. (refl, refl), λ p e. omega arith)
exactly false true false true = (λ h. (refl, refl), λ p e. omega arith)
exactly false true false false = (λ h. absurd (h refl), λ p. absurd (false≢true p.0))
exactly false false a f = (λ h. absurd (h refl), λ p. absurd (false≢true p.1))

there : (t n a f : Bool) → (by_readings t a f ≡ by_form t n a f → ⊥) → by_form t n a f ≡ kind_name
there true n a f h = absurd (h refl)
there false true a f h = refl
there false false a f h = absurd (h refl)

bool_word : (t n a f : Bool) → (by_form t n a f ≡ kind_bool) ↔ (t ≡ true)
bool_word true n a f = (λ e. refl, λ p. refl)
bool_word false true a f = (λ e. absurd (omega arith), λ p. absurd (false≢true p))
bool_word false false true f = (λ e. absurd (omega arith), λ p. absurd (false≢true p))
bool_word false false false true = (λ e. absurd (omega arith), λ p. absurd (false≢true p))
bool_word false false false false = (λ e. absurd (omega arith), λ p. absurd (false≢true p))

-- g: whether there is a digit, c: whether it ends in `f` without a point
whole_word : (t g c a f : Bool) → (t ≡ true → a ≡ false) → (a ≡ true → c ≡ false)
    → (by_form t (not g || c) a f ≡ kind_whole) ↔ ((a ≡ true) × (g ≡ true))
whole_word true g c a f h k = (λ e. absurd (omega arith), λ p. absurd (false≢true (sym (h refl) ∙ p.0)))
whole_word false false c a f h k = (λ e. absurd (omega arith), λ p. absurd (false≢true p.1))
whole_word false true true a f h k = (λ e. absurd (omega arith), λ p. absurd (false≢true (sym (k p.0))))
whole_word false true false true f h k = (λ e. (refl, refl), λ p. refl)
whole_word false true false false true h k = (λ e. absurd (omega arith), λ p. absurd (false≢true p.0))
whole_word false true false false false h k = (λ e. absurd (omega arith), λ p. absurd (false≢true p.0))

-- what a decimal is, of a kind's number k
abbrev DecimalIf : ℕ → Bool → Bool → Bool → Type 0
DecimalIf k f g c = (k ≡ kind_bool → ⊥) × (k ≡ kind_whole → ⊥) × (f ≡ true) × (g ≡ true) × (c ≡ false)

decimal-word : (t g c a f : Bool) → (by_form t (not g || c) a f ≡ kind_decimal) ↔ DecimalIf (by_form t (not g || c) a f) f g c
decimal-word true g c a f = (λ e. absurd (omega arith), λ p. absurd (p.0 refl))
decimal-word false false c a f = (λ e. absurd (omega arith), λ p. absurd (false≢true p.3))
decimal-word false true true a f = (λ e. absurd (omega arith), λ p. absurd (false≢true (sym p.4)))
decimal-word false true false true f = (λ e. absurd (omega arith), λ p. absurd (p.1 refl))
decimal-word false true false false true = (λ e. (λ x. omega arith, λ x. omega arith, refl, refl, refl), λ p. refl)
decimal-word false true false false false = (λ e. absurd (omega arith), λ p. absurd (false≢true p.2))

-- ---- of every scalar

pub differ : (d : List ℕ) → Differ d
differ d = record {
  exactly = rw (old_is d, new_is d) (exactly (bool_answers d) (no_number d) (i64_answers d) (f64_counts d));
  there = rw (old_is d, new_is d) (there (bool_answers d) (no_number d) (i64_answers d) (f64_counts d));
}

pub worded : (d : List ℕ) → Worded d
worded d = record {
  bool = rw (new_is d) (bool_word (bool_answers d) (no_number d) (i64_answers d) (f64_counts d));
  whole = rw (new_is d) (whole_word (bool_answers d) (has_digit d) (bare_f d) (i64_answers d) (f64_counts d)
      (λ e. word-refused d (two_words d e)) (answered-plain d (start d)));
  decimal = rw (new_is d) (decimal-word (bool_answers d) (has_digit d) (bare_f d) (i64_answers d) (f64_counts d));
}

-- ---- of the edges, by computation

pub edges_hold : EdgesHold
unfolding bytes edges same is_digit digit_run value tail_of kind_above kind_by_size kind_of_digits kind_unpointed some_digit kind_pointed kind_after_point
    kind_after_sign number_or_name kind_of
edges_hold = refl
