-- Laws of the kinds: each case, by the form and the size that lead to it.
-- Assumes nothing.
use Rattle.std.proofs.Common.{ltb, le_trans, le_of_eq, lt_of_lt_of_le, ltb-false, ltb-true, ◌≡◌, ℕ, ◌+◌, ◌%◌, ◌^◌, ◌<◌, ◌≤◌, Bool, true, false, List, [], ◌∷◌, length, drop, sym, refl, ap, ◌∙◌, arith, eq-eqb, ne_eqb, le-leb}
use borrow.Author.Tests.{lt-leb}
use Rattle.data.proofs.Cases.{by_bool}
use Rattle.data.specs.Bytes.{plus, minus}
use Rattle.scalar.specs.Digits.{gathered, digit_run, value, most_u64}
use Rattle.scalar.specs.Float.{most_places, rest, tail_of}
use Rattle.scalar.specs.Kind.{kind_above, kind_by_size, kind_of_digits, kind_unpointed, some_digit, kind_pointed, kind_after_point, kind_after_sign}
use Rattle.scalar.specs.Kind.{number_or_name, kind_of}
use Rattle.scalar.specs.Truth.{yes, no, same, bool_read}
use Rattle.scalar.specs.Whole.{most_i64, has_tail}
use Rattle.scalar.specs.declared.digits.Gathered.{Gathered}
use Rattle.scalar.proofs.Gathers.{place_is, tailed, untailed, total-is}
use Rattle.scalar.specs.declared.float.Tail.TheVariants.{End, Point, Other}
use Rattle.scalar.specs.declared.kinds.ReadingKind.TheVariants.{Bool as Truth, Whole, Decimal, Name}
use Rattle.scalar.specs.declared.kinds.ReadingKind.{ReadingKind}
use Rattle.std.specs.Prelude.{Ok, Err, is_ok}
use mathlib.Core.Bool.{false≢true}
use Rattle.scalar.specs.declared.errors.BoolError.{BoolError}

-- ---- without a point

-- by whether it is at most 2^63 - 1
abbrev sized : Bool → ℕ → Bool → ReadingKind
sized negative n t = elim t [ true ↦ Whole | false ↦ kind_above negative n ]

-- and by whether it is at most 2^64 - 1
abbrev sized_above : Bool → ReadingKind
sized_above t = elim t [ true ↦ Decimal | false ↦ Name ]

pub size-whole : (negative : Bool) (n : ℕ) → n ≤ most_i64 → kind_by_size negative n ≡ Whole
unfolding kind_by_size
size-whole negative n h = ap (sized negative n) (le-leb n most_i64 h)

pub size-negative : (negative : Bool) (n : ℕ) → most_i64 < n → negative ≡ true → kind_by_size negative n ≡ Name
unfolding kind_by_size
size-negative negative n h e = ap (sized negative n) (lt-leb n most_i64 h) ∙ ap (λ (t : Bool). kind_above t n) e

pub size-decimal : (negative : Bool) (n : ℕ) → most_i64 < n → n ≤ most_u64 → negative ≡ false → kind_by_size negative n ≡ Decimal
unfolding kind_by_size
size-decimal negative n h k e =
    ap (sized negative n) (lt-leb n most_i64 h) ∙ ap (λ (t : Bool). kind_above t n) e ∙ ap sized_above (le-leb n most_u64 k)

pub size-past : (negative : Bool) (n : ℕ) → most_u64 < n → kind_by_size negative n ≡ Name
unfolding kind_by_size
size-past true n h = size-negative true n (omega arith) refl
size-past false n h = ap (sized false n) (lt-leb n most_i64 (omega arith)) ∙ ap sized_above (lt-leb n most_u64 h)

-- a sign alone
pub digits-none : (negative : Bool) (digits : List ℕ) → length digits ≡ 0 → kind_of_digits negative digits ≡ Name
unfolding kind_of_digits
digits-none negative [] h = refl
digits-none negative (b ∷ digits) h = absurd (omega arith)

-- at least one digit
pub digits-some : (negative : Bool) (digits : List ℕ) → (length digits ≡ 0 → ⊥)
    → kind_of_digits negative digits ≡ kind_by_size negative (value 0 digits)
unfolding kind_of_digits
digits-some negative [] h = absurd (h refl)
digits-some negative (b ∷ digits) h = refl

pub unpointed_tail : (negative : Bool) (s : List ℕ) → has_tail s ≡ true → kind_unpointed negative s ≡ Name
unfolding kind_unpointed
unpointed_tail negative s e = rw (kind_unpointed, e)

pub unpointed-digits : (negative : Bool) (s : List ℕ) → has_tail s ≡ false → kind_unpointed negative s ≡ kind_of_digits negative (digit_run s)
unfolding kind_unpointed
unpointed-digits negative s e = rw (kind_unpointed, e)

-- the same of digits that were gathered from a place on
module _ (negative : Bool) (d : List ℕ) (sign : ℕ) (whole : Gathered) (e : whole ≡ gathered d sign 0) where
  pub unpointed_followed : whole.at < length d → kind_unpointed negative (drop sign d) ≡ Name
  unpointed_followed h = unpointed_tail _ _ (tailed _ _ 0 _ e h)

  pub unpointed_bare : length d ≤ whole.at → whole.at ≡ sign → kind_unpointed negative (drop sign d) ≡ Name
  unpointed_bare h none = unpointed-digits _ _ (untailed _ _ 0 _ e h) ∙ digits-none _ _ (omega (arith, place_is d sign 0 whole e, none))

  -- where digits stand and nothing after them, their size decides
  module _ (h : length d ≤ whole.at) (some : whole.at ≡ sign → ⊥) where
    by-size : kind_unpointed negative (drop sign d) ≡ kind_by_size negative (value 0 (digit_run (drop sign d)))
    by-size =
        unpointed-digits _ _ (untailed _ _ 0 _ e h)
        ∙ digits-some _ _ (λ none. some (omega (arith, place_is d sign 0 whole e, none)))

    pub unpointed_past : ltb most_u64 (value 0 (digit_run (drop sign d))) ≡ true → kind_unpointed negative (drop sign d) ≡ Name
    unpointed_past t = by-size ∙ size-past _ _ (ltb-true _ _ t)

    module _ (f : ltb most_u64 (value 0 (digit_run (drop sign d))) ≡ false) where
      number : whole.total ≡ value 0 (digit_run (drop sign d))
      number = total-is d sign 0 whole e (ltb-false _ _ f)

      pub unpointed_whole : whole.total ≤ most_i64 → kind_unpointed negative (drop sign d) ≡ Whole
      unpointed_whole k = by-size ∙ size-whole _ _ (le_trans (le_of_eq (sym number)) k)

      pub unpointed_negative : most_i64 < whole.total → negative ≡ true → kind_unpointed negative (drop sign d) ≡ Name
      unpointed_negative k n = by-size ∙ size-negative _ _ (lt_of_lt_of_le k (le_of_eq number)) n

      pub unpointed_decimal : most_i64 < whole.total → negative ≡ false → kind_unpointed negative (drop sign d) ≡ Decimal
      unpointed_decimal k n = by-size ∙ size-decimal _ _ (lt_of_lt_of_le k (le_of_eq number)) (ltb-false _ _ f) n

-- ---- with a point

pub no_digit : (whole fraction : List ℕ) → length whole + length fraction ≡ 0 → some_digit whole fraction ≡ false
unfolding some_digit
no_digit [] [] h = refl
no_digit [] (b ∷ fraction) h = absurd (omega arith)
no_digit (b ∷ whole) fraction h = absurd (omega arith)

pub one-digit : (whole fraction : List ℕ) → (length whole + length fraction ≡ 0 → ⊥) → some_digit whole fraction ≡ true
unfolding some_digit
one-digit [] [] h = absurd (h refl)
one-digit [] (b ∷ fraction) h = refl
one-digit (b ∷ whole) fraction h = refl

pub pointed-none : (whole fraction : List ℕ) → some_digit whole fraction ≡ false → kind_pointed whole fraction ≡ Name
unfolding kind_pointed
pointed-none whole fraction e = rw (kind_pointed, e)

pub pointed_long : (whole fraction : List ℕ) → some_digit whole fraction ≡ true → most_places < length fraction → kind_pointed whole fraction ≡ Name
unfolding kind_pointed
pointed_long whole fraction e h = rw (kind_pointed, e, lt-leb (length fraction) most_places h)

pub pointed-past : (whole fraction : List ℕ) → some_digit whole fraction ≡ true → length fraction ≤ most_places
    → most_u64 < value (value 0 whole % 2 ^ 64) fraction → kind_pointed whole fraction ≡ Name
unfolding kind_pointed
pointed-past whole fraction e h k =
    rw (kind_pointed, e, le-leb (length fraction) most_places h, lt-leb (value (value 0 whole % 2 ^ 64) fraction) most_u64 k)

pub pointed-is : (whole fraction : List ℕ) → some_digit whole fraction ≡ true → length fraction ≤ most_places
    → value (value 0 whole % 2 ^ 64) fraction ≤ most_u64 → kind_pointed whole fraction ≡ Decimal
unfolding kind_pointed
pointed-is whole fraction e h k =
    rw (kind_pointed, e, le-leb (length fraction) most_places h, le-leb (value (value 0 whole % 2 ^ 64) fraction) most_u64 k)

pub point-end : (whole s : List ℕ) → tail_of (rest s) ≡ End → kind_after_point whole s ≡ kind_pointed whole (digit_run s)
unfolding kind_after_point
point-end whole s e = rw (kind_after_point, e)

pub point-point : (whole s : List ℕ) → tail_of (rest s) ≡ Point → kind_after_point whole s ≡ Name
unfolding kind_after_point
point-point whole s e = rw (kind_after_point, e)

pub point-other : (whole s : List ℕ) → tail_of (rest s) ≡ Other → kind_after_point whole s ≡ Name
unfolding kind_after_point
point-other whole s e = rw (kind_after_point, e)

-- ---- after the sign

pub sign-end : (negative : Bool) (s : List ℕ) → tail_of (rest s) ≡ End → kind_after_sign negative s ≡ kind_unpointed negative s
unfolding kind_after_sign
sign-end negative s e = rw (kind_after_sign, e)

pub sign-point : (negative : Bool) (s : List ℕ) → tail_of (rest s) ≡ Point
    → kind_after_sign negative s ≡ kind_after_point (digit_run s) (drop 1 (rest s))
unfolding kind_after_sign
sign-point negative s e = rw (kind_after_sign, e)

pub sign-other : (negative : Bool) (s : List ℕ) → tail_of (rest s) ≡ Other → kind_after_sign negative s ≡ Name
unfolding kind_after_sign
sign-other negative s e = rw (kind_after_sign, e)

-- ---- the sign

pub nothing : number_or_name [] ≡ Name
unfolding number_or_name
nothing = refl

pub after_minus : (b : ℕ) (s : List ℕ) → b ≡ minus → number_or_name (b ∷ s) ≡ kind_after_sign true s
unfolding number_or_name
after_minus b s e = rw (number_or_name, eq-eqb b minus e)

pub after_plus : (b : ℕ) (s : List ℕ) → (b ≡ minus → ⊥) → b ≡ plus → number_or_name (b ∷ s) ≡ kind_after_sign false s
unfolding number_or_name
after_plus b s h e = rw (number_or_name, ne_eqb b minus h, eq-eqb b plus e)

pub unsigned : (b : ℕ) (s : List ℕ) → (b ≡ minus → ⊥) → (b ≡ plus → ⊥) → number_or_name (b ∷ s) ≡ kind_after_sign false (b ∷ s)
unfolding number_or_name
unsigned b s h k = rw (number_or_name, ne_eqb b minus h, ne_eqb b plus k)

-- ---- yes and no

-- the two words are what the reading of yes and no answers
pub truth : (d : List ℕ) (b : Bool) → bool_read d ≡ Ok b → kind_of d ≡ Truth
unfolding bool_read kind_of
truth d b e =
    by_bool (same d yes)
    (λ t. rw (kind_of, t))
    (λ f. by_bool (same d no)
    (λ t. rw (kind_of, f, t))
    (λ g. absurd (false≢true (ap is_ok (rw (bool_read, f, g) at e)))))

pub no_truth : (d : List ℕ) (e : BoolError) → bool_read d ≡ Err e → kind_of d ≡ number_or_name d
unfolding bool_read kind_of
no_truth d e told =
    by_bool (same d yes)
    (λ t. absurd (false≢true (sym (ap is_ok (rw (bool_read, t) at told)))))
    (λ f. by_bool (same d no)
    (λ t. absurd (false≢true (sym (ap is_ok (rw (bool_read, f, t) at told)))))
    (λ g. rw (kind_of, f, g)))
