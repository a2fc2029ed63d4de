-- The number that a scalar begins with, and what is left over: by how the scalar begins, and then by the size of its digits.
-- Assumes nothing.
use Rattle.std.specs.Result.{result_unwrap_or}
use mathlib.Core.Path.{◌≡◌, refl, sym, ◌∙◌, ap}
use mathlib.Core.Bool.{Bool, true, false, not, ◌&&◌, ◌||◌}
use mathlib.Core.List.{List, [], ◌∷◌, ◌++◌, append_assoc}
use mathlib.Core.Logic.{◌⊎◌, inl, inr}
use Prim.Native.Nat.{ℕ, ◌+◌, ◌-◌}
use native.Mathlib.Omega.{arith}
use borrow.Author.Tests.{lt-ltb, le-ltb, eqb-true, eqb-false}
use lib.Dec.{eqb, ltb}
use lib.IntN.{ℤ, pos}
use lib.ListN.{length, drop, length-append, length-drop}
use lib.Seq.{drop-append-add}
use Rattle.data.proofs.Cases.{by_bool}
use Rattle.data.specs.Bytes.{plus, minus}
use Rattle.data.specs.Reasons.{first_of}
use Rattle.scalar.specs.Digits.{is_digit, digit_first, digit_run, value}
use Rattle.scalar.specs.Float.{rest}
use Rattle.scalar.specs.Numbers.{answered, whole_refusal_of}
use Rattle.scalar.specs.Whole.{most_i64, signed, i64_digits, i64_part, i64_number, i64_rest, i64_read}
use Rattle.std.specs.Prelude.{Result, Ok, Err}
use Rattle.scalar.specs.declared.errors.WholeError.TheVariants.{AllDigits, Overflow}
use Rattle.scalar.specs.declared.errors.WholeError.{WholeError}
use Rattle.scalar.proofs.Rests.{rest-digit, rest-other, run_alone, rest_plain}
use Rattle.scalar.proofs.Runs.{run-digit, run-other, run_length}
use Rattle.scalar.proofs.Wholes.{i64-none, i64-minus, i64-plus, i64-bare, i64-other, i64-is, by_size}
use Rattle.scalar.proofs.Wholes.{number_told, rest-told, read_refused, read_is, read_tail}
use Rattle.promises.specs.Cases.{bytes}
use Rattle.promises.specs.LeadingNumber.{is_sign, sign_of, has_minus, after_sign, digits_of, after_digits, is_empty, Apart}
use Rattle.promises.specs.LeadingNumber.{no_number, too_large, left_over, number_reasons, whole_reasons, first_number, whole_of, Leading, LoneSign}
use Rattle.promises.specs.LeadingNumber.{CallsTogether, edges, EdgesHold}

-- ---- a scalar taken apart

-- the digits in front and what stands after them are all
run-split : (s : List ℕ) → digit_run s ++ rest s ≡ s
unfolding digit_run
run-split [] = refl
run-split (b ∷ s) =
    by_bool (is_digit b)
    (λ t. (λ j. run-digit b s t j ++ rest-digit b s t j) ∙ ap (λ (r : List ℕ). b ∷ r) (run-split s))
    (λ f. (λ j. run-other b s f j ++ rest-other b s f j))

-- a first byte that is a sign, and one that is none
sign-here : (b : ℕ) (s : List ℕ) → is_sign b ≡ true → (sign_of (b ∷ s) ≡ b ∷ []) × (after_sign (b ∷ s) ≡ s)
unfolding sign_of after_sign
sign-here b s e = (rw (sign_of, e), rw (after_sign, e))

no_sign : (b : ℕ) (s : List ℕ) → is_sign b ≡ false → (sign_of (b ∷ s) ≡ []) × (after_sign (b ∷ s) ≡ b ∷ s)
unfolding sign_of after_sign
no_sign b s e = (rw (sign_of, e), rw (after_sign, e))

sign-split : (d : List ℕ) → sign_of d ++ after_sign d ≡ d
unfolding sign_of after_sign
sign-split [] = refl
sign-split (b ∷ s) =
    by_bool (is_sign b)
    (λ t. let e = sign-here b s t in λ j. e.0 j ++ e.1 j)
    (λ f. let e = no_sign b s f in λ j. e.0 j ++ e.1 j)

pub apart : (d : List ℕ) → Apart d
apart d = record {
  in_order =
      append_assoc (sign_of d) (digits_of d) (after_digits d)
      ∙ ap (λ (r : List ℕ). sign_of d ++ r) (run-split (after_sign d))
      ∙ sign-split d;
  digits = run_alone (after_sign d);
  no_digit = rest_plain (after_sign d);
}

-- ---- how a scalar begins

-- with a number: its digits decide
record Begun (d : List ℕ) : Type 0 where
  pub starts : no_number d ≡ false
  pub part : i64_part d ≡ i64_digits (has_minus d) (length (sign_of d)) (after_sign d)

-- or with none
record Unbegun (d : List ℕ) : Type 0 where
  pub starts : no_number d ≡ true
  pub part : i64_part d ≡ Err AllDigits
  pub small : too_large d ≡ false

sign-begins : (b : ℕ) (s : List ℕ) (negative : Bool) → is_sign b ≡ true → eqb b minus ≡ negative
    → i64_part (b ∷ s) ≡ i64_digits negative 1 s → Begun (b ∷ s)
unfolding has_minus
sign-begins b s negative here e part =
    let sign = sign-here b s here in
    record {
      starts = ap (λ (r : List ℕ). is_empty r && not (digit_first (b ∷ s))) sign.0;
      part = part ∙ sym (λ j. i64_digits (e j) (length (sign.0 j)) (sign.1 j));
    }

digit-begins : (b : ℕ) (s : List ℕ) → eqb b minus ≡ false → eqb b plus ≡ false → is_digit b ≡ true → Begun (b ∷ s)
unfolding has_minus digit_first
digit-begins b s f g t =
    let sign = no_sign b s (λ j. f j || g j) in
    record {
      starts = λ j. is_empty (sign.0 j) && not (t j);
      part = i64-bare b s (eqb-false b minus f) (eqb-false b plus g) t ∙ sym (λ j. i64_digits (f j) (length (sign.0 j)) (sign.1 j));
    }

other_unbegun : (b : ℕ) (s : List ℕ) → eqb b minus ≡ false → eqb b plus ≡ false → is_digit b ≡ false → Unbegun (b ∷ s)
unfolding digit_first value
other_unbegun b s f g e =
    let sign = no_sign b s (λ j. f j || g j) in
    record {
      starts = λ j. is_empty (sign.0 j) && not (e j);
      part = i64-other b s (eqb-false b minus f) (eqb-false b plus g) e;
      small = ap (λ (r : List ℕ). ltb most_i64 (value 0 r)) (ap digit_run sign.1 ∙ run-other b s e);
    }

none_unbegun : Unbegun []
unfolding sign_of after_sign digit_first digit_run value
none_unbegun = record { starts = refl; part = i64-none; small = refl }

start : (d : List ℕ) → Begun d ⊎ Unbegun d
start [] = inr none_unbegun
start (b ∷ s) =
    by_bool (eqb b minus)
    (λ t. inl (sign-begins b s true (ap (λ (x : Bool). x || eqb b plus) t) t (i64-minus b s (eqb-true b minus t))))
    (λ f. by_bool (eqb b plus)
    (λ t. inl (sign-begins b s false (λ j. f j || t j) f (i64-plus b s (eqb-false b minus f) (eqb-true b plus t))))
    (λ g. by_bool (is_digit b) (λ t. inl (digit-begins b s f g t)) (λ e. inr (other_unbegun b s f g e))))

-- ---- what is promised

module _ (d : List ℕ) where
  -- the first reason, by which of them are there
  number-refused : {none large : Bool} → no_number d ≡ none → too_large d ≡ large
      → first_number (number_reasons none large) ≡ first_number (number_reasons (no_number d) (too_large d))
  number-refused e f = sym (λ j. first_number (number_reasons (e j) (f j)))

  whole-refused : {none large left : Bool} → no_number d ≡ none → too_large d ≡ large → left_over d ≡ left
      → first_number (whole_reasons none large left) ≡ first_number (whole_reasons (no_number d) (too_large d) (left_over d))
  whole-refused e f g = sym (λ j. first_number (whole_reasons (e j) (f j) (g j)))

  -- a refusal: no rest is told, and the reading as a whole is the number's
  refused : (why : Result ℤ WholeError) → i64_number d ≡ why → i64_rest d ≡ [] → i64_read d ≡ why → (whole_refusal_of why ≡ answered → ⊥)
      → whole_refusal_of why ≡ first_number (number_reasons (no_number d) (too_large d))
      → whole_refusal_of why ≡ first_number (whole_reasons (no_number d) (too_large d) (left_over d))
      → Leading d
  refused why number left whole h e f = record {
    number_refusal = ap whole_refusal_of number ∙ e;
    whole_refusal = ap whole_refusal_of whole ∙ f;
    number = λ a. absurd (h (sym (ap whole_refusal_of number) ∙ a));
    rest_of = λ a. absurd (h (sym (ap whole_refusal_of number) ∙ a));
    no_rest = λ a. left;
    whole = whole ∙ sym (λ j. whole_of (number j) (left j));
  }

  unbegun : Unbegun d → Leading d
  unfolding first_of
  unbegun a =
      refused (Err AllDigits) (number_told d _ a.part) (rest-told d _ a.part) (read_refused d _ a.part) (λ e. omega arith)
      (number-refused a.starts a.small)
      (by_bool (left_over d) (λ t. whole-refused a.starts a.small t) (λ f. whole-refused a.starts a.small f))

  past : Begun d → i64_part d ≡ Err Overflow → too_large d ≡ true → Leading d
  unfolding first_of
  past b part large =
      refused (Err Overflow) (number_told d _ part) (rest-told d _ part) (read_refused d _ part) (λ e. omega arith)
      (number-refused b.starts large)
      (by_bool (left_over d) (λ t. whole-refused b.starts large t) (λ f. whole-refused b.starts large f))

  -- a number, and what is left over
  abbrev number : ℤ
  number = signed (has_minus d) (value 0 (digits_of d))

  abbrev place : ℕ
  place = length (sign_of d) + length (digits_of d)

  after_both : drop place d ≡ after_digits d
  after_both = ap (drop place) (sym (sign-split d)) ∙ drop-append-add (sign_of d) (after_sign d) (length (digits_of d))

  long : length d ≡ length (sign_of d) + length (after_sign d)
  long = ap length (sym (sign-split d)) ∙ length-append (sign_of d) (after_sign d)

  within : Begun d → i64_part d ≡ Ok (number, place) → too_large d ≡ false → Leading d
  unfolding first_of
  within b part small = go (after_digits d) refl
    where
      answers : (whole : Result ℤ WholeError) → i64_read d ≡ whole → whole ≡ whole_of (Ok number) (after_digits d)
          → whole_refusal_of whole ≡ first_number (whole_reasons (no_number d) (too_large d) (left_over d)) → Leading d
      answers whole read only e =
          let told = number_told d _ part in
          let left = rest-told d _ part ∙ after_both in
          record {
            number_refusal = ap whole_refusal_of told ∙ number-refused b.starts small;
            whole_refusal = ap whole_refusal_of read ∙ e;
            number = λ a. ap (λ r. result_unwrap_or r (pos 0)) told;
            rest_of = λ a. left;
            no_rest = λ h. absurd (h (ap whole_refusal_of told));
            whole = read ∙ only ∙ sym (λ j. whole_of (told j) (left j));
          }

      left-length : {left : List ℕ} → after_digits d ≡ left → length left ≡ length (after_sign d) - length (digits_of d)
      left-length e = ap length (sym e) ∙ length-drop (length (digits_of d)) (after_sign d)

      go : (left : List ℕ) → after_digits d ≡ left → Leading d
      go [] e =
          answers (Ok number)
          (read_is d _ _ part (omega (arith, long, run_length (after_sign d), left-length e)))
          (sym (ap (whole_of (Ok number)) e))
          (whole-refused b.starts small (ap (λ (r : List ℕ). not (is_empty r)) e))
      go (byte ∷ left) e =
          answers (Err AllDigits)
          (read_tail d _ _ part (omega (arith, long, run_length (after_sign d), left-length e)))
          (sym (ap (whole_of (Ok number)) e))
          (whole-refused b.starts small (ap (λ (r : List ℕ). not (is_empty r)) e))

  pub leading : Leading d
  leading = go (start d)
    where
      go : Begun d ⊎ Unbegun d → Leading d
      go (inl b) =
          by_size (has_minus d) (length (sign_of d)) (after_sign d)
          (λ h e. past b (b.part ∙ e) (lt-ltb _ _ h))
          (λ h e. within b (b.part ∙ e) (le-ltb _ _ h))
      go (inr a) = unbegun a

-- ---- a sign without a digit

-- what begins with no digit has none in front
no_run : (s : List ℕ) → digit_first s ≡ false → digit_run s ≡ []
unfolding digit_first digit_run
no_run [] e = refl
no_run (b ∷ s) e = run-other b s e

zero_is : (negative : Bool) → signed negative 0 ≡ pos 0
zero_is true = refl
zero_is false = refl

sign-alone : (negative : Bool) (b : ℕ) (d : List ℕ) → digit_run d ≡ [] → i64_part (b ∷ d) ≡ i64_digits negative 1 d
    → (i64_number (b ∷ d) ≡ Ok (pos 0)) × (i64_rest (b ∷ d) ≡ d)
unfolding value
sign-alone negative b d none e = (number_told (b ∷ d) _ part, rest-told (b ∷ d) _ part)
  where
    part : i64_part (b ∷ d) ≡ Ok (pos 0, 1)
    part =
        e
        ∙ i64-is negative 1 d (rw none (omega arith))
        ∙ (λ j. Ok (signed negative (value 0 (none j)), 1 + length (none j)))
        ∙ ap (λ (i : ℤ). Ok (i, 1)) (zero_is negative)

pub lone-sign : LoneSign
lone-sign b d e f =
    let none = no_run d f in
    by_bool (eqb b minus)
    (λ t. sign-alone true b d none (i64-minus b d (eqb-true b minus t)))
    (λ g. sign-alone false b d none (i64-plus b d (eqb-false b minus g) (eqb-true b plus (ap (λ (x : Bool). x || eqb b plus) (sym g) ∙ e))))

-- ---- of the contracts

pub calls_together : CallsTogether
calls_together κs args whole xs w κt again number ys n same κu third left zs l alike =
    let d = args.0.now in
    w ∙ (leading d).whole ∙ sym (λ j. whole_of ((n ∙ ap i64_number same) j) ((l.0 ∙ ap i64_rest alike) j))

-- ---- of the edges, by computation

pub edges_hold : EdgesHold
unfolding bytes edges is_digit digit_run value i64_digits i64_part i64_number i64_rest
edges_hold = refl
