-- The digits that are written are the decimal notation of the number: they say the number, the first is no 0 unless the number is, and the
-- u64 reading reads them back.
-- Assumes nothing.
use mathlib.Core.Path.{◌≡◌, refl, sym, ap, ◌∙◌}
use mathlib.Core.Bool.{true, false, false≢true}
use mathlib.Core.List.{List, [], ◌∷◌, ◌++◌}
use Prim.Native.Nat.{ℕ, zero, suc, ◌+◌, ◌/◌, ◌%◌, ◌≤◌, ◌<◌}
use native.Mathlib.Nat.{div-add-mod', mod-lt}
use native.Mathlib.Omega.{arith}
use borrow.Author.Tests.{lt-ltb, le-ltb, le-leb, ltb-true, ltb-false, leb-true, ne_eqb}
use lib.Dec.{eqb, leb, ltb}
use lib.ListN.{length, get_or, length-append}
use Rattle.data.proofs.Cases.{by_bool}
use Rattle.data.specs.Bytes.{digit_zero, digit_nine, plus}
use Rattle.scalar.specs.Digits.{is_digit, digit_run, carry, value, most_u64}
use Rattle.scalar.specs.Whole.{u64_digits, u64_read}
use Rattle.std.specs.Prelude.{Ok}
use Rattle.report.proofs.Digits.{quotient_falls, decimal-one, decimal-more}
use Rattle.report.specs.Digits.{glyph, decimal}

-- below ten, a digit's byte is that far from `0`
glyph-is : (d : ℕ) → d < 10 → glyph d ≡ digit_zero + d
unfolding glyph
glyph-is d h = rw (glyph, lt-ltb d 10 h)

last-below : (n : ℕ) → n % 10 < 10
last-below n = mod-lt n (omega arith)

-- by the number: what holds below ten, and of a number if of its quotient, holds of all
module _ (P : ℕ → Type 0) (one : (n : ℕ) → n < 10 → P n) (more : (n : ℕ) → 10 ≤ n → P (n / 10) → P n) where
  by_fuel : (f n : ℕ) → n < f → P n
  by_fuel zero n h = absurd (omega arith)
  by_fuel (suc f) n h =
      by_bool (ltb n 10)
      (λ t. one n (ltb-true n 10 t))
      (λ e. let k = ltb-false n 10 e in
      let falls = quotient_falls n k in
      more n k (by_fuel f (n / 10) (omega arith)))

  by-quotient : (n : ℕ) → P n
  by-quotient n = by_fuel (suc n) n (omega arith)

-- ---- the digits say the number
value-last : (total : ℕ) (xs : List ℕ) (b : ℕ) → value total (xs ++ (b ∷ [])) ≡ carry (value total xs) b
unfolding value
value-last total [] b = refl
value-last total (x ∷ xs) b = value-last (carry total x) xs b

pub decimal-value : (n : ℕ) → value 0 (decimal n) ≡ n
unfolding value
decimal-value =
    by-quotient (λ n. value 0 (decimal n) ≡ n)
    (λ n h. rw (decimal-one n h) (omega (arith, glyph-is n h)))
    (λ n h below. ap (value 0) (decimal-more n h) ∙ value-last 0 (decimal (n / 10)) (glyph (n % 10))
    ∙ ap (λ (k : ℕ). carry k (glyph (n % 10))) below
    ∙ omega (arith, glyph-is (n % 10) (last-below n), div-add-mod' n 10))

-- ---- all are digits
digit-within : (d : ℕ) → d < 10 → is_digit (digit_zero + d) ≡ true
unfolding is_digit
digit-within d h =
    rw (is_digit, le-leb digit_zero (digit_zero + d) (omega arith)) (le-leb (digit_zero + d) digit_nine (omega arith))

digit-told : (d : ℕ) → d < 10 → is_digit (glyph d) ≡ true
digit-told d h = ap is_digit (glyph-is d h) ∙ digit-within d h

run-last : (xs : List ℕ) (b : ℕ) → digit_run xs ≡ xs → is_digit b ≡ true → digit_run (xs ++ (b ∷ [])) ≡ xs ++ (b ∷ [])
unfolding digit_run
run-last [] b e d = rw (digit_run, d)
run-last (x ∷ xs) b e d =
    by_bool (is_digit x)
    (λ t. let rest : digit_run xs ≡ xs = (let whole = rw (digit_run, t) at e in cc) in
    rw (digit_run, t) (ap (λ (l : List ℕ). x ∷ l) (run-last xs b rest d)))
    (λ f. let none = rw (digit_run, f) at e in let z : ◌≡◌ {A = ℕ} 0 1 = cc in absurd (omega arith))

pub decimal-run : (n : ℕ) → digit_run (decimal n) ≡ decimal n
unfolding digit_run
decimal-run =
    by-quotient (λ n. digit_run (decimal n) ≡ decimal n)
    (λ n h. rw (decimal-one n h, digit_run, digit-told n h))
    (λ n h below. rw (decimal-more n h) (run-last (decimal (n / 10)) (glyph (n % 10)) below (digit-told (n % 10) (last-below n))))

-- ---- the first is no 0
first-last : (xs : List ℕ) (b : ℕ) → 0 < length xs → get_or (xs ++ (b ∷ [])) 0 0 ≡ get_or xs 0 0
first-last [] b h = absurd (omega arith)
first-last (x ∷ xs) b h = refl

pub decimal-some : (n : ℕ) → 0 < length (decimal n)
decimal-some =
    by-quotient (λ n. 0 < length (decimal n))
    (λ n h. rw (decimal-one n h) (omega arith))
    (λ n h below. rw (decimal-more n h, length-append) (omega arith))

quotient-some : (n : ℕ) → 10 ≤ n → 0 < n / 10
quotient-some n h = omega (arith, div-add-mod' n 10, last-below n)

pub decimal-first : (n : ℕ) → 0 < n → get_or (decimal n) 0 0 ≡ digit_zero → ⊥
decimal-first =
    by-quotient (λ n. 0 < n → get_or (decimal n) 0 0 ≡ digit_zero → ⊥)
    (λ n h some zero-first. omega (arith, sym (glyph-is n h) ∙ (rw (decimal-one n h) at zero-first)))
    (λ n h below some zero-first. below (quotient-some n h)
    (sym (first-last (decimal (n / 10)) (glyph (n % 10)) (decimal-some (n / 10))) ∙ (rw (decimal-more n h) at zero-first)))

-- ---- and they are read back
plus-no_digit : (b : ℕ) → is_digit b ≡ true → eqb b plus ≡ false
unfolding is_digit
plus-no_digit b e =
    by_bool (leb digit_zero b)
    (λ t. ne_eqb b plus (λ is. omega (arith, leb-true digit_zero b t)))
    (λ f. absurd (false≢true (rw (is_digit, f) at e)))

digits_say : (d : List ℕ) (n : ℕ) → digit_run d ≡ d → value 0 d ≡ n → n ≤ most_u64 → u64_digits d ≡ Ok n
unfolding u64_digits
digits_say d n digits says small =
    let total : value 0 (digit_run d) ≡ n = ap (value 0) digits ∙ says in
    rw (u64_digits, le-ltb (length (digit_run d)) (length d) (omega (arith, ap length digits)), le-ltb most_u64 (value 0 (digit_run d)) (omega arith))
    (ap Ok total)

reads : (d : List ℕ) (n : ℕ) → digit_run d ≡ d → 0 < length d → value 0 d ≡ n → n ≤ most_u64 → u64_read d ≡ Ok n
unfolding u64_read digit_run
reads [] n digits some says small = absurd (omega arith)
reads (b ∷ d) n digits some says small =
    by_bool (is_digit b)
    (λ t. rw (u64_read, plus-no_digit b t) (digits_say (b ∷ d) n digits says small))
    (λ f. let none = rw (digit_run, f) at digits in let z : ◌≡◌ {A = ℕ} 0 1 = cc in absurd (omega arith))

-- the u64 reading of what is written for a number is the number
pub decimal-reads : (n : ℕ) → n ≤ most_u64 → u64_read (decimal n) ≡ Ok n
decimal-reads n small = reads (decimal n) n (decimal-run n) (decimal-some n) (decimal-value n) small
