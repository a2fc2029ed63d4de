-- The digits that are written, by the quotient and the last digit.
-- Assumes nothing.
use mathlib.Core.Path.{◌≡◌, refl, sym, ap, ◌∙◌}
use mathlib.Core.Bool.{true, false, false≢true}
use mathlib.Core.List.{List, [], ◌∷◌, ◌++◌}
use Prim.Native.Nat.{ℕ, zero, suc, ◌-◌, ◌/◌, ◌%◌, ◌≤◌, ◌<◌, min}
use native.Mathlib.Nat.{div-lt_self, not-suc-le-zero}
use native.Mathlib.Omega.{arith}
use borrow.Author.Tests.{lt-ltb, le-ltb, ltb-true, ltb-false}
use lib.Dec.{ltb}
use lib.IntN.{ℤ, pos, negsuc, nat_abs}
use lib.Signed.{lt_z}
use mir.Syntax.{w64}
use mir.Val.{SFits, to_z, of_z}
use mir.ValLaws.{to_z-of_z}
use Rattle.data.proofs.Cases.{by_bool}
use Rattle.data.specs.Bytes.{minus}
use Rattle.report.specs.Digits.{glyph, decimal_by, decimal, hex_by, most_hex, hex}
use Rattle.report.specs.Readings.{integer}

-- the quotient of a number that has two digits or more falls
pub quotient_falls : (n : ℕ) → 10 ≤ n → n / 10 < n
quotient_falls n h = div-lt_self (omega arith) (omega arith)

-- fuel over the number is enough
fuelled : (f g n : ℕ) → n < f → n < g → decimal_by f n ≡ decimal_by g n
unfolding decimal_by
fuelled zero g n h k = absurd (omega arith)
fuelled (suc f) zero n h k = absurd (omega arith)
fuelled (suc f) (suc g) n h k =
    by_bool (ltb n 10)
    (λ one. rw (decimal_by, one))
    (λ more. let falls = quotient_falls n (ltb-false n 10 more) in
    rw (decimal_by, more)
    (ap (λ (l : List ℕ). l ++ (glyph (n % 10) ∷ [])) (fuelled f g (n / 10) (omega arith) (omega arith))))

-- a number below ten is one digit
pub decimal-one : (n : ℕ) → n < 10 → decimal n ≡ glyph n ∷ []
unfolding decimal decimal_by
decimal-one n h = rw (decimal, decimal_by, lt-ltb n 10 h)

-- and any other the digits of its quotient and its last
pub decimal-more : (n : ℕ) → 10 ≤ n → decimal n ≡ decimal (n / 10) ++ (glyph (n % 10) ∷ [])
unfolding decimal decimal_by
decimal-more n h =
    rw (decimal, decimal_by, le-ltb n 10 h)
    (ap (λ (l : List ℕ). l ++ (glyph (n % 10) ∷ [])) (fuelled n (suc (n / 10)) (n / 10) (quotient_falls n h) (omega arith)))

-- no hexadecimal digits of a number, and one more behind those of its quotient
pub hex_by-none : (k n : ℕ) → k ≡ 0 → hex_by k n ≡ []
unfolding hex_by
hex_by-none zero n e = refl
hex_by-none (suc k) n e = absurd (omega arith)

pub hex_by-more : (k n : ℕ) → (k ≡ 0 → ⊥) → hex_by k n ≡ hex_by (k - 1) (n / 16) ++ (glyph (n % 16) ∷ [])
unfolding hex_by
hex_by-more zero n h = absurd (h refl)
hex_by-more (suc k) n h = ap (λ (j : ℕ). hex_by j (n / 16) ++ (glyph (n % 16) ∷ [])) {x = k} {y = suc k - 1} (omega arith)

-- as many as are asked for, and no more than a u64 has
pub hex-few : (k n : ℕ) → k ≤ most_hex → hex_by k n ≡ hex k n
unfolding hex
hex-few k n h = ap (λ (j : ℕ). hex_by j n) {x = k} {y = min k most_hex} (omega arith)

pub hex_many : (k n : ℕ) → most_hex ≤ k → hex_by most_hex n ≡ hex k n
unfolding hex
hex_many k n h = ap (λ (j : ℕ). hex_by j n) {x = most_hex} {y = min k most_hex} (omega arith)

-- the bits of a number, read back
abbrev pub back : ℤ → ℤ
back z = to_z w64 (of_z w64 z)

below_zero : (z : ℤ) → lt_z z (pos 0) ≡ true → (k : ℕ) × (z ≡ negsuc k)
below_zero (pos n) e = absurd (not-suc-le-zero (ltb-true n 0 e))
below_zero (negsuc k) e = (k, refl)

-- a number below zero, by its place below
negative-form : (n : ℤ) → SFits w64 n → lt_z (back n) (pos 0) ≡ true → (k : ℕ) × (n ≡ negsuc k)
negative-form n f e = below_zero n (ap (λ (z : ℤ). lt_z z (pos 0)) (sym (to_z-of_z w64 n f)) ∙ e)

-- a number below zero is a minus and its magnitude
pub integer-negative : (n : ℤ) (m : ℕ) → SFits w64 n → lt_z (back n) (pos 0) ≡ true → m ≡ nat_abs (back n)
    → minus ∷ [] ++ decimal m ≡ integer n
integer-negative n m fits below e =
    let form = negative-form n fits below in
    ap (λ (k : ℕ). minus ∷ [] ++ decimal k) (e ∙ ap nat_abs (to_z-of_z w64 n fits ∙ form.1)) ∙ sym (ap integer form.1)

-- and any other its magnitude alone
plain : (n : ℤ) → lt_z n (pos 0) ≡ false → decimal (nat_abs n) ≡ integer n
plain (pos n) e = refl
plain (negsuc n) e = absurd (false≢true (sym e))

pub integer-plain : (n : ℤ) (m : ℕ) → SFits w64 n → lt_z (back n) (pos 0) ≡ false → m ≡ nat_abs (back n) → decimal m ≡ integer n
integer-plain n m fits above e =
    ap decimal (e ∙ ap nat_abs (to_z-of_z w64 n fits))
    ∙ plain n (ap (λ (z : ℤ). lt_z z (pos 0)) (sym (to_z-of_z w64 n fits)) ∙ above)
