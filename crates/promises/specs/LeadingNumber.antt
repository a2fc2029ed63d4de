-- The number that a scalar begins with, and what is left over (request W7). A scalar is its sign, its digits and its rest, in that order; what the
-- calls answer is said in these words, and why they refuse as a list of reasons. Told by document 01's numbers.
use Rattle.std.specs.Result.{result_unwrap_or}
use Rattle.std.specs.Prelude.{ℕ, Bool, true, false, not, ◌&&◌, ◌||◌, List, [], ◌∷◌, ◌++◌, map, ◌≡◌, eqb, ltb, ℤ, pos, negsuc}
use Prim.Native.String.{String}
use Rattle.data.specs.Bytes.{plus, minus}
use Rattle.data.specs.Reasons.{Reason, if_so, first_of}
use Rattle.scalar.specs.Digits.{digits_alone, digit_first, digit_run, value}
use Rattle.scalar.specs.Float.{rest}
use Rattle.scalar.specs.Numbers.{answered, all_digits, overflow, whole_refusal_of}
use Rattle.scalar.specs.Whole.{most_i64, signed, i64_number, i64_rest, i64_read}
use Rattle.std.specs.Prelude.{Result, Ok, Err}
use Rattle.scalar.specs.declared.errors.WholeError.TheVariants.{AllDigits}
use Rattle.scalar.specs.declared.errors.WholeError.{WholeError}
use Rattle.scalar.proofs.to_i64.Reads as whole-call
use Rattle.scalar.proofs.to_i64_t.Reads as number-call
use Rattle.scalar.proofs.to_i64_rest.Reads as rest-call
use Rattle.promises.specs.Cases.{bytes}

-- ---- a scalar taken apart

-- whether a byte is a sign
abbrev pub is_sign : ℕ → Bool
is_sign b = eqb b minus || eqb b plus

-- the sign, if there is one
unfoldable pub sign_of : List ℕ → List ℕ
sign_of [] = []
sign_of (b ∷ d) = elim (is_sign b) [ true ↦ b ∷ [] | false ↦ [] ]

-- whether it is a minus
unfoldable pub has_minus : List ℕ → Bool
has_minus [] = false
has_minus (b ∷ d) = eqb b minus

-- what stands after it
unfoldable pub after_sign : List ℕ → List ℕ
after_sign [] = []
after_sign (b ∷ d) = elim (is_sign b) [ true ↦ d | false ↦ b ∷ d ]

-- the digits
abbrev pub digits_of : List ℕ → List ℕ
digits_of d = digit_run (after_sign d)

-- what stands after them
abbrev pub after_digits : List ℕ → List ℕ
after_digits d = rest (after_sign d)

-- whether there are no bytes
abbrev pub is_empty : List ℕ → Bool
is_empty [] = true
is_empty (b ∷ d) = false

-- what is promised: the scalar is sign, digits and rest, in that order; the digits are digits, and the rest begins with none
pub record Apart (d : List ℕ) : Type 0 where
  pub in_order : sign_of d ++ digits_of d ++ after_digits d ≡ d
  pub digits : digits_alone (digits_of d) ≡ true
  pub no_digit : digit_first (after_digits d) ≡ false

-- ---- why a scalar is refused: the first reason that is there

-- it begins with neither a sign nor a digit
abbrev pub no_number : List ℕ → Bool
no_number d = is_empty (sign_of d) && not (digit_first d)

-- its digits are above 2^63 - 1
abbrev pub too_large : List ℕ → Bool
too_large d = ltb most_i64 (value 0 (digits_of d))

-- something stands after them
abbrev pub left_over : List ℕ → Bool
left_over d = not (is_empty (after_digits d))

-- as one that begins with a number, by whether these are there
abbrev pub number_reasons : (none large : Bool) → List (Reason ℕ)
number_reasons none large = if_so none all_digits ∷ if_so large overflow ∷ []

-- and as one that is a number: Overflow comes before AllDigits
abbrev pub whole_reasons : (none large left : Bool) → List (Reason ℕ)
whole_reasons none large left = if_so none all_digits ∷ if_so large overflow ∷ if_so left all_digits ∷ []

-- the number of the first reason that is there, 0 where none is
abbrev pub first_number : List (Reason ℕ) → ℕ
first_number rs = first_of (λ (n : ℕ). n) answered rs

-- ---- what is promised

-- what is read where nothing is left over of a scalar, and AllDigits where something is
abbrev pub whole_of : Result ℤ WholeError → List ℕ → Result ℤ WholeError
whole_of r [] = r
whole_of r (b ∷ left) = Err AllDigits

pub record Leading (d : List ℕ) : Type 0 where
  -- each refusal is the first reason's
  pub number_refusal : whole_refusal_of (i64_number d) ≡ first_number (number_reasons (no_number d) (too_large d))
  pub whole_refusal : whole_refusal_of (i64_read d) ≡ first_number (whole_reasons (no_number d) (too_large d) (left_over d))
  -- the number is the one that the digits write, under the sign, and the rest is what stands after them
  pub number : whole_refusal_of (i64_number d) ≡ answered → result_unwrap_or (i64_number d) (pos 0) ≡ signed (has_minus d) (value 0 (digits_of d))
  pub rest_of : whole_refusal_of (i64_number d) ≡ answered → i64_rest d ≡ after_digits d
  -- no rest is told after a refusal
  pub no_rest : (whole_refusal_of (i64_number d) ≡ answered → ⊥) → i64_rest d ≡ []
  -- the reading as a whole accepts only an empty rest
  pub whole : i64_read d ≡ whole_of (i64_number d) (i64_rest d)

-- a sign without a digit: the number is 0, and the rest is what follows the sign
abbrev pub LoneSign : Type 0
LoneSign = (b : ℕ) (d : List ℕ) → is_sign b ≡ true → digit_first d ≡ false
    → (i64_number (b ∷ d) ≡ Ok (pos 0)) × (i64_rest (b ∷ d) ≡ d)

-- so what the three calls answer of one scalar, by their own contracts, belongs together
abbrev pub CallsTogether : Type 0
CallsTogether = (κs : _) (args : _) (whole : Result ℤ WholeError) (xs : _) → whole-call.Post κs args whole xs
    → (κt : _) (again : _) (number : Result ℤ WholeError) (ys : _) → number-call.Post κt again number ys → again.0.now ≡ args.0.now
    → (κu : _) (third : _) (left : _) (zs : _) → rest-call.Post κu third left zs → third.0.now ≡ args.0.now
    → whole ≡ whole_of number left.now

-- ---- both sides of each edge: a scalar, its refusal, its number and its rest

pub record Edge : Type 0 where
  pub text : String
  pub refusal : ℕ
  pub value : ℤ
  pub left : String

-- a number and what is left over
abbrev pub gives : String → ℤ → String → Edge
gives text value left = record { text = text; refusal = answered; value = value; left = left }

-- a refusal
abbrev pub refuses : String → ℕ → Edge
refuses text refusal = record { text = text; refusal = refusal; value = pos 0; left = "" }

unfoldable pub edges : List Edge
edges =
    refuses "" 21 ∷ refuses "x" 21 ∷ refuses ".5" 21 ∷ refuses " 1" 21
    ∷ gives "-" (pos 0) "" ∷ gives "+" (pos 0) "" ∷ gives "-x" (pos 0) "x" ∷ gives "+x" (pos 0) "x"
    ∷ gives "--1" (pos 0) "-1" ∷ gives "-.5" (pos 0) ".5"
    ∷ gives "12" (pos 12) "" ∷ gives "12." (pos 12) "." ∷ gives "12x" (pos 12) "x" ∷ gives "+12 " (pos 12) " " ∷ gives "-12" (negsuc 11) ""
    ∷ gives "0012-" (pos 12) "-" ∷ gives "-0x" (pos 0) "x" ∷ gives "1936.1.12" (pos 1936) ".1.12"
    ∷ gives "9223372036854775807" (pos 9223372036854775807) "" ∷ gives "9223372036854775807x" (pos 9223372036854775807) "x"
    ∷ gives "-9223372036854775807" (negsuc 9223372036854775806) "" ∷ gives "-9223372036854775807." (negsuc 9223372036854775806) "."
    ∷ refuses "9223372036854775808" 22 ∷ refuses "9223372036854775808x" 22 ∷ refuses "-9223372036854775808" 22 ∷ refuses "+9223372036854775808 " 22
    ∷ gives "09223372036854775807" (pos 9223372036854775807) "" ∷ gives "00000000000000000000001x" (pos 1) "x"
    ∷ refuses "18446744073709551616" 22 ∷ refuses "18446744073709551617.1" 22
    ∷ []

-- what is told of a scalar
abbrev pub told : List ℕ → ℕ × ℤ × List ℕ
told d = (whole_refusal_of (i64_number d), result_unwrap_or (i64_number d) (pos 0), i64_rest d)

-- what is promised: each line holds
abbrev pub EdgesHold : Type 0
EdgesHold = map (λ (e : Edge). told (bytes e.text)) edges ≡ map (λ (e : Edge). (e.refusal, e.value, bytes e.left)) edges
