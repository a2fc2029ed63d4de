-- Document 01's own sentences on the reading of an f64, one by one, with the lengths that they name. `f64_read` names none.
use Rattle.std.specs.Prelude.{Result, Ok, Err, ℕ, ◌-◌, ◌%◌, ◌^◌, Bool, true, false, ◌&&◌, ◌||◌, List, [], ◌∷◌, ◌≡◌, eqb, leb, ltb, Float, ℤ, pos, length, drop}
use Rattle.std.specs.Float.{binary64}
use Rattle.std.specs.Float.Ieee.{of_int, mul, div}
use Rattle.data.specs.Bytes.{plus, minus, point}
use Rattle.scalar.specs.Digits.{is_digit, digit_run, value}
use Rattle.scalar.specs.Float.{rest, tail_of, f64_read}
use Rattle.scalar.specs.Whole.{signed}
use Rattle.scalar.specs.declared.errors.DecimalError.TheVariants.{AllDigits, Overflow, PrecisionLoss}
use Rattle.scalar.specs.declared.errors.DecimalError.{DecimalError}
use Rattle.scalar.specs.declared.float.Tail.TheVariants.{End, Point, Other}

-- its numbers
abbrev pub few_digits : ℕ
few_digits = 16

abbrev pub many_bytes : ℕ
many_bytes = 19

abbrev pub most_fraction_digits : ℕ
most_fraction_digits = 22

abbrev pub most_exact : ℕ
most_exact = 9007199254740991

-- "Digits are gathered modulo 2^64."
abbrev pub gathered_from : ℕ → List ℕ → ℕ
gathered_from start digits = value start digits % 2 ^ 64

-- "the nearest f64", "Ties go to even."
abbrev pub nearest_f64 : ℤ → Float
nearest_f64 i = of_int binary64 i

-- "above 9007199254740991 is 24 with the nearest f64 (negative and above 2^63 - 1: 22)"
unfoldable pub paper_lossy : Bool → ℕ → Result Float DecimalError
paper_lossy negative n = elim (negative && ltb (2 ^ 63 - 1) n) [ true ↦ Err Overflow | false ↦ Err (PrecisionLoss (nearest_f64 (signed negative n))) ]

unfoldable pub paper_exact : Bool → ℕ → Result Float DecimalError
paper_exact negative n = elim (ltb most_exact n) [ true ↦ paper_lossy negative n | false ↦ Ok (nearest_f64 (signed negative n)) ]

-- "Without a point: written digits (sign and `f` out) under 16 give the number. Otherwise above 2^64 - 1 is 22;"
unfoldable pub paper_unpointed : Bool → List ℕ → Result Float DecimalError
paper_unpointed negative digits =
    elim (ltb (length digits) few_digits) [
      | true ↦ Ok (nearest_f64 (signed negative (gathered_from 0 digits)))
      | false ↦ elim (ltb (2 ^ 64 - 1) (value 0 digits)) [ true ↦ Err Overflow | false ↦ paper_exact negative (gathered_from 0 digits) ]
    ]

-- "Answer: gathered total rounded to f64, divided by the power of ten, times the sign."
unfoldable pub paper_answer : Bool → ℕ → ℕ → Float
paper_answer negative total places =
    mul binary64 (nearest_f64 (signed negative 1)) (div binary64 (nearest_f64 (pos total)) (nearest_f64 (pos (10 ^ places))))

-- "over 22 fraction digits is 22"
unfoldable pub paper_quotient : Bool → ℕ → ℕ → Result Float DecimalError
paper_quotient negative total places =
    elim (ltb most_fraction_digits places) [ true ↦ Err Overflow | false ↦ Ok (paper_answer negative total places) ]

-- "With a point: let all be the bytes after the sign less one; from 19 up, carrying on from the gathered whole part through the fraction
-- past 2^64 - 1 is 22;"
unfoldable pub paper_pointed : Bool → ℕ → ℕ → List ℕ → Result Float DecimalError
paper_pointed negative all whole fraction =
    elim (leb many_bytes all && ltb (2 ^ 64 - 1) (value whole fraction)) [
      | true ↦ Err Overflow
      | false ↦ paper_quotient negative (gathered_from whole fraction) (length fraction)
    ]

-- "Sign, digits, one point, one closing `f`; .. any other form is 21, before 22 and 24."
unfoldable pub paper_fraction : Bool → ℕ → ℕ → List ℕ → Result Float DecimalError
paper_fraction negative all whole s =
    elim (tail_of (rest s)) [ End ↦ paper_pointed negative all whole (digit_run s) | Point ↦ Err AllDigits | Other ↦ Err AllDigits ]

unfoldable pub paper_digits : Bool → List ℕ → Result Float DecimalError
paper_digits negative s =
    elim (tail_of (rest s)) [
      | End ↦ paper_unpointed negative (digit_run s)
      | Point ↦ paper_fraction negative (length s - 1) (gathered_from 0 (digit_run s)) (drop 1 (rest s))
      | Other ↦ Err AllDigits
    ]

-- "f64: empty is 21.", "the first byte must be a digit, `+`, `-` or `.`"
unfoldable pub paper_f64 : List ℕ → Result Float DecimalError
paper_f64 [] = Err AllDigits
paper_f64 (b ∷ d) =
    elim (eqb b minus) [
      | true ↦ paper_digits true d
      | false ↦ elim (eqb b plus) [
        | true ↦ paper_digits false d
        | false ↦ elim (is_digit b || eqb b point) [ true ↦ paper_digits false (b ∷ d) | false ↦ Err AllDigits ]
      ]
    ]

-- what is promised: the sentences are our definition
abbrev pub PaperAlike : List ℕ → Type 0
PaperAlike d = paper_f64 d ≡ f64_read d
