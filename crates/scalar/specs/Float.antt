-- Decimals: what bytes say as an f64, bit for bit.
use Rattle.std.specs.Prelude.{Result, Ok, Err, ℕ, ◌-◌, ◌%◌, ◌^◌, Bool, true, false, List, [], ◌∷◌, length, drop, pos, negsuc, ◌==◌, is_nan, nat_eq, nat_lt, to_bits, Float}
use Rattle.std.specs.Float.{binary64}
use Rattle.std.specs.Float.Ieee.{of_int, mul, div}
use Rattle.data.specs.Bytes.{plus, minus, point, letter_f}
use Rattle.scalar.specs.Digits.{is_digit, digit_run, value, most_u64}
use Rattle.scalar.specs.Whole.{signed, most_i64}
use Rattle.scalar.specs.declared.errors.DecimalError.TheVariants.{AllDigits, Overflow, PrecisionLoss}
use Rattle.scalar.specs.declared.errors.DecimalError.{DecimalError}
use Rattle.scalar.specs.declared.float.Tail.TheVariants.{End, Point, Other}
use Rattle.scalar.specs.declared.float.Tail.{Tail}

-- up to here every whole number is an f64 of its own
abbrev pub most_safe : ℕ
most_safe = 2 ^ 53 - 1

-- up to this one a power of ten is an f64 of its own
abbrev pub most_places : ℕ
most_places = 22

-- what stands after the digits in front
abbrev pub rest : List ℕ → List ℕ
rest s = drop (length (digit_run s)) s

-- what stands after an `f`: the end, or something
abbrev pub after_f : List ℕ → Tail
after_f [] = End
after_f (b ∷ d) = Other

-- what stands after digits: the end or one closing `f`, a point, or anything else
unfoldable pub tail_of : List ℕ → Tail
tail_of [] = End
tail_of (b ∷ d) = elim (b == point) [ true ↦ Point | false ↦ elim (b == letter_f) [ true ↦ after_f d | false ↦ Other ] ]

-- a number above 2^53 - 1: the nearest f64, handed over as one that lost precision; refused where it is negative and above 2^63 - 1
unfoldable pub lossy : Bool → ℕ → Result Float DecimalError
lossy false n = Err (PrecisionLoss (of_int binary64 (pos n)))
lossy true n = elim (nat_lt most_i64 n) [ true ↦ Err Overflow | false ↦ Err (PrecisionLoss (of_int binary64 (signed true n))) ]

-- a number without a point: above 2^64 - 1 is refused, above 2^53 - 1 loses precision, and any other is an f64
unfoldable pub unpointed : Bool → ℕ → Result Float DecimalError
unfolding lossy
unpointed negative n =
    elim (nat_lt most_u64 n) [
      | true ↦ Err Overflow
      | false ↦ elim (nat_lt most_safe n) [ true ↦ lossy negative n | false ↦ Ok (of_int binary64 (signed negative n)) ]
    ]

-- the sign as a factor
unfoldable pub factor : Bool → Float
factor true = of_int binary64 (negsuc 0)
factor false = of_int binary64 (pos 1)

-- a total rounded to f64, divided by the power of ten of its places, times the sign
unfoldable pub divided : Bool → ℕ → ℕ → Float
unfolding factor
divided negative total places = mul binary64 (factor negative) (div binary64 (of_int binary64 (pos total)) (of_int binary64 (pos (10 ^ places))))

-- a total with so many fraction digits: over 22 are refused
unfoldable pub quotient : Bool → ℕ → ℕ → Result Float DecimalError
unfolding divided
quotient negative total places = elim (nat_lt most_places places) [ true ↦ Err Overflow | false ↦ Ok (divided negative total places) ]

-- a number with a point: refused where the gathered whole part is carried through the fraction past 2^64 - 1
unfoldable pub pointed : Bool → ℕ → List ℕ → Result Float DecimalError
unfolding value quotient
pointed negative whole fraction =
    elim (nat_lt most_u64 (value whole fraction)) [ true ↦ Err Overflow | false ↦ quotient negative (value whole fraction) (length fraction) ]

-- after a point: digits and at most a closing `f`
unfoldable pub after_point : Bool → ℕ → List ℕ → Result Float DecimalError
unfolding digit_run tail_of pointed
after_point negative whole s =
    elim (tail_of (rest s)) [ End ↦ pointed negative whole (digit_run s) | Point ↦ Err AllDigits | Other ↦ Err AllDigits ]

-- after the sign: digits, gathered modulo 2^64 where a point follows, and at most a closing `f`
unfoldable pub f64_digits : Bool → List ℕ → Result Float DecimalError
unfolding digit_run value tail_of unpointed after_point
f64_digits negative s =
    elim (tail_of (rest s)) [
      | End ↦ unpointed negative (value 0 (digit_run s))
      | Point ↦ after_point negative (value 0 (digit_run s) % 2 ^ 64) (drop 1 (rest s))
      | Other ↦ Err AllDigits
    ]

-- whether a byte begins a number that has no sign
unfoldable pub begins : ℕ → Bool
unfolding is_digit
begins b = elim (is_digit b) [ true ↦ true | false ↦ nat_eq b point ]

-- the first byte must be a sign, a digit or a point; nothing at all is refused
unfoldable pub f64_read : List ℕ → Result Float DecimalError
unfolding f64_digits begins
f64_read [] = Err AllDigits
f64_read (b ∷ d) =
    elim (b == minus) [
      | true ↦ f64_digits true d
      | false ↦ elim (b == plus) [
        | true ↦ f64_digits false d
        | false ↦ elim (begins b) [ true ↦ f64_digits false (b ∷ d) | false ↦ Err AllDigits ]
      ]
    ]

-- the pattern that stands for every NaN: a quiet one
abbrev pub nan_pattern : ℕ
nan_pattern = 0x7ff8_0000_0000_0000

-- the bits of an f64
unfoldable pub pattern_of : Float → ℕ
pattern_of x = elim (is_nan x) [ true ↦ nan_pattern | false ↦ to_bits binary64 x ]
