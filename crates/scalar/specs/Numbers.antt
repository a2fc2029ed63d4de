-- Document 01's numbers: of each refusal, 0 where a reading answers, of each kind, and the value of a decimal's answer.
use Rattle.std.specs.Prelude.{Result, Ok, Err, ℕ, Bool, false, pos, Float}
use Rattle.std.specs.Float.{fin}
use Rattle.scalar.specs.declared.errors.BoolError.TheVariants.{InvalidBool}
use Rattle.scalar.specs.declared.errors.BoolError.{BoolError}
use Rattle.scalar.specs.declared.errors.DecimalError.TheVariants as Decimal
use Rattle.scalar.specs.declared.errors.DecimalError.{DecimalError}
use Rattle.scalar.specs.declared.errors.WholeError.TheVariants as Whole
use Rattle.scalar.specs.declared.errors.WholeError.{WholeError}
use Rattle.scalar.specs.declared.kinds.ReadingKind.TheVariants as Kind
use Rattle.scalar.specs.declared.kinds.ReadingKind.{ReadingKind}

-- the number of an answer that is no refusal
abbrev pub answered : ℕ
answered = 0

-- bytes that are no number
abbrev pub all_digits : ℕ
all_digits = 21

-- a number too large
abbrev pub overflow : ℕ
overflow = 22

-- neither yes nor no
abbrev pub invalid_bool : ℕ
invalid_bool = 23

-- a number that its f64 does not hold exactly
abbrev pub precision_loss : ℕ
precision_loss = 24

-- the number of a refusal of a truth
abbrev pub bool_error_number : BoolError → ℕ
bool_error_number InvalidBool = invalid_bool

-- of a whole number
abbrev pub whole_error_number : WholeError → ℕ
whole_error_number Whole.AllDigits = all_digits
whole_error_number Whole.Overflow = overflow

-- and of a decimal
abbrev pub decimal_error_number : DecimalError → ℕ
decimal_error_number Decimal.AllDigits = all_digits
decimal_error_number Decimal.Overflow = overflow
decimal_error_number (Decimal.PrecisionLoss x) = precision_loss

-- the number of what is answered, by that of each refusal
abbrev pub refusal_of : {A E : Type 0} → (E → ℕ) → Result A E → ℕ
refusal_of number (Ok a) = answered
refusal_of number (Err e) = number e

-- so of what a reading of a truth answered
abbrev pub bool_refusal_of : Result Bool BoolError → ℕ
bool_refusal_of r = refusal_of bool_error_number r

-- of a whole number
abbrev pub whole_refusal_of : {A : Type 0} → Result A WholeError → ℕ
whole_refusal_of r = refusal_of whole_error_number r

-- and of a decimal
abbrev pub f64_refusal_of : Result Float DecimalError → ℕ
f64_refusal_of r = refusal_of decimal_error_number r

-- the value of a decimal, which a loss of precision carries too
abbrev pub f64_value_of : Result Float DecimalError → Float
f64_value_of (Ok x) = x
f64_value_of (Err Decimal.AllDigits) = fin false 0 (pos 0)
f64_value_of (Err Decimal.Overflow) = fin false 0 (pos 0)
f64_value_of (Err (Decimal.PrecisionLoss x)) = x

-- the numbers of the kinds
abbrev pub kind_bool : ℕ
kind_bool = 1

abbrev pub kind_whole : ℕ
kind_whole = 2

abbrev pub kind_decimal : ℕ
kind_decimal = 3

abbrev pub kind_name : ℕ
kind_name = 4

-- the number of a kind
abbrev pub kind_number_of : ReadingKind → ℕ
kind_number_of Kind.Bool = kind_bool
kind_number_of Kind.Whole = kind_whole
kind_number_of Kind.Decimal = kind_decimal
kind_number_of Kind.Name = kind_name
