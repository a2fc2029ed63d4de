-- The readings of a scalar as a line: each an `=` and its value, or its refusal's number; and the number that it begins with.
use Rattle.std.specs.Prelude.{Result, Ok, Err, Bool, Float, ℕ, suc, List, [], ◌∷◌, ◌++◌, ℤ, pos, negsuc, length}
use Rattle.data.specs.Bytes.{space, line_feed, equals, minus}
use Rattle.scalar.specs.Float.{f64_read, pattern_of}
use Rattle.scalar.specs.Kind.{kind_of}
use Rattle.scalar.specs.Numbers.{bool_error_number, whole_error_number, decimal_error_number, kind_number_of}
use Rattle.scalar.specs.Truth.{bool_read}
use Rattle.scalar.specs.Whole.{u64_read, i64_read, i64_number, i64_rest}
use Rattle.scalar.specs.declared.errors.BoolError.{BoolError}
use Rattle.scalar.specs.declared.errors.DecimalError.TheVariants.{AllDigits, Overflow, PrecisionLoss}
use Rattle.scalar.specs.declared.errors.DecimalError.{DecimalError}
use Rattle.scalar.specs.declared.errors.WholeError.{WholeError}
use Rattle.report.specs.Digits.{decimal, hex}
use Rattle.parse.specs.Told.{bit}

-- what stands between a refusal and the bits that it carries
abbrev pub colon : ℕ
colon = 58

-- a number with a sign
abbrev pub integer : ℤ → List ℕ
integer (pos n) = decimal n
integer (negsuc n) = minus ∷ [] ++ decimal (suc n)

-- yes or no: 1 or 0
abbrev pub bool_text : Result Bool BoolError → List ℕ
bool_text (Ok b) = equals ∷ [] ++ decimal (bit b)
bool_text (Err e) = decimal (bool_error_number e)

abbrev pub u64_text : Result ℕ WholeError → List ℕ
u64_text (Ok n) = equals ∷ [] ++ decimal n
u64_text (Err e) = decimal (whole_error_number e)

abbrev pub i64_text : Result ℤ WholeError → List ℕ
i64_text (Ok i) = equals ∷ [] ++ integer i
i64_text (Err e) = decimal (whole_error_number e)

-- what a refusal carries: the 16 hexadecimal digits of the f64's bits, behind its number
abbrev pub carried_text : DecimalError → List ℕ
carried_text AllDigits = []
carried_text Overflow = []
carried_text (PrecisionLoss x) = (colon ∷ []) ++ hex 16 (pattern_of x)

-- the 16 hexadecimal digits of the f64's bits, also of those that 24 carries
abbrev pub f64_text : Result Float DecimalError → List ℕ
f64_text (Ok x) = equals ∷ [] ++ hex 16 (pattern_of x)
f64_text (Err e) = decimal (decimal_error_number e) ++ carried_text e

-- yes/no, u64, i64, f64, kind, separated by a space
unfoldable pub exact_of : List ℕ → List ℕ
exact_of d = bool_text (bool_read d) ++ (space ∷ []) ++ u64_text (u64_read d) ++ (space ∷ []) ++ i64_text (i64_read d)

unfoldable pub readings_of : List ℕ → List ℕ
readings_of d =
    exact_of d ++ (space ∷ []) ++ f64_text (f64_read d) ++ (space ∷ []) ++ decimal (kind_number_of (kind_of d)) ++ (line_feed ∷ [])

-- how many bytes are left over after a number, behind a space; a refusal leaves none
abbrev pub left_text : Result ℤ WholeError → ℕ → List ℕ
left_text (Ok i) left = (space ∷ []) ++ decimal left
left_text (Err e) left = []

-- the number that a scalar begins with, and how many bytes are left over after it
unfoldable pub leading_of : List ℕ → List ℕ
leading_of d = i64_text (i64_number d) ++ left_text (i64_number d) (length (i64_rest d)) ++ (line_feed ∷ [])
