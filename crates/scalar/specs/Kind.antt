-- The kind of an unquoted scalar, by its form and its size alone (request W2): `yes` or `no`; or an optional sign, digits and at most one point,
-- with at least one digit, and a closing `f` only where there is a point, within the bounds below; all else is a name. No reading is asked.
use Rattle.std.specs.Prelude.{ℕ, ◌%◌, ◌^◌, Bool, true, false, List, [], ◌∷◌, length, drop, ◌==◌, nat_le}
use Rattle.data.specs.Bytes.{plus, minus}
use Rattle.scalar.specs.Digits.{digit_run, value, most_u64}
use Rattle.scalar.specs.Float.{most_places, rest, tail_of}
use Rattle.scalar.specs.Truth.{yes, no, same}
use Rattle.scalar.specs.Whole.{most_i64, has_tail}
use Rattle.scalar.specs.declared.float.Tail.TheVariants.{End, Point, Other}
use Rattle.scalar.specs.declared.kinds.ReadingKind.TheVariants as Kind
use Rattle.scalar.specs.declared.kinds.ReadingKind.{ReadingKind}

-- a number without a point above 2^63 - 1: under a minus a name, and else a decimal up to 2^64 - 1
unfoldable pub kind_above : Bool → ℕ → ReadingKind
kind_above true n = Kind.Name
kind_above false n = elim (nat_le n most_u64) [ true ↦ Kind.Decimal | false ↦ Kind.Name ]

-- up to there it is whole
unfoldable pub kind_by_size : Bool → ℕ → ReadingKind
unfolding kind_above
kind_by_size negative n = elim (nat_le n most_i64) [ true ↦ Kind.Whole | false ↦ kind_above negative n ]

-- its digits: a sign alone is no number
unfoldable pub kind_of_digits : Bool → List ℕ → ReadingKind
unfolding value kind_by_size
kind_of_digits negative [] = Kind.Name
kind_of_digits negative (b ∷ digits) = kind_by_size negative (value 0 (b ∷ digits))

-- nothing stands after them: where there is no point, no `f` closes a number
unfoldable pub kind_unpointed : Bool → List ℕ → ReadingKind
unfolding digit_run kind_of_digits
kind_unpointed negative s = elim (has_tail s) [ true ↦ Kind.Name | false ↦ kind_of_digits negative (digit_run s) ]

-- whether a digit stands on either side of a point
unfoldable pub some_digit : List ℕ → List ℕ → Bool
some_digit [] [] = false
some_digit [] (b ∷ fraction) = true
some_digit (b ∷ whole) fraction = true

-- the digits before a point and those after it: one or more in all, at most 22 after it, and those before it, gathered modulo 2^64, carried on
-- through those after it to at most 2^64 - 1
unfoldable pub kind_pointed : List ℕ → List ℕ → ReadingKind
unfolding value some_digit
kind_pointed whole fraction =
    elim (some_digit whole fraction) [
      | true ↦ elim (nat_le (length fraction) most_places) [
        | true ↦ elim (nat_le (value (value 0 whole % 2 ^ 64) fraction) most_u64) [ true ↦ Kind.Decimal | false ↦ Kind.Name ]
        | false ↦ Kind.Name
      ]
      | false ↦ Kind.Name
    ]

-- after a point: digits and at most a closing `f`
unfoldable pub kind_after_point : List ℕ → List ℕ → ReadingKind
unfolding digit_run tail_of kind_pointed
kind_after_point whole s =
    elim (tail_of (rest s)) [ End ↦ kind_pointed whole (digit_run s) | Point ↦ Kind.Name | Other ↦ Kind.Name ]

-- after a sign: digits, and then nothing or a point
unfoldable pub kind_after_sign : Bool → List ℕ → ReadingKind
unfolding digit_run tail_of kind_unpointed kind_after_point
kind_after_sign negative s =
    elim (tail_of (rest s)) [
      | End ↦ kind_unpointed negative s
      | Point ↦ kind_after_point (digit_run s) (drop 1 (rest s))
      | Other ↦ Kind.Name
    ]

-- the sign: a minus, a plus, or none
unfoldable pub number_or_name : List ℕ → ReadingKind
unfolding kind_after_sign
number_or_name [] = Kind.Name
number_or_name (b ∷ d) =
    elim (b == minus) [
      | true ↦ kind_after_sign true d
      | false ↦ elim (b == plus) [ true ↦ kind_after_sign false d | false ↦ kind_after_sign false (b ∷ d) ]
    ]

-- the kind of a scalar's bytes
unfoldable pub kind_of : List ℕ → ReadingKind
unfolding same number_or_name
kind_of d = elim (same d yes) [ true ↦ Kind.Bool | false ↦ elim (same d no) [ true ↦ Kind.Bool | false ↦ number_or_name d ] ]
