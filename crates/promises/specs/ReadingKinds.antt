-- The kind of a scalar beside the readings (request W2). Document 01's kind goes by the reading that answers first; it stays here as a definition.
-- The new one, `kind_of`, goes by the scalar's form alone. What is promised: where the two differ, and what the new one is in the readings' words.
-- Told by document 01's numbers.
use Rattle.std.specs.Prelude.{ℕ, Float, ℤ, Bool, true, false, not, ◌&&◌, ◌||◌, List, [], ◌∷◌, map, ◌↔◌, ◌≡◌, eqb}
use Prim.Native.String.{String}
use Rattle.data.specs.Bytes.{point, letter_f}
use Rattle.scalar.specs.Digits.{is_digit}
use Rattle.scalar.specs.Float.{f64_read}
use Rattle.scalar.specs.Kind.{kind_of}
use Rattle.scalar.specs.Numbers.{answered, precision_loss, bool_refusal_of, whole_refusal_of, f64_refusal_of}
use Rattle.scalar.specs.Numbers.{kind_bool, kind_whole, kind_decimal, kind_name, kind_number_of}
use Rattle.scalar.specs.Truth.{bool_read}
use Rattle.scalar.specs.Whole.{i64_read}
use Rattle.std.specs.Prelude.{Result, Ok, Err}
use Rattle.scalar.specs.declared.errors.BoolError.{BoolError}
use Rattle.scalar.specs.declared.errors.DecimalError.TheVariants.{AllDigits, Overflow, PrecisionLoss}
use Rattle.scalar.specs.declared.errors.DecimalError.{DecimalError}
use Rattle.scalar.specs.declared.errors.WholeError.{WholeError}
use Rattle.scalar.specs.declared.kinds.ReadingKind.TheVariants as Kind
use Rattle.scalar.specs.declared.kinds.ReadingKind.{ReadingKind}
use Rattle.promises.specs.Cases.{bytes}

-- ---- document 01's kind

-- a decimal where the f64 answers or loses precision, else a name
abbrev pub kind_by_f64 : Result Float DecimalError → ReadingKind
kind_by_f64 (Ok x) = Kind.Decimal
kind_by_f64 (Err (PrecisionLoss x)) = Kind.Decimal
kind_by_f64 (Err AllDigits) = Kind.Name
kind_by_f64 (Err Overflow) = Kind.Name

-- whole where the i64 answers
abbrev pub kind_by_i64 : Result Float DecimalError → Result ℤ WholeError → ReadingKind
kind_by_i64 x (Ok n) = Kind.Whole
kind_by_i64 x (Err e) = kind_by_f64 x

-- a truth where it is `yes` or `no`
abbrev pub kind_by_bool : Result Float DecimalError → Result ℤ WholeError → Result Bool BoolError → ReadingKind
kind_by_bool x w (Ok b) = Kind.Bool
kind_by_bool x w (Err e) = kind_by_i64 x w

-- the kind of a scalar's bytes
unfoldable pub kind_by_readings : List ℕ → ReadingKind
kind_by_readings d = kind_by_bool (f64_read d) (i64_read d) (bool_read d)

-- ---- the numbers

-- of the kind before
abbrev pub old_number : List ℕ → ℕ
old_number d = kind_number_of (kind_by_readings d)

-- and of the kind now
abbrev pub new_number : List ℕ → ℕ
new_number d = kind_number_of (kind_of d)

-- whether a kind is a number's
abbrev pub is_number : ℕ → Bool
is_number k = eqb k kind_whole || eqb k kind_decimal

-- whether yes or no is answered
abbrev pub bool_answers : List ℕ → Bool
bool_answers d = eqb (bool_refusal_of (bool_read d)) answered

-- whether the i64 answers
abbrev pub i64_answers : List ℕ → Bool
i64_answers d = eqb (whole_refusal_of (i64_read d)) answered

-- whether the f64 answers or gives 24
abbrev pub f64_counts : List ℕ → Bool
f64_counts d = eqb (f64_refusal_of (f64_read d)) answered || eqb (f64_refusal_of (f64_read d)) precision_loss

-- ---- what stands in a scalar

-- whether a byte of it passes a test
unfoldable pub holds : (ℕ → Bool) → List ℕ → Bool
holds test [] = false
holds test (b ∷ d) = test b || holds test d

-- whether there is a digit
abbrev pub has_digit : List ℕ → Bool
has_digit d = holds is_digit d

-- whether there is a point
abbrev pub has_point : List ℕ → Bool
has_point d = holds (λ b. eqb b point) d

-- whether its last byte is an `f`
unfoldable pub ends_in_f : List ℕ → Bool
ends_in_f [] = false
ends_in_f (b ∷ []) = eqb b letter_f
ends_in_f (b ∷ c ∷ d) = ends_in_f (c ∷ d)

-- whether it ends in `f` without a point
abbrev pub bare_f : List ℕ → Bool
bare_f d = ends_in_f d && not (has_point d)

-- ---- what is promised

-- the two differ exactly where document 01 has a number that holds no digit, or ends in `f` without a point; there the new one is a name
pub record Differ (d : List ℕ) : Type 0 where
  pub exactly : (old_number d ≡ new_number d → ⊥) ↔ ((is_number (old_number d) ≡ true) × ((not (has_digit d) || bare_f d) ≡ true))
  pub there : (old_number d ≡ new_number d → ⊥) → new_number d ≡ kind_name

-- Bool, Whole and Decimal in the readings' words; a Name is what is none of them
pub record Worded (d : List ℕ) : Type 0 where
  pub bool : (new_number d ≡ kind_bool) ↔ (bool_answers d ≡ true)
  pub whole : (new_number d ≡ kind_whole) ↔ ((i64_answers d ≡ true) × (has_digit d ≡ true))
  pub decimal : (new_number d ≡ kind_decimal)
      ↔ ((new_number d ≡ kind_bool → ⊥) × (new_number d ≡ kind_whole → ⊥)
      × (f64_counts d ≡ true) × (has_digit d ≡ true) × (bare_f d ≡ false))

-- ---- both sides of each edge: the request's own scalars, those of the readings' ranges, and their kinds

pub record Edge : Type 0 where
  pub text : String
  pub kind : ℕ

abbrev pub edge : String → ℕ → Edge
edge text kind = record { text = text; kind = kind }

unfoldable pub edges : List Edge
edges =
    edge "yes" 1 ∷ edge "no" 1
    ∷ edge "-" 4 ∷ edge "+" 4 ∷ edge "." 4 ∷ edge "+f" 4 ∷ edge "-.f" 4 ∷ edge "" 4
    ∷ edge "109f" 4 ∷ edge "109E4" 4 ∷ edge "109F" 4 ∷ edge "10.0f" 3
    ∷ edge "5." 3 ∷ edge ".5" 3 ∷ edge "5.f" 3 ∷ edge ".5f" 3 ∷ edge "-0" 2
    ∷ edge "9223372036854775807" 2 ∷ edge "9223372036854775808" 3 ∷ edge "18446744073709551615" 3 ∷ edge "18446744073709551616" 4
    ∷ edge "-9223372036854775807" 2 ∷ edge "-9223372036854775808" 4
    ∷ edge "18446744073709551616.0" 3 ∷ edge "1844674407370955161.5" 3 ∷ edge "1844674407370955161.6" 4
    ∷ edge "0.0000000000000000000000" 3 ∷ edge "0.00000000000000000000000" 4
    ∷ []

-- what is promised: each line holds
abbrev pub EdgesHold : Type 0
EdgesHold = map (λ (e : Edge). new_number (bytes e.text)) edges ≡ map (λ (e : Edge). e.kind) edges
