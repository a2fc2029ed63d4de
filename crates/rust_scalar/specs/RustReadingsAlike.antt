-- Demand 2 of the readings: what our definitions answer, in the Rust's words, is what the Rust answers of the same scalar.
use Rattle.std.specs.Result.{result_unwrap_or}
use Rattle.std.specs.Prelude.{Result, pos, ℕ, ◌^◌, ◌<◌, Bool, true, false, List, ◌≡◌, eqb, Float, ℤ, length}
use Rattle.std.specs.Float.{nan}
use Rattle.scalar.specs.Float.{f64_read}
use Rattle.scalar.specs.Numbers.{answered, all_digits, overflow, invalid_bool, bool_refusal_of, whole_refusal_of, f64_refusal_of, f64_value_of}
use Rattle.scalar.specs.Truth.{bool_read}
use Rattle.scalar.specs.Whole.{u64_read, i64_number, i64_rest, i64_read}
use Rattle.scalar.specs.declared.errors.BoolError.{BoolError}
use Rattle.scalar.specs.declared.errors.DecimalError.{DecimalError}
use Rattle.scalar.specs.declared.errors.WholeError.{WholeError}
use Rattle.scalar.proofs.to_bool.Reads as bool-call
use Rattle.scalar.proofs.to_u64.Reads as u64-call
use Rattle.scalar.proofs.to_i64_t.Reads as i64-number-call
use Rattle.scalar.proofs.to_i64_rest.Reads as i64-rest-call
use Rattle.scalar.proofs.to_i64.Reads as i64-call
use Rattle.scalar.proofs.to_f64.Reads as f64-call
use Rattle.rust_scalar.specs.RustReadings.{Outcome, ScalarError, Ok, Err, Panic, AllDigits, Overflow, InvalidBool, PrecisionLoss, to_bool, to_u64}
use Rattle.rust_scalar.specs.RustReadings.{to_i64_t, to_i64}
use Rattle.rust_scalar.specs.RustReadings.{to_f64}

-- ---- our answers in the Rust's words

-- the Rust's error that document 01 gives a number, 24 with the f64 that it carries
abbrev pub error_numbered : ℕ → Float → ScalarError
error_numbered refusal carried =
    elim (eqb refusal all_digits) [
      | true ↦ AllDigits
      | false ↦ elim (eqb refusal overflow) [
        | true ↦ Overflow
        | false ↦ elim (eqb refusal invalid_bool) [ true ↦ InvalidBool | false ↦ PrecisionLoss carried ]
      ]
    ]

-- an answer by document 01's number and value, read as the Rust's
abbrev pub reading_as_rust : {A : Type 0} → ℕ → A → Float → Outcome A
reading_as_rust refusal value carried = elim (eqb refusal answered) [ true ↦ Ok value | false ↦ Err (error_numbered refusal carried) ]

-- what a refusal without an f64 carries
abbrev pub nothing_carried : Float
nothing_carried = nan

abbrev pub rust_bool : Result Bool BoolError → Outcome Bool
rust_bool r = reading_as_rust (bool_refusal_of r) (result_unwrap_or r false) nothing_carried

abbrev pub rust_u64 : Result ℕ WholeError → Outcome ℕ
rust_u64 r = reading_as_rust (whole_refusal_of r) (result_unwrap_or r 0) nothing_carried

abbrev pub rust_i64 : Result ℤ WholeError → Outcome ℤ
rust_i64 r = reading_as_rust (whole_refusal_of r) (result_unwrap_or r (pos 0)) nothing_carried

abbrev pub rust_f64 : Result Float DecimalError → Outcome Float
rust_f64 r = reading_as_rust (f64_refusal_of r) (f64_value_of r) (f64_value_of r)

-- of a number with whatever stands after it, the Rust answers both at once, and we each by a call
abbrev pub rust_i64_part : Result ℤ WholeError → List ℕ → Outcome (ℤ × List ℕ)
rust_i64_part r rest = reading_as_rust (whole_refusal_of r) (result_unwrap_or r (pos 0), rest) nothing_carried

-- ---- what is promised

-- a scalar of the Rust's: bytes whose number is a usize
abbrev pub Slice : List ℕ → Type 0
Slice d = length d < 2 ^ 64

-- every reading of the Rust answers what ours does
pub record ReadAlike (d : List ℕ) : Type 0 where
  pub bool_alike : to_bool d ≡ rust_bool (bool_read d)
  pub u64_alike : to_u64 d ≡ rust_u64 (u64_read d)
  pub i64_part_alike : to_i64_t d ≡ rust_i64_part (i64_number d) (i64_rest d)
  pub i64_alike : to_i64 d ≡ rust_i64 (i64_read d)
  pub f64_alike : to_f64 d ≡ rust_f64 (f64_read d)

-- and none of them panics
pub record Unpanicked (d : List ℕ) : Type 0 where
  pub bool_ends : to_bool d ≡ Panic → ⊥
  pub u64_ends : to_u64 d ≡ Panic → ⊥
  pub i64_part_ends : to_i64_t d ≡ Panic → ⊥
  pub i64_ends : to_i64 d ≡ Panic → ⊥
  pub f64_ends : to_f64 d ≡ Panic → ⊥

-- so what each call answers, by its own contract, is the Rust's
pub record CallsAlike : Type 0 where
  pub bool_called : (κs : _) (args : _) (r : Result Bool BoolError) (xs : _) → bool-call.Post κs args r xs → to_bool args.0.now ≡ rust_bool r
  pub u64_called : (κs : _) (args : _) (r : Result ℕ WholeError) (xs : _) → u64-call.Post κs args r xs → to_u64 args.0.now ≡ rust_u64 r
  pub i64_part_called : (κs : _) (args : _) (r : Result ℤ WholeError) (xs : _) → i64-number-call.Post κs args r xs
      → (κt : _) (again : _) (rest : _) (ys : _) → i64-rest-call.Post κt again rest ys → again.0.now ≡ args.0.now
      → to_i64_t args.0.now ≡ rust_i64_part r rest.now
  pub i64_called : (κs : _) (args : _) (r : Result ℤ WholeError) (xs : _) → i64-call.Post κs args r xs → to_i64 args.0.now ≡ rust_i64 r
  pub f64_called : (κs : _) (args : _) (r : Result Float DecimalError) (xs : _) → f64-call.Post κs args r xs → Slice args.0.now
      → to_f64 args.0.now ≡ rust_f64 r
