-- Demand 2 of the readings: the Rust answers of every scalar what we do, and panics on none.
-- Assumes nothing.
pub mod Digits
pub mod Wholes
pub mod Fractions
pub mod Floats
pub mod Truths
use mathlib.Core.Path.{◌≡◌, sym, ◌∙◌, ap}
use Prim.Native.Nat.{ℕ}
use lib.Dec.{eqb}
use native.Mathlib.Omega.{arith}
use Rattle.std.specs.Prelude.{Float, List}
use Rattle.data.proofs.Cases.{by_bool}
use Rattle.scalar.specs.Numbers.{answered}
use Rattle.scalar.specs.Whole.{i64_rest}
use Rattle.rust_scalar.specs.RustReadings.{Outcome, Ok, Err, Panic, ScalarError}
use Rattle.rust_scalar.specs.RustReadingsAlike.{error_numbered, reading_as_rust, rust_bool, rust_u64, rust_i64_part, rust_i64, rust_f64}
use Rattle.rust_scalar.specs.RustReadingsAlike.{Slice, ReadAlike, Unpanicked, CallsAlike}
use Rattle.rust_scalar.proofs.RustReadings.Floats.{f64_same}
use Rattle.rust_scalar.proofs.RustReadings.Truths.{bool_same}
use Rattle.rust_scalar.proofs.RustReadings.Wholes.{u64-same, i64_part-same, i64-same}

pub readings-alike : (d : List ℕ) → Slice d → ReadAlike d
readings-alike d sized = record {
  bool_alike = bool_same d;
  u64_alike = u64-same d;
  i64_part_alike = i64_part-same d;
  i64_alike = i64-same d;
  f64_alike = f64_same d sized;
}

-- no answer of ours is a panic
answers : {A : Type 0} (a : A) → Ok a ≡ Panic → ⊥
answers a e = let z : ◌≡◌ {A = ℕ} 0 1 = cc in omega arith

refuses : {A : Type 0} (e : ScalarError) → ◌≡◌ {A = Outcome A} (Err e) Panic → ⊥
refuses e p = let z : ◌≡◌ {A = ℕ} 0 1 = cc in omega arith

none_panics : {A : Type 0} (refusal : ℕ) (value : A) (carried : Float) → reading_as_rust refusal value carried ≡ Panic → ⊥
none_panics refusal value carried e =
    by_bool (eqb refusal answered)
    (λ t. answers value (rw (reading_as_rust, t) at e))
    (λ f. refuses (error_numbered refusal carried) (rw (reading_as_rust, f) at e))

pub readings-end : (d : List ℕ) → Slice d → Unpanicked d
readings-end d sized = record {
  bool_ends = λ e. none_panics _ _ _ (sym (bool_same d) ∙ e);
  u64_ends = λ e. none_panics _ _ _ (sym (u64-same d) ∙ e);
  i64_part_ends = λ e. none_panics _ _ _ (sym (i64_part-same d) ∙ e);
  i64_ends = λ e. none_panics _ _ _ (sym (i64-same d) ∙ e);
  f64_ends = λ e. none_panics _ _ _ (sym (f64_same d sized) ∙ e);
}

pub calls_alike : CallsAlike
calls_alike = record {
  bool_called = λ κs args r xs p. bool_same args.0.now ∙ ap rust_bool (sym p);
  u64_called = λ κs args r xs p. u64-same args.0.now ∙ ap rust_u64 (sym p);
  i64_part_called = λ κs args r xs p κt again rest ys q same.
      let rest-is = ap i64_rest (sym same) ∙ sym q.0 in
      i64_part-same args.0.now ∙ (λ j. rust_i64_part (sym p j) (rest-is j));
  i64_called = λ κs args r xs p. i64-same args.0.now ∙ ap rust_i64 (sym p);
  f64_called = λ κs args r xs p sized. f64_same args.0.now sized ∙ ap rust_f64 (sym p);
}
