-- The second pair of cuts finds what the plain pair does: a stride by the law of marks, and the cuts by their contracts.
-- Assumes nothing.
use mathlib.Core.Path.{◌≡◌, refl, sym, ◌∙◌, ap, fun_ext}
use mathlib.Core.Bool.{Bool, true, false}
use mathlib.Core.List.{List, [], ◌∷◌}
use Prim.Native.Nat.{ℕ}
use native.Mathlib.Omega.{arith}
use Rattle.data.proofs.Cases.{by_bool}
use Rattle.data.specs.Classes.{is_boundary}
use Rattle.cut.specs.Marks.{stride}
use Rattle.cut.specs.Quotes.{quoted_run}
use Rattle.cut.specs.Runs.{stop_from, run_of, run_end_of, classed, run_by, unquoted_run, run_end_by, run_end}
use Rattle.cut.specs.Scalars.{cut_of, scalar_cut}
use Rattle.cut.proofs.Marks.{finds, first_of-none}
use Rattle.cut.proofs.Runs.{classed-classes}
use Rattle.cut.proofs.Scans.{run-passes, run-stops, run-goes_on}
use Rattle.promises.specs.Strides.{StridesFind, SaysThirteen, OursSays, RunsAlike, QuotesAlike, ExactlyOurs, ScalarsAlike}

pub strides-find : StridesFind
strides-find wanted e m d bytes i within =
    let calm = finds wanted e m d bytes i _ _ _ within refl refl refl in
    record {
      whole = λ u. run-passes wanted d i stride (finds wanted e m d bytes i _ _ _ within refl refl (sym (first_of-none _ _ u))) within;
      found = λ h t. run-stops wanted d i _ calm h t;
      later = λ h f. run-goes_on wanted d i _ calm h f;
    }

pub ours_says : OursSays
ours_says b = ap (λ (stops : ℕ → Bool). stops b) classed-classes

-- what the table says is what the thirteen say, as a test
same_test : (table : List ℕ) → SaysThirteen table → is_boundary ≡ classed table
same_test table says = fun_ext (λ b. sym (says b))

pub runs_alike : RunsAlike
unfolding run_by unquoted_run
runs_alike κs args r xs fast κt again s ys plain same says =
    fast ∙ ap (λ (stops : ℕ → Bool). run_of stops args.0.now) (same_test again.1.0.now says)
    ∙ ap (run_of (classed again.1.0.now)) (sym same) ∙ sym plain

pub quotes_alike : QuotesAlike
quotes_alike κs args r xs fast κt again s ys plain same = fast ∙ ap quoted_run (sym same) ∙ sym plain

pub scalars-alike : ScalarsAlike
unfolding scalar_cut
scalars-alike table says text at = ap (λ (stops : ℕ → Bool). cut_of stops text at) (same_test table says)

-- a byte twice: one byte where it stops a run, else two
twice : (stops : ℕ → Bool) (b : ℕ) → run_end_of stops (b ∷ b ∷ []) 0 ≡ elim (stops b) [ true ↦ 1 | false ↦ 2 ]
unfolding run_end_of run_of stop_from
twice stops b = by_bool (stops b) (λ t. rw (run_end_of, run_of, t)) (λ f. rw (run_end_of, run_of, f, stop_from, f))

one_or_two : (s t : Bool) → ◌≡◌ {A = ℕ} (elim s [ true ↦ 1 | false ↦ 2 ]) (elim t [ true ↦ 1 | false ↦ 2 ]) → s ≡ t
one_or_two true true e = refl
one_or_two true false e = absurd (omega (arith, e))
one_or_two false true e = absurd (omega (arith, e))
one_or_two false false e = refl

pub exactly-ours : ExactlyOurs
unfolding run_end run_end_by
exactly-ours table = (
  λ alike b. one_or_two _ _ (sym (twice (classed table) b) ∙ sym (alike (b ∷ b ∷ []) 0) ∙ twice is_boundary b),
  λ says text at. ap (λ (stops : ℕ → Bool). run_end_of stops text at) (same_test table says),
)
