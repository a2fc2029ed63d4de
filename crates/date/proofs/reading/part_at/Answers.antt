-- `date::reading::part_at` meets its contract: digits tell a part where they are one or more.
-- Assumes nothing.
use mathlib.Core.Path.{◌≡◌, ◌∙◌, ap}
use Prim.Native.Nat.{ℕ, min}
use native.Mathlib.Omega.{arith}
use Rattle.scalar.specs.Digits.{most_u64, digits_in}
use Rattle.scalar.specs.declared.digits.Digits.{Digits}
use Rattle.date.specs.Reading.{past_all}
use Rattle.date.proofs.Shapes.{part_told, part_untold}
use Rattle.date.proofs.reading.part_at.Goals as goal

-- what stands for a number that 64 bits do not hold is above every range too
twice : (n v : ℕ) → n ≡ min v most_u64 → min n past_all ≡ min v past_all
twice n v e = omega arith

pub returns-then-at-run : goal.returns-then-at-run
unfolding digits_in
returns-then-at-run c =
    let run = c.digits_at-run.ensures in
    part_told _ _ _ _ c.if-at-run.true
    (c.bounded.ensures ∙ twice _ _ (ap (λ (r : Digits). r.number) run))
    (ap (λ (r : Digits). r.end) run)

pub returns : goal.returns
unfolding digits_in
returns c =
    let run = c.digits_at-run.ensures in
    part_untold _ _ _ c.if-at-run.false (ap (λ (r : Digits). r.end) run)
