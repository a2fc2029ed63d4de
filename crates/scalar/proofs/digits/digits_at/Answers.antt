-- `scalar::digits::digits_at` meets its contract: the gathered number is the number itself where 64 bits hold it.
-- Assumes nothing.
use Rattle.std.proofs.Common.{◌≡◌, ℕ, ◌+◌, ◌<◌, ◌≤◌, min, List, length, drop, sym, ◌∙◌, arith, ltb-false, ltb-true}
use Rattle.scalar.specs.Digits.{digit_run, value, most_u64, digits_in}
use Rattle.scalar.specs.declared.digits.Digits.{Digits}
use Rattle.scalar.proofs.Gathers.{place_is, total-is}
use Rattle.scalar.proofs.digits.digits_at.Goals as goal

-- the number, or what stands for it, and where its digits end
reads : (d : List ℕ) (at n end : ℕ) → n ≡ min (value 0 (digit_run (drop at d))) most_u64 → end ≡ at + length (digit_run (drop at d))
    → ◌≡◌ {A = Digits} (record { number = n; end = end }) (digits_in d at)
unfolding digits_in
reads d at n end e f = λ j. record { number = e j; end = f j }

pub returns-then-exceeds : goal.returns-then-exceeds
returns-then-exceeds c =
    let d = c.args.d.now in
    let at = c.args.at in
    let past : most_u64 < value 0 (digit_run (drop at d)) = ltb-true _ _ (sym c.exceeds.ensures ∙ c.if-exceeds.true) in
    reads d at _ _ (omega (arith, past)) (place_is d at 0 _ c.gather-run.ensures)

pub returns-else-exceeds : goal.returns-else-exceeds
returns-else-exceeds c =
    let d = c.args.d.now in
    let at = c.args.at in
    let held : value 0 (digit_run (drop at d)) ≤ most_u64 = ltb-false _ _ (sym c.exceeds.ensures ∙ c.if-exceeds.false) in
    let gathered-is = c.gather-run.ensures in
    reads d at _ _ (omega (arith, total-is d at 0 _ gathered-is held)) (place_is d at 0 _ gathered-is)
