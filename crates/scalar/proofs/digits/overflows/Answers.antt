-- `scalar::digits::overflows` meets its contract. The invariant says what is left: carried on through it, the total is the number, and it fits so far.
-- The measure is what is left of the bytes.
-- Assumes nothing.
use Rattle.std.proofs.Common.{◌≡◌, ℕ, ◌+◌, ◌-◌, ◌*◌, ◌/◌, ◌^◌, ◌<◌, ◌≤◌, true, false, ltb, List, [], get_or, drop, sym, ◌∙◌, le_trans, le_of_eq, lt_of_lt_of_le, arith, le-ltb, lt-ltb}
use Rattle.scalar.specs.Digits.{is_digit, digit_run, carry, value, most_u64}
use Rattle.scalar.proofs.Runs.{digit_bounds, run-stops, run_ends, value_grows, value_on, value-done}
use Rattle.scalar.proofs.digits.overflows.Goals as goal

-- a total that fits, with nothing left to carry it on, is within 64 bits
fits : (s : List ℕ) (total v : ℕ) → (value total (digit_run s) ≡ v) × (total < 2 ^ 64) → digit_run s ≡ [] → false ≡ ltb most_u64 v
fits s total v left stop = sym (le-ltb most_u64 v (omega (arith, sym left.0 ∙ value-done s total stop, left.1)))

-- a total above a tenth of what is left of 64 bits is carried past them by a digit
past : (total k : ℕ) → (most_u64 - k) / 10 < total → k ≤ 9 → most_u64 < total * 10 + k
past total k h small = omega arith

-- one that is not stays within them
stays : (total k : ℕ) → total ≤ (most_u64 - k) / 10 → k ≤ 9 → total * 10 + k < 2 ^ 64
stays total k h small = omega arith

pub returns-then-not-is_digit : goal.returns-then-not-is_digit
returns-then-not-is_digit c =
    fits _ _ _ c.loop-i.invariant
    (run-stops _ _ c.loop-i-test.true (sym c.is_digit.ensures ∙ c.if-not-is_digit.true))

-- the byte at i is a digit
pub overflow_sub-digit : goal.overflow_sub-digit
overflow_sub-digit c = (digit_bounds _ (sym c.is_digit.ensures ∙ c.if-not-is_digit.false)).0

pub overflow_cast-digit : goal.overflow_cast-digit
overflow_cast-digit c = omega (arith, digit_bounds _ (sym c.is_digit.ensures ∙ c.if-not-is_digit.false))

pub overflow_sub-digit-in-loop-i : goal.overflow_sub-digit-in-loop-i
overflow_sub-digit-in-loop-i c = omega (arith, digit_bounds _ (sym c.is_digit.ensures ∙ c.if-not-is_digit.false))

pub returns-then-total-digit : goal.returns-then-total-digit
returns-then-total-digit c =
    let head = c.loop-i in
    let d = c.args.d.now in
    let byte = get_or d head.i 0 in
    let digit : is_digit byte ≡ true = sym c.is_digit.ensures ∙ c.if-not-is_digit.false in
    sym (lt-ltb most_u64 _
    (lt_of_lt_of_le (past head.total (byte - 48) c.if-total-digit.true (omega (arith, digit_bounds byte digit)))
    (le_trans (value_grows (digit_run (drop (head.i + 1) d)) (carry head.total byte))
    (le_of_eq (sym (value_on d head.i head.total c.loop-i-test.true digit) ∙ head.invariant.0)))))

-- the total stays within 64 bits
pub overflow_add-total : goal.overflow_add-total
overflow_add-total c =
    let byte = get_or c.args.d.now c.loop-i.i 0 in
    let digit : is_digit byte ≡ true = sym c.is_digit.ensures ∙ c.if-not-is_digit.false in
    record { fits = stays _ (byte - 48) c.if-total-digit.false (omega (arith, digit_bounds byte digit)) }

pub loop-i-preserved : goal.loop-i-preserved
loop-i-preserved c =
    let head = c.loop-i in
    let byte = get_or c.args.d.now head.i 0 in
    let digit : is_digit byte ≡ true = sym c.is_digit.ensures ∙ c.if-not-is_digit.false in (
      sym (value_on _ head.i head.total c.loop-i-test.true digit) ∙ head.invariant.0,
      stays _ (byte - 48) c.if-total-digit.false (omega (arith, digit_bounds byte digit)),
    )

pub returns : goal.returns
returns c = fits _ _ _ c.loop-i.invariant (run_ends _ _ c.loop-i-test.false)
