-- `scalar::digits::gather` meets its contract. The invariant says what is left: carried on through it, the total gives what was asked for.
-- The measure is what is left of the bytes.
-- Assumes nothing.
use Rattle.data.proofs.Cases.{by_bool}
use Rattle.std.proofs.Common.{◌≤◌, max, ltb, ltb-true, ltb-false, ◌≡◌, ℕ, ◌+◌, ◌%◌, ◌^◌, ◌<◌, true, List, [], length, get_or, drop, sym, ap, ◌∙◌, mod-eq_of_lt, arith}
use Rattle.scalar.specs.Digits.{is_digit, digit_run, carry, value, gathered}
use Rattle.scalar.specs.declared.digits.Gathered.{Gathered}
use Rattle.scalar.proofs.Runs.{run_on, run-stops, run_ends, value_wraps, value_on, value-done}
use Rattle.scalar.proofs.digits.gather.Goals as goal

-- what is left at i, carried on from the total, gives what was asked for
abbrev Left : List ℕ → ℕ → ℕ → ℕ → ℕ → Type 0
Left d at start total i =
    (value total (digit_run (drop i d)) % 2 ^ 64 ≡ value start (digit_run (drop at d)) % 2 ^ 64)
    × (i + length (digit_run (drop i d)) ≡ at + length (digit_run (drop at d)))
    × (total < 2 ^ 64)

-- nothing is left where the run ends
done : (d : List ℕ) (at start total i : ℕ) → Left d at start total i → digit_run (drop i d) ≡ []
    → ◌≡◌ {A = Gathered} (record { total = total; at = i }) (gathered d at start)
done d at start total i left stop =
    let total-is : total ≡ value start (digit_run (drop at d)) % 2 ^ 64 =
    sym (mod-eq_of_lt left.2) ∙ ap (λ (n : ℕ). n % 2 ^ 64) (sym (value-done (drop i d) total stop)) ∙ left.0 in
    let at-is : i ≡ at + length (digit_run (drop at d)) = omega (arith, ap length stop, left.1) in
    λ j. record { total = total-is j; at = at-is j }

-- the byte at i, which is a digit
pub carried-total-requires : goal.carried-total-requires
carried-total-requires c = sym c.is_digit.ensures ∙ c.if-not-is_digit.false

pub loop-i-preserved : goal.loop-i-preserved
loop-i-preserved c =
    let d = c.args.d.now in
    let head = c.loop-i in
    let within = c.loop-i-test.true in
    let byte-is : is_digit (get_or d head.i 0) ≡ true = sym c.is_digit.ensures ∙ c.if-not-is_digit.false in (
      ap (λ (n : ℕ). value n (digit_run (drop (head.i + 1) d)) % 2 ^ 64) c.carried-total.ensures
          ∙ value_wraps (digit_run (drop (head.i + 1) d)) (carry head.total (get_or d head.i 0))
          ∙ ap (λ (n : ℕ). n % 2 ^ 64) (sym (value_on d head.i head.total within byte-is))
          ∙ head.invariant.0,
      omega (arith, ap length (run_on d head.i within byte-is), head.invariant.1),
      omega (arith, c.carried-total.ensures),
    )

pub returns-then-not-is_digit : goal.returns-then-not-is_digit
returns-then-not-is_digit c =
    done _ _ _ _ _ c.loop-i.invariant
    (run-stops _ _ c.loop-i-test.true (sym c.is_digit.ensures ∙ c.if-not-is_digit.true))

-- the loop is over at the end of the bytes, or began past it
stopped : (d : List ℕ) (at i : ℕ) → at ≤ i → (at ≤ length d → i ≤ length d) → length d ≤ i → i ≡ at + length (digit_run (drop at d))
    → i ≡ max at (length d)
stopped d at i from to over is =
    by_bool (ltb (length d) at)
    (λ past. omega (arith, ltb-true _ _ past, ap length (run_ends d at (omega (arith, ltb-true _ _ past))), is))
    (λ within. omega (arith, ltb-false _ _ within, from, to, over))

pub returns : goal.returns
returns c =
    let over = c.loop-i-test.false in
    let all = done _ _ _ _ _ c.loop-i.invariant (run_ends _ _ over) in
    let end = stopped _ _ _ c.loop-i.auto.i c.loop-i.auto.i-end over (ap (λ (g : Gathered). g.at) all) in
    (λ j. record { total = c.loop-i.total; at = (c.max.ensures ∙ sym end) j }) ∙ all
