-- Calm bytes are passed by the scan of an unquoted run and by that of a quoted one.
-- Assumes nothing.
use mathlib.Core.Path.{◌≡◌, ◌∙◌, ap}
use mathlib.Core.Bool.{Bool, true, false}
use mathlib.Core.List.{List}
use Prim.Native.Nat.{ℕ, zero, suc, ◌+◌, ◌≤◌, ◌<◌}
use native.Mathlib.Omega.{arith}
use lib.ListN.{length, get_or, drop}
use Rattle.data.specs.Bytes.{quote, backslash}
use Rattle.cut.specs.Marks.{turns_quote, Calm}
use Rattle.cut.specs.Quotes.{quoted_from, closed}
use Rattle.cut.specs.Runs.{stop_from}
use Rattle.cut.proofs.Marks.{no-turn}
use Rattle.cut.proofs.Quotes.{quoted-closes, quoted_escapes, quoted-goes_on}
use Rattle.cut.proofs.Runs.{stop_here, stop_later}

-- what does not change with a byte that is not wanted does not change with n of them
module _ {A : Type 0} (wanted : ℕ → Bool) (d : List ℕ) (scan : ℕ → A)
    (step : (i : ℕ) → i < length d → wanted (get_or d i 0) ≡ false → scan i ≡ scan (i + 1)) where
  passed : (i n : ℕ) → i + n ≤ length d → ((k : ℕ) → k < n → wanted (get_or d (i + k) 0) ≡ false) → scan i ≡ scan (i + n)
  passed i zero h none = ap scan (omega arith)
  passed i (suc n) h none =
      passed i n (omega arith) (λ k l. none k (omega arith)) ∙ step (i + n) (omega arith) (none n (omega arith)) ∙ ap scan (omega arith)

-- the scan of an unquoted run, over any set that stops it
module _ (stops : ℕ → Bool) (d : List ℕ) (i n : ℕ) (calm : Calm stops d i n) where
  pub run-passes : i + n ≤ length d → stop_from stops (drop i d) i ≡ stop_from stops (drop (i + n) d) (i + n)
  run-passes h = passed stops d (λ k. stop_from stops (drop k d) k) (stop_later stops d) i n h calm.none

  pub run-stops : i + n < length d → stops (get_or d (i + n) 0) ≡ true → stop_from stops (drop i d) i ≡ i + n
  run-stops h e = run-passes (omega arith) ∙ stop_here stops d (i + n) h e

  pub run-goes_on : i + n < length d → stops (get_or d (i + n) 0) ≡ false
      → stop_from stops (drop i d) i ≡ stop_from stops (drop (i + n + 1) d) (i + n + 1)
  run-goes_on h e = run-passes (omega arith) ∙ stop_later stops d (i + n) h e

-- the scan of a quoted run
module _ (d : List ℕ) (i n : ℕ) (e : Bool) (calm : Calm turns_quote d i n) where
  pub quote-passes : i + n ≤ length d → quoted_from (drop i d) i e ≡ quoted_from (drop (i + n) d) (i + n) e
  quote-passes h =
      passed turns_quote d (λ k. quoted_from (drop k d) k e)
      (λ k w t. let p = no-turn (get_or d k 0) t in quoted-goes_on d k e w p.0 p.1) i n h calm.none

  pub quote-closes : i + n < length d → get_or d (i + n) 0 ≡ quote → quoted_from (drop i d) i e ≡ closed (i + n) e
  quote-closes h q = quote-passes (omega arith) ∙ quoted-closes d (i + n) e h q

  pub quote_escapes : i + n < length d → get_or d (i + n) 0 ≡ backslash
      → quoted_from (drop i d) i e ≡ quoted_from (drop (i + n + 1 + 1) d) (i + n + 1 + 1) true
  quote_escapes h s =
      quote-passes (omega arith) ∙ quoted_escapes d (i + n) e h s
      ∙ ap (λ (k : ℕ). quoted_from (drop k d) k true) {x = i + n + 2} {y = i + n + 1 + 1} (omega arith)

  pub quote-goes_on : i + n < length d → (get_or d (i + n) 0 ≡ quote → ⊥) → (get_or d (i + n) 0 ≡ backslash → ⊥)
      → quoted_from (drop i d) i e ≡ quoted_from (drop (i + n + 1) d) (i + n + 1) e
  quote-goes_on h q s = quote-passes (omega arith) ∙ quoted-goes_on d (i + n) e h q s
