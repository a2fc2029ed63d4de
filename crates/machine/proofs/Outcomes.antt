-- Outcomes that are the same have one count, one flag and one list of words.
-- Assumes nothing.
use Rattle.std.specs.Prelude.{Ok, Err}
use mathlib.Core.Path.{◌≡◌, ap}
use mathlib.Core.Bool.{Bool}
use mathlib.Core.List.{List}
use Prim.Native.Nat.{ℕ}
use Rattle.machine.specs.Finish.{Outcome, outcome, with_tokens}

abbrev count_of : ℕ → Outcome → ℕ
count_of n (outcome (Ok p) ws) = p.count
count_of n (outcome (Err r) ws) = n

abbrev bom_of : Bool → Outcome → Bool
bom_of b (outcome (Ok p) ws) = p.bom
bom_of b (outcome (Err r) ws) = b

abbrev words_of : Outcome → List ℕ
words_of (outcome r ws) = ws

pub same_outcome : {n m : ℕ} {b c : Bool} {us vs : List ℕ} → outcome (with_tokens n b) us ≡ outcome (with_tokens m c) vs
    → (n ≡ m) × (b ≡ c) × (us ≡ vs)
same_outcome {n} {m} {b} {c} {us} {vs} e = (ap (count_of n) e, ap (bom_of b) e, ap words_of e)
