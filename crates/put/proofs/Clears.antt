-- Zeros from a place on.
-- Assumes nothing.
use mathlib.Core.Path.{◌≡◌, ◌∙◌, ap}
use mathlib.Core.List.{List}
use Prim.Native.Nat.{ℕ}
use native.Mathlib.Nat.{sub-zero}
use lib.ListN.{length, replicate}
use Rattle.put.specs.Append.{zeroed}

-- a buffer that is cleared from its first byte on is zero
pub buffer-cleared : (bytes : List ℕ) {out : List ℕ} {n : ℕ} → out ≡ zeroed bytes 0 → length bytes ≡ n → out ≡ replicate n 0
buffer-cleared bytes e h = e ∙ ap (λ (k : ℕ). replicate k 0) (sub-zero (length bytes) ∙ h)
