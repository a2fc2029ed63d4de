-- `data::is_boundary` meets its contract, by one computation over the 256 bytes.
-- Assumes nothing.
use mathlib.Core.Bool.{Bool, true, false, not, false≢true, ◌||◌}
use mathlib.Core.Path.{◌≡◌, refl, sym}
use Prim.Native.Nat.{ℕ, ◌/◌, ◌^◌, ◌≤◌, ◌<◌}
use borrow.Author.Tests.{lt-ltb, le-ltb}
use lib.Bits.{bit_and}
use lib.Dec.{eqb, ltb}
use Rattle.data.specs.Bytes.{bracket_open, bracket_close, brace_open, brace_close}
use Rattle.data.specs.Classes.{is_boundary, byte_count}
use Rattle.data.proofs.Below.{all_below, below}
use Rattle.data.proofs.is_boundary.Goals as goal

-- what the code answers before `@`, and from there on
unfoldable by_bit : ℕ → Bool
by_bit b = eqb (bit_and (0x7800_0009_0000_2600 / 2 ^ b) 1) 1

unfoldable by_name : ℕ → Bool
by_name b = ((eqb b bracket_open || eqb b bracket_close) || eqb b brace_open) || eqb b brace_close

unfoldable by_both : ℕ → Bool
unfolding by_bit by_name
by_both b = elim (ltb b 64) [ true ↦ by_bit b | false ↦ by_name b ]

unfoldable alike : Bool → Bool → Bool
alike true b = b
alike false b = not b

alike-eq : (a b : Bool) → alike a b ≡ true → a ≡ b
unfolding alike
alike-eq true b e = sym e
alike-eq false true e = absurd (false≢true e)
alike-eq false false e = refl

right : (b : ℕ) → b < byte_count → by_both b ≡ is_boundary b
unfolding all_below alike by_both by_bit by_name is_boundary
right b h = alike-eq _ _ (below (λ k. alike (by_both k) (is_boundary k)) byte_count refl b h)

lower : (b : ℕ) → b < byte_count → b < 64 → by_bit b ≡ is_boundary b
unfolding by_both
lower b h k = rw (by_both, lt-ltb b 64 k) at (right b h)

upper : (b : ℕ) → b < byte_count → 64 ≤ b → by_name b ≡ is_boundary b
unfolding by_both
upper b h k = rw (by_both, le-ltb b 64 k) at (right b h)

pub returns-then-b-lt64 : goal.returns-then-b-lt64
unfolding by_bit
returns-then-b-lt64 c = lower _ c.ranges.b.fits c.if-b-lt64.true

pub returns : goal.returns
unfolding by_name
returns c = upper _ c.ranges.b.fits c.if-b-lt64.false
