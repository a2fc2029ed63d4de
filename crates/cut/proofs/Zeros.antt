-- The zeros below the lowest set digit, of a number made of two parts, and of one made of bytes.
-- Assumes nothing.
use mathlib.Core.Path.{◌≡◌, refl, sym, ◌∙◌, ap, ap₂}
use mathlib.Core.List.{List, [], ◌∷◌}
use Prim.Native.Nat.{ℕ, zero, suc, ◌+◌, ◌*◌, ◌/◌, ◌%◌, ◌^◌, ◌<◌}
use native.Mathlib.Nat.{suc-mul, suc-add, add_comm, pow-suc}
use native.Mathlib.Omega.{arith}
use borrow.Author.Tests.{eqb-true, eqb-false}
use lib.Bits.{block_half, block_odd}
use lib.Count.{count_trailing_zeros, under, trailing_le}
use lib.Dec.{eqb}
use lib.ListN.{length, get_or}
use Rattle.data.proofs.Cases.{by_bool}
use Rattle.cut.specs.Lanes.{Bytes}
use Rattle.cut.proofs.Words.{each, Keeps}

-- one digit of a number whose lower part has a digit
zeros_step : (j k a r : ℕ) → count_trailing_zeros (suc j + k) (a * 2 ^ suc j + r) ≡ under (r % 2) (count_trailing_zeros (j + k) (a * 2 ^ j + r / 2))
unfolding count_trailing_zeros
zeros_step j k a r = rw (suc-add j k) (ap₂ (λ (d n : ℕ). under d (count_trailing_zeros (j + k) n)) (block_odd a j r) (block_half a j r))

under_zero : (d t : ℕ) → d ≡ 0 → under d t ≡ suc t
under_zero d t e = rw e

under_some : (d t : ℕ) → (d ≡ 0 → ⊥) → under d t ≡ 0
under_some zero t n = absurd (n refl)
under_some (suc d) t n = refl

half_lt : (j r : ℕ) → r < 2 ^ suc j → r / 2 < 2 ^ j
half_lt j r h = let e : 2 ^ suc j ≡ 2 ^ j * 2 = pow-suc 2 j in omega arith

-- a lower part of nothing but zeros
pub zeros-above : (j k a : ℕ) → count_trailing_zeros (j + k) (a * 2 ^ j + 0) ≡ j + count_trailing_zeros k a
zeros-above zero k a =
    let e : 0 + k ≡ k = omega arith in
    let f : a * 2 ^ 0 + 0 ≡ a = omega arith in
    ap₂ count_trailing_zeros e f ∙ omega arith
zeros-above (suc j) k a = zeros_step j k a 0 ∙ ap suc (zeros-above j k a) ∙ sym (suc-add j (count_trailing_zeros k a))

-- a lower part that is not 0 decides
pub zeros-below : (j k a r : ℕ) → r < 2 ^ j → (r ≡ 0 → ⊥) → count_trailing_zeros (j + k) (a * 2 ^ j + r) ≡ count_trailing_zeros j r
unfolding count_trailing_zeros
zeros-below zero k a r h n = absurd (n (omega arith))
zeros-below (suc j) k a r h n =
    zeros_step j k a r
    ∙ by_bool (eqb (r % 2) 0)
    (λ t. let e = eqb-true (r % 2) 0 t in ap (under (r % 2)) (zeros-below j k a (r / 2) (half_lt j r h) (λ z. n (omega arith))))
    (λ f. under_some (r % 2) _ (eqb-false (r % 2) 0 f) ∙ sym (under_some (r % 2) _ (eqb-false (r % 2) 0 f)))

-- and its lowest set digit is one of its own
zeros_within : (j r : ℕ) → r < 2 ^ j → (r ≡ 0 → ⊥) → count_trailing_zeros j r < j
unfolding count_trailing_zeros
zeros_within zero r h n = absurd (n (omega arith))
zeros_within (suc j) r h n =
    by_bool (eqb (r % 2) 0)
    (λ t. let e = eqb-true (r % 2) 0 t in
    rw (under_zero (r % 2) (count_trailing_zeros j (r / 2)) e) (omega (arith, zeros_within j (r / 2) (half_lt j r h) (λ z. n (omega arith)))))
    (λ f. rw (under_some (r % 2) (count_trailing_zeros j (r / 2)) (eqb-false (r % 2) 0 f)) (omega arith))

-- the law: the bytes below the first that is not 0 are 0
pub zero_bytes : (f : ℕ → ℕ) → Keeps f → (bs : List ℕ) → Bytes bs → (k : ℕ)
    → k < count_trailing_zeros (length bs * 8) (each f bs) / 8 → f (get_or bs k 0) ≡ 0
unfolding each
zero_bytes f keeps [] h k l = absurd (omega (arith, trailing_le (0 * 8) 0))
zero_bytes f keeps (b ∷ bs) h k l =
    let n : ℕ = length bs * 8 in
    let bits : suc (length bs) * 8 ≡ 8 + n = suc-mul (length bs) 8 ∙ add_comm n 8 in
    let l' : k < count_trailing_zeros (8 + n) (each f bs * 2 ^ 8 + f b) / 8 = rw bits at l in
    by_bool (eqb (f b) 0)
    (λ t. go (λ j. zero_bytes f keeps bs (λ i. h (suc i)) j) k (eqb-true (f b) 0 t) (rw (eqb-true (f b) 0 t, zeros-above 8 n (each f bs)) at l'))
    (λ e. let s = eqb-false (f b) 0 e in
    absurd (omega (arith, zeros-below 8 n (each f bs) (f b) (keeps b (h 0)) s, zeros_within 8 (f b) (keeps b (h 0)) s)))
  where
    go : ((j : ℕ) → j < count_trailing_zeros (length bs * 8) (each f bs) / 8 → f (get_or bs j 0) ≡ 0)
        → (k : ℕ) → f b ≡ 0 → k < (8 + count_trailing_zeros (length bs * 8) (each f bs)) / 8 → f (get_or (b ∷ bs) k 0) ≡ 0
    go later zero e m = e
    go later (suc k) e m = later k (omega arith)
