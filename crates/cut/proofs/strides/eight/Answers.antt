-- `cut::strides::eight` meets its contract: the eight bytes, each moved to its place, are the digits of the word.
-- Assumes nothing.
use mathlib.Core.Path.{◌≡◌, sym, ◌∙◌, ap}
use mathlib.Core.List.{List, [], ◌∷◌}
use Prim.Native.Nat.{ℕ, suc, ◌+◌, ◌*◌, ◌%◌, ◌^◌, ◌≤◌, ◌<◌}
use native.Mathlib.Omega.{arith}
use lib.Bits.{bit_or, or_shifted_r}
use lib.ListN.{length, get_or, take, drop}
use lib.Pow.{shl_exact, pow-add}
use lib.Arith.{digits_lt}
use native.Mathlib.Nat.{zero-mul, add-mul, mul_assoc}
use Rattle.cut.proofs.Places.{drop_here}
use Rattle.cut.specs.Lanes.{word}
use Rattle.cut.proofs.strides.eight.Goals as goal

-- bytes put above what is there, each eight digits further up, as the code does it
unfoldable stacked : ℕ → ℕ → List ℕ → ℕ
stacked low k [] = low
stacked low k (b ∷ bs) = stacked (bit_or low (b * 2 ^ k % 2 ^ 64)) (8 + k) bs

unfoldable AllBytes : List ℕ → Type 0
AllBytes [] = Unit {0}
AllBytes (b ∷ bs) = (b < 2 ^ 8) × AllBytes bs

-- they are the digits of the word above it
stacked-is : (bs : List ℕ) (low k : ℕ) → AllBytes bs → low < 2 ^ k → length bs * 8 + k ≤ 64 → stacked low k bs ≡ word bs * 2 ^ k + low
unfolding stacked AllBytes word
stacked-is [] low k a h f = omega (arith, zero-mul (2 ^ k))
stacked-is (b ∷ bs) low k a h f =
    let room : length bs * 8 + (8 + k) ≤ 64 = omega arith in
    let next : bit_or low (b * 2 ^ k % 2 ^ 64) ≡ b * 2 ^ k + low =
    ap (bit_or low) (shl_exact 8 k 64 a.0 (omega arith)) ∙ or_shifted_r b k low h in
    let above : 2 ^ (8 + k) ≡ 2 ^ 8 * 2 ^ k = pow-add 2 8 k in
    let fits : b * 2 ^ k + low < 2 ^ (8 + k) = rw above (digits_lt a.0 h) in
    let e = ap (λ (n : ℕ). stacked n (8 + k) bs) next ∙ stacked-is bs (b * 2 ^ k + low) (8 + k) a.1 fits room in
    let g : word bs * 2 ^ (8 + k) ≡ word bs * 2 ^ 8 * 2 ^ k = ap (λ (n : ℕ). word bs * n) above ∙ sym (mul_assoc (word bs) (2 ^ 8) (2 ^ k)) in
    e ∙ omega (arith, g, add-mul (word bs * 2 ^ 8) b (2 ^ k))

-- one byte of the word from a place on
word-here : (d : List ℕ) (n i j : ℕ) → i < length d → j ≡ i + 1 → word (take (suc n) (drop i d)) ≡ word (take n (drop j d)) * 2 ^ 8 + get_or d i 0
unfolding word
word-here d n i j h e = rw (e, drop_here d i h)

-- a byte of the part, as `wide` hands it over
abbrev Byte : List ℕ → ℕ → ℕ → Type 0
Byte d i w = (w ≡ get_or d i 0) × (w < 256)

eight_is : (d : List ℕ) (i : ℕ) → i + 8 ≤ length d → (w0 w1 w2 w3 w4 w5 w6 w7 : ℕ)
    → Byte d i w0 → Byte d (i + 1) w1 → Byte d (i + 2) w2 → Byte d (i + 3) w3
    → Byte d (i + 4) w4 → Byte d (i + 5) w5 → Byte d (i + 6) w6 → Byte d (i + 7) w7
    → stacked w0 8 (w1 ∷ w2 ∷ w3 ∷ w4 ∷ w5 ∷ w6 ∷ w7 ∷ []) ≡ word (take 8 (drop i d))
unfolding word AllBytes
eight_is d i h w0 w1 w2 w3 w4 w5 w6 w7 p0 p1 p2 p3 p4 p5 p6 p7 =
    let bytes : AllBytes (w1 ∷ w2 ∷ w3 ∷ w4 ∷ w5 ∷ w6 ∷ w7 ∷ []) = (p1.1, (p2.1, (p3.1, (p4.1, (p5.1, (p6.1, (p7.1, tt))))))) in
    let s = stacked-is (w1 ∷ w2 ∷ w3 ∷ w4 ∷ w5 ∷ w6 ∷ w7 ∷ []) w0 8 bytes p0.1 (omega arith) in
    let t0 = word-here d 7 i (i + 1) (omega arith) (omega arith) in
    let t1 = word-here d 6 (i + 1) (i + 2) (omega arith) (omega arith) in
    let t2 = word-here d 5 (i + 2) (i + 3) (omega arith) (omega arith) in
    let t3 = word-here d 4 (i + 3) (i + 4) (omega arith) (omega arith) in
    let t4 = word-here d 3 (i + 4) (i + 5) (omega arith) (omega arith) in
    let t5 = word-here d 2 (i + 5) (i + 6) (omega arith) (omega arith) in
    let t6 = word-here d 1 (i + 6) (i + 7) (omega arith) (omega arith) in
    let t7 = word-here d 0 (i + 7) (i + 8) (omega arith) (omega arith) in
    s ∙ omega arith

pub returns : goal.returns
unfolding stacked
returns c =
    eight_is _ _ c.requires _ _ _ _ _ _ _ _
    c.wide.ensures c.wide-2.ensures c.wide-3.ensures c.wide-4.ensures
    c.wide-5.ensures c.wide-6.ensures c.wide-7.ensures c.wide-8.ensures
