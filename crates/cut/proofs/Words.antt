-- A number by its bytes: each byte of some list, changed by a function, as a digit of a number to the base 256.
-- Assumes nothing.
use mathlib.Core.Path.{◌≡◌, refl, sym, ◌∙◌, ap}
use mathlib.Core.List.{List, [], ◌∷◌, ◌++◌}
use Prim.Native.Nat.{ℕ, zero, suc, ◌+◌, ◌-◌, ◌*◌, ◌/◌, ◌%◌, ◌^◌, ◌≤◌, ◌<◌}
use native.Mathlib.Nat.{mod-lt, suc-mul, mul_assoc, mul-one}
use native.Mathlib.Omega.{arith}
use lib.ListN.{length}
use lib.Pow.{pow-add, pow_pos, shr_lt, split}
use Rattle.cut.specs.Lanes.{Bytes, word, spread}

-- a function from bytes to bytes
abbrev pub Keeps : (ℕ → ℕ) → Type 0
Keeps f = (b : ℕ) → b < 2 ^ 8 → f b < 2 ^ 8

-- the number whose bytes are the list's, each changed by f
unfoldable pub each : (ℕ → ℕ) → List ℕ → ℕ
each f [] = 0
each f (b ∷ bs) = each f bs * 2 ^ 8 + f b

pub each_word : (bs : List ℕ) → word bs ≡ each (λ b. b) bs
unfolding word each
each_word [] = refl
each_word (b ∷ bs) = ap (λ (n : ℕ). n * 2 ^ 8 + b) (each_word bs)

pub each-spread : (c : ℕ) (bs : List ℕ) → spread (length bs) c ≡ each (λ b. c) bs
unfolding spread each
each-spread c [] = refl
each-spread c (b ∷ bs) = ap (λ (n : ℕ). n * 2 ^ 8 + c) (each-spread c bs)

-- a bit operation works on each byte apart
module _ (op : ℕ → ℕ → ℕ) (none : op 0 0 ≡ 0)
    (block : (k a b r s : ℕ) → r < 2 ^ k → s < 2 ^ k → op (a * 2 ^ k + r) (b * 2 ^ k + s) ≡ op a b * 2 ^ k + op r s)
    (f g : ℕ → ℕ) (kf : Keeps f) (kg : Keeps g) where
  pub each_op : (bs : List ℕ) → Bytes bs → op (each f bs) (each g bs) ≡ each (λ b. op (f b) (g b)) bs
  unfolding each
  each_op [] h = none
  each_op (b ∷ bs) h =
      block 8 (each f bs) (each g bs) (f b) (g b) (kf b (h 0)) (kg b (h 0))
      ∙ ap (λ (n : ℕ). n * 2 ^ 8 + op (f b) (g b)) (each_op bs (λ k. h (suc k)))

-- sums of bytes are the bytes of the sum
pub each-plus : (f g : ℕ → ℕ) (bs : List ℕ) → each f bs + each g bs ≡ each (λ b. f b + g b) bs
unfolding each
each-plus f g [] = refl
each-plus f g (b ∷ bs) = let e = each-plus f g bs in omega arith

-- and so are differences, where no byte goes below 0
pub each-apart : (f g : ℕ → ℕ) (bs : List ℕ) → Bytes bs
    → ((b : ℕ) → b < 2 ^ 8 → g b ≤ f b) → each (λ b. f b - g b) bs + each g bs ≡ each f bs
unfolding each
each-apart f g [] h le = refl
each-apart f g (b ∷ bs) h le = let e = each-apart f g bs (λ k. h (suc k)) le in let l = le b (h 0) in omega arith

-- a longer list's number: the later bytes above the earlier
pub each_append : (f : ℕ → ℕ) (xs ys : List ℕ) → each f (xs ++ ys) ≡ each f ys * 2 ^ (length xs * 8) + each f xs
unfolding each
each_append f [] ys = omega (arith, mul-one (each f ys))
each_append f (x ∷ xs) ys =
    let e = each_append f xs ys in
    let p : 2 ^ (suc (length xs) * 8) ≡ 2 ^ (length xs * 8) * 2 ^ 8 = ap (λ (n : ℕ). 2 ^ n) (suc-mul (length xs) 8) ∙ pow-add 2 (length xs * 8) 8 in
    let q : each f ys * 2 ^ (suc (length xs) * 8) ≡ each f ys * 2 ^ (length xs * 8) * 2 ^ 8 =
    ap (λ (n : ℕ). each f ys * n) p ∙ sym (mul_assoc (each f ys) (2 ^ (length xs * 8)) (2 ^ 8)) in
    omega arith

-- the n low bytes of a number
unfoldable pub bytes : ℕ → ℕ → List ℕ
bytes zero x = []
bytes (suc n) x = x % 2 ^ 8 ∷ bytes n (x / 2 ^ 8)

pub length-bytes : (n x : ℕ) → length (bytes n x) ≡ n
unfolding bytes
length-bytes zero x = refl
length-bytes (suc n) x = ap suc (length-bytes n (x / 2 ^ 8))

pub bytes-bytes : (n x : ℕ) → Bytes (bytes n x)
unfolding bytes
bytes-bytes zero x k = pow_pos 8
bytes-bytes (suc n) x zero = mod-lt x (pow_pos 8)
bytes-bytes (suc n) x (suc k) = bytes-bytes n (x / 2 ^ 8) k

pub word_bytes : (n x : ℕ) → x < 2 ^ (n * 8) → word (bytes n x) ≡ x
unfolding bytes word
word_bytes zero x h = omega arith
word_bytes (suc n) x h =
    ap (λ (m : ℕ). m * 2 ^ 8 + x % 2 ^ 8) (word_bytes n (x / 2 ^ 8) (shr_lt (n * 8) 8 (rw (suc-mul n 8) at h)))
    ∙ split x 8

pub each-le : (f g : ℕ → ℕ) (bs : List ℕ) → Bytes bs → ((b : ℕ) → b < 2 ^ 8 → f b ≤ g b) → each f bs ≤ each g bs
unfolding each
each-le f g [] h le = omega arith
each-le f g (b ∷ bs) h le = let l = each-le f g bs (λ k. h (suc k)) le in omega (arith, le b (h 0))
