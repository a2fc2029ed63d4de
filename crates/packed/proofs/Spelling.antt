-- Numbers as bytes: what is spelled is read back, what is read is spelled again, and bytes that are read or put one by one.
-- Assumes nothing.
use mathlib.Core.Path.{◌≡◌, refl, ◌∙◌, ap}
use mathlib.Core.List.{List, [], ◌∷◌, ◌++◌, append-nil}
use Prim.Native.Nat.{ℕ, zero, suc, ◌+◌, ◌-◌, ◌*◌, ◌/◌, ◌%◌, ◌^◌, ◌≤◌, ◌<◌}
use native.Mathlib.Omega.{arith}
use native.Mathlib.Nat.{pow-succ'}
use borrow.Author.Tests.{le-leb, lt-leb}
use lib.ListN.{length, set, take, drop, replicate, length-append, length-drop}
use borrow.Rule.Slice.PartMut.{put_mid}
use Rattle.std.proofs.Common.{w32}
use Rattle.std.specs.Int.{from_be_bytes, to_be_bytes}
use Rattle.packed.specs.declared.numbers.Width.{Width}
use Rattle.packed.specs.declared.numbers.Width.TheVariants.{One, Three, Four}
use lib.Seq.{sets, length-take-le}
use Rattle.packed.specs.Numbers.{byte_values, width_of, spelled, number_on, number_of, spelt, store}

-- so many bytes
pub spelled-length : (width n : ℕ) → length (spelled width n) ≡ width
unfolding spelled
spelled-length zero n = refl
spelled-length (suc width) n = length-append (spelled width (n / byte_values)) _ ∙ omega (arith, spelled-length width (n / byte_values))

-- one byte more at the end
number_more : (n : ℕ) (bytes : List ℕ) (b : ℕ) → number_on n (bytes ++ (b ∷ [])) ≡ number_on n bytes * byte_values + b
unfolding number_on
number_more n [] b = refl
number_more n (x ∷ bytes) b = number_more (n * byte_values + x) bytes b

-- a number that fits its bytes is read back
pub read_back : (width n : ℕ) → n < byte_values ^ width → number_of (spelled width n) ≡ n
unfolding spelled number_on
read_back zero n h = omega arith
read_back (suc width) n h =
    let more : byte_values ^ suc width ≡ byte_values * byte_values ^ width = pow-succ' byte_values width in
    let rest : number_of (spelled width (n / byte_values)) ≡ n / byte_values = read_back width (n / byte_values) (omega arith) in
    number_more 0 (spelled width (n / byte_values)) (n % byte_values) ∙ omega arith

-- ---- a number in a word
-- a word's four bytes are read as the number that they spell
word-read : (word : List ℕ) → length word ≡ 4 → from_be_bytes w32 word ≡ number_of word
unfolding number_on
word-read [] h = absurd (omega arith)
word-read (w ∷ []) h = absurd (omega arith)
word-read (w ∷ x ∷ []) h = absurd (omega arith)
word-read (w ∷ x ∷ y ∷ []) h = absurd (omega arith)
word-read (w ∷ x ∷ y ∷ z ∷ []) h = omega arith
word-read (w ∷ x ∷ y ∷ z ∷ v ∷ vs) h = absurd (omega arith)

-- zeros in front of some bytes add nothing
zeros-read : (k : ℕ) (bytes : List ℕ) → number_of (replicate k 0 ++ bytes) ≡ number_of bytes
unfolding number_on
zeros-read zero bytes = refl
zeros-read (suc k) bytes = zeros-read k bytes

-- so many bytes put over the last zeros of a word
over_zeros : (width : Width) (part : List ℕ) → length part ≡ width_of width
    → from_be_bytes w32 (put_mid (4 - width_of width) (4 - (4 - width_of width)) (replicate 4 0) part) ≡ number_of part
over_zeros One part h =
    word-read (replicate 3 0 ++ (part ++ [])) (omega (arith, length-append part []))
    ∙ zeros-read 3 (part ++ []) ∙ ap number_of (append-nil part)
over_zeros Three part h =
    word-read (replicate 1 0 ++ (part ++ [])) (omega (arith, length-append part []))
    ∙ zeros-read 1 (part ++ []) ∙ ap number_of (append-nil part)
over_zeros Four part h =
    word-read (part ++ []) (omega (arith, length-append part [])) ∙ ap number_of (append-nil part)

pub word-spelt : (width : Width) (bytes : List ℕ) (at : ℕ) {size : ℕ} {part : List ℕ} → size ≡ width_of width → at + width_of width ≤ length bytes
    → part ≡ take (at + size - at) (drop at bytes)
    → from_be_bytes w32 (put_mid (4 - size) (4 - (4 - size)) (replicate 4 0) part) ≡ spelt bytes at (width_of width)
unfolding spelt
word-spelt width bytes at {size} {part} asked within e =
    let all : at + size - at ≡ width_of width = omega arith in
    let read : part ≡ take (width_of width) (drop at bytes) = e ∙ ap (λ (k : ℕ). take k (drop at bytes)) all in
    let long : length part ≡ width_of width =
    ap length read ∙ length-take-le (width_of width) (drop at bytes) (omega (arith, length-drop at bytes)) in
    rw asked (over_zeros width part long) ∙ ap number_of read

-- ---- bytes that are put where they all find room
pub store-there : (out : List ℕ) (at : ℕ) (bytes : List ℕ) → at + length bytes ≤ length out → sets out at bytes ≡ store out at bytes
unfolding store
store-there out at bytes h = rw (store, le-leb (at + length bytes) (length out) h)

pub store-none : (out : List ℕ) (at : ℕ) (bytes : List ℕ) → length out < at + length bytes → out ≡ store out at bytes
unfolding store
store-none out at bytes h = rw (store, lt-leb (at + length bytes) (length out) h)

-- bytes put behind others
pub sets_more : (out : List ℕ) (at : ℕ) (xs ys : List ℕ) → sets (sets out at xs) (at + length xs) ys ≡ sets out at (xs ++ ys)
sets_more out at [] ys = ap (λ (k : ℕ). sets out k ys) {x = at + 0} {y = at} (omega arith)
sets_more out at (x ∷ xs) ys =
    ap (λ (k : ℕ). sets (sets (set out at x) (suc at) xs) k ys) {x = at + length (x ∷ xs)} {y = suc at + length xs} (omega arith)
    ∙ sets_more (set out at x) (suc at) xs ys

-- the last bytes of a word
last_spelled : (width : Width) (n : ℕ) → take (4 - (4 - width_of width)) (drop (4 - width_of width) (to_be_bytes w32 n)) ≡ spelled (width_of width) n
unfolding spelled
last_spelled One n = refl
last_spelled Three n =
    let first : n / byte_values / byte_values ≡ n / 65536 = omega arith in
    rw first
last_spelled Four n =
    let first : n / byte_values / byte_values / byte_values ≡ n / 16777216 = omega arith in
    let second : n / byte_values / byte_values ≡ n / 65536 = omega arith in
    rw (first, second)

pub word-spelled : (width : Width) (n : ℕ) {size : ℕ} {word part : List ℕ} → size ≡ width_of width → word ≡ to_be_bytes w32 n
    → part ≡ take (4 - (4 - size)) (drop (4 - size) word) → part ≡ spelled (width_of width) n
word-spelled width n asked e f = f ∙ rw (asked, e) (last_spelled width n)
