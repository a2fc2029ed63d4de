-- The Rust's own readings of a scalar, in the words of its scalar.rs, shortcuts by length and all, to be held beside it. A definition stands after
-- what it calls, so the file is read from scalar.rs's last line up to `to_bool`. Nothing is borrowed from our readings: the types are its own.
-- What the machine does is said as it is. A u8, a u64 and a usize are natural numbers, an i64 is an integer, an f64 is the logic's IEEE 754; a
-- wrapping operation goes modulo 2^64; and where a sum, a difference, a product, an index or a part of a slice is out of its range, the call panics.
use Rattle.std.specs.Prelude.{ℕ, zero, suc, ◌+◌, ◌-◌, ◌*◌, ◌%◌, ◌^◌, Bool, true, false, ◌&&◌, ◌||◌, List, [], ◌∷◌, eqb, leb, ltb, Float, ℤ, pos, negsuc, neg_ℤ, ◌-ℤ◌, ◌*ℤ◌, length, get_or, take, drop}
use Rattle.std.proofs.Math.Option.{Option, none, some}
use Rattle.std.specs.Float.{binary64}
use Rattle.std.specs.Float.Ieee.{of_int, mul, div}
use Rattle.std.proofs.Math.ListN.{get_elem?}
use Rattle.data.specs.Bytes.{plus, minus, point, digit_zero, digit_nine, letter_e, letter_f, letter_n, letter_o, letter_s, letter_y}

-- `ScalarError`
pub data ScalarError : Type 0 where
  AllDigits : ScalarError
  Overflow : ScalarError
  InvalidBool : ScalarError
  PrecisionLoss : Float → ScalarError

-- what a call comes to: a `Result`, or a panic
pub data Outcome (A : Type 0) : Type 0 where
  Ok : A → Outcome A
  Err : ScalarError → Outcome A
  Panic : Outcome A

-- ---- the machine

-- what follows where all went well: `?`, and the order of what could panic
infixl 1 ◌>>=◌
abbrev pub ◌>>=◌ : {A B : Type 0} → Outcome A → (A → Outcome B) → Outcome B
Ok a >>= next = next a
Err e >>= next = Err e
Panic >>= next = Panic

-- `ok_or`
abbrev pub ok_or : {A : Type 0} → Option A → ScalarError → Outcome A
ok_or none e = Err e
ok_or (some a) e = Ok a

-- a difference of unsigned numbers
abbrev pub less : ℕ → ℕ → Outcome ℕ
less a b = elim (leb b a) [ true ↦ Ok (a - b) | false ↦ Panic ]

-- a sum of two usize
abbrev pub add_usize : ℕ → ℕ → Outcome ℕ
add_usize a b = elim (ltb (a + b) (2 ^ 64)) [ true ↦ Ok (a + b) | false ↦ Panic ]

-- `wrapping_mul`, `wrapping_add`, `checked_mul` and `checked_add` of u64, and `saturating_sub` of usize
abbrev pub wrapping_mul : ℕ → ℕ → ℕ
wrapping_mul a b = a * b % 2 ^ 64

abbrev pub wrapping_add : ℕ → ℕ → ℕ
wrapping_add a b = (a + b) % 2 ^ 64

abbrev pub checked_mul : ℕ → ℕ → Option ℕ
checked_mul a b = elim (ltb (a * b) (2 ^ 64)) [ true ↦ some (a * b) | false ↦ none ]

abbrev pub checked_add : ℕ → ℕ → Option ℕ
checked_add a b = elim (ltb (a + b) (2 ^ 64)) [ true ↦ some (a + b) | false ↦ none ]

abbrev pub saturating_sub : ℕ → ℕ → ℕ
saturating_sub a b = a - b

-- whether an integer is an i64, and an i64 or a panic
abbrev pub is_i64 : ℤ → Bool
is_i64 (pos n) = ltb n (2 ^ 63)
is_i64 (negsuc n) = ltb n (2 ^ 63)

abbrev pub i64_or_panic : ℤ → Outcome ℤ
i64_or_panic i = elim (is_i64 i) [ true ↦ Ok i | false ↦ Panic ]

-- a u64 `as i64`: its bits
abbrev pub as_i64 : ℕ → ℤ
as_i64 n = elim (ltb n (2 ^ 63)) [ true ↦ pos n | false ↦ negsuc (2 ^ 64 - suc n) ]

-- the 64 bits of an integer, and `wrapping_sub` of i64
abbrev pub bits_of : ℤ → ℕ
bits_of (pos n) = n % 2 ^ 64
bits_of (negsuc n) = 2 ^ 64 - suc (n % 2 ^ 64)

abbrev pub wrapping_sub : ℤ → ℤ → ℤ
wrapping_sub a b = as_i64 (bits_of (a -ℤ b))

-- a bool `as i64`
abbrev pub bool_as_i64 : Bool → ℤ
bool_as_i64 true = pos 1
bool_as_i64 false = pos 0

-- `i64::try_from` of a u64
abbrev pub i64_try_from : ℕ → Option ℤ
i64_try_from n = elim (ltb n (2 ^ 63)) [ true ↦ some (pos n) | false ↦ none ]

-- an integer `as f64`, rounded once, ties to even
abbrev pub as_f64 : ℤ → Float
as_f64 i = of_int binary64 i

-- whether two i64 are the same, where the right one is 1
abbrev pub is_one : ℤ → Bool
is_one (pos n) = eqb n 1
is_one (negsuc n) = false

-- `is_empty`, `d[i]`, `&d[n..]` and `&d[..n]`
abbrev pub is_empty : List ℕ → Bool
is_empty [] = true
is_empty (b ∷ d) = false

abbrev pub index : List ℕ → ℕ → Outcome ℕ
index d i = elim (ltb i (length d)) [ true ↦ Ok (get_or d i 0) | false ↦ Panic ]

abbrev pub part_from : List ℕ → ℕ → Outcome (List ℕ)
part_from d n = elim (leb n (length d)) [ true ↦ Ok (drop n d) | false ↦ Panic ]

abbrev pub part_to : List ℕ → ℕ → Outcome (List ℕ)
part_to d n = elim (leb n (length d)) [ true ↦ Ok (take n d) | false ↦ Panic ]

-- `split_first` and `split_last`: a byte at an end, and the others
abbrev pub split_first : List ℕ → Option (ℕ × List ℕ)
split_first [] = none
split_first (b ∷ d) = some (b, d)

unfoldable pub split_last : List ℕ → Option (ℕ × List ℕ)
split_last [] = none
split_last (b ∷ d) = elim (split_last d) [ none ↦ some (b, []) | some s ↦ some (s.0, b ∷ s.1) ]

-- `is_ascii_digit`
unfoldable pub is_ascii_digit : ℕ → Bool
is_ascii_digit b = elim (leb digit_zero b) [ true ↦ leb b digit_nine | false ↦ false ]

-- `u64::from(b - b'0')`
abbrev pub digit_of : ℕ → Outcome ℕ
digit_of b = less b digit_zero

-- ---- scalar.rs, from its end up

-- `POWER_OF_TEN`: a literal is the f64 nearest to the number that it writes
abbrev pub literal_1e : ℕ → Float
literal_1e k = as_f64 (pos (10 ^ k))

unfoldable pub power_of_ten : List Float
power_of_ten =
    literal_1e 0 ∷ literal_1e 1 ∷ literal_1e 2 ∷ literal_1e 3 ∷ literal_1e 4 ∷ literal_1e 5 ∷ literal_1e 6 ∷ literal_1e 7
    ∷ literal_1e 8 ∷ literal_1e 9 ∷ literal_1e 10 ∷ literal_1e 11 ∷ literal_1e 12 ∷ literal_1e 13 ∷ literal_1e 14
    ∷ literal_1e 15 ∷ literal_1e 16 ∷ literal_1e 17 ∷ literal_1e 18 ∷ literal_1e 19 ∷ literal_1e 20 ∷ literal_1e 21
    ∷ literal_1e 22 ∷ []

-- `ilog10` of a u64: the greatest power of ten that is at most the number, looked for from a power down. 10^20 is past every u64
unfoldable pub greatest_power : ℕ → ℕ → ℕ
greatest_power n zero = zero
greatest_power n (suc k) = elim (leb (10 ^ suc k) n) [ true ↦ suc k | false ↦ greatest_power n k ]

abbrev pub ilog10 : ℕ → ℕ
ilog10 n = greatest_power n 20

-- `digits_in`
unfoldable pub digits_in : ℕ → ℕ
digits_in n = elim (eqb n 0) [ true ↦ 1 | false ↦ ilog10 n + 1 ]

-- the three constants above `to_f64`
unfoldable pub overflow_cutoff : ℕ
overflow_cutoff = digits_in (2 ^ 64 - 1)

abbrev pub safe_integer : ℕ
safe_integer = 2 ^ 53 - 1

unfoldable pub safe_integer_len : ℕ
safe_integer_len = digits_in safe_integer

-- `OVERFLOW_CUTOFF - 1`: the length from which on three of the four checks are made
unfoldable pub check_from : ℕ
check_from = overflow_cutoff - 1

-- one digit more, as the loops have it: `wrapping_mul(10)`, then `wrapping_add(u64::from(x - b'0'))`
unfoldable pub one_more : ℕ → ℕ → Outcome ℕ
one_more total x = do
  digit ← digit_of x
  Ok (wrapping_add (wrapping_mul total 10) digit)

-- `to_u64_partial`
unfoldable pub to_u64_partial : List ℕ → ℕ → Outcome (ℕ × List ℕ)
to_u64_partial [] result = Ok (result, [])
to_u64_partial (c ∷ rest) result =
    elim (is_ascii_digit c) [
      | true ↦ do
        result ← one_more result c
        to_u64_partial rest result
      | false ↦ Ok (result, c ∷ rest)
    ]

-- `checked_mul(10)`, `and_then` `checked_add(u64::from(x - b'0'))`, `ok_or`
unfoldable pub one_more_checked : ℕ → ℕ → Outcome ℕ
one_more_checked acc x =
    elim (checked_mul acc 10) [
      | some product ↦ do
        digit ← digit_of x
        ok_or (checked_add product digit) Overflow
      | none ↦ Err Overflow
    ]

-- `check_overflow_init`
unfoldable pub check_overflow_init : List ℕ → ℕ → Outcome ℕ
check_overflow_init [] acc = Ok acc
check_overflow_init (x ∷ d) acc =
    elim (is_ascii_digit x) [
      | true ↦ do
        acc ← one_more_checked acc x
        check_overflow_init d acc
      | false ↦ Ok acc
    ]

-- `check_overflow`: `if matches!(d[0], b'+' | b'-') { d = &d[1..]; }`, then the check
abbrev pub is_sign : ℕ → Bool
is_sign b = eqb b plus || eqb b minus

abbrev pub past_sign : Bool → List ℕ → Outcome (List ℕ)
past_sign true d = part_from d 1
past_sign false d = Ok d

unfoldable pub check_overflow : List ℕ → Outcome ℕ
check_overflow d =
    elim (is_empty d) [
      | true ↦ Err AllDigits
      | false ↦ do
        first ← index d 0
        d ← past_sign (is_sign first) d
        check_overflow_init d 0
    ]

-- a check that is made from a length on: `if len >= cutoff { check(..)?; }`
abbrev pub from_length : ℕ → ℕ → Outcome ℕ → Outcome ℕ
from_length cutoff len check = elim (leb cutoff len) [ true ↦ check | false ↦ Ok 0 ]

-- the loop over all bytes of `to_u64`, which is that over the fractions in `to_f64`, too
unfoldable pub all_digits : List ℕ → ℕ → Outcome ℕ
all_digits [] total = Ok total
all_digits (x ∷ d) total =
    elim (is_ascii_digit x) [
      | true ↦ do
        total ← one_more total x
        all_digits d total
      | false ↦ Err AllDigits
    ]

-- the first byte of `to_u64`
unfoldable pub u64_start : ℕ → Outcome ℕ
u64_start c = elim (is_ascii_digit c) [ true ↦ digit_of c | false ↦ elim (eqb c plus) [ true ↦ Ok 0 | false ↦ Err AllDigits ] ]

-- `to_u64`
unfoldable pub to_u64 : List ℕ → Outcome ℕ
to_u64 d = do
  (c, others) ← ok_or (split_first d) AllDigits
  start ← u64_start c
  result ← all_digits others start
  _ ← from_length check_from (length d) (check_overflow d)
  Ok result

-- the first byte of `to_i64_t`: `start` and `sign`
unfoldable pub i64_start : ℕ → Outcome (ℕ × ℤ)
i64_start c =
    elim (is_ascii_digit c) [
      | true ↦ do
        digit ← digit_of c
        Ok (digit, pos 1)
      | false ↦ elim (eqb c minus) [ true ↦ Ok (0, negsuc 0) | false ↦ elim (eqb c plus) [ true ↦ Ok (0, pos 1) | false ↦ Err AllDigits ] ]
    ]

-- `i64::try_from(val).map(|x| sign * x)`: its error is kept, as a `none`, until a `?` asks for it
unfoldable pub times_sign : ℤ → ℕ → Outcome (Option ℤ)
times_sign sign val =
    elim (i64_try_from val) [
      | some x ↦ do
        product ← i64_or_panic (sign *ℤ x)
        Ok (some product)
      | none ↦ Ok none
    ]

-- `to_i64_t`
unfoldable pub to_i64_t : List ℕ → Outcome (ℤ × List ℕ)
to_i64_t d = do
  (c, others) ← ok_or (split_first d) AllDigits
  (start, sign) ← i64_start c
  (val, rest) ← to_u64_partial others start
  _ ← from_length check_from (length d) (check_overflow d)
  val ← times_sign sign val
  val ← ok_or val Overflow
  Ok (val, rest)

-- `to_i64`
unfoldable pub to_i64 : List ℕ → Outcome ℤ
to_i64 d = do
  (result, left) ← to_i64_t d
  elim (is_empty left) [ true ↦ Ok result | false ↦ Err AllDigits ]

-- `check_precision_and_overflow`: the end of it, where `val` is known
unfoldable pub approximated : ℤ → ℕ → Option ℤ → Outcome Float
approximated sign acc val =
    elim (is_one sign) [
      | true ↦ Ok (as_f64 (pos acc))
      | false ↦ do
        x ← ok_or val Overflow
        Ok (as_f64 x)
    ]

unfoldable pub check_precision : ℤ → ℕ → Option ℤ → Outcome Float
check_precision sign acc val =
    elim (ltb safe_integer acc) [
      | true ↦ do
        approx ← approximated sign acc val
        Err (PrecisionLoss approx)
      | false ↦ do
        x ← ok_or val Overflow
        Ok (as_f64 x)
    ]

-- and the whole
unfoldable pub check_precision_and_overflow : ℤ → ℕ → List ℕ → Outcome Float
check_precision_and_overflow sign acc integer_part = do
  _ ← from_length overflow_cutoff (length integer_part) (check_overflow integer_part)
  val ← times_sign sign acc
  check_precision sign acc val

-- `to_f64` after its loop
unfoldable pub without_point : ℤ → ℕ → List ℕ → Outcome Float
without_point sign acc integer_part =
    elim (ltb (length integer_part) safe_integer_len) [
      | true ↦ do
        x ← i64_or_panic (sign *ℤ as_i64 acc)
        Ok (as_f64 x)
      | false ↦ check_precision_and_overflow sign acc integer_part
    ]

-- `to_f64` at a point: what the last byte does to `total` and `rest`
unfoldable pub last_byte : ℕ → List ℕ → ℕ → Outcome (ℕ × List ℕ)
last_byte last rest total =
    elim (is_ascii_digit last) [
      | true ↦ do
        total ← one_more total last
        Ok (total, rest)
      | false ↦ elim (eqb last letter_f) [
        | true ↦ do
          end ← less (length rest) 1
          rest ← part_to rest end
          Ok (total, rest)
        | false ↦ Err AllDigits
      ]
    ]

-- `if let Some((&last, fractions)) = rest.split_last()`
unfoldable pub fraction : List ℕ → ℕ → Outcome (ℕ × List ℕ)
fraction rest total =
    elim (split_last rest) [
      | some split ↦ do
        total ← all_digits split.1 total
        last_byte split.0 rest total
      | none ↦ Ok (total, rest)
    ]

-- and the rest of that arm
unfoldable pub with_point : ℤ → ℕ → List ℕ → List ℕ → Outcome Float
with_point sign acc integer_part after = do
  (total, rest) ← fraction after acc
  let fractional-digits = length rest
  up-to-point ← less (length integer_part) fractional-digits
  whole-digits ← less up-to-point 1
  digits ← add_usize fractional-digits whole-digits
  _ ← from_length check_from digits (check_overflow_init rest acc)
  pow ← ok_or (get_elem? power_of_ten fractional-digits) Overflow
  Ok (mul binary64 (as_f64 sign) (div binary64 (as_f64 (pos total)) pow))

-- the loop of `to_f64`
unfoldable pub f64_loop : ℤ → List ℕ → ℕ → List ℕ → Outcome Float
f64_loop sign [] acc integer_part = without_point sign acc integer_part
f64_loop sign (c ∷ rest) acc integer_part =
    elim (is_ascii_digit c) [
      | true ↦ do
        acc ← one_more acc c
        f64_loop sign rest acc integer_part
      | false ↦ elim (eqb c point) [
        | true ↦ with_point sign acc integer_part rest
        | false ↦ elim (eqb c letter_f && is_empty rest) [
          | true ↦ do
            integer_part ← part_to integer_part (saturating_sub (length integer_part) 1)
            f64_loop sign rest acc integer_part
          | false ↦ Err AllDigits
        ]
      ]
    ]

-- the locals that its first byte sets
pub record Begun : Type 0 where
  pub acc : ℕ
  pub integer_part : List ℕ
  pub left : List ℕ

unfoldable pub f64_start : ℕ → List ℕ → Outcome Begun
f64_start c rest =
    elim (eqb c minus) [
      | true ↦ Ok (record { acc = 0; integer_part = rest; left = rest })
      | false ↦ elim (is_ascii_digit c) [
        | true ↦ do
          digit ← digit_of c
          Ok (record { acc = digit; integer_part = c ∷ rest; left = rest })
        | false ↦ elim (eqb c plus) [
          | true ↦ Ok (record { acc = 0; integer_part = rest; left = rest })
          | false ↦ elim (eqb c point) [
            | true ↦ Ok (record { acc = 0; integer_part = c ∷ rest; left = c ∷ rest })
            | false ↦ Err AllDigits
          ]
        ]
      ]
    ]

-- its `sign`: -((negative as i64 * 2).wrapping_sub(1))
unfoldable pub f64_sign : Bool → Outcome ℤ
f64_sign negative = do
  twice ← i64_or_panic (bool_as_i64 negative *ℤ pos 2)
  i64_or_panic (neg_ℤ (wrapping_sub twice (pos 1)))

-- `to_f64`
unfoldable pub to_f64 : List ℕ → Outcome Float
to_f64 d = do
  (c, rest) ← ok_or (split_first d) AllDigits
  begun ← f64_start c rest
  sign ← f64_sign (eqb c minus)
  f64_loop sign begun.left begun.acc begun.integer_part

-- `to_bool`: the two patterns of its `match`, byte by byte
abbrev pub matches : List ℕ → List ℕ → Bool
matches [] [] = true
matches [] (p ∷ ps) = false
matches (b ∷ d) [] = false
matches (b ∷ d) (p ∷ ps) = eqb b p && matches d ps

unfoldable pub to_bool : List ℕ → Outcome Bool
to_bool d =
    elim (matches d (letter_y ∷ letter_e ∷ letter_s ∷ [])) [
      | true ↦ Ok true
      | false ↦ elim (matches d (letter_n ∷ letter_o ∷ [])) [ true ↦ Ok false | false ↦ Err InvalidBool ]
    ]
