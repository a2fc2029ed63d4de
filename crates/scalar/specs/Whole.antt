-- Whole numbers: what bytes say as a u64, and as an i64.
use Rattle.std.specs.Prelude.{Result, Ok, Err, ℕ, ◌+◌, ◌-◌, ◌^◌, Bool, true, false, List, [], ◌∷◌, length, drop, ℤ, pos, neg_ℤ, ◌==◌, nat_lt}
use Rattle.data.specs.Bytes.{plus, minus}
use Rattle.scalar.specs.Digits.{is_digit, digit_run, value, most_u64}
use Rattle.scalar.specs.declared.errors.WholeError.TheVariants.{AllDigits, Overflow}
use Rattle.scalar.specs.declared.errors.WholeError.{WholeError}

-- the most that 63 bits hold
abbrev pub most_i64 : ℕ
most_i64 = 2 ^ 63 - 1

-- whether anything stands after the digits in front
abbrev pub has_tail : List ℕ → Bool
has_tail s = nat_lt (length (digit_run s)) (length s)

-- digits alone: any other byte is refused first, and a number above 2^64 - 1 next
unfoldable pub u64_digits : List ℕ → Result ℕ WholeError
unfolding digit_run value
u64_digits s =
    elim (has_tail s) [
      | true ↦ Err AllDigits
      | false ↦ elim (nat_lt most_u64 (value 0 (digit_run s))) [ true ↦ Err Overflow | false ↦ Ok (value 0 (digit_run s)) ]
    ]

-- an optional `+`, then digits; nothing at all is refused
unfoldable pub u64_read : List ℕ → Result ℕ WholeError
unfolding u64_digits
u64_read [] = Err AllDigits
u64_read (b ∷ d) = elim (b == plus) [ true ↦ u64_digits d | false ↦ u64_digits (b ∷ d) ]

-- a number under its sign: there is one zero
abbrev pub signed : Bool → ℕ → ℤ
signed true n = neg_ℤ (pos n)
signed false n = pos n

-- digits after a sign of so many bytes: a number above 2^63 - 1 is refused; any other is answered with the place after its digits
unfoldable pub i64_digits : Bool → ℕ → List ℕ → Result (ℤ × ℕ) WholeError
unfolding digit_run value
i64_digits negative sign s =
    elim (nat_lt most_i64 (value 0 (digit_run s))) [
      | true ↦ Err Overflow
      | false ↦ Ok (signed negative (value 0 (digit_run s)), sign + length (digit_run s))
    ]

-- whether a number may begin with a byte: a sign or a digit
abbrev pub starts_number : ℕ → Bool
starts_number b = elim (b == minus) [ true ↦ true | false ↦ elim (b == plus) [ true ↦ true | false ↦ is_digit b ] ]

-- how many bytes of sign a number has that begins with a byte
abbrev pub sign_width : ℕ → ℕ
sign_width b = elim (b == minus) [ true ↦ 1 | false ↦ elim (b == plus) [ true ↦ 1 | false ↦ 0 ] ]

-- an optional sign, then digits, with whatever stands after them left over; any other first byte is refused
unfoldable pub i64_part : List ℕ → Result (ℤ × ℕ) WholeError
unfolding is_digit i64_digits
i64_part [] = Err AllDigits
i64_part (b ∷ d) =
    elim (b == minus) [
      | true ↦ i64_digits true 1 d
      | false ↦ elim (b == plus) [
        | true ↦ i64_digits false 1 d
        | false ↦ elim (is_digit b) [ true ↦ i64_digits false 0 (b ∷ d) | false ↦ Err AllDigits ]
      ]
    ]

-- of such a part the number alone, or the refusal
abbrev pub number_of : Result (ℤ × ℕ) WholeError → Result ℤ WholeError
number_of (Ok (i, rest)) = Ok i
number_of (Err e) = Err e

-- and what is left over of the bytes, nothing after a refusal
abbrev pub left_of : List ℕ → Result (ℤ × ℕ) WholeError → List ℕ
left_of d (Ok (i, rest)) = drop rest d
left_of d (Err e) = []

-- the number that bytes begin with (request W7)
unfoldable pub i64_number : List ℕ → Result ℤ WholeError
unfolding i64_part
i64_number d = number_of (i64_part d)

-- and the part of them after it
unfoldable pub i64_rest : List ℕ → List ℕ
unfolding i64_part
i64_rest d = left_of d (i64_part d)

-- where that part lies, of bytes that start at a place: it ends where they end
abbrev pub place_of_rest : ℕ × ℕ → List ℕ → List ℕ → ℕ × ℕ
place_of_rest start d rest = (start.0, start.1 + (length d - length rest))

-- a part of so many bytes that leaves something over is refused
abbrev pub whole_only : ℕ → Result (ℤ × ℕ) WholeError → Result ℤ WholeError
whole_only n (Ok (i, rest)) = elim (nat_lt rest n) [ true ↦ Err AllDigits | false ↦ Ok i ]
whole_only n (Err e) = Err e

-- an optional sign and digits, and nothing after them
unfoldable pub i64_read : List ℕ → Result ℤ WholeError
unfolding i64_part
i64_read d = whole_only (length d) (i64_part d)
