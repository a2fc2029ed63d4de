-- Decimal digits: which bytes are digits, the run of them in front, and the number that they write.
use Rattle.std.specs.Prelude.{ℕ, ◌+◌, ◌-◌, ◌*◌, ◌%◌, ◌^◌, min, Bool, true, false, ◌&&◌, leb, List, [], ◌∷◌, length, drop, nat_le}
use Rattle.data.specs.Bytes.{digit_zero, digit_nine}
use Rattle.scalar.specs.declared.digits.Digits.{Digits}
use Rattle.scalar.specs.declared.digits.Gathered.{Gathered}

-- the most that 64 bits hold
abbrev pub most_u64 : ℕ
most_u64 = 2 ^ 64 - 1

-- whether a byte is a decimal digit
unfoldable pub is_digit : ℕ → Bool
is_digit b = elim (nat_le digit_zero b) [ true ↦ leb b digit_nine | false ↦ false ]

-- whether all bytes are digits
unfoldable pub digits_alone : List ℕ → Bool
digits_alone [] = true
digits_alone (b ∷ d) = is_digit b && digits_alone d

-- and whether the first of them is one
unfoldable pub digit_first : List ℕ → Bool
digit_first [] = false
digit_first (b ∷ d) = is_digit b

-- the digits in front
unfoldable pub digit_run : List ℕ → List ℕ
unfolding is_digit
digit_run [] = []
digit_run (b ∷ d) = elim (is_digit b) [ true ↦ b ∷ digit_run d | false ↦ [] ]

-- a number carried on by one more digit
abbrev pub carry : ℕ → ℕ → ℕ
carry total b = total * 10 + (b - digit_zero)

-- a number carried on through digits
unfoldable pub value : ℕ → List ℕ → ℕ
value total [] = total
value total (b ∷ d) = value (carry total b) d

-- the digits from a place on, carried on from a total modulo 2^64, and the place after them
abbrev pub gathered : List ℕ → ℕ → ℕ → Gathered
gathered d at start = record { total = value start (digit_run (drop at d)) % 2 ^ 64; at = at + length (digit_run (drop at d)) }

-- the digits that stand at a place: the number that they write, or the most that 64 bits hold where it is more, and the place after them
unfoldable pub digits_in : List ℕ → ℕ → Digits
digits_in d at = record { number = min (value 0 (digit_run (drop at d))) most_u64; end = at + length (digit_run (drop at d)) }
