-- Numbers as bytes, big-endian.
use Rattle.std.specs.Prelude.{ℕ, zero, suc, ◌+◌, ◌-◌, ◌*◌, ◌/◌, ◌%◌, ◌^◌, true, false, List, [], ◌∷◌, ◌++◌, leb, length, take, drop}
use Rattle.std.proofs.lemmas.List.Edits.{sets}
use Rattle.packed.specs.declared.numbers.Width.{Width}
use Rattle.packed.specs.declared.numbers.Width.TheVariants.{One, Three, Four}

-- how many values a byte has
abbrev pub byte_values : ℕ
byte_values = 256

-- how many bytes a number is given
abbrev pub width_of : Width → ℕ
width_of One = 1
width_of Three = 3
width_of Four = 4

-- the greatest number that so many bytes spell
abbrev pub greatest : ℕ → ℕ
greatest width = byte_values ^ width - 1

-- the last so many bytes of a number: those of its quotient, and behind them the last one
unfoldable pub spelled : ℕ → ℕ → List ℕ
spelled zero n = []
spelled (suc width) n = spelled width (n / byte_values) ++ (n % byte_values ∷ [])

-- the number that bytes spell, behind those that spell n
unfoldable pub number_on : ℕ → List ℕ → ℕ
number_on n [] = n
number_on n (b ∷ bytes) = number_on (n * byte_values + b) bytes

abbrev pub number_of : List ℕ → ℕ
number_of bytes = number_on 0 bytes

-- the number that so many bytes from a place on spell
unfoldable pub spelt : List ℕ → ℕ → ℕ → ℕ
spelt bytes at width = number_of (take width (drop at bytes))

-- the same, 0 where the bytes are not all there
unfoldable pub field : List ℕ → ℕ → ℕ → ℕ
field bytes at width = elim (leb (at + width) (length bytes)) [ true ↦ spelt bytes at width | false ↦ 0 ]

-- bytes put from a place on, where they all find room; else nothing changes
unfoldable pub store : List ℕ → ℕ → List ℕ → List ℕ
store out at bytes = elim (leb (at + length bytes) (length out)) [ true ↦ sets out at bytes | false ↦ out ]
