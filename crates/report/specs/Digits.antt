-- Numbers as text, most significant digit first.
use Rattle.std.specs.Prelude.{ℕ, zero, suc, ◌+◌, ◌-◌, ◌/◌, ◌%◌, min, true, false, List, [], ◌∷◌, ◌++◌, ltb}
use Rattle.data.specs.Bytes.{digit_zero}
use Rattle.report.specs.Letters.{a}

-- the digit for a number below sixteen: `0` to `9`, then `a` to `f`
unfoldable pub glyph : ℕ → ℕ
glyph d = elim (ltb d 10) [ true ↦ digit_zero + d | false ↦ a + (d - 10) ]

-- the decimal digits of a number: those of its quotient by ten, and behind them the last one. The fuel is over the number, which falls.
unfoldable pub decimal_by : ℕ → ℕ → List ℕ
unfolding glyph
decimal_by zero n = []
decimal_by (suc fuel) n =
    elim (ltb n 10) [ true ↦ glyph n ∷ [] | false ↦ decimal_by fuel (n / 10) ++ (glyph (n % 10) ∷ []) ]

unfoldable pub decimal : ℕ → List ℕ
unfolding decimal_by
decimal n = decimal_by (suc n) n

-- the last so many hexadecimal digits of a number, zeros in front among them
unfoldable pub hex_by : ℕ → ℕ → List ℕ
unfolding glyph
hex_by zero n = []
hex_by (suc k) n = hex_by k (n / 16) ++ (glyph (n % 16) ∷ [])

-- a u64 has sixteen of them, and no more are written
abbrev pub most_hex : ℕ
most_hex = 16

unfoldable pub hex : ℕ → ℕ → List ℕ
unfolding hex_by
hex digits n = hex_by (min digits most_hex) n
