-- The words that lines on sheet files begin with, letter by letter.
use Rattle.std.specs.Prelude.{ℕ, List, [], ◌∷◌}
use Rattle.data.specs.Bytes.{space}
use Rattle.report.specs.Letters.{e, f, i, s, t}

-- two letters that no other line has
abbrev pub h : ℕ
h = 104

abbrev pub l : ℕ
l = 108

abbrev pub file : List ℕ
file = f ∷ i ∷ l ∷ e ∷ space ∷ []

abbrev pub sheet : List ℕ
sheet = s ∷ h ∷ e ∷ e ∷ t ∷ space ∷ []
