-- The words that the programs write, letter by letter.
use Rattle.std.specs.Prelude.{ℕ, List, [], ◌∷◌}
use Rattle.data.specs.Bytes.{space}
use Rattle.report.specs.Letters.{A, C, E, H, M, O, P, Q, U, a, b, c, d, e, f, i, j, k, m, n, o, p, q, r, s, t, u, v, w, x, y}

-- ---- the names of tokens
abbrev pub array : List ℕ
array = A ∷ r ∷ r ∷ a ∷ y ∷ []

abbrev pub object : List ℕ
object = O ∷ b ∷ j ∷ e ∷ c ∷ t ∷ []

abbrev pub mixed_container : List ℕ
mixed_container = M ∷ i ∷ x ∷ e ∷ d ∷ C ∷ o ∷ n ∷ t ∷ a ∷ i ∷ n ∷ e ∷ r ∷ []

abbrev pub unquoted : List ℕ
unquoted = U ∷ n ∷ q ∷ u ∷ o ∷ t ∷ e ∷ d ∷ []

abbrev pub quoted : List ℕ
quoted = Q ∷ u ∷ o ∷ t ∷ e ∷ d ∷ []

abbrev pub parameter : List ℕ
parameter = P ∷ a ∷ r ∷ a ∷ m ∷ e ∷ t ∷ e ∷ r ∷ []

abbrev pub undefined_parameter : List ℕ
undefined_parameter = U ∷ n ∷ d ∷ e ∷ f ∷ i ∷ n ∷ e ∷ d ∷ P ∷ a ∷ r ∷ a ∷ m ∷ e ∷ t ∷ e ∷ r ∷ []

abbrev pub operator : List ℕ
operator = O ∷ p ∷ e ∷ r ∷ a ∷ t ∷ o ∷ r ∷ []

abbrev pub end : List ℕ
end = E ∷ n ∷ d ∷ []

abbrev pub header : List ℕ
header = H ∷ e ∷ a ∷ d ∷ e ∷ r ∷ []

abbrev pub quoted_escape : List ℕ
quoted_escape = Q ∷ u ∷ o ∷ t ∷ e ∷ d ∷ E ∷ s ∷ c ∷ a ∷ p ∷ e ∷ []

-- ---- what lines begin with, and the verdicts
abbrev pub tokens : List ℕ
tokens = t ∷ o ∷ k ∷ e ∷ n ∷ s ∷ space ∷ []

abbrev pub bom : List ℕ
bom = space ∷ b ∷ o ∷ m ∷ space ∷ []

abbrev pub refused : List ℕ
refused = r ∷ e ∷ f ∷ u ∷ s ∷ e ∷ d ∷ space ∷ []

abbrev pub view : List ℕ
view = v ∷ i ∷ e ∷ w ∷ space ∷ []

abbrev pub text : List ℕ
text = t ∷ e ∷ x ∷ t ∷ space ∷ []

abbrev pub sound : List ℕ
sound = s ∷ o ∷ u ∷ n ∷ d ∷ []

abbrev pub unsound : List ℕ
unsound = u ∷ n ∷ s ∷ o ∷ u ∷ n ∷ d ∷ []

abbrev pub input_over : List ℕ
input_over = i ∷ n ∷ p ∷ u ∷ t ∷ space ∷ o ∷ v ∷ e ∷ r ∷ space ∷ []
