-- Yes or no: the two words, and what any bytes say.
use Rattle.std.specs.Prelude.{Result, Ok, Err, ℕ, Bool, true, false, List, [], ◌∷◌, ◌==◌}
use Rattle.data.specs.Bytes.{letter_e, letter_n, letter_o, letter_s, letter_y}
use Rattle.scalar.specs.declared.errors.BoolError.TheVariants.{InvalidBool}
use Rattle.scalar.specs.declared.errors.BoolError.{BoolError}

-- the word `yes`
abbrev pub yes : List ℕ
yes = letter_y ∷ letter_e ∷ letter_s ∷ []

-- the word `no`
abbrev pub no : List ℕ
no = letter_n ∷ letter_o ∷ []

-- whether two runs of bytes are the same
unfoldable pub same : List ℕ → List ℕ → Bool
same [] [] = true
same [] (b ∷ t) = false
same (a ∷ s) [] = false
same (a ∷ s) (b ∷ t) = elim (a == b) [ true ↦ same s t | false ↦ false ]

-- `yes` is true and `no` is false; anything else is refused
unfoldable pub bool_read : List ℕ → Result Bool BoolError
unfolding same
bool_read d = elim (same d yes) [ true ↦ Ok true | false ↦ elim (same d no) [ true ↦ Ok false | false ↦ Err InvalidBool ] ]
