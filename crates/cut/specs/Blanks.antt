-- Blanks: space, tab, LF, CR, `;`, and `#` up to its LF. A comment that meets the end of the text is the end.
use Rattle.std.specs.Prelude.{ℕ, ◌+◌, Bool, true, false, List, [], ◌∷◌, Option, Some, None, eqb, drop}
use Rattle.data.specs.Bytes.{tab, line_feed, carriage_return, space, hash, semicolon}
use Rattle.data.specs.Classes.{among}

-- the bytes that are blanks each by itself
abbrev pub blank_bytes : List ℕ
blank_bytes = space ∷ tab ∷ line_feed ∷ carriage_return ∷ semicolon ∷ []

-- whether a byte is one of the five
unfoldable pub is_blank : ℕ → Bool
is_blank b = among b blank_bytes

-- the place of the next byte that is no blank, of the bytes that start at a place: outside a comment, and inside one
unfoldable mutual
  pub blanks_from : List ℕ → ℕ → Option ℕ
  blanks_from [] at = None
  blanks_from (b ∷ bs) at =
      elim (is_blank b) [
        | true ↦ blanks_from bs (at + 1)
        | false ↦ elim (eqb b hash) [ true ↦ comment_from bs (at + 1) | false ↦ Some at ]
      ]

  pub comment_from : List ℕ → ℕ → Option ℕ
  comment_from [] at = None
  comment_from (b ∷ bs) at = elim (eqb b line_feed) [ true ↦ blanks_from bs (at + 1) | false ↦ comment_from bs (at + 1) ]

-- the place of the next byte of a text that is no blank, from a place on
unfoldable pub skip_ws : List ℕ → ℕ → Option ℕ
skip_ws text at = blanks_from (drop at text) at
