-- What is known of a sheet's text from one pass over its tokens, in the order in which they stand.
use Rattle.std.specs.Prelude.{ℕ, ◌+◌, ◌-◌, Option, Some, None, Bool, true, false, List, [], ◌∷◌, ltb, length}
use Rattle.tape.specs.declared.token.Token.{Token}
use Rattle.tape.specs.declared.shape.Link.{Link}
use Rattle.tape.specs.declared.shape.Link.TheVariants.{ToEnd, ToOpener}
use Rattle.tape.specs.Shape.{link_of}
use Rattle.parse.specs.Parse.{text_limit}
use Rattle.writer.specs.declared.dues.Due.TheVariants.{Entry}
use Rattle.writer.specs.Levels.{most_levels}
use Rattle.writer.specs.Pieces.{piece_of}
use Rattle.writer.specs.Text.{lead, still_first, piece_text}

-- ---- levels: an opener goes one down, an End one up
-- the levels behind a token, unless they are more than may be
unfoldable pub sunk : ℕ → Option Link → Option ℕ
sunk level (Some (ToEnd end)) = elim (ltb level most_levels) [ true ↦ Some (level + 1) | false ↦ None ]
sunk level (Some (ToOpener opener)) = Some (level - 1)
sunk level None = Some level

-- whether more than may be are open somewhere
unfoldable pub sinks : List Token → ℕ → Bool
sinks [] level = false
sinks (x ∷ xs) level = elim (sunk level (link_of x)) [ Some next ↦ sinks xs next | None ↦ true ]

-- ---- bytes: the byte before a token is one, whichever it is, unless the token is the first of its body
-- those of a token by its link: an opening brace with what stands before it, a closing one, or those of a piece
unfoldable pub token_size : List ℕ → Bool → Token → Option Link → ℕ
token_size text first x (Some (ToEnd end)) = length (lead first Entry false) + 1
token_size text first x (Some (ToOpener opener)) = 1
token_size text first x None = length (piece_text text first Entry (piece_of x))

-- whether the next token is the first of its body
unfoldable pub first_behind : Bool → Token → Option Link → Bool
first_behind first x (Some (ToEnd end)) = true
first_behind first x (Some (ToOpener opener)) = false
first_behind first x None = still_first first (piece_of x)

-- all tokens together
unfoldable pub text_size : List ℕ → List Token → Bool → ℕ
text_size text [] first = 0
text_size text (x ∷ xs) first = token_size text first x (link_of x) + text_size text xs (first_behind first x (link_of x))

-- a size, unless it is over the limit
unfoldable pub measured : ℕ → Option ℕ
measured size = elim (ltb text_limit size) [ true ↦ None | false ↦ Some size ]
