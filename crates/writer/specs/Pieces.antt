-- What a token is to the writer, and the bytes that are written for it by itself.
use Rattle.std.specs.Prelude.{ℕ, Bool, true, false, List, [], ◌∷◌, ◌++◌, eqb, Some, None, Option}
use Rattle.data.specs.Bytes.{quote}
use Rattle.put.specs.Parts.{view_of}
use Rattle.operator.specs.declared.Operator.{Operator}
use Rattle.operator.specs.Operators.{symbol_bytes, numbered}
use Rattle.tape.specs.declared.token.Token.{Token}
use Rattle.tape.specs.declared.token.ScalarKind.{ScalarKind}
use Rattle.tape.specs.declared.token.ScalarKind.TheVariants.{Unquoted, Quoted, Parameter, UndefinedParameter, Header, QuotedEscape}
use Rattle.tape.specs.declared.shape.Shape as Shape
use Rattle.tape.specs.Token.{container_of}
use Rattle.tape.specs.Shape.{shape_of}
use Rattle.writer.specs.declared.pieces.Piece.{Piece}
use Rattle.writer.specs.declared.pieces.Piece.TheVariants.{Scalar, Heading, Sign, Mixed, Opener, Other}

-- quotes round codes 5 and 11; a parameter is no part of the form
abbrev pub scalar_piece : ScalarKind → ℕ → ℕ → Piece
scalar_piece Unquoted offset size = Scalar false offset size
scalar_piece Quoted offset size = Scalar true offset size
scalar_piece QuotedEscape offset size = Scalar true offset size
scalar_piece Header offset size = Heading offset size
scalar_piece Parameter offset size = Other
scalar_piece UndefinedParameter offset size = Other

-- a token that opens nothing, by its shape; Ends and words that no token has are no part of the form either
abbrev pub bare_piece : Option Shape.Shape → Piece
bare_piece (Some (Shape.TheVariants.Scalar kind offset size)) = scalar_piece kind offset size
bare_piece (Some (Shape.TheVariants.Operator number)) = Sign number
bare_piece (Some Shape.TheVariants.MixedContainer) = Mixed
bare_piece (Some (Shape.TheVariants.Opener link)) = Other
bare_piece (Some (Shape.TheVariants.End opener)) = Other
bare_piece None = Other

unfoldable pub piece_of : Token → Piece
piece_of t = elim (container_of t) [ Some container ↦ Opener container.kind container.link | None ↦ bare_piece (shape_of t) ]

-- whether a piece is a MixedContainer
abbrev pub is_mixed : Piece → Bool
is_mixed (Scalar quoted offset size) = false
is_mixed (Heading offset size) = false
is_mixed (Sign number) = false
is_mixed Mixed = true
is_mixed (Opener kind end) = false
is_mixed Other = false

-- whether a piece opens a container
abbrev pub is_opener : Piece → Bool
is_opener (Scalar quoted offset size) = false
is_opener (Heading offset size) = false
is_opener (Sign number) = false
is_opener Mixed = false
is_opener (Opener kind end) = true
is_opener Other = false

-- ---- the bytes
-- in quotes or as they are
abbrev pub quote_if : Bool → List ℕ → List ℕ
quote_if true bytes = quote ∷ (bytes ++ (quote ∷ []))
quote_if false bytes = bytes

-- an operator's sign, or no byte where there is no operator
abbrev pub numbered_bytes : Option Operator → List ℕ
numbered_bytes (Some operator) = symbol_bytes operator
numbered_bytes None = []

unfoldable pub sign_bytes : ℕ → List ℕ
sign_bytes number = numbered_bytes (numbered number)

-- a scalar of code 4 as it is, of code 5 or 11 in quotes; a Header's own bytes; an operator's sign; a MixedContainer writes nothing
unfoldable pub own_bytes : List ℕ → Piece → List ℕ
own_bytes text (Scalar quoted offset size) = quote_if quoted (view_of text offset size)
own_bytes text (Heading offset size) = view_of text offset size
own_bytes text (Sign number) = sign_bytes number
own_bytes text Mixed = []
own_bytes text (Opener kind end) = []
own_bytes text Other = []
