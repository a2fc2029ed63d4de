-- The text of a sheet.
use Rattle.std.specs.Prelude.{Bool, true, false, ℕ, List, [], ◌∷◌, ◌++◌}
use Rattle.data.specs.Bytes.{space, equals, brace_open, brace_close}
use Rattle.writer.specs.declared.dues.Due.{Due}
use Rattle.writer.specs.declared.dues.Due.TheVariants.{Entry, Key, AfterKey, Value}
use Rattle.writer.specs.declared.pieces.Piece.{Piece}
use Rattle.writer.specs.declared.pieces.Piece.TheVariants.{Scalar, Heading, Sign, Mixed, Opener, Other}
use Rattle.writer.specs.Pieces.{piece_of, own_bytes}
use Rattle.writer.specs.Dues.{due_in, due_after, after_container}
use Rattle.writer.specs.Forest.{Forest, no_more, leaf, box}

-- between what stands in a body: `=` between a key and its entry where no operator token stands, and else one space
abbrev pub gap : Due → Bool → List ℕ
gap Entry sign = space ∷ []
gap Key sign = space ∷ []
gap AfterKey true = space ∷ []
gap AfterKey false = equals ∷ []
gap Value sign = space ∷ []

-- and nothing before the first
abbrev pub lead : Bool → Due → Bool → List ℕ
lead true due sign = []
lead false due sign = gap due sign

-- whether something is still the first of its body behind a piece: a MixedContainer takes no space
abbrev pub still_first : Bool → Piece → Bool
still_first first (Scalar quoted offset size) = false
still_first first (Heading offset size) = false
still_first first (Sign number) = false
still_first first Mixed = first
still_first first (Opener kind end) = false
still_first first Other = first

-- what is written for a token that opens nothing
unfoldable pub piece_text : List ℕ → Bool → Due → Piece → List ℕ
piece_text text first due (Scalar quoted offset size) = lead first due false ++ own_bytes text (Scalar quoted offset size)
piece_text text first due (Heading offset size) = lead first due false ++ own_bytes text (Heading offset size)
piece_text text first due (Sign number) = lead first due true ++ own_bytes text (Sign number)
piece_text text first due Mixed = []
piece_text text first due (Opener kind end) = []
piece_text text first due Other = []

-- braces round containers
abbrev pub braced : List ℕ → List ℕ
braced bytes = brace_open ∷ (bytes ++ (brace_close ∷ []))

-- the text of what stands in a body from some place on, where something is due
unfoldable pub body_text : Forest → List ℕ → Bool → Due → List ℕ
body_text no_more text first due = []
body_text (leaf x rest) text first due =
    piece_text text first due (piece_of x) ++ body_text rest text (still_first first (piece_of x)) (due_after due (piece_of x))
body_text (box kind flag inner rest) text first due =
    lead first due false ++ (braced (body_text inner text true (due_in kind)) ++ body_text rest text false (after_container due))

-- the whole sheet: the root is pairs, as an object is
abbrev pub sheet_text : Forest → List ℕ → List ℕ
sheet_text f text = body_text f text true Key
