-- A part of a sheet's tokens that can be walked, and what a walk over its direct tokens tells.
use Rattle.std.specs.Prelude.{ℕ, ◌+◌, ◌≤◌, ◌<◌, Bool, true, false, ◌&&◌, ◌≡◌, List, [], ◌++◌, length}
use Rattle.tape.specs.declared.token.Token.{Token}
use Rattle.tape.specs.Token.{end_of, nth}
use Rattle.tape.specs.Shape.{Opens}
use Rattle.sheet.specs.Sound.{Sheet, Sound}
use Rattle.writer.specs.declared.dues.Due.{Due}
use Rattle.writer.specs.declared.pieces.Piece.{Piece}
use Rattle.writer.specs.declared.pieces.Piece.TheVariants.{Scalar, Heading, Sign, Mixed, Opener, Other}
use Rattle.writer.specs.Forest.{Forest, no_more, leaf, box, stretch}
use Rattle.writer.specs.Pieces.{piece_of}
use Rattle.writer.specs.Dues.{due_in, due_after, after_container}
use Rattle.writer.specs.Form.{takes, takes_entry, may_end}
use Rattle.writer.specs.Text.{lead, piece_text, braced, body_text}

-- tokens of a sound sheet from i up to j: containers end within, and Ends close what opened within
pub record Range (ts : List Token) (i j : ℕ) : Type 0 where
  pub text_length : ℕ
  pub sheet : Sheet text_length ts
  pub within : j ≤ length ts
  pub ends : (o e : ℕ) → i ≤ o → o < j → Opens (nth ts o) e → e < j
  pub opened : (k o : ℕ) → i ≤ k → k < j → nth ts k ≡ end_of o → i ≤ o

-- the words of a sound sheet, for whatever text
pub record Whole (words : List ℕ) (count : ℕ) : Type 0 where
  pub text_length : ℕ
  pub sound : Sound text_length words count

-- where a walk goes on behind a piece: behind the End of what it opens, or at the next token
unfoldable pub behind : Piece → ℕ → ℕ
behind (Scalar quoted offset size) next = next
behind (Heading offset size) next = next
behind (Sign number) next = next
behind Mixed next = next
behind (Opener kind end) next = end + 1
behind Other next = next

-- whether the direct tokens of a body are what is due in it
unfoldable pub body_form : Forest → Due → Bool
body_form no_more due = may_end due
body_form (leaf x rest) due = takes due (piece_of x) && body_form rest (due_after due (piece_of x))
body_form (box kind flag inner rest) due = takes_entry due && body_form rest (after_container due)

-- what a walk into a container needs: the body that a piece opens can be walked
abbrev pub Inside : List Token → ℕ → Piece → Type 0
Inside ts from (Scalar quoted offset size) = Unit {0}
Inside ts from (Heading offset size) = Unit {0}
Inside ts from (Sign number) = Unit {0}
Inside ts from Mixed = Unit {0}
Inside ts from (Opener kind end) = Range ts from end × (from ≤ end)
Inside ts from Other = Unit {0}

-- whether that body's direct tokens are what is due in it; where nothing opens, nothing is wrong
unfoldable pub inside_form : List Token → ℕ → Piece → Bool
inside_form ts from (Scalar quoted offset size) = true
inside_form ts from (Heading offset size) = true
inside_form ts from (Sign number) = true
inside_form ts from Mixed = true
inside_form ts from (Opener kind end) = body_form (stretch ts from end) (due_in kind)
inside_form ts from Other = true

-- what is written for a container that a piece opens, with all that stands in it; where nothing opens, nothing
unfoldable pub inside_text : List ℕ → List Token → ℕ → Bool → Due → Piece → List ℕ
inside_text text ts from first due (Scalar quoted offset size) = []
inside_text text ts from first due (Heading offset size) = []
inside_text text ts from first due (Sign number) = []
inside_text text ts from first due Mixed = []
inside_text text ts from first due (Opener kind end) = lead first due false ++ braced (body_text (stretch ts from end) text true (due_in kind))
inside_text text ts from first due Other = []

-- what is written for a token: one of the two is empty
unfoldable pub token_text : List ℕ → List Token → ℕ → Bool → Due → Piece → List ℕ
token_text text ts from first due p = piece_text text first due p ++ inside_text text ts from first due p
