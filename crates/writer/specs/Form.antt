-- Whether a sheet is of the form that can be written. Refusal 46 is a parameter, or a body of another build.
use Rattle.std.specs.Prelude.{Bool, true, false, ◌&&◌}
use Rattle.writer.specs.declared.dues.Due.{Due}
use Rattle.writer.specs.declared.dues.Due.TheVariants.{Entry, Key, AfterKey, Value}
use Rattle.writer.specs.declared.pieces.Piece.{Piece}
use Rattle.writer.specs.declared.pieces.Piece.TheVariants.{Scalar, Heading, Sign, Mixed, Opener, Other}
use Rattle.writer.specs.Pieces.{piece_of}
use Rattle.writer.specs.Dues.{due_in, due_after, after_container}
use Rattle.writer.specs.Forest.{Forest, no_more, leaf, box}

-- an entry of a pair, and a container: not where a key is due, which is a scalar of code 4, 5 or 11
abbrev pub takes_entry : Due → Bool
takes_entry Entry = true
takes_entry Key = false
takes_entry AfterKey = true
takes_entry Value = true

-- an operator: an entry of an array or behind a MixedContainer, and right behind a key; two in a row are no pair
abbrev pub takes_sign : Due → Bool
takes_sign Entry = true
takes_sign Key = false
takes_sign AfterKey = true
takes_sign Value = false

-- a MixedContainer ends the pairs, and cuts none in two; and so does a body's end
abbrev pub may_end : Due → Bool
may_end Entry = true
may_end Key = true
may_end AfterKey = false
may_end Value = false

-- whether a piece may stand where something is due
unfoldable pub takes : Due → Piece → Bool
takes due (Scalar quoted offset size) = true
takes due (Heading offset size) = takes_entry due
takes due (Sign number) = takes_sign due
takes due Mixed = may_end due
takes due (Opener kind end) = takes_entry due
takes due Other = false

-- every body, at whatever depth, holds what is due in it, and ends where nothing is missing
unfoldable pub has_form : Forest → Due → Bool
has_form no_more due = may_end due
has_form (leaf x rest) due = takes due (piece_of x) && has_form rest (due_after due (piece_of x))
has_form (box kind flag inner rest) due = takes_entry due && (has_form inner (due_in kind) && has_form rest (after_container due))
