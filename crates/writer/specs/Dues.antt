-- What is due next in a body, a token at a time, so that nothing is looked at ahead.
use Rattle.tape.specs.declared.token.ContainerKind.{ContainerKind}
use Rattle.tape.specs.declared.token.ContainerKind.TheVariants.{Array, Object}
use Rattle.writer.specs.declared.dues.Due.{Due}
use Rattle.writer.specs.declared.dues.Due.TheVariants.{Entry, Key, AfterKey, Value}
use Rattle.writer.specs.declared.pieces.Piece.{Piece}
use Rattle.writer.specs.declared.pieces.Piece.TheVariants.{Scalar, Heading, Sign, Mixed, Opener, Other}

-- arrays as entries; objects, like the root, as pairs
abbrev pub due_in : ContainerKind → Due
due_in Array = Entry
due_in Object = Key

-- a pair is a key, an operator where one stands, and an entry: behind a scalar, behind a container
abbrev pub after_scalar : Due → Due
after_scalar Entry = Entry
after_scalar Key = AfterKey
after_scalar AfterKey = Key
after_scalar Value = Key

abbrev pub after_container : Due → Due
after_container Entry = Entry
after_container Key = Key
after_container AfterKey = Key
after_container Value = Key

-- behind a Header its container, which is one entry with it, and behind an operator the entry
abbrev pub to_value : Due → Due
to_value Entry = Entry
to_value Key = Value
to_value AfterKey = Value
to_value Value = Value

-- what is due behind a piece; behind a MixedContainer entries follow as in an array
unfoldable pub due_after : Due → Piece → Due
due_after due (Scalar quoted offset size) = after_scalar due
due_after due (Heading offset size) = to_value due
due_after due (Sign number) = to_value due
due_after due Mixed = Entry
due_after due (Opener kind end) = after_container due
due_after due Other = due
