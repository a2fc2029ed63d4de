-- `file::read_tokens` meets its contract: they are checked and laid down, and then found sound and find room or not.
-- Assumes nothing.
use mathlib.Core.Path.{refl}
use Rattle.file.proofs.Reading.{read-unsound, read-no_room, read_fits}
use borrow.Author.Rules.{rules}
use Rattle.file.proofs.read_tokens.Goals as goal

pub returns-then-not-check_onto : goal.returns-then-not-check_onto
returns-then-not-check_onto c =
    read-unsound c.args.head.version c.args.bytes.now c.args.words.now _ _ c.requires c.head_size-from.ensures refl
    c.check_onto.ensures.sound c.check_onto.ensures.left c.if-not-check_onto.true

pub returns-then-not-room : goal.returns-then-not-room
returns-then-not-room c =
    read-no_room c.args.head.version c.args.bytes.now c.args.words.now _ _ c.requires c.head_size-from.ensures refl
    c.check_onto.ensures.sound c.check_onto.ensures.left c.if-not-check_onto.false
    c.holds-room.ensures c.if-not-room.true

pub returns : goal.returns
returns c =
    read_fits c.args.head.version c.args.bytes.now c.args.words.now _ _ c.requires c.head_size-from.ensures refl
    c.check_onto.ensures.sound c.check_onto.ensures.left c.if-not-check_onto.false
    c.holds-room.ensures (search rules) c.if-not-room.false
