-- `sheet::check_onto` meets its contract: what is left on the words, by whether there is room and whether the tokens are sound.
-- Assumes nothing.
use native.Mathlib.Omega.{arith}
use Rattle.sheet.proofs.Onto.{room_there, room_most, onto_unsound, onto_laid}
use Rattle.sheet.proofs.check_onto.Goals as goal

pub returns-then-not-lay_sound-clause-left : goal.returns-then-not-lay_sound-clause-left
returns-then-not-lay_sound-clause-left c =
    onto_unsound c.args.words.now _ _ c.lay_sound.ensures.size c.clear_from-then-not-lay_sound.ensures

pub overflow_cast-laid : goal.overflow_cast-laid
overflow_cast-laid c =
    let room = room_there c.args.words.now _ c.has_room.ensures c.if-not-has_room.false in
    omega (arith, room_most c.args.words.now _ room)

pub returns-clause-left : goal.returns-clause-left
returns-clause-left c =
    let room = room_there c.args.words.now _ c.has_room.ensures c.if-not-has_room.false in
    let laid = c.lay_sound.ensures in
    let yes-sound = c.if-not-lay_sound.false in
    onto_laid _ _ c.args.words.now _ _ room (laid.sound.0 yes-sound) (laid.laid yes-sound) laid.size c.clear_from-2.ensures
