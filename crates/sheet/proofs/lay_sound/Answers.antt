-- `sheet::lay_sound` meets its contract: without words the bytes are read.
-- Assumes nothing.
use mathlib.Core.List.{[]}
use Rattle.packed.specs.Packed.{behind}
use Rattle.sheet.proofs.Whole.{check_fits}
use Rattle.sheet.proofs.Onto.{onto_ready, onto_nested}
use Rattle.sheet.proofs.lay_sound.Goals as goal

pub nest_onto-requires : goal.nest_onto-requires
nest_onto-requires c =
    let fits = check_fits (behind [] c.args.bytes.now) _ c.holds.ensures c.if-not-holds.false in
    let stood = c.all_stand.ensures.0 c.if-all_stand.true in
    onto_ready _ c.args.bytes.now c.args.words.now _ fits stood c.requires

pub returns-then-all_stand-clause-sound : goal.returns-then-all_stand-clause-sound
returns-then-all_stand-clause-sound c =
    let fits = check_fits (behind [] c.args.bytes.now) _ c.holds.ensures c.if-not-holds.false in
    let stood = c.all_stand.ensures.0 c.if-all_stand.true in
    onto_nested _ c.args.bytes.now c.args.words.now _ fits stood c.nest_onto.ensures.nests
