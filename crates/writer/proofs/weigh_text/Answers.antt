-- `writer::weigh_text` meets its contract: the measured length decides, then the buffer, then the scratch.
-- Assumes nothing.
use mathlib.Core.Path.{◌≡◌, ◌∙◌}
use mathlib.Core.List.{List}
use Rattle.std.specs.Prelude.{Some, None, Err}
use Rattle.tape.specs.declared.token.Token.{Token}
use Rattle.tape.specs.Words.{tokens_in}
use Rattle.writer.specs.declared.Refusal.TheVariants.{TooLong}
use Rattle.writer.proofs.Forms.{whole-count}
use Rattle.writer.proofs.Weighing.{text-over, text-no_room, scratch-no_room, text-fits}
use native.Mathlib.Omega.{arith}
use Rattle.writer.proofs.weigh_text.Goals as goal
use Rattle.writer.proofs.weigh_text.Goals.{then-room-size-via-then-room-size, then-room-size-via-else-room-size+then-capacity-source}

pub returns-in_err-size : goal.returns-in_err-size
returns-in_err-size c =
    let args = c.args in
    let ts : List Token = tokens_in args.source.words.now args.source.count in
    let over : c.measure.result ≡ None = grind arith in
    let told : c.from_residual.result ≡ Err TooLong = grind arith in
    told ∙ text-over args.room _ ts _ c.measure.ensures over

pub returns-then-room-size : goal.returns-then-room-size
returns-then-room-size c =
    let args = c.args in
    let ts : List Token = tokens_in args.source.words.now args.source.count in
    let size : c.measure.result ≡ Some c.in_ok-size.size = grind arith in
    elim c.then-room-size.branch [
      | then-room-size-via-then-room-size w ↦ text-no_room args.room _ ts _ c.measure.ensures size w.if-room-size.true
      | then-room-size-via-else-room-size+then-capacity-source w ↦
          scratch-no_room args.room _ ts _ c.measure.ensures size w.if-room-size.false
          (whole-count c.requires) w.capacity.ensures w.if-capacity-source.true
    ]

pub returns : goal.returns
returns c =
    let args = c.args in
    let ts : List Token = tokens_in args.source.words.now args.source.count in
    let size : c.measure.result ≡ Some c.in_ok-size.size = grind arith in
    text-fits args.room _ ts _ c.measure.ensures size c.if-room-size.false
    (whole-count c.requires) c.capacity.ensures c.if-capacity-source.false
