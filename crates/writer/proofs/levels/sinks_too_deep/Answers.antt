-- `writer::levels::sinks_too_deep` meets its contract. The invariant: what is left decides, with the levels that are open.
-- Assumes nothing.
use Prim.Native.Nat.{◌<◌}
use mathlib.Core.Path.{refl, sym, ◌∙◌}
use lib.ListN.{length}
use Rattle.tape.specs.Words.{tokens_in}
use Rattle.writer.proofs.Forms.{whole-count}
use Rattle.writer.proofs.Scanned.{deep_told, sinks_on, sinks-now, sinks-none, sunk-within, read-sunk}
use native.Mathlib.Omega.{arith}
use Rattle.writer.proofs.levels.sinks_too_deep.Goals as goal

pub loop-i-init : goal.loop-i-init
loop-i-init c = (refl, omega arith)

pub returns-in_default : goal.returns-in_default
returns-in_default c =
    let args = c.args in
    let whole = c.requires in
    let m = c.loop-i in
    let read =
    read-sunk args.source.words.now args.source.count m.i m.level
    c.token.ensures c.link_of-link.ensures c.sink.ensures
    in
    let inside : m.i < length (tokens_in args.source.words.now args.source.count) = omega (arith, whole-count whole, c.loop-i-test.true) in
    sym (sym (deep_told whole) ∙ m.invariant.0 ∙ sinks-now _ m.i m.level inside read c.in_default.is)

pub loop-i-preserved : goal.loop-i-preserved
loop-i-preserved c =
    let args = c.args in
    let whole = c.requires in
    let m = c.loop-i in
    let read =
    read-sunk args.source.words.now args.source.count m.i m.level
    c.token.ensures c.link_of-link.ensures c.sink.ensures
    in
    let inside : m.i < length (tokens_in args.source.words.now args.source.count) = omega (arith, whole-count whole, c.loop-i-test.true) in
    let next = c.in-Some.is in
    (m.invariant.0 ∙ sinks_on _ m.i m.level inside read next, sunk-within m.level _ m.invariant.1 (sym read ∙ next))

pub returns : goal.returns
returns c =
    let whole = c.requires in
    sym (sym (deep_told whole) ∙ c.loop-i.invariant.0 ∙ sinks-none _ c.loop-i.i c.loop-i.level (omega (arith, whole-count whole)))
