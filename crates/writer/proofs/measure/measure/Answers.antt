-- `writer::measure::measure` meets its contract. The invariant: what is counted and what is left are the text's length.
-- Assumes nothing.
use native.Mathlib.Nat.{zero-add}
use Prim.Native.Nat.{◌<◌}
use mathlib.Core.Path.{◌∙◌}
use lib.ListN.{length}
use Rattle.tape.specs.Words.{tokens_in}
use Rattle.writer.proofs.Forms.{whole-count}
use Rattle.writer.proofs.Scanned.{size-told, size-on, size_none, measured-over, measured-size}
use native.Mathlib.Omega.{arith}
use Rattle.writer.proofs.measure.measure.Goals as goal

pub loop-i-init : goal.loop-i-init
loop-i-init c = (zero-add _ ∙ size-told c.requires _, omega arith)

pub returns-then-total-size : goal.returns-then-total-size
returns-then-total-size c =
    let args = c.args in
    let whole = c.requires in
    let m = c.loop-i in
    let inside : m.i < length (tokens_in args.source.words.now args.source.count) = omega (arith, whole-count whole, c.loop-i-test.true) in
    let on =
    size-on args.source.text.now args.source.words.now args.source.count m.i m.first inside
    c.token-x.ensures c.link_of-link.ensures
    in
    let size = c.token_size-size.ensures.exact in
    measured-over _ (omega (arith, on, size, m.invariant.0, m.invariant.1, c.if-total-size.true))

pub loop-i-preserved : goal.loop-i-preserved
loop-i-preserved c =
    let args = c.args in
    let whole = c.requires in
    let m = c.loop-i in
    let inside : m.i < length (tokens_in args.source.words.now args.source.count) = omega (arith, whole-count whole, c.loop-i-test.true) in
    let on =
    size-on args.source.text.now args.source.words.now args.source.count m.i m.first inside
    c.token-x.ensures c.link_of-link.ensures
    in
    let size = c.token_size-size.ensures.exact in
    (rw c.first_behind-first.ensures (omega (arith, on, size, m.invariant.0)), omega (arith, m.invariant.1, c.if-total-size.false))

pub returns : goal.returns
returns c =
    let whole = c.requires in
    let m = c.loop-i in
    let args = c.args in
    let none = size_none args.source.text.now (tokens_in args.source.words.now args.source.count) m.i m.first (omega (arith, whole-count whole)) in
    measured-size m.total _ (omega (arith, none, m.invariant.0)) m.invariant.1
