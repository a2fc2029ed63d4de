-- `writer::form::all_formed` meets its contract. The invariant: the root and the bodies that opened so far are of the form.
-- Assumes nothing.
use mathlib.Core.Path.{◌≡◌, sym, ◌∙◌}
use Rattle.writer.proofs.Walks.{read-piece}
use Rattle.writer.proofs.Forms.{whole-range, whole-inside, root_wrong, inside_wrong, all_right, one_more}
use native.Mathlib.Omega.{arith}
use Rattle.writer.proofs.form.all_formed.Goals as goal

pub body_formed-requires : goal.body_formed-requires
body_formed-requires c = whole-range c.requires

pub returns-then-not-body_formed : goal.returns-then-not-body_formed
returns-then-not-body_formed c =
    root_wrong c.requires c.body_formed.ensures c.if-not-body_formed.true

pub loop-i-init : goal.loop-i-init
loop-i-init c =
    ((λ k u v. absurd (omega (arith, v))), sym c.body_formed.ensures ∙ c.if-not-body_formed.false, omega arith)

pub inside_formed-requires : goal.inside_formed-requires
inside_formed-requires c =
    let whole = c.requires in
    let i = c.loop-i.i in
    let is = read-piece _ _ _ c.piece-piece.ensures in
    whole-inside whole i _ c.loop-i-test.true is

pub returns-then-not-inside_formed : goal.returns-then-not-inside_formed
returns-then-not-inside_formed c =
    let whole = c.requires in
    let i = c.loop-i.i in
    let is = read-piece _ _ _ c.piece-piece.ensures in
    inside_wrong whole i _ c.loop-i-test.true is c.inside_formed.ensures c.if-not-inside_formed.true

pub loop-i-preserved : goal.loop-i-preserved
loop-i-preserved c =
    let whole = c.requires in
    let i = c.loop-i.i in
    let is = read-piece _ _ _ c.piece-piece.ensures in
    (one_more _ i _ c.loop-i.invariant.0 is c.inside_formed.ensures c.if-not-inside_formed.false, c.loop-i.invariant.1, omega arith)

pub returns : goal.returns
returns c =
    let args = c.args in
    let done : c.loop-i.i ≡ args.source.count = omega arith in
    all_right c.requires (λ k u v. c.loop-i.invariant.0 k u (omega arith)) c.loop-i.invariant.1
