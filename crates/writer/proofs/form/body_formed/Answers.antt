-- `writer::form::body_formed` meets its contract. The invariant: what is left of the body decides; the measure is how far its end is.
-- Assumes nothing.
use mathlib.Core.Path.{refl, sym, ◌∙◌, ap}
use mathlib.Core.List.{List}
use Rattle.tape.specs.declared.token.Token.{Token}
use Rattle.tape.specs.Words.{tokens_in}
use Rattle.writer.specs.Forest.{Forest}
use Rattle.writer.specs.Ranges.{body_form}
use Rattle.writer.proofs.Grown.{stretch-none}
use Rattle.writer.proofs.Walks.{read_met, step_wrong, step_range, step_ahead, step_form}
use native.Mathlib.Omega.{arith}
use Rattle.writer.proofs.form.body_formed.Goals as goal

pub loop-i-init : goal.loop-i-init
loop-i-init c = (c.requires, refl)

pub returns-then-not-takes : goal.returns-then-not-takes
returns-then-not-takes c =
    let met = read_met _ _ _ c.loop-i.invariant.0 c.loop-i-test.true c.piece-piece.ensures in
    let m = c.loop-i in
    sym (m.invariant.1 ∙ sym (step_wrong met m.due c.takes.ensures c.if-not-takes.true))

pub loop-i-smaller : goal.loop-i-smaller
loop-i-smaller c =
    let met = read_met _ _ _ c.loop-i.invariant.0 c.loop-i-test.true c.piece-piece.ensures in
    let on = step_ahead met _ c.behind-i.ensures in
    omega (arith, on.0)

pub loop-i-preserved : goal.loop-i-preserved
loop-i-preserved c =
    let met = read_met _ _ _ c.loop-i.invariant.0 c.loop-i-test.true c.piece-piece.ensures in
    let m = c.loop-i in (
      step_range met _ c.behind-i.ensures,
      m.invariant.1
          ∙ step_form met _ c.behind-i.ensures m.due c.takes.ensures
          c.if-not-takes.false c.due_after-due.ensures,
    )

pub returns : goal.returns
unfolding body_form
returns c =
    let args = c.args in
    let m = c.loop-i in
    let ts : List Token = tokens_in args.source.words.now args.source.count in
    c.may_end.ensures ∙ sym (m.invariant.1 ∙ ap (λ (f : Forest). body_form f m.due) (stretch-none ts m.i args.end c.loop-i-test.false))
