-- `parse::run` meets its contract. The loop's invariant: the run from here, with one turn more than are left, is the run from the
-- start.
-- Assumes nothing.
use native.Mathlib.Omega.{arith}
use mathlib.Core.Path.{◌≡◌, refl, sym, ◌∙◌, ap}
use Rattle.std.specs.Prelude.{Ok, Err}
use Rattle.std.proofs.Common.{rules}
use Rattle.machine.specs.declared.Turn.{Turn}
use Rattle.tape.specs.Tape.{view}
use Rattle.parse.proofs.Equals.{fell, goes_on}
use Rattle.parse.proofs.Falls.{left}
use Rattle.parse.proofs.Runs.{run-done, run-refused, run-turn, run-enough, within-enough}
use Rattle.parse.proofs.run.Goals as goal

pub loop-after-init : goal.loop-after-init
loop-after-init c =
    let a = c.args in
    (refl, run-enough a.text.bytes.now _ _ a.from _ (within-enough a.text.bytes.now a.from) (omega arith))

pub loop-after-smaller : goal.loop-after-smaller
loop-after-smaller c =
    fell _ _ _ _ _ _ _ c.turn.ensures (c.in_ok-after.was ∙ ap (λ (t : Turn). Ok t) c.in-Next.is) c.past_equals-m.ensures

pub loop-after-preserved : goal.loop-after-preserved
loop-after-preserved c = (
  c.turn.auto.tape ∙ c.loop-after.invariant.0,
  c.loop-after.invariant.1
      ∙ goes_on _ _ _ _ _ _ _ c.turn.ensures (c.in_ok-after.was ∙ ap (λ (t : Turn). Ok t) c.in-Next.is) c.past_equals-m.ensures,
)

pub returns-in-Done : goal.returns-in-Done
returns-in-Done c =
    let text = c.args.text.bytes.now in
    let m = c.loop-after.m in
    sym (c.loop-after.invariant.1
    ∙ rw (
      run-turn text (left text m.at m.state) m (view c.loop-after.tape m.count),
      ← c.turn.ensures,
      c.in_ok-after.was,
      c.in-Done.is,
    ) (run-done text _ _ _))

pub returns-in_err-after : goal.returns-in_err-after
returns-in_err-after c =
    let text = c.args.text.bytes.now in
    let m = c.loop-after.m in
    let e : c.from_residual.result ≡ Err c.in_err-after.field-0.0 = search rules in
    rw e (sym (c.loop-after.invariant.1
    ∙ rw (
      run-turn text (left text m.at m.state) m (view c.loop-after.tape m.count),
      ← c.turn.ensures,
      c.in_err-after.was,
    ) (run-refused text _ _)))
