-- `scalar::whole::u64_digits` meets its contract: what is left after the digits decides first, then the size.
-- Assumes nothing.
use Rattle.std.proofs.Common.{sym, ap, ◌∙◌, ltb-false}
use Rattle.std.specs.Prelude.{Ok}
use Rattle.scalar.proofs.Gathers.{tailed, untailed, total-is}
use Rattle.scalar.proofs.Wholes.{u64_tail, u64-past, u64-is}
use Rattle.scalar.proofs.whole.u64_digits.Goals as goal

pub returns-then-run-d : goal.returns-then-run-d
returns-then-run-d c =
    sym (u64_tail _ (tailed c.args.d.now _ 0 _ c.gather-run.ensures c.if-run-d.true))

pub returns-then-exceeds : goal.returns-then-exceeds
returns-then-exceeds c =
    let d = c.args.d.now in
    sym (u64-past _ (untailed d _ 0 _ c.gather-run.ensures c.if-run-d.false) (sym c.exceeds.ensures ∙ c.if-exceeds.true))

pub returns : goal.returns
returns c =
    let d = c.args.d.now in
    let gathered-is = c.gather-run.ensures in
    let within = sym c.exceeds.ensures ∙ c.if-exceeds.false in
    ap Ok (total-is d _ 0 _ gathered-is (ltb-false _ _ within))
    ∙ sym (u64-is _ (untailed d _ 0 _ gathered-is c.if-run-d.false) within)
