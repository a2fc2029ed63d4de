-- `scalar::kinds::after_sign` meets its contract: what stands after the digits says whether a point is looked past.
-- Assumes nothing.
use Rattle.std.proofs.Common.{drop, sym, ap, ◌∙◌}
use Rattle.scalar.specs.Digits.{digit_run}
use Rattle.scalar.specs.Kind.{kind_after_point}
use Rattle.scalar.proofs.Floats.{point-within, tail_told, past-point}
use Rattle.scalar.proofs.Forms.{sign-end, sign-point, sign-other}
use Rattle.scalar.proofs.kinds.after_sign.Goals as goal

pub after_point-requires : goal.after_point-requires
after_point-requires c =
    (c.gather-whole.ensures, point-within _ _ (sym c.tail_at.ensures ∙ c.in-Point.is))

pub returns-in-End : goal.returns-in-End
returns-in-End c =
    let told = sym c.tail_at.ensures ∙ c.in-End.is in
    c.unpointed.ensures ∙ sym (sign-end _ _ (tail_told _ _ 0 _ _ c.gather-whole.ensures told))

pub returns-in-Point : goal.returns-in-Point
returns-in-Point c =
    let told = sym c.tail_at.ensures ∙ c.in-Point.is in
    let g = c.gather-whole.ensures in
    c.after_point.ensures
    ∙ ap (kind_after_point (digit_run (drop c.args.sign c.args.d.now))) (past-point _ _ 0 _ g)
    ∙ sym (sign-point _ _ (tail_told _ _ 0 _ _ g told))

pub returns-in-Other : goal.returns-in-Other
returns-in-Other c =
    let told = sym c.tail_at.ensures ∙ c.in-Other.is in
    sym (sign-other _ _ (tail_told _ _ 0 _ _ c.gather-whole.ensures told))
