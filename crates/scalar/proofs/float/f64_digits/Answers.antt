-- `scalar::float::f64_digits` meets its contract: what stands after the digits says whether a point is read.
-- Assumes nothing.
use Rattle.std.proofs.Common.{sym, ◌∙◌}
use Rattle.scalar.specs.Float.{after_point}
use Rattle.scalar.proofs.Floats.{point-within, tail_told, past-point, digits_end, digits-point, digits-other}
use Rattle.scalar.proofs.float.f64_digits.Goals as goal

pub pointed-requires : goal.pointed-requires
pointed-requires c =
    (c.gather-whole.ensures, point-within _ _ (sym c.tail_at.ensures ∙ c.in-Point.is))

pub returns-in-End : goal.returns-in-End
returns-in-End c =
    let told = sym c.tail_at.ensures ∙ c.in-End.is in
    c.unpointed.ensures ∙ sym (digits_end _ _ (tail_told _ _ 0 _ _ c.gather-whole.ensures told))

pub returns-in-Point : goal.returns-in-Point
returns-in-Point c =
    let told = sym c.tail_at.ensures ∙ c.in-Point.is in
    let g = c.gather-whole.ensures in
    c.pointed.ensures
    ∙ (λ j. after_point c.args.negative (g j).total (past-point _ _ 0 _ g j))
    ∙ sym (digits-point _ _ (tail_told _ _ 0 _ _ g told))

pub returns-in-Other : goal.returns-in-Other
returns-in-Other c =
    let told = sym c.tail_at.ensures ∙ c.in-Other.is in
    sym (digits-other _ _ (tail_told _ _ 0 _ _ c.gather-whole.ensures told))
