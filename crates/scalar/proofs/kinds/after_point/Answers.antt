-- `scalar::kinds::after_point` meets its contract: what stands after the fraction says whether it is a number's.
-- Assumes nothing.
use Rattle.std.proofs.Common.{inl, inr, sym, ◌∙◌, arith}
use Rattle.scalar.proofs.Floats.{tail_told}
use Rattle.scalar.proofs.Forms.{point-end, point-point, point-other}
use Rattle.scalar.proofs.Gathers.{place_is, places_is}
use Rattle.scalar.proofs.kinds.after_point.Goals as goal

pub overflow_sub-end : goal.overflow_sub-end
overflow_sub-end c = omega (arith, place_is _ _ _ _ c.gather-end.ensures)

pub pointed-requires : goal.pointed-requires
pointed-requires c =
    (c.requires.0, c.requires.1, places_is _ _ _ (place_is _ _ _ _ c.gather-end.ensures))

pub returns-in-End : goal.returns-in-End
returns-in-End c =
    let told = sym c.tail_at.ensures ∙ c.in-End.is in
    c.pointed.ensures ∙ sym (point-end _ _ (tail_told _ _ _ _ _ c.gather-end.ensures told))

pub returns-in-Point : goal.returns-in-Point
returns-in-Point c =
    let told = tail_told _ _ _ _ _ c.gather-end.ensures (sym c.tail_at.ensures) in
    elim c.in-Point.is [ inl e ↦ sym (point-point _ _ (told ∙ e)) | inr e ↦ sym (point-other _ _ (told ∙ e)) ]
