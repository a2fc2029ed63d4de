-- `scalar::float::pointed` meets its contract: what stands after the fraction decides first, then the size.
-- Assumes nothing.
use Rattle.std.proofs.Common.{inl, inr, sym, ◌∙◌, arith, ltb-false}
use Rattle.scalar.specs.Float.{quotient}
use Rattle.scalar.proofs.Floats.{tail_told, pointed-past, pointed-is, after_point-end, after_point-point, after_point-other}
use Rattle.scalar.proofs.Gathers.{place_is, places_is, total-is}
use Rattle.scalar.proofs.float.pointed.Goals as goal

pub overflow_sub-end : goal.overflow_sub-end
overflow_sub-end c =
    omega (arith, place_is _ _ _ _ c.gather-all.ensures)

pub returns-then-carries_past : goal.returns-then-carries_past
returns-then-carries_past c =
    let told = sym c.tail_at.ensures ∙ c.in-End.is in
    sym (after_point-end _ _ _ (tail_told _ _ _ _ _ c.gather-all.ensures told)
    ∙ pointed-past _ _ _ (sym c.carries_past.ensures ∙ c.if-carries_past.true))

pub returns-else-carries_past : goal.returns-else-carries_past
returns-else-carries_past c =
    let all = c.gather-all.ensures in
    let told = sym c.tail_at.ensures ∙ c.in-End.is in
    let within = sym c.carries_past.ensures ∙ c.if-carries_past.false in
    let total = total-is _ _ _ _ all (ltb-false _ _ within) in
    let places = places_is _ _ _ (place_is _ _ _ _ all) in
    c.quotient.ensures
    ∙ (λ j. quotient c.args.negative (total j) (places j))
    ∙ sym (after_point-end _ _ _ (tail_told _ _ _ _ _ all told) ∙ pointed-is _ _ _ within)

pub returns-in-Point : goal.returns-in-Point
returns-in-Point c =
    let told = tail_told _ _ _ _ _ c.gather-all.ensures (sym c.tail_at.ensures) in
    elim c.in-Point.is [ inl e ↦ sym (after_point-point _ _ _ (told ∙ e)) | inr e ↦ sym (after_point-other _ _ _ (told ∙ e)) ]
