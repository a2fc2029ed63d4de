-- `cut::strides::stop` meets its contract: where the first marked byte of the first stride is a boundary byte the scan ends there, and else
-- it is made by strides.
-- Assumes nothing.
use mathlib.Core.Path.{refl, sym, ◌∙◌}
use native.Mathlib.Nat.{zero-add}
use native.Mathlib.Omega.{arith}
use Rattle.data.specs.Classes.{is_boundary}
use Rattle.cut.proofs.Marks.{looked_ends}
use Rattle.cut.proofs.Scans.{run-stops}
use Rattle.cut.proofs.strides.stop.Goals as goal

pub returns-then-is_boundary : goal.returns-then-is_boundary
returns-then-is_boundary c =
    let seen = looked_ends (λ k. (c.type_inv.d k).fits) refl (omega (arith, c.if-d-gt-STRIDE.true))
    c.eight.ensures c.may_end.ensures c.eight-then-d-gt-STRIDE.ensures c.may_end-then-d-gt-STRIDE.ensures in
    let marked = seen.marked _ c.first_mark-n.ensures.mark in
    sym
    (run-stops is_boundary _ 0 _ marked.0 marked.1 (rw zero-add (sym c.is_boundary.ensures ∙ c.if-is_boundary.true))
    ∙ zero-add c.first_mark-n.result)
