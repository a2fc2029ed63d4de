-- `cut::strides::split_word` meets its contract: where the first word's first marked byte is a boundary byte the run ends there, and else it
-- is scanned from behind that byte, or behind the word.
-- Assumes nothing.
use mathlib.Core.List.{List}
use mathlib.Core.Path.{◌≡◌, sym, ◌∙◌, ap}
use Prim.Native.Nat.{ℕ, ◌+◌, ◌<◌}
use native.Mathlib.Nat.{zero-add}
use native.Mathlib.Omega.{arith}
use lib.ListN.{get_or, drop}
use Rattle.data.specs.Classes.{is_boundary}
use Rattle.cut.specs.Runs.{stop_from, unquoted_run}
use Rattle.cut.proofs.Marks.{peeked_ends}
use Rattle.cut.proofs.Runs.{run_head, run_stop, run-later}
use Rattle.cut.proofs.Scans.{run-passes, run-stops, run-goes_on}
use Rattle.cut.proofs.strides.split_word.Goals as goal
use Rattle.cut.proofs.strides.split_word.Goals.{then-x-ne0+else-is_boundary, else-x-ne0}

-- the scan that goes on from a place behind the head
behind : (d : List ℕ) (from at n : ℕ) → from ≡ at → 0 < at → stop_from is_boundary d 0 ≡ stop_from is_boundary (drop at d) at
    → n ≡ stop_from is_boundary (drop from d) from → n ≡ unquoted_run d
unfolding unquoted_run
behind d from at n e h s q =
    q ∙ ap (λ (k : ℕ). stop_from is_boundary (drop k d) k) e ∙ sym (run-later is_boundary d at h s)

pub returns-then-n-eq0 : goal.returns-then-n-eq0
unfolding unquoted_run
returns-then-n-eq0 c =
    let word_at = peeked_ends (λ k. (c.type_inv.d k).fits) c.requires c.eight.ensures c.may_end-x.ensures in
    let marked = word_at.marked c.if-x-ne0.true _ c.word_mark-n.ensures.mark in
    let d = c.args.d.now in
    sym
    (run_head is_boundary d (omega (arith, marked.1))
    (ap (λ (k : ℕ). is_boundary (get_or d k 0)) (sym c.if-n-eq0.true) ∙ sym c.is_boundary.ensures ∙ c.if-is_boundary.true))

pub returns-else-n-eq0 : goal.returns-else-n-eq0
unfolding unquoted_run
returns-else-n-eq0 c =
    let word_at = peeked_ends (λ k. (c.type_inv.d k).fits) c.requires c.eight.ensures c.may_end-x.ensures in
    let marked = word_at.marked c.if-x-ne0.true _ c.word_mark-n.ensures.mark in
    sym
    (run_stop is_boundary _ _
    (run-stops is_boundary _ 0 _ marked.0 marked.1 (rw zero-add (sym c.is_boundary.ensures ∙ c.if-is_boundary.true))
    ∙ zero-add c.word_mark-n.result)
    c.if-n-eq0.false)

pub returns : goal.returns
returns c =
    let word_at = peeked_ends (λ k. (c.type_inv.d k).fits) c.requires c.eight.ensures c.may_end-x.ensures in
    elim c.if-x-ne0.branch [
      | then-x-ne0+else-is_boundary w ↦
          let seen = word_at.marked w.if-x-ne0.true _ w.word_mark-n.ensures.mark in
          behind _ c.if-x-ne0.from (0 + w.word_mark-n.result + 1) _ (omega (arith, w.from-is)) (omega arith)
          (run-goes_on is_boundary _ 0 _ seen.0 seen.1 (rw zero-add (sym w.is_boundary.ensures ∙ w.if-is_boundary.false)))
          c.stop_far.ensures
      | else-x-ne0 w ↦
          let calm = word_at.whole w.if-x-ne0.false in
          behind _ _ 8 _ w.from-is (omega arith)
          (run-passes is_boundary _ 0 _ calm (omega (arith, c.requires)))
          c.stop_far.ensures
    ]
