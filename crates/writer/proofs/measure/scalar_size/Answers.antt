-- `writer::measure::scalar_size` meets its contract: the view's bytes, and two more for quotes.
-- Assumes nothing.
use mathlib.Core.Path.{sym, ◌∙◌, ap}
use mathlib.Core.Bool.{Bool}
use mathlib.Core.List.{List}
use Prim.Native.Nat.{ℕ, ◌+◌}
use lib.ListN.{length}
use Rattle.put.specs.Parts.{view_of}
use Rattle.writer.specs.Pieces.{quote_if}
use Rattle.writer.proofs.Sizes.{quoted-size, view-short}
use native.Mathlib.Omega.{arith}
use Rattle.writer.proofs.measure.scalar_size.Goals as goal

pub overflow_add-result : goal.overflow_add-result
overflow_add-result c =
    let args = c.args in
    omega (arith, ap (λ (l : List ℕ). length l) c.part-bytes.ensures.bytes, view-short args.text.now args.offset args.size)

pub returns-then-quoted : goal.returns-then-quoted
returns-then-quoted c =
    let args = c.args in
    let v : List ℕ = view_of args.text.now args.offset args.size in
    let h = view-short args.text.now args.offset args.size in
    let exact =
    ap (λ (l : List ℕ). length l + 2) c.part-bytes.ensures.bytes ∙ quoted-size v
    ∙ ap (λ (q : Bool). length (quote_if q v)) (sym c.if-quoted.true)
    in
    record { exact = exact; small = omega (arith, ap (λ (l : List ℕ). length l) c.part-bytes.ensures.bytes) }

pub returns : goal.returns
returns c =
    let args = c.args in
    let v : List ℕ = view_of args.text.now args.offset args.size in
    let h = view-short args.text.now args.offset args.size in
    let exact = ap (λ (l : List ℕ). length l) c.part-bytes.ensures.bytes ∙ ap (λ (q : Bool). length (quote_if q v)) (sym c.if-quoted.false) in
    record { exact = exact; small = omega (arith, ap (λ (l : List ℕ). length l) c.part-bytes.ensures.bytes) }
