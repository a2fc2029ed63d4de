-- `cut::strides::first_mark` meets its contract: the first mark of the first word that has one, and eight bytes before it where that is the
-- second.
-- Assumes nothing.
use mathlib.Core.Path.{ap}
use native.Mathlib.Omega.{arith}
use Rattle.cut.specs.Marks.{word_mark}
use Rattle.cut.proofs.Marks.{mark_first, mark_second}
use Rattle.cut.proofs.strides.first_mark.Goals as goal
use Rattle.cut.proofs.strides.first_mark.Goals.{then-x-eq0, else-x-eq0}

pub overflow_add-result : goal.overflow_add-result
overflow_add-result c = elim c.if-x-eq0.branch [ then-x-eq0 w ↦ omega arith | else-x-eq0 w ↦ omega arith ]

pub returns : goal.returns
returns c =
    let a = c.args in
    elim c.if-x-eq0.branch [
      | then-x-eq0 w ↦
          let seen = mark_second a.x a.y w.if-x-eq0.true in
          record { mark = omega (arith, ap word_mark w.word-is, c.word_mark.ensures.mark, seen); few = omega (arith, c.word_mark.ensures.few) }
      | else-x-eq0 w ↦
          let seen = mark_first a.x a.y w.if-x-eq0.false in
          record { mark = omega (arith, ap word_mark w.word-is, c.word_mark.ensures.mark, seen); few = omega (arith, c.word_mark.ensures.few) }
    ]
