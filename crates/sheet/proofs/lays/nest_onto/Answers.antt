-- `sheet::lays::nest_onto` meets its contract. The invariant: the tokens before i hang in the chain.
-- Assumes nothing.
use Rattle.sheet.proofs.Links.{told_not}
use Rattle.sheet.proofs.Chaining.{run_none, run-done, run-form, run-other, run-opener}
use Rattle.sheet.proofs.Chaining.{run_crossed, run_end}
use Rattle.sheet.proofs.lays.nest_onto.Goals as goal
use Rattle.sheet.proofs.lays.nest_onto.Goals.{then-opens, else-opens+then-ends+else-t-inner, else-opens+else-ends}

pub loop-i-init : goal.loop-i-init
loop-i-init c = run_none _ _ _ c.requires

pub opens-requires : goal.opens-requires
opens-requires c =
    run-form _ _ _ _ _ _ c.requires c.loop-i.invariant c.loop-i-test.true
    c.token_of-t.ensures

pub ends-requires : goal.ends-requires
ends-requires c =
    run-form _ _ _ _ _ _ c.requires c.loop-i.invariant c.loop-i-test.true
    c.token_of-t.ensures

pub loop-i-preserved : goal.loop-i-preserved
loop-i-preserved c =
    let here = c.loop-i.invariant in
    let more = c.loop-i-test.true in
    elim c.if-opens.branch [
      | then-opens w ↦ rw (w.words-is, w.inner-is) (run-opener _ _ _ _ _ _ c.requires here more
          c.token_of-t.ensures _ c.put_words.ensures (c.opens.ensures.0 w.if-opens.true) _ w.relink.ensures.has)
      | else-opens+then-ends+else-t-inner w ↦ rw (w.words-is, w.inner-is) (run_end _ _ _ _ _ _ c.requires here more
          c.token_of-t.ensures _ c.put_words.ensures (w.ends.ensures.0 w.if-ends.true)
          w.if-t-inner.false w.relink-inner.ensures.had _ w.relink-inner.ensures.has)
      | else-opens+else-ends w ↦ rw (w.words-is, w.inner-is) (run-other _ _ _ _ _ _ c.requires here more
          c.token_of-t.ensures _ c.put_words.ensures
          (told_not c.opens.ensures w.if-opens.false) (told_not w.ends.ensures w.if-ends.false))
    ]

pub returns-then-t-inner-clause-nests : goal.returns-then-t-inner-clause-nests
returns-then-t-inner-clause-nests c =
    (run_crossed _ _ _ _ _ _ c.requires c.loop-i.invariant c.loop-i-test.true
    c.token_of-t.ensures _ c.put_words.ensures
    (c.ends.ensures.0 c.if-ends.true) c.if-t-inner.true).0

pub returns-clause-nests : goal.returns-clause-nests
returns-clause-nests c = (run-done _ _ _ _ _ _ c.requires c.loop-i.invariant c.loop-i-test.false).0

pub returns-clause-laid : goal.returns-clause-laid
returns-clause-laid c = (run-done _ _ _ _ _ _ c.requires c.loop-i.invariant c.loop-i-test.false).1
