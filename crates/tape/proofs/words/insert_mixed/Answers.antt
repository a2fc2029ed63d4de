-- `tape::words::insert_mixed` meets its contract: by the test for a last token and by what its push answers, one law for each answer.
-- Assumes nothing.
use Rattle.tape.proofs.Laying.{insert-first, insert-none, insert_pushed}
use Rattle.tape.proofs.words.insert_mixed.Goals as goal

pub returns-then-count-eq0 : goal.returns-then-count-eq0
returns-then-count-eq0 c =
    let both = insert-first c.args.tape.now c.args.count _ c.if-count-eq0.true c.mixed_container.ensures c.push.ensures.exact in
    record { exact = both.0; seen = both.1 }

pub returns : goal.returns
returns c =
    let both = insert_pushed c.args.tape.now c.args.count _ c.if-count-eq0.false c.token-last.ensures c.push-2.ensures.exact _ _
    c.in_ok-laid.was c.mixed_container-2.ensures c.put_words.ensures in
    record { exact = both.0; seen = both.1 }

pub returns-in_err-laid : goal.returns-in_err-laid
returns-in_err-laid c =
    let both = insert-none c.args.tape.now c.args.count _ c.if-count-eq0.false c.token-last.ensures c.push-2.ensures.exact c.in_err-laid.was in
    record { exact = rw c.from_residual.ensures both.0; seen = rw c.from_residual.ensures both.1 }
