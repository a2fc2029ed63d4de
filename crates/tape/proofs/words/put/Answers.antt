-- `tape::words::put` meets its contract: by the test on the index, one law for each way.
-- Assumes nothing.
use Rattle.tape.proofs.Laying.{put-here, put-past}
use Rattle.tape.proofs.words.put.Goals as goal

pub returns-then-i-count : goal.returns-then-i-count
returns-then-i-count c =
    let both = put-here c.args.tape.now c.args.count c.args.i c.args.t c.if-i-count.true c.put_words.ensures in
    record { exact = both.0; seen = both.1 }

pub returns-else-i-count : goal.returns-else-i-count
returns-else-i-count c =
    let both = put-past c.args.tape.now c.args.count c.args.i c.args.t c.if-i-count.false in
    record { exact = both.0; seen = both.1 }
