-- `writer::weigh` meets its contract: the reasons in their order, each by what its pass tells.
-- Assumes nothing.
use lib.ListN.{length}
use Rattle.tape.specs.Words.{tokens_in}
use Rattle.writer.proofs.Weighing.{weigh-unsound, weigh-other, weigh_deep, weigh-on, found-whole}
use Rattle.writer.proofs.weigh.Goals as goal

pub returns-then-not-check : goal.returns-then-not-check
returns-then-not-check c =
    let args = c.args in
    record {
      yes = c.check.result;
      holds = c.check.ensures;
      gives = weigh-unsound args.source.text.now (tokens_in args.source.words.now args.source.count) args.room (length args.scratch.now)
          c.if-not-check.true;
    }

pub all_formed-requires : goal.all_formed-requires
all_formed-requires c = found-whole c.check.ensures c.if-not-check.false

pub returns-then-not-all_formed : goal.returns-then-not-all_formed
returns-then-not-all_formed c =
    let args = c.args in
    record {
      yes = c.check.result;
      holds = c.check.ensures;
      gives = weigh-other args.source.text.now (tokens_in args.source.words.now args.source.count) args.room (length args.scratch.now)
          c.if-not-check.false c.all_formed.ensures c.if-not-all_formed.true;
    }

pub sinks_too_deep-requires : goal.sinks_too_deep-requires
sinks_too_deep-requires c = found-whole c.check.ensures c.if-not-check.false

pub returns-then-sinks_too_deep : goal.returns-then-sinks_too_deep
returns-then-sinks_too_deep c =
    let args = c.args in
    record {
      yes = c.check.result;
      holds = c.check.ensures;
      gives = weigh_deep args.source.text.now (tokens_in args.source.words.now args.source.count) args.room (length args.scratch.now)
          c.if-not-check.false c.all_formed.ensures
          c.if-not-all_formed.false c.sinks_too_deep.ensures c.if-sinks_too_deep.true;
    }

pub weigh_text-requires : goal.weigh_text-requires
weigh_text-requires c =
    found-whole c.check.ensures c.if-not-check.false

pub returns : goal.returns
returns c =
    let args = c.args in
    record {
      yes = c.check.result;
      holds = c.check.ensures;
      gives = weigh-on args.source.text.now (tokens_in args.source.words.now args.source.count) args.room (length args.scratch.now)
          c.if-not-check.false c.all_formed.ensures
          c.if-not-all_formed.false c.sinks_too_deep.ensures c.if-sinks_too_deep.false c.weigh_text.ensures;
    }
