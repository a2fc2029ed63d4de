-- `tape::words::push` meets its contract: by the two tests for room, one law for each answer.
-- Assumes nothing.
use borrow.Author.Tests.{lt-ltb, le-ltb}
use mathlib.Core.Path.{◌≡◌, sym, ◌∙◌}
use native.Mathlib.Omega.{arith}
use mathlib.Core.Bool.{true}
use lib.Dec.{ltb}
use lib.ListN.{length}
use Rattle.tape.specs.Words.{last_word, room_of}
use Rattle.tape.proofs.Laying.{push-full, push-laid, room_test, one_more}
use Rattle.tape.proofs.words.push.Goals as goal

pub returns-then-count-eq4294967295 : goal.returns-then-count-eq4294967295
unfolding room_of
returns-then-count-eq4294967295 c =
    let both = push-full c.args.tape.now c.args.count c.args.t (le-ltb c.args.count (room_of c.args.tape.now) (omega arith)) in
    record { exact = both.0; seen = both.1 }

pub returns-then-tape-at : goal.returns-then-tape-at
returns-then-tape-at c =
    let a = c.args in
    let both = push-full a.tape.now a.count a.t (sym (room_test a.tape.now a.count (omega arith)) ∙ le-ltb _ _ c.if-tape-at.true) in
    record { exact = both.0; seen = both.1 }

pub overflow_add-result : goal.overflow_add-result
overflow_add-result c =
    let a = c.args in
    let room : ltb a.count (room_of a.tape.now) ≡ true =
    sym (room_test a.tape.now a.count (omega arith)) ∙ lt-ltb (last_word a.count) (length a.tape.now) (omega arith) in
    record { fits = one_more _ _ room }

pub returns : goal.returns
returns c =
    let a = c.args in
    let room : ltb a.count (room_of a.tape.now) ≡ true =
    sym (room_test a.tape.now a.count (omega arith)) ∙ lt-ltb (last_word a.count) (length a.tape.now) (omega arith) in
    let both = push-laid a.tape.now a.count a.t room c.put_words.ensures in
    record { exact = both.0; seen = both.1 }
