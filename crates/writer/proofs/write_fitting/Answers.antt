-- `writer::write_fitting` meets its contract: the text is put and read back, and what does not read the same is cleared.
-- Assumes nothing.
use mathlib.Core.Path.{◌∙◌, ap}
use mathlib.Core.List.{List}
use Prim.Native.Nat.{ℕ}
use lib.ListN.{length}
use Rattle.put.specs.Append.{append}
use Rattle.tape.specs.declared.token.Token.{Token}
use Rattle.tape.specs.Words.{tokens_in}
use Rattle.writer.specs.Write.{text_of}
use Rattle.writer.proofs.Forms.{whole-range}
use Rattle.put.proofs.Clears.{buffer-cleared}
use Rattle.writer.proofs.Weighing.{whole-text, put-size, put-cleared, put_front, reads-back, reads-otherwise}
use Rattle.writer.proofs.write_fitting.Goals as goal

pub put_pairs-size-requires : goal.put_pairs-size-requires
put_pairs-size-requires c = whole-range c.requires.0

pub returns-then-comes_back : goal.returns-then-comes_back
returns-then-comes_back c =
    let args = c.args in
    let ts : List Token = tokens_in args.source.words.now args.source.count in
    let bytes : List ℕ = text_of args.source.text.now ts in
    let put = c.put_pairs-size.ensures ∙ ap (append args.out.now 0) (whole-text c.requires.0 args.source.text.now) in
    let fits = c.requires.1 in
    let front = put_front args.out.now bytes fits put c.clear_from.ensures c.front-front.ensures.bytes in
    reads-back args.source.text.now ts (length args.out.now) (length args.scratch.now) bytes front
    c.comes_back.ensures.told c.comes_back.ensures.clear
    c.if-comes_back.true (put-size args.out.now bytes fits put) (put-cleared args.out.now bytes fits put c.clear_from.ensures)

pub returns : goal.returns
returns c =
    let args = c.args in
    let ts : List Token = tokens_in args.source.words.now args.source.count in
    let bytes : List ℕ = text_of args.source.text.now ts in
    let put = c.put_pairs-size.ensures ∙ ap (append args.out.now 0) (whole-text c.requires.0 args.source.text.now) in
    let fits = c.requires.1 in
    let front = put_front args.out.now bytes fits put c.clear_from.ensures c.front-front.ensures.bytes in
    let kept = c.clear_from.auto.out ∙ c.put_pairs-size.auto.out in
    reads-otherwise args.source.text.now ts (length args.out.now) (length args.scratch.now) bytes front
    c.comes_back.ensures.told c.comes_back.ensures.clear c.if-comes_back.false
    (buffer-cleared c.clear_from.new.out c.clear_from-2.ensures kept)
