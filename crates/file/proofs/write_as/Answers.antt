-- `file::write_as` meets its contract: each reason is looked for before the next.
-- Assumes nothing.
use mathlib.Core.Path.{sym, ◌∙◌}
use native.Mathlib.Omega.{arith}
use lib.ListN.{length}
use Rattle.file.proofs.Fields.{text-word}
use Rattle.file.proofs.Writing.{small-text, small-total, sound-counted, write-unsound, write_large, write-no_room, write-fits}
use Rattle.file.proofs.write_as.Goals as goal

pub returns-then-not-check : goal.returns-then-not-check
returns-then-not-check c =
    write-unsound c.args.v c.args.text_length c.args.words.now c.args.count _ c.check.ensures
    c.if-not-check.true c.refuse_write.ensures

pub returns-then-is_too_large : goal.returns-then-is_too_large
returns-then-is_too_large c =
    write_large c.args.v c.args.text_length c.args.words.now c.args.count _ c.check.ensures
    c.if-not-check.false
    c.is_too_large.ensures c.if-is_too_large.true c.refuse_write-then-is_too_large.ensures

pub overflow_cast-tokens : goal.overflow_cast-tokens
overflow_cast-tokens c =
    omega (arith, small-total c.args.v c.args.text_length c.args.count (sym c.is_too_large.ensures ∙ c.if-is_too_large.false))

pub returns-then-out-file_size : goal.returns-then-out-file_size
returns-then-out-file_size c =
    write-no_room c.args.v c.args.text_length c.args.words.now c.args.count _ c.check.ensures
    c.if-not-check.false
    c.is_too_large.ensures c.if-is_too_large.false c.file_size.ensures c.if-out-file_size.true
    c.refuse_write-then-out-file_size.ensures

pub overflow_cast-head : goal.overflow_cast-head
overflow_cast-head c =
    omega (
      arith,
      small-text c.args.v c.args.text_length c.args.count (sym c.is_too_large.ensures ∙ c.if-is_too_large.false),
      text-word c.args.v,
    )

pub put_file-requires : goal.put_file-requires
put_file-requires c = (
  sound-counted c.args.v c.args.text_length c.args.words.now c.args.count (length c.args.out.now)
      c.check.ensures c.if-not-check.false,
  sym c.is_too_large.ensures ∙ c.if-is_too_large.false,
  omega (arith, c.file_size.ensures, c.if-out-file_size.false),
)

pub returns : goal.returns
returns c =
    write-fits c.args.v c.args.text_length c.args.words.now c.args.count _ c.check.ensures
    c.if-not-check.false
    c.is_too_large.ensures c.if-is_too_large.false c.file_size.ensures c.if-out-file_size.false
    c.put_file.ensures
