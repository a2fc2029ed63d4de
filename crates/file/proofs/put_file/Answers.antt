-- `file::put_file` meets its contract: the fields, the tokens and zeros, one behind the other.
-- Assumes nothing.
use mathlib.Core.List.{List}
use Prim.Native.Nat.{◌≤◌}
use native.Mathlib.Omega.{arith}
use lib.ListN.{length}
use Rattle.tape.specs.declared.token.Token.{Token}
use Rattle.tape.specs.Words.{tokens_in}
use Rattle.file.specs.Layout.{file_size}
use Rattle.file.proofs.Writing.{file-put, file-left}
use Rattle.file.proofs.put_file.Goals as goal

pub returns : goal.returns
returns c =
    let counted = c.requires.0 in
    let ts : List Token = tokens_in c.args.words.now c.args.head.count in
    let fits : file_size c.args.head.version (length ts) ≤ length c.args.out.now = omega (arith, c.requires.2, counted) in
    file-left c.args.head.version c.args.head.text_length ts c.args.out.now fits c.file_size-size.ensures counted
    (file-put c.args.head.version c.args.head.text_length ts c.args.out.now fits c.file_size-size.ensures counted
    c.put_head.ensures c.head_size-from.ensures c.pack.ensures)
    c.clear_from.ensures
