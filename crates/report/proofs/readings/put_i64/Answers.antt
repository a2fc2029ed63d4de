-- `report::readings::put_i64` meets its contract, by what the reading answers.
-- Assumes nothing.
use mir.ValLaws.{to_z-of_z}
use mir.Syntax.{w64}
use Rattle.report.specs.Digits.{decimal}
use Rattle.report.specs.Readings.{integer, i64_text}
use Rattle.put.proofs.Append.{chain, same_bytes}
use mathlib.Core.Path.{sym, ap, ◌∙◌}
use borrow.Author.Rules.{rules}
use Rattle.report.proofs.readings.put_i64.Goals as goal

pub returns-in-Ok : goal.returns-in-Ok
returns-in-Ok c =
    let fits = to_z-of_z w64 c.in-Ok.i (record { sfits = search rules }) in
    same_bytes _ _ _ _
    (chain _ _ _ _ c.put_byte-next.ensures (same_bytes _ _ _ _ c.put_integer.ensures (ap integer fits)))
    (sym (ap i64_text c.in-Ok.is))

pub returns-in-Err : goal.returns-in-Err
returns-in-Err c = same_bytes _ _ _ _ c.put_decimal.ensures (ap decimal c.number.ensures ∙ sym (ap i64_text c.in-Err.is))
