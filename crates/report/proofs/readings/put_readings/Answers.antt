-- `report::readings::put_readings` meets its contract: its parts one behind the other.
-- Assumes nothing.
use Rattle.report.specs.Readings.{f64_text, readings_of}
use Rattle.report.specs.Digits.{decimal}
use Rattle.scalar.specs.Numbers.{kind_number_of}
use mathlib.Core.Path.{ap, ◌∙◌}
use Rattle.put.proofs.Append.{chain, same_bytes}
use Rattle.report.proofs.readings.put_readings.Goals as goal

pub returns : goal.returns
unfolding readings_of
returns c =
    chain _ _ _ _
    (chain _ _ _ _
    (chain _ _ _ _
    (chain _ _ _ _
    (chain _ _ _ _ c.put_exact-exact.ensures c.put_byte-third.ensures)
    (same_bytes _ _ _ _ c.put_f64-float.ensures (ap f64_text c.to_f64.ensures))) c.put_byte-fourth.ensures)
    (same_bytes _ _ _ _
    c.put_decimal-kind.ensures
    (ap decimal (c.kind_number.ensures ∙ ap kind_number_of c.kind.ensures))))
    c.put_byte.ensures
