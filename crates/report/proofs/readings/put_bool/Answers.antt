-- `report::readings::put_bool` meets its contract, by what the reading answers.
-- Assumes nothing.
use Rattle.report.specs.Readings.{bool_text}
use Rattle.put.proofs.Append.{same_bytes}
use Rattle.data.specs.Bytes.{equals}
use Rattle.report.specs.Digits.{decimal}
use mathlib.Core.List.{[], ◌∷◌, ◌++◌}
use Prim.Native.Nat.{ℕ}
use mathlib.Core.Path.{sym, ap, ◌∙◌}
use Rattle.report.proofs.readings.put_bool.Goals as goal

pub returns-in-Ok : goal.returns-in-Ok
returns-in-Ok c =
    same_bytes _ _ _ _
    c.put_value.ensures
    (ap (λ (n : ℕ). equals ∷ [] ++ decimal n) c.from.ensures ∙ sym (ap bool_text c.in-Ok.is))

pub returns-in-Err : goal.returns-in-Err
returns-in-Err c = same_bytes _ _ _ _ c.put_decimal.ensures (ap decimal c.number.ensures ∙ sym (ap bool_text c.in-Err.is))
