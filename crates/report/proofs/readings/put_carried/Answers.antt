-- `report::readings::put_carried` meets its contract, by whether the refusal carries an f64.
-- Assumes nothing.
use Rattle.std.specs.Prelude.{Float}
use Rattle.scalar.specs.declared.errors.DecimalError.TheVariants.{AllDigits, Overflow, PrecisionLoss}
use Rattle.scalar.specs.declared.errors.DecimalError.{DecimalError}
use Rattle.report.specs.Readings.{carried_text}
use Rattle.put.proofs.Append.{chain, same_bytes, put-empty}
use Rattle.report.specs.Digits.{hex}
use mathlib.Core.List.{[]}
use mathlib.Core.Path.{◌≡◌, refl, sym, ap}
use Rattle.report.proofs.readings.put_carried.Goals as goal

-- any other refusal carries nothing
carries_none : (e : DecimalError) → ((x : Float) → e ≡ PrecisionLoss x → ⊥) → carried_text e ≡ []
carries_none AllDigits h = refl
carries_none Overflow h = refl
carries_none (PrecisionLoss x) h = absurd (h x refl)

pub returns-in-PrecisionLoss : goal.returns-in-PrecisionLoss
returns-in-PrecisionLoss c =
    same_bytes _ _ _ _
    (chain _ _ _ _ c.put_byte-next.ensures (same_bytes _ _ _ _ c.put_hex.ensures (ap (hex 16) c.pattern.ensures)))
    (sym (ap carried_text c.in-PrecisionLoss.is))

pub returns-in_default : goal.returns-in_default
returns-in_default c = same_bytes _ _ _ _ (put-empty _ _) (sym (carries_none _ c.in_default.not-PrecisionLoss))
