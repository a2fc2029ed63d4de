-- `scalar::float::lossy` meets its contract: both conversions round once.
-- Assumes nothing.
use Rattle.std.proofs.Common.{sym, ap, ◌∙◌, w64}
use lib.Ieee.{binary64, of_int}
use mir.ValLaws.{to_z-of_z}
use Rattle.std.specs.Prelude.{Err, Float}
use Rattle.scalar.specs.declared.errors.DecimalError.TheVariants.{PrecisionLoss}
use Rattle.scalar.proofs.Floats.{lossy-plain, lossy-past, lossy-negative}
use Rattle.scalar.proofs.float.lossy.Goals as goal

pub returns-then-total-gt-MOST_I64 : goal.returns-then-total-gt-MOST_I64
returns-then-total-gt-MOST_I64 c = sym (lossy-past _ _ c.if-not-negative.false c.if-total-gt-MOST_I64.true)

pub returns : goal.returns
returns c =
    let number = to_z-of_z w64 _ (record { sfits = c.under_sign.type_inv }) ∙ c.under_sign.ensures in
    ap (λ (x : Float). Err (PrecisionLoss x)) (c.nearest_i64_to_f64.ensures ∙ ap (of_int binary64) number)
    ∙ sym (lossy-negative _ _ c.if-not-negative.false c.if-total-gt-MOST_I64.false)

pub returns-then-not-negative : goal.returns-then-not-negative
returns-then-not-negative c = ap (λ (x : Float). Err (PrecisionLoss x)) c.nearest_u64_to_f64.ensures ∙ sym (lossy-plain _ _ c.if-not-negative.true)
