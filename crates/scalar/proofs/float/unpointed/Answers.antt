-- `scalar::float::unpointed` meets its contract: past the test of the size, the total is the number.
-- Assumes nothing.
use Rattle.std.proofs.Common.{◌≤◌, drop, sym, ap, ◌∙◌, le_trans, le_of_eq, lt_of_lt_of_le, w64, ltb-false, ltb-true}
use lib.Ieee.{binary64, of_int}
use mir.ValLaws.{to_z-of_z}
use Rattle.scalar.specs.Digits.{digit_run, value, most_u64}
use Rattle.scalar.specs.Float.{lossy}
use Rattle.scalar.specs.Whole.{signed}
use Rattle.std.specs.Prelude.{Ok}
use Rattle.scalar.proofs.Floats.{unpointed-past, unpointed-lossy, unpointed-is}
use Rattle.scalar.proofs.Gathers.{total-is}
use Rattle.scalar.proofs.float.unpointed.Goals as goal

pub returns-then-exceeds : goal.returns-then-exceeds
returns-then-exceeds c = sym (unpointed-past _ _ (ltb-true _ _ (sym c.exceeds.ensures ∙ c.if-exceeds.true)))

pub returns-then-total-gt-SAFE_INTEGER : goal.returns-then-total-gt-SAFE_INTEGER
returns-then-total-gt-SAFE_INTEGER c =
    let within : value 0 (digit_run (drop c.args.sign c.args.d.now)) ≤ most_u64 = ltb-false _ _ (sym c.exceeds.ensures ∙ c.if-exceeds.false) in
    let number = total-is _ _ 0 _ c.requires within in
    c.lossy.ensures
    ∙ ap (lossy c.args.negative) number
    ∙ sym (unpointed-lossy _ _ within (lt_of_lt_of_le c.if-total-gt-SAFE_INTEGER.true (le_of_eq number)))

pub returns : goal.returns
returns c =
    let within : value 0 (digit_run (drop c.args.sign c.args.d.now)) ≤ most_u64 = ltb-false _ _ (sym c.exceeds.ensures ∙ c.if-exceeds.false) in
    let number = total-is _ _ 0 _ c.requires within in
    let number_is =
    to_z-of_z w64 _ (record { sfits = c.under_sign.type_inv }) ∙ c.under_sign.ensures ∙ ap (signed c.args.negative) number in
    ap Ok (c.nearest_i64_to_f64.ensures ∙ ap (of_int binary64) number_is)
    ∙ sym (unpointed-is _ _ (le_trans (le_of_eq (sym number)) c.if-total-gt-SAFE_INTEGER.false))
