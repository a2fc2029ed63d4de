-- `scalar::whole::i64_digits` meets its contract: past 64 bits the number is past 63, and else the total is the number.
-- Assumes nothing.
use Rattle.std.proofs.Common.{ℕ, ◌<◌, sym, ap, ◌∙◌, le_trans, le_of_eq, lt_of_lt_of_le, arith, w64, ltb-false, ltb-true}
use mir.ValLaws.{to_z-of_z}
use Rattle.scalar.specs.Digits.{most_u64}
use Rattle.scalar.specs.Whole.{signed, most_i64}
use Rattle.std.specs.Prelude.{Ok}
use Rattle.scalar.proofs.Gathers.{place_is, total-is}
use Rattle.scalar.proofs.Wholes.{i64-past, i64-is}
use Rattle.scalar.proofs.whole.i64_digits.Goals as goal

past-both : (n : ℕ) → most_u64 < n → most_i64 < n
past-both n h = omega arith

pub returns-then-exceeds : goal.returns-then-exceeds
returns-then-exceeds c = sym (i64-past _ _ _ (past-both _ (ltb-true _ _ (sym c.exceeds.ensures ∙ c.if-exceeds.true))))

pub returns-then-total-gt-MOST_I64 : goal.returns-then-total-gt-MOST_I64
returns-then-total-gt-MOST_I64 c =
    let within = ltb-false _ _ (sym c.exceeds.ensures ∙ c.if-exceeds.false) in
    let number = total-is c.args.d.now c.args.sign 0 _ c.gather-run.ensures within in
    sym (i64-past _ _ _ (lt_of_lt_of_le c.if-total-gt-MOST_I64.true (le_of_eq number)))

pub returns : goal.returns
returns c =
    let within = ltb-false _ _ (sym c.exceeds.ensures ∙ c.if-exceeds.false) in
    let number = total-is c.args.d.now c.args.sign 0 _ c.gather-run.ensures within in
    let number_is =
    to_z-of_z w64 _ (record { sfits = c.under_sign.type_inv }) ∙ c.under_sign.ensures ∙ ap (signed c.args.negative) number in
    let place = place_is _ _ 0 _ c.gather-run.ensures in
    (λ j. Ok (number_is j, place j)) ∙ sym (i64-is _ _ _ (le_trans (le_of_eq (sym number)) c.if-total-gt-MOST_I64.false))
