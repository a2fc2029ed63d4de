use Rattle.std.proofs.Common.{false, sym, ap, ◌∙◌, arith, rules, get_or, ◌≡◌}
use Rattle.scalar.specs.Kind.{kind_after_sign, number_or_name}
use Rattle.scalar.proofs.Forms.{nothing, after_minus, after_plus, unsigned}
use Rattle.scalar.proofs.Gathers.{no_byte, first_byte}
use Rattle.scalar.proofs.kinds.number_or_name.Goals as goal

pub returns-in-empty : goal.returns-in-empty
returns-in-empty c = sym (ap number_or_name (no_byte _ (omega arith)) ∙ nothing)

pub returns-in-45 : goal.returns-in-45
returns-in-45 c =
    let bytes = first_byte c.args.d.now (λ e. omega arith) in
    let a : get_or c.args.d.now 0 0 ≡ 45 = search rules in
    c.after_sign.ensures ∙ sym (ap number_or_name bytes ∙ after_minus _ _ a)

pub returns-in-43 : goal.returns-in-43
returns-in-43 c =
    let bytes = first_byte c.args.d.now (λ e. omega arith) in
    let a : get_or c.args.d.now 0 0 ≡ 43 = search rules in
    c.after_sign-in-43.ensures ∙ sym (ap number_or_name bytes ∙ after_plus _ _ (λ e. omega arith) a)

pub returns-in_default : goal.returns-in_default
returns-in_default c =
    let bytes = first_byte c.args.d.now (λ e. omega arith) in
    c.after_sign-in_default.ensures
    ∙ ap (kind_after_sign false) bytes
    ∙ sym (ap number_or_name bytes ∙ unsigned _ _ (λ e. omega arith) (λ e. omega arith))
