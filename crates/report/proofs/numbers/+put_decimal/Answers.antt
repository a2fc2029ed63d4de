-- `report::numbers::put_decimal` meets its contract: one digit, or those of the quotient and the last.
-- Assumes nothing.
use Rattle.std.proofs.Common.{ℕ, ◌/◌, [], ◌∷◌, ◌++◌, sym, ap, ◌∙◌}
use Rattle.report.specs.Digits.{decimal}
use Rattle.report.proofs.Digits.{decimal-one, decimal-more}
use Rattle.put.proofs.Append.{chain, same_bytes}
use Rattle.report.proofs.numbers.+put_decimal.Goals as goal

pub returns-then-n-lt10 : goal.returns-then-n-lt10
returns-then-n-lt10 t c =
    same_bytes _ _ _ _ c.put_byte.ensures (ap (λ (g : ℕ). g ∷ []) c.glyph.ensures ∙ sym (decimal-one _ c.if-n-lt10.true))

pub returns : goal.returns
returns t c =
    same_bytes _ _ _ _ (chain _ _ _ _ c.put_decimal-last.ensures c.put_byte-2.ensures)
    (ap (λ (g : ℕ). decimal (c.args.n / 10) ++ (g ∷ [])) c.glyph-2.ensures ∙ sym (decimal-more _ c.if-n-lt10.false))
