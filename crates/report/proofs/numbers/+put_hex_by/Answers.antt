-- `report::numbers::put_hex_by` meets its contract: no digits, or those of the quotient and the last.
-- Assumes nothing.
use Rattle.std.proofs.Common.{ℕ, ◌-◌, ◌/◌, [], ◌∷◌, ◌++◌, sym, ap, ◌∙◌}
use Rattle.report.specs.Digits.{hex_by}
use Rattle.report.proofs.Digits.{hex_by-none, hex_by-more}
use Rattle.put.proofs.Append.{chain, same_bytes, put-empty}
use Rattle.report.proofs.numbers.+put_hex_by.Goals as goal

pub returns-then-digits-eq0 : goal.returns-then-digits-eq0
returns-then-digits-eq0 t c = same_bytes _ _ _ _ (put-empty _ _) (sym (hex_by-none _ _ c.if-digits-eq0.true))

pub returns : goal.returns
returns t c =
    same_bytes _ _ _ _ (chain _ _ _ _ c.put_hex_by-last.ensures c.put_byte.ensures)
    (ap (λ (g : ℕ). hex_by (c.args.digits - 1) (c.args.n / 16) ++ (g ∷ [])) c.glyph.ensures ∙ sym (hex_by-more _ _ c.if-digits-eq0.false))
