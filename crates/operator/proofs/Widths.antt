-- An operator that stands at two bytes takes one of them or both.
-- Assumes nothing.
use mathlib.Core.Path.{◌≡◌, subst}
use mathlib.Core.List.{List, [], ◌∷◌}
use Prim.Native.Nat.{ℕ, ◌≤◌}
use native.Mathlib.Omega.{arith}
use lib.Dec.{eqb}
use Rattle.data.proofs.Cases.{by_bool}
use Rattle.data.specs.Bytes.{equals}
use Rattle.operator.specs.declared.Operator.{Operator}
use Rattle.operator.specs.declared.Sighted.{Sighted}
use Rattle.std.specs.Prelude.{Option, Some, None}
use Rattle.operator.specs.Operators.{Line, line, line_tells, lines_tell, decision, sign, sighted}

pub record Width (w : ℕ) : Type 0 where
  pub some : 1 ≤ w
  pub few : w ≤ 2

abbrev Widths : Option Sighted → Type 0
Widths (Some s) = Width s.width
Widths None = Unit {0}

abbrev AllWidths : List Line → Type 0
AllWidths [] = Unit {0}
AllWidths (line byte followed alone ∷ ls) = Widths followed × Widths alone × AllWidths ls

lines-width : (ls : List Line) (first second : ℕ) → AllWidths ls → Widths (lines_tell ls first second)
lines-width [] first second hs = tt
lines-width (line byte followed alone ∷ ls) first second hs =
    by_bool (eqb first byte)
    (λ e. by_bool (eqb second equals)
    (λ f. rw (lines_tell, line_tells, e, f) hs.0)
    (λ f. rw (lines_tell, line_tells, e, f) hs.1))
    (λ e. rw (lines_tell, line_tells, e) (lines-width ls first second hs.2))

pub sighted-width : (a b : ℕ) (operator : Operator) (w : ℕ) → sighted a b ≡ sign operator w → Width w
unfolding sighted
sighted-width a b operator w e = subst Widths e (lines-width decision a b (omega arith))
