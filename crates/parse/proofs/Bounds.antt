-- Bounds by which the code's places lie in the text.
-- Assumes nothing.
use mathlib.Core.Path.{◌≡◌}
use mathlib.Core.Bool.{Bool}
use mathlib.Core.List.{List}
use Prim.Native.Nat.{ℕ, ◌≤◌, ◌<◌}
use native.Mathlib.Omega.{arith}
use lib.ListN.{length}
use Rattle.std.specs.Prelude.{Some}
use Rattle.operator.specs.declared.Sighted.{Sighted}
use Rattle.operator.specs.Operators.{sighted}
use Rattle.operator.proofs.Widths.{sighted-width}
use Rattle.cut.specs.Blanks.{skip_ws}
use Rattle.cut.specs.Scalars.{scalar_cut}
use Rattle.cut.specs.declared.Cut.TheVariants.{Unquoted, Quoted}
use Rattle.cut.proofs.Blanks.{skip_lands}
use Rattle.cut.proofs.Scalars.{unquoted_bounds, quoted_bounds}

-- an operator takes two bytes at most
pub sighted_short : (a b : ℕ) (s : Sighted) → sighted a b ≡ Some s → s.width ≤ 2
sighted_short a b s e = (sighted-width a b s.operator s.width e).few

-- skipped blanks end at a byte of the text
pub skip_within : (text : List ℕ) (at place : ℕ) → skip_ws text at ≡ Some place → place < length text
skip_within text at place e = (skip_lands text at place e).within

-- a scalar's view starts where it ends or before that, and ends within the text
pub unquoted_within : (text : List ℕ) (at start end rest : ℕ) → scalar_cut text at ≡ Some (Unquoted start end rest)
    → (start ≤ end) × (end ≤ length text)
unquoted_within text at start end rest e = let b = unquoted_bounds text at start end rest e in omega (arith, b.starts, b.moves, b.within)

pub quoted_within : (text : List ℕ) (at start end rest : ℕ) (escaped : Bool) → scalar_cut text at ≡ Some (Quoted start end rest escaped)
    → (start ≤ end) × (end ≤ length text)
quoted_within text at start end rest escaped e =
    let b = quoted_bounds text at start end rest escaped e in omega (arith, b.starts, b.run.from, b.run.within)
