-- `cut::is_blank` meets its contract: five tests made at once are five made one after the other.
-- Assumes nothing.
use mathlib.Core.Bool.{Bool, true, false, ◌||◌}
use mathlib.Core.Path.{◌≡◌, refl}
use lib.Dec.{eqb}
use Rattle.data.specs.Bytes.{space, tab, line_feed, carriage_return, semicolon}
use Rattle.cut.specs.Blanks.{is_blank}
use Rattle.cut.proofs.is_blank.Goals as goal

abbrev in_turn : Bool → Bool → Bool → Bool → Bool → Bool
in_turn a b c d e =
    elim a [
      | true ↦ true
      | false ↦ elim b [
        | true ↦ true
        | false ↦ elim c [ true ↦ true | false ↦ elim d [ true ↦ true | false ↦ elim e [ true ↦ true | false ↦ false ] ] ]
      ]
    ]

at_once : (a b c d e : Bool) → (((a || b) || c) || d) || e ≡ in_turn a b c d e
at_once true b c d e = refl
at_once false true c d e = refl
at_once false false true d e = refl
at_once false false false true e = refl
at_once false false false false true = refl
at_once false false false false false = refl

pub returns : goal.returns
unfolding is_blank
returns c =
    let b = c.args.b in
    at_once (eqb b space) (eqb b tab) (eqb b line_feed) (eqb b carriage_return) (eqb b semicolon)
