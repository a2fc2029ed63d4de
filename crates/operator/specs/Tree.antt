-- The decision by two bytes as a tree of tests, as it stood before request W4.
use Rattle.std.specs.Prelude.{ℕ, ◌≡◌, true, false, eqb, Option, None}
use Rattle.data.specs.Bytes.{less_than, greater_than, exclamation, question, equals}
use Rattle.operator.specs.declared.Operator.TheVariants.{LessThan, LessThanEqual, GreaterThan, GreaterThanEqual, NotEqual, Exact, Equal, Exists}
use Rattle.operator.specs.declared.Sighted.{Sighted}
use Rattle.operator.specs.Operators.{sign, sighted}

abbrev pub tree : ℕ → ℕ → Option Sighted
tree first second =
    elim (eqb first less_than) [
      | true ↦ elim (eqb second equals) [ true ↦ sign LessThanEqual 2 | false ↦ sign LessThan 1 ]
      | false ↦ elim (eqb first greater_than) [
        | true ↦ elim (eqb second equals) [ true ↦ sign GreaterThanEqual 2 | false ↦ sign GreaterThan 1 ]
        | false ↦ elim (eqb first exclamation) [
          | true ↦ elim (eqb second equals) [ true ↦ sign NotEqual 2 | false ↦ None ]
          | false ↦ elim (eqb first question) [
            | true ↦ elim (eqb second equals) [ true ↦ sign Exists 2 | false ↦ None ]
            | false ↦ elim (eqb first equals) [
              | true ↦ elim (eqb second equals) [ true ↦ sign Exact 2 | false ↦ sign Equal 1 ]
              | false ↦ None
            ]
          ]
        ]
      ]
    ]

-- the decision by a list answers what the tree does
abbrev pub AsTree : ℕ → ℕ → Type 0
AsTree first second = sighted first second ≡ tree first second
