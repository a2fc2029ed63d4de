-- The eight operators: their numbers on the tape, their signs, and which of them two bytes begin with.
use Rattle.std.specs.Prelude.{ℕ, Bool, true, false, List, [], ◌∷◌, eqb, Option, Some, None}
use Rattle.data.specs.Bytes.{less_than, greater_than, exclamation, question, equals}
use Rattle.operator.specs.declared.Operator.{Operator}
use Rattle.operator.specs.declared.Operator.TheVariants.{LessThan, LessThanEqual, GreaterThan, GreaterThanEqual, NotEqual, Exact, Equal, Exists}
use Rattle.operator.specs.declared.Sighted.{Sighted}
use Rattle.operator.specs.declared.Symbol.{Symbol}

-- document 01's number for each operator
abbrev pub number_of : Operator → ℕ
number_of LessThan = 1
number_of LessThanEqual = 2
number_of GreaterThan = 3
number_of GreaterThanEqual = 4
number_of NotEqual = 5
number_of Exact = 6
number_of Equal = 7
number_of Exists = 8

-- the operators, listed once
abbrev pub operators : List Operator
operators = LessThan ∷ LessThanEqual ∷ GreaterThan ∷ GreaterThanEqual ∷ NotEqual ∷ Exact ∷ Equal ∷ Exists ∷ []

-- the first of some operators that has a number, or none
abbrev pub numbered_among : List Operator → ℕ → Option Operator
numbered_among [] n = None
numbered_among (o ∷ os) n = elim (eqb n (number_of o)) [ true ↦ Some o | false ↦ numbered_among os n ]

-- the operator that a number stands for, or none
unfoldable pub numbered : ℕ → Option Operator
numbered n = numbered_among operators n

-- whether an operator is `=`, which pairs a key with its value and is no token there
abbrev pub is_equal : Operator → Bool
is_equal LessThan = false
is_equal LessThanEqual = false
is_equal GreaterThan = false
is_equal GreaterThanEqual = false
is_equal NotEqual = false
is_equal Exact = false
is_equal Equal = true
is_equal Exists = false

abbrev one_byte : ℕ → Symbol
one_byte b = record { first = b; second = 0 }

abbrev with_equals : ℕ → Symbol
with_equals b = record { first = b; second = equals }

-- how each operator is written; a second byte of 0 is none
abbrev pub symbol_of : Operator → Symbol
symbol_of LessThan = one_byte less_than
symbol_of LessThanEqual = with_equals less_than
symbol_of GreaterThan = one_byte greater_than
symbol_of GreaterThanEqual = with_equals greater_than
symbol_of NotEqual = with_equals exclamation
symbol_of Exact = with_equals equals
symbol_of Equal = one_byte equals
symbol_of Exists = with_equals question

-- the bytes of a sign alone: one, or two where the second is not 0
abbrev pub bytes_of : Symbol → List ℕ
bytes_of s = elim (eqb s.second 0) [ true ↦ s.first ∷ [] | false ↦ s.first ∷ s.second ∷ [] ]

-- and so the bytes by which each operator is written
abbrev pub symbol_bytes : Operator → List ℕ
symbol_bytes operator = bytes_of (symbol_of operator)

-- an operator that stands, with its width
abbrev pub sign : Operator → ℕ → Option Sighted
sign o w = Some (record { operator = o; width = w })

-- a line of the decision: a first byte, and what stands there where `=` follows it and where none does
pub data Line : Type 0 where
  line : ℕ → Option Sighted → Option Sighted → Line

-- what a line tells by whether its byte stands and `=` follows, or what the others tell; the tests are arguments, where a rewriting finds them
abbrev pub line_tells : Bool → Bool → Option Sighted → Option Sighted → Option Sighted → Option Sighted
line_tells stands follows followed alone others =
    elim stands [ true ↦ elim follows [ true ↦ followed | false ↦ alone ] | false ↦ others ]

-- what some lines tell of two bytes
abbrev pub lines_tell : List Line → ℕ → ℕ → Option Sighted
lines_tell [] first second = None
lines_tell (line byte followed alone ∷ ls) first second =
    line_tells (eqb first byte) (eqb second equals) followed alone (lines_tell ls first second)

-- the decision by two bytes: `<=` `<` `>=` `>` `!=` `?=` `==` `=`
abbrev pub decision : List Line
decision =
    line less_than (sign LessThanEqual 2) (sign LessThan 1)
    ∷ line greater_than (sign GreaterThanEqual 2) (sign GreaterThan 1)
    ∷ line exclamation (sign NotEqual 2) None
    ∷ line question (sign Exists 2) None
    ∷ line equals (sign Exact 2) (sign Equal 1)
    ∷ []

-- the operator that two bytes begin with, or none
unfoldable pub sighted : ℕ → ℕ → Option Sighted
sighted first second = lines_tell decision first second
