-- How many bytes the parts of a text have.
-- Assumes nothing.
use mathlib.Core.Path.{◌≡◌, refl, sym}
use mathlib.Core.Bool.{Bool, true, false}
use mathlib.Core.List.{List, [], ◌∷◌}
use Prim.Native.Nat.{ℕ, ◌+◌, ◌≤◌}
use native.Mathlib.Omega.{arith}
use lib.ListN.{length, drop, length-append, length-take}
use Rattle.data.specs.Bytes.{quote}
use Rattle.operator.specs.declared.Operator.{Operator}
use Rattle.operator.specs.declared.Operator.TheVariants.{LessThan, LessThanEqual, GreaterThan, GreaterThanEqual, NotEqual, Exact, Equal, Exists}
use Rattle.operator.specs.Operators.{symbol_bytes}
use Rattle.writer.specs.declared.dues.Due.{Due}
use Rattle.writer.specs.declared.dues.Due.TheVariants.{Entry, Key, AfterKey, Value}
use Rattle.put.specs.Parts.{view_of}
use Rattle.writer.specs.Pieces.{quote_if}
use Rattle.writer.specs.Text.{lead}

-- before a token stands one byte, whichever it is, or none
pub lead_same : (first : Bool) (due : Due) (sign : Bool) → length (lead first due sign) ≡ length (lead first Entry false)
lead_same true due sign = refl
lead_same false Entry sign = refl
lead_same false Key sign = refl
lead_same false AfterKey true = refl
lead_same false AfterKey false = refl
lead_same false Value sign = refl

pub lead_short : (first : Bool) → length (lead first Entry false) ≤ 1
lead_short true = omega arith
lead_short false = omega arith

-- ---- a sign has two bytes at most
pub symbol-short : (o : Operator) → length (symbol_bytes o) ≤ 2
symbol-short LessThan = omega arith
symbol-short LessThanEqual = omega arith
symbol-short GreaterThan = omega arith
symbol-short GreaterThanEqual = omega arith
symbol-short NotEqual = omega arith
symbol-short Exact = omega arith
symbol-short Equal = omega arith
symbol-short Exists = omega arith

-- ---- a scalar's bytes, with its quotes
pub quoted-size : (bytes : List ℕ) → length bytes + 2 ≡ length (quote_if true bytes)
quoted-size bytes = sym (omega (arith, length-append bytes (quote ∷ [])))

pub view-short : (text : List ℕ) (offset size : ℕ) → length (view_of text offset size) ≤ size
view-short text offset size = omega (arith, length-take size (drop offset text))
