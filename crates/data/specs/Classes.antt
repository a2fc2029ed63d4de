-- Boundary bytes: 9, 10, 13, 32, 35, 59, 60, 61, 62, 91, 93, 123, 125. They stand as a table of 256 classes whose rule holds at every
-- byte: 1 exactly there.
use Rattle.std.specs.Prelude.{ℕ, zero, suc, ◌+◌, Bool, true, false, List, [], ◌∷◌, eqb, leb}
use Rattle.std.specs.Int.Bits.{bit_and}
use Rattle.data.specs.Bytes.{tab, line_feed, carriage_return, space, hash, semicolon, less_than, equals, greater_than}
use Rattle.data.specs.Bytes.{bracket_open, bracket_close, brace_open, brace_close}

-- the bytes that end an unquoted run
abbrev pub boundary_bytes : List ℕ
boundary_bytes =
    tab ∷ line_feed ∷ carriage_return ∷ space ∷ hash ∷ semicolon ∷ less_than ∷ equals ∷ greater_than
    ∷ bracket_open ∷ bracket_close ∷ brace_open ∷ brace_close ∷ []

abbrev pub among : ℕ → List ℕ → Bool
among b [] = false
among b (x ∷ xs) = elim (eqb b x) [ true ↦ true | false ↦ among b xs ]

-- whether a byte is one of the thirteen
unfoldable pub is_boundary : ℕ → Bool
is_boundary b = among b boundary_bytes

-- whether a byte has such low five bits as the eight from `;` on have, and with them `\` `^` `|` `~`: 0x1b to 0x1e
unfoldable pub may_be_sign : ℕ → Bool
may_be_sign b = leb 0x1c (bit_and (bit_and b 0x1f + 1) 0x1f)

-- a byte's class: 1 at the thirteen, 0 elsewhere
unfoldable pub class_of : ℕ → ℕ
class_of b = elim (is_boundary b) [ true ↦ 1 | false ↦ 0 ]

-- the classes of n bytes, counted up from b
abbrev pub classes_from : ℕ → ℕ → List ℕ
classes_from b zero = []
classes_from b (suc n) = class_of b ∷ classes_from (b + 1) n

-- how many bytes there are
abbrev pub byte_count : ℕ
byte_count = 256

-- the whole table
unfoldable pub classes : List ℕ
classes = classes_from 0 byte_count
