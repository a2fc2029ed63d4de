-- What a byte is in the states that tell bytes apart.
use Rattle.std.specs.Prelude.{ℕ, Bool, true, false, [], ◌∷◌, eqb}
use Rattle.data.specs.Bytes.{equals, greater_than, less_than, question, exclamation, bracket_open, bracket_close, brace_open, brace_close}
use Rattle.data.specs.Classes.{among}
use Rattle.machine.specs.declared.bytes.KeyByte.{KeyByte}
use Rattle.machine.specs.declared.bytes.KeyByte.TheVariants as KeyBytes
use Rattle.machine.specs.declared.bytes.OpenByte.{OpenByte}
use Rattle.machine.specs.declared.bytes.OpenByte.TheVariants as OpenBytes
use Rattle.machine.specs.declared.bytes.ValueByte.{ValueByte}
use Rattle.machine.specs.declared.bytes.ValueByte.TheVariants as ValueBytes

-- what a byte is in Key
unfoldable pub key_byte : ℕ → KeyByte
key_byte b =
    elim (eqb b brace_close) [
      | true ↦ KeyBytes.Closer
      | false ↦ elim (eqb b bracket_close) [
        | true ↦ KeyBytes.Closer
        | false ↦ elim (eqb b brace_open) [
          | true ↦ KeyBytes.Brace
          | false ↦ elim (eqb b bracket_open) [ true ↦ KeyBytes.Bracket | false ↦ KeyBytes.Other ]
        ]
      ]
    ]

-- what a byte is in ParseOpen
unfoldable pub open_byte : ℕ → OpenByte
open_byte b =
    elim (eqb b brace_close) [
      | true ↦ OpenBytes.Closer
      | false ↦ elim (eqb b bracket_open) [
        | true ↦ OpenBytes.Bracket
        | false ↦ elim (eqb b brace_open) [ true ↦ OpenBytes.Brace | false ↦ OpenBytes.Other ]
      ]
    ]

-- whether a byte says that what stood before it is a key
unfoldable pub follows_key : ℕ → Bool
follows_key b = among b (equals ∷ greater_than ∷ less_than ∷ question ∷ exclamation ∷ [])

-- whether a byte is `<` `>` `!` or `=`
unfoldable pub begins_operator : ℕ → Bool
begins_operator b = among b (less_than ∷ greater_than ∷ exclamation ∷ equals ∷ [])

-- what a byte is in ArrayValue
unfoldable pub value_byte : ℕ → ValueByte
value_byte b =
    elim (eqb b brace_open) [
      | true ↦ ValueBytes.Brace
      | false ↦ elim (eqb b brace_close) [
        | true ↦ ValueBytes.Closer
        | false ↦ elim (begins_operator b) [ true ↦ ValueBytes.Sign | false ↦ ValueBytes.Other ]
      ]
    ]
