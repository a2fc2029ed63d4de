-- How a machine moves on, and the byte at its place.
use Rattle.std.specs.Prelude.{ℕ, Bool, true, false, List, get_or}
use Rattle.machine.specs.declared.State.{State}
use Rattle.machine.specs.declared.State.TheVariants.{Key, KeyValueSeparator, ObjectValue, ParseOpen, ArrayValue}
use Rattle.machine.specs.declared.Machine.{Machine}

-- the byte at a place, 0 past the end
abbrev pub byte_at : List ℕ → ℕ → ℕ
byte_at text at = get_or text at 0

-- the machine at another place, in another state, with another count
abbrev pub to : Machine → ℕ → State → ℕ → Machine
to m at state count = record { at = at; state = state; parent = m.parent; mixed = m.mixed; count = count }

-- the machine inside another opener
abbrev pub within : Machine → ℕ → Machine
within m parent = record { at = m.at; state = m.state; parent = parent; mixed = m.mixed; count = m.count }

-- the machine with mixed on, in ArrayValue
abbrev pub mixed_on : Machine → ℕ → Machine
mixed_on m count = record { at = m.at; state = ArrayValue; parent = m.parent; mixed = true; count = count }

-- whether a state is Key
abbrev pub is_key : State → Bool
is_key Key = true
is_key KeyValueSeparator = false
is_key ObjectValue = false
is_key ParseOpen = false
is_key ArrayValue = false

-- whether a state is ParseOpen
abbrev pub is_parse_open : State → Bool
is_parse_open Key = false
is_parse_open KeyValueSeparator = false
is_parse_open ObjectValue = false
is_parse_open ParseOpen = true
is_parse_open ArrayValue = false
