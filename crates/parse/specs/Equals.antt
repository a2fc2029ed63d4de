-- The usual `=` between a key and its value, which is taken with the key's turn, for speed alone: the turn in KeyValueSeparator goes past it and adds
-- no token, too.
use Rattle.std.specs.Prelude.{ℕ, ◌+◌, Bool, true, false, not, ◌&&◌, List, eqb}
use Rattle.data.specs.Bytes.{equals}
use Rattle.machine.specs.declared.State.{State}
use Rattle.machine.specs.declared.State.TheVariants.{Key, KeyValueSeparator, ObjectValue, ParseOpen, ArrayValue}
use Rattle.machine.specs.declared.Machine.{Machine}
use Rattle.machine.specs.Machine.{byte_at, to}

-- whether a state is KeyValueSeparator
abbrev pub is_separator : State → Bool
is_separator Key = false
is_separator KeyValueSeparator = true
is_separator ObjectValue = false
is_separator ParseOpen = false
is_separator ArrayValue = false

-- whether `=`, and no second one behind it, stands at the place of a machine in KeyValueSeparator
unfoldable pub at_equals : List ℕ → Machine → Bool
at_equals text m = is_separator m.state && (eqb (byte_at text m.at) equals && not (eqb (byte_at text (m.at + 1)) equals))

-- the machine past it, or as it is
unfoldable pub past_equals : List ℕ → Machine → Machine
past_equals text m = elim (at_equals text m) [ true ↦ to m (m.at + 1) ObjectValue m.count | false ↦ m ]
