-- ObjectValue. `{`: Array added, ParseOpen. `}`: 5. Else a scalar, then Key.
use Rattle.std.specs.Prelude.{ℕ, true, false, List, eqb}
use Rattle.data.specs.Bytes.{brace_open, brace_close}
use Rattle.tape.specs.Tape.{Tape}
use Rattle.machine.specs.declared.State.TheVariants.{Key}
use Rattle.machine.specs.declared.Machine.{Machine}
use Rattle.machine.specs.declared.Refusal.TheVariants.{NoValue}
use Rattle.machine.specs.Machine.{byte_at}
use Rattle.parse.specs.After.{After, refused}
use Rattle.parse.specs.Scalars.{scalar_then}
use Rattle.parse.specs.Containers.{open_then}

-- `{`: Array added, ParseOpen. `}`: 5, at it. Else a scalar, then Key
unfoldable pub object_value_turn : List ℕ → Tape → Machine → After
object_value_turn text t m =
    elim (eqb (byte_at text m.at) brace_open) [
      | true ↦ open_then t m
      | false ↦ elim (eqb (byte_at text m.at) brace_close) [
        | true ↦ refused (NoValue m.at)
        | false ↦ scalar_then text Key t m
      ]
    ]
