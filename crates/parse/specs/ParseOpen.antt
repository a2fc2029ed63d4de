-- ParseOpen. `}`: empty Array, End, leave. `[`: 6 if mixed, else the opener becomes an Object and a parameter follows. `{`: if empty,
-- drop both and stay; else mixed off, opener is an Array, ArrayValue, not consumed. Else a scalar; if mixed, the parent's stored flag
-- is set; mixed off; skip blanks; next byte `=` `>` `<` `?` `!`: Object and KeyValueSeparator, else Array and ArrayValue.
use Rattle.std.specs.Prelude.{ℕ, ◌+◌, ◌-◌, true, false, List, eqb, Some, None}
use Rattle.data.specs.Bytes.{brace_close}
use Rattle.cut.specs.Blanks.{skip_ws}
use Rattle.tape.specs.declared.token.ContainerKind.{ContainerKind}
use Rattle.tape.specs.declared.token.ContainerKind.TheVariants.{Array, Object}
use Rattle.tape.specs.Token.{opener_of}
use Rattle.tape.specs.Tape.{Tape, replace}
use Rattle.machine.specs.declared.State.{State}
use Rattle.machine.specs.declared.State.TheVariants.{KeyValueSeparator, ParseOpen, ArrayValue}
use Rattle.machine.specs.declared.Machine.{Machine}
use Rattle.machine.specs.declared.Refusal.TheVariants.{Eof, MixedParameter}
use Rattle.machine.specs.declared.bytes.OpenByte.TheVariants.{Closer, Bracket, Brace, Other}
use Rattle.machine.specs.Machine.{byte_at, to, within}
use Rattle.machine.specs.Bytes.{open_byte, follows_key}
use Rattle.parse.specs.After.{After, next, refused, and_then}
use Rattle.parse.specs.Scalars.{scalar_then}
use Rattle.machine.specs.Parents.{container_at, resumed}
use Rattle.parse.specs.Containers.{close_at}
use Rattle.parse.specs.Parameter.{parameter}

-- the opener, the last token but back, gets its kind with its parent for a link, and the machine goes on inside it, mixed off
unfoldable pub settle : ContainerKind → ℕ → ℕ → State → Tape → Machine → After
settle kind back at state t m =
    next (record { at = at; state = state; parent = m.count - back; mixed = false; count = m.count })
    (replace t (m.count - back) (opener_of kind m.parent false))

-- `}`: empty Array, End, leave
unfoldable pub open_empty : Tape → Machine → After
open_empty t m =
    close_at (m.count - 1) Array false t m (λ n t'. next (resumed (container_at t m.parent) m.parent (m.at + 1) n) t')

-- `[`: 6 if mixed, at it; else the opener becomes an Object and a parameter follows
unfoldable pub open_parameter : List ℕ → Tape → Machine → After
open_parameter text t m =
    elim m.mixed [
      | true ↦ refused (MixedParameter m.at)
      | false ↦ parameter text (replace t (m.count - 1) (opener_of Object m.parent false)) (within m (m.count - 1))
    ]

-- `{`: if empty, drop both and stay; else mixed off, opener is an Array, ArrayValue, not consumed. A blank skip that meets the end is
-- Eof (2)
unfoldable pub open_brace : List ℕ → Tape → Machine → After
open_brace text t m =
    elim (skip_ws text (m.at + 1)) [
      | Some p ↦ elim (eqb (byte_at text p) brace_close) [
        | true ↦ next (to m (p + 1) ParseOpen m.count) t
        | false ↦ settle Array 1 m.at ArrayValue t m
      ]
      | None ↦ refused Eof
    ]

-- if mixed, the parent's stored flag is set
unfoldable pub flag_parent : Tape → Machine → Tape
flag_parent t m =
    elim m.mixed [
      | true ↦ elim (container_at t m.parent) [
        | Some container ↦ replace t m.parent (opener_of container.kind container.link true)
        | None ↦ t
      ]
      | false ↦ t
    ]

-- mixed off; skip blanks (the end is Eof, 2); next byte `=` `>` `<` `?` `!`: Object and KeyValueSeparator, else Array and ArrayValue
unfoldable pub open_as : List ℕ → Tape → Machine → After
open_as text t m =
    elim (skip_ws text m.at) [
      | Some p ↦ elim (follows_key (byte_at text p)) [
        | true ↦ settle Object 2 p KeyValueSeparator t m
        | false ↦ settle Array 2 p ArrayValue t m
      ]
      | None ↦ refused Eof
    ]

-- Else a scalar; if mixed, the parent's stored flag is set; then what the next byte says
unfoldable pub open_scalar : List ℕ → Tape → Machine → After
open_scalar text t m = and_then (scalar_then text ParseOpen t m) (λ t' m'. open_as text (flag_parent t' m') m')

-- what the byte says: `}`, `[`, `{`, or a scalar
unfoldable pub parse_open_turn : List ℕ → Tape → Machine → After
parse_open_turn text t m =
    elim (open_byte (byte_at text m.at)) [
      | Closer ↦ open_empty t m
      | Bracket ↦ open_parameter text t m
      | Brace ↦ open_brace text t m
      | Other ↦ open_scalar text t m
    ]
