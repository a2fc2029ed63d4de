-- Key. `}` or `]`: nothing open, skip it; else close as Object. `{`: if `}` follows after blanks, drop both; else last token Unquoted
-- becomes Header, an Array is added, ParseOpen; else 4. `[`: parameter. Otherwise a key, then KeyValueSeparator.
use Rattle.std.specs.Prelude.{ℕ, ◌+◌, ◌-◌, true, false, List, Some, None, eqb}
use Rattle.data.specs.Bytes.{brace_close}
use Rattle.cut.specs.Blanks.{skip_ws}
use Rattle.tape.specs.declared.token.ContainerKind.TheVariants.{Array, Object}
use Rattle.tape.specs.declared.token.Standing as Standing
use Rattle.tape.specs.Token.{opener_of, standing_of, headed}
use Rattle.tape.specs.Tape.{Tape, token_at, replace}
use Rattle.machine.specs.declared.State.TheVariants.{Key, KeyValueSeparator, ParseOpen}
use Rattle.machine.specs.declared.Machine.{Machine}
use Rattle.machine.specs.declared.Refusal.TheVariants.{Eof, NoHeader}
use Rattle.machine.specs.declared.bytes.KeyByte.TheVariants.{Closer, Brace, Bracket, Other}
use Rattle.machine.specs.Machine.{byte_at, to}
use Rattle.machine.specs.Bytes.{key_byte}
use Rattle.parse.specs.After.{After, next, refused, lay_then}
use Rattle.parse.specs.Scalars.{scalar_then}
use Rattle.machine.specs.Parents.{container_at, parent_of, nothing_open}
use Rattle.parse.specs.Containers.{close}
use Rattle.parse.specs.Parameter.{parameter}

-- `}` or `]`: nothing open, skip it; else close as Object
unfoldable pub key_close : Tape → Machine → After
key_close t m =
    elim (nothing_open m.parent (parent_of (container_at t m.parent))) [
      | true ↦ next (to m (m.at + 1) Key m.count) t
      | false ↦ close Object (parent_of (container_at t m.parent)) t m
    ]

-- last token Unquoted becomes Header, an Array is added, ParseOpen
unfoldable pub open_header : ℕ → Tape → Machine → After
open_header at t m = lay_then (opener_of Array 0 false) at ParseOpen (replace t (m.count - 1) (headed (token_at t (m.count - 1)))) m

-- last token Unquoted becomes Header, an Array is added, ParseOpen; else 4, after `{` and blanks
unfoldable pub key_header : ℕ → Tape → Machine → After
key_header at t m =
    elim (standing_of (token_at t (m.count - 1))) [
      | Standing.TheVariants.Unquoted ↦ open_header at t m
      | Standing.TheVariants.OtherScalar ↦ refused (NoHeader at)
      | Standing.TheVariants.End ↦ refused (NoHeader at)
      | Standing.TheVariants.Nothing ↦ refused (NoHeader at)
    ]

-- `{`: if `}` follows after blanks, drop both; else a header or 4. A blank skip that meets the end is Eof (2)
unfoldable pub key_brace : List ℕ → Tape → Machine → After
key_brace text t m =
    elim (skip_ws text (m.at + 1)) [
      | Some p ↦ elim (eqb (byte_at text p) brace_close) [
        | true ↦ next (to m (p + 1) Key m.count) t
        | false ↦ key_header p t m
      ]
      | None ↦ refused Eof
    ]

unfoldable pub key_turn : List ℕ → Tape → Machine → After
key_turn text t m =
    elim (key_byte (byte_at text m.at)) [
      | Closer ↦ key_close t m
      | Brace ↦ key_brace text t m
      | Bracket ↦ parameter text t m
      | Other ↦ scalar_then text KeyValueSeparator t m
    ]
