-- Parameter: `[[` or `[[!`, end is Eof; a run as name; then `]` or 10; token; blanks; a run; blanks.
-- If `]` comes: the run is Unquoted, Key. Else an Object opens, the run is its first key, KeyValueSeparator.
use Rattle.std.specs.Prelude.{ℕ, ◌+◌, ◌-◌, Bool, true, false, List, Some, None, eqb, ltb, length}
use Rattle.data.specs.Bytes.{exclamation, bracket_open, bracket_close}
use Rattle.cut.specs.Blanks.{skip_ws}
use Rattle.cut.specs.Runs.{run_end}
use Rattle.tape.specs.declared.token.ScalarKind.{ScalarKind}
use Rattle.tape.specs.declared.token.ScalarKind.TheVariants.{Unquoted, Parameter, UndefinedParameter}
use Rattle.tape.specs.declared.token.ContainerKind.TheVariants.{Object}
use Rattle.tape.specs.Token.{opener_of, scalar_of}
use Rattle.tape.specs.Tape.{Tape}
use Rattle.machine.specs.declared.State.TheVariants.{Key, KeyValueSeparator}
use Rattle.machine.specs.declared.Machine.{Machine}
use Rattle.machine.specs.declared.Refusal.TheVariants.{Eof, NoParameter, OpenName}
use Rattle.machine.specs.Machine.{byte_at, within}
use Rattle.parse.specs.After.{After, refused, and_then, lay_then}

-- Else an Object opens, the run from start to end is its first key, KeyValueSeparator
unfoldable pub parameter_object : ℕ → ℕ → ℕ → Tape → Machine → After
parameter_object start end rest t m =
    and_then (lay_then (opener_of Object m.parent false) rest KeyValueSeparator t m)
    (λ t' m'. lay_then (scalar_of Unquoted start (end - start)) rest KeyValueSeparator t' (within m' m.count))

-- If `]` comes, at a place after blanks: the run from start to end is Unquoted, Key. Else an Object opens
unfoldable pub value_or_object : List ℕ → ℕ → ℕ → ℕ → Tape → Machine → After
value_or_object text start end rest t m =
    elim (eqb (byte_at text rest) bracket_close) [
      | true ↦ lay_then (scalar_of Unquoted start (end - start)) (rest + 1) Key t m
      | false ↦ parameter_object start end rest t m
    ]

-- blanks; a run; blanks. A blank skip that meets the end is Eof (2)
unfoldable pub parameter_value : List ℕ → Tape → Machine → After
parameter_value text t m =
    elim (skip_ws text m.at) [
      | Some start ↦ elim (skip_ws text (run_end text start)) [
        | Some rest ↦ value_or_object text start (run_end text start) rest t m
        | None ↦ refused Eof
      ]
      | None ↦ refused Eof
    ]

-- the name from start to end; then `]` or 10, after the name; token
unfoldable pub parameter_named : List ℕ → ScalarKind → ℕ → ℕ → Tape → Machine → After
parameter_named text kind start end t m =
    elim (eqb (byte_at text end) bracket_close) [
      | true ↦ and_then (lay_then (scalar_of kind start (end - start)) (end + 1) Key t m) (parameter_value text)
      | false ↦ refused (OpenName end)
    ]

-- end is Eof (2); a run as name
unfoldable pub parameter_name : List ℕ → ScalarKind → ℕ → Tape → Machine → After
parameter_name text kind start t m =
    elim (ltb start (length text)) [
      | true ↦ parameter_named text kind start (run_end text start) t m
      | false ↦ refused Eof
    ]

-- the kind of a name and its place behind `[[`, by whether `!` comes first: as the code tells them, so that one call reads the name
unfoldable pub name_kind : Bool → ScalarKind
name_kind undefined = elim undefined [ true ↦ UndefinedParameter | false ↦ Parameter ]

unfoldable pub name_start : ℕ → Bool → ℕ
name_start at undefined = elim undefined [ true ↦ at + 3 | false ↦ at + 2 ]

-- `[[` or `[[!`; 9: `[` not followed by `[`, at it
unfoldable pub parameter : List ℕ → Tape → Machine → After
parameter text t m =
    elim (eqb (byte_at text (m.at + 1)) bracket_open) [
      | true ↦ elim (eqb (byte_at text (m.at + 2)) exclamation) [
        | true ↦ parameter_name text UndefinedParameter (m.at + 3) t m
        | false ↦ parameter_name text Parameter (m.at + 2) t m
      ]
      | false ↦ refused (NoParameter m.at)
    ]
