-- The domain of demand 2: no unquoted run of two or more bytes holds a byte on which the Rust's two tables disagree. Told of a whole text by our own cuts
-- alone, along our own parse with no bound on tokens: the Rust's runs are then the same (`unquoted-alike`), so nothing has to be asked of them.
use Rattle.std.specs.Prelude.{ℕ, zero, suc, ◌+◌, ◌<◌, ◌≡◌, Bool, true, false, List, [], ◌∷◌, Some, None, ◌⊎◌, eqb, ltb, length, get_or, drop}
use Rattle.data.specs.Bytes.{exclamation, quote, bracket_open, bracket_close, brace_open, brace_close}
use Rattle.data.specs.Classes.{among}
use Rattle.cut.specs.Blanks.{skip_ws}
use Rattle.cut.specs.Runs.{unquoted_run, run_end}
use Rattle.cut.specs.Scalars.{opens_variable}
use Rattle.tape.specs.Tape.{unbounded}
use Rattle.machine.specs.declared.State.TheVariants.{Key, KeyValueSeparator, ObjectValue, ParseOpen, ArrayValue}
use Rattle.machine.specs.declared.Machine.{Machine}
use Rattle.machine.specs.declared.bytes.KeyByte as KeyByte
use Rattle.machine.specs.declared.bytes.OpenByte as OpenByte
use Rattle.machine.specs.declared.bytes.ValueByte as ValueByte
use Rattle.machine.specs.Machine.{byte_at, to}
use Rattle.parse.specs.After.{After, next, done, refused}
use Rattle.machine.specs.Bytes.{key_byte, open_byte, value_byte}
use Rattle.machine.specs.Start.{has_bom, start}
use Rattle.parse.specs.Parse.{turn, enough}
use Rattle.promises.specs.Each.{Each}
use Rattle.promises.specs.Room.{tape_of}
use Rattle.rust_tape.specs.RustCuts.{vertical_tab, form_feed}

-- ---- a run
-- the bytes that have a class in the Rust's table and are none of the thirteen
abbrev pub doubted_bytes : List ℕ
doubted_bytes = vertical_tab ∷ form_feed ∷ exclamation ∷ []

-- a run of n bytes at the head of a part has one byte, or holds none of the three
abbrev pub Undoubted : List ℕ → ℕ → Type 0
Undoubted d n = (n ≡ 1) ⊎ ((k : ℕ) → k < n → among (get_or d k 0) doubted_bytes ≡ false)

-- the run that we cut at a place of a text
abbrev pub InDomain : List ℕ → ℕ → Type 0
InDomain text at = Undoubted (drop at text) (unquoted_run (drop at text))

-- a cut is ours at a place of a text
abbrev pub CutAlike : (List ℕ → ℕ) → List ℕ → ℕ → Type 0
CutAlike cut text at = at < length text → cut (drop at text) ≡ unquoted_run (drop at text)

-- ---- the places at which a turn of ours cuts an unquoted run
-- a scalar that is neither quoted nor `@[`
unfoldable pub scalar_runs : List ℕ → ℕ → List ℕ
scalar_runs text at =
    elim (eqb (byte_at text at) quote) [
      | true ↦ []
      | false ↦ elim (opens_variable text at) [ true ↦ [] | false ↦ at ∷ [] ]
    ]

-- a parameter's value or first key, after blanks
unfoldable pub value_runs : List ℕ → ℕ → List ℕ
value_runs text at = elim (skip_ws text at) [ Some p ↦ p ∷ [] | None ↦ [] ]

-- a parameter's name, and what follows it where `]` ends it
unfoldable pub name_runs : List ℕ → ℕ → List ℕ
name_runs text at =
    elim (ltb at (length text)) [
      | true ↦ at ∷ elim (eqb (byte_at text (run_end text at)) bracket_close) [ true ↦ value_runs text (run_end text at + 1) | false ↦ [] ]
      | false ↦ []
    ]

-- `[[` or `[[!`
unfoldable pub parameter_runs : List ℕ → ℕ → List ℕ
parameter_runs text at =
    elim (eqb (byte_at text (at + 1)) bracket_open) [
      | true ↦ elim (eqb (byte_at text (at + 2)) exclamation) [ true ↦ name_runs text (at + 3) | false ↦ name_runs text (at + 2) ]
      | false ↦ []
    ]

-- Key: a parameter's, or the key
unfoldable pub key_runs : List ℕ → ℕ → List ℕ
key_runs text at =
    elim (key_byte (byte_at text at)) [
      | KeyByte.TheVariants.Closer ↦ []
      | KeyByte.TheVariants.Brace ↦ []
      | KeyByte.TheVariants.Bracket ↦ parameter_runs text at
      | KeyByte.TheVariants.Other ↦ scalar_runs text at
    ]

-- ObjectValue: the value
unfoldable pub object_runs : List ℕ → ℕ → List ℕ
object_runs text at =
    elim (eqb (byte_at text at) brace_open) [
      | true ↦ []
      | false ↦ elim (eqb (byte_at text at) brace_close) [ true ↦ [] | false ↦ scalar_runs text at ]
    ]

-- ParseOpen: a parameter's unless mixed, or the first scalar
unfoldable pub open_runs : List ℕ → Bool → ℕ → List ℕ
open_runs text mixed at =
    elim (open_byte (byte_at text at)) [
      | OpenByte.TheVariants.Closer ↦ []
      | OpenByte.TheVariants.Bracket ↦ elim mixed [ true ↦ [] | false ↦ parameter_runs text at ]
      | OpenByte.TheVariants.Brace ↦ []
      | OpenByte.TheVariants.Other ↦ scalar_runs text at
    ]

-- ArrayValue: a scalar
unfoldable pub array_runs : List ℕ → ℕ → List ℕ
array_runs text at =
    elim (value_byte (byte_at text at)) [
      | ValueByte.TheVariants.Brace ↦ []
      | ValueByte.TheVariants.Closer ↦ []
      | ValueByte.TheVariants.Sign ↦ []
      | ValueByte.TheVariants.Other ↦ scalar_runs text at
    ]

-- by the state, at a byte that is no blank
unfoldable pub state_runs : List ℕ → Machine → List ℕ
state_runs text m =
    elim m.state [
      | Key ↦ key_runs text m.at
      | KeyValueSeparator ↦ []
      | ObjectValue ↦ object_runs text m.at
      | ParseOpen ↦ open_runs text m.mixed m.at
      | ArrayValue ↦ array_runs text m.at
    ]

-- and after the blanks that every turn skips
unfoldable pub turn_runs : List ℕ → Machine → List ℕ
turn_runs text m = elim (skip_ws text m.at) [ Some p ↦ state_runs text (to m p m.state m.count) | None ↦ [] ]

-- ---- a text
-- a fact holds wherever so many turns of ours, or fewer where they end before, cut an unquoted run
abbrev pub Along : (ℕ → Type 0) → List ℕ → ℕ → After → Type 0
Along P text zero x = Unit {0}
Along P text (suc turns) (next m t) = Each P (turn_runs text m) × Along P text turns (turn text t m)
Along P text (suc turns) (done n t) = Unit {0}
Along P text (suc turns) (refused r) = Unit {0}

-- and wherever our parse with no bound on tokens does
abbrev pub Throughout : (ℕ → Type 0) → List ℕ → Type 0
Throughout P text = Along P text (enough text) (next (start (has_bom text)) (tape_of unbounded []))

-- a text is in the domain where each unquoted run that its parse with no bound on tokens cuts is
abbrev pub Domain : List ℕ → Type 0
Domain text = Throughout (InDomain text) text

-- none of the three bytes stands in a text at all; such a text is in the domain (`plain_in_domain`)
abbrev pub Plain : List ℕ → Type 0
Plain text = (k : ℕ) → among (get_or text k 0) doubted_bytes ≡ false
