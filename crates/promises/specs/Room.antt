-- The parse with no bound on tokens, and how many tokens it lays down before it ends or refuses.
use Rattle.std.specs.Prelude.{ℕ, zero, suc, ◌+◌, ◌-◌, Bool, true, false, ◌&&◌, List, [], Option, Some, None, eqb, ltb, length}
use Rattle.data.specs.Bytes.{exclamation, bracket_open, bracket_close}
use Rattle.cut.specs.declared.Cut as Cut
use Rattle.cut.specs.Blanks.{skip_ws}
use Rattle.cut.specs.Runs.{run_end}
use Rattle.cut.specs.Scalars.{scalar_cut}
use Rattle.tape.specs.declared.token.Token.{Token}
use Rattle.tape.specs.declared.token.Standing as Standing
use Rattle.tape.specs.Token.{standing_of}
use Rattle.tape.specs.Tape.{Tape, Room, unbounded, token_at}
use Rattle.parse.specs.Told.{ParseTold, parse_told}
use Rattle.machine.specs.declared.State.TheVariants.{Key, KeyValueSeparator, ObjectValue, ParseOpen, ArrayValue}
use Rattle.machine.specs.declared.Machine.{Machine}
use Rattle.machine.specs.declared.Refusal.TheVariants.{TooLong}
use Rattle.machine.specs.declared.bytes.KeyByte as KeyByte
use Rattle.machine.specs.declared.bytes.OpenByte as OpenByte
use Rattle.machine.specs.declared.bytes.ValueByte as ValueByte
use Rattle.machine.specs.Machine.{byte_at, to}
use Rattle.parse.specs.After.{After, next, done, refused}
use Rattle.machine.specs.Bytes.{key_byte, open_byte, value_byte}
use Rattle.machine.specs.Start.{has_bom, start}
use Rattle.machine.specs.Finish.{Outcome, refuse}
use Rattle.parse.specs.Parse.{turn, run, enough, text_limit, answer}

-- a tape of some room with some tokens on it
abbrev pub tape_of : Room → List Token → Tape
tape_of room tokens = record { room = room; tokens = tokens }

-- what so many turns of a text come to, from an empty tape of some room
abbrev pub after_turns : List ℕ → ℕ → Room → After
after_turns text n room = run text n (next (start (has_bom text)) (tape_of room []))

-- the whole run
unfoldable pub run_in : Room → List ℕ → After
run_in room text = after_turns text (enough text) room

-- the parse with no bound on tokens: the same turns on a tape that grows as the Rust's `Vec` does, its answer laid on so many words
unfoldable pub unbounded_parse : List ℕ → ℕ → Outcome
unbounded_parse text len =
    elim (ltb text_limit (length text)) [
      | true ↦ refuse len TooLong
      | false ↦ answer (has_bom text) len (run_in unbounded text)
    ]

-- ---- what a refused turn has laid down. Its answer holds no tape, so this is said beside it: the tokens that stood there before the
-- turn, and one more where the turn lays it down and only then comes to what refuses it. Three sentences of document 01 do so, and
-- everywhere else what may refuse comes first. One that is forgotten here, or made up, and the theorems on room are false.

-- a parameter's name that its `]` ends
unfoldable pub name_ended : List ℕ → ℕ → Bool
name_ended text start = ltb start (length text) && eqb (byte_at text (run_end text start)) bracket_close

-- Parameter: `[[` or `[[!`, a run as name, then `]`: the name is a token before the blanks in which the text may end
unfoldable pub parameter_lays : List ℕ → ℕ → Bool
parameter_lays text at =
    elim (eqb (byte_at text (at + 1)) bracket_open) [
      | true ↦ elim (eqb (byte_at text (at + 2)) exclamation) [ true ↦ name_ended text (at + 3) | false ↦ name_ended text (at + 2) ]
      | false ↦ false
    ]

-- Key: a parameter's name
unfoldable pub key_lays : List ℕ → Machine → Bool
key_lays text m =
    elim (key_byte (byte_at text m.at)) [
      | KeyByte.TheVariants.Closer ↦ false
      | KeyByte.TheVariants.Brace ↦ false
      | KeyByte.TheVariants.Bracket ↦ parameter_lays text m.at
      | KeyByte.TheVariants.Other ↦ false
    ]

-- a scalar, unless the text ends in it
abbrev pub is_cut : Option Cut.Cut → Bool
is_cut (Some (Cut.TheVariants.Unquoted start end rest)) = true
is_cut (Some (Cut.TheVariants.Quoted start end rest escaped)) = true
is_cut None = false

-- ParseOpen: a parameter's name unless mixed, and the first scalar, which stands on the tape before the blanks in which the text may end
unfoldable pub open_lays : List ℕ → Machine → Bool
open_lays text m =
    elim (open_byte (byte_at text m.at)) [
      | OpenByte.TheVariants.Closer ↦ false
      | OpenByte.TheVariants.Bracket ↦ elim m.mixed [ true ↦ false | false ↦ parameter_lays text m.at ]
      | OpenByte.TheVariants.Brace ↦ false
      | OpenByte.TheVariants.Other ↦ is_cut (scalar_cut text m.at)
    ]

-- whether the last token is a scalar
abbrev pub is_scalar : Standing.Standing → Bool
is_scalar Standing.TheVariants.Unquoted = true
is_scalar Standing.TheVariants.OtherScalar = true
is_scalar Standing.TheVariants.End = false
is_scalar Standing.TheVariants.Nothing = false

-- ArrayValue, unmixed: a MixedContainer goes in before the operator is looked at
unfoldable pub value_lays : List ℕ → Tape → Machine → Bool
value_lays text t m =
    elim (value_byte (byte_at text m.at)) [
      | ValueByte.TheVariants.Brace ↦ false
      | ValueByte.TheVariants.Closer ↦ false
      | ValueByte.TheVariants.Sign ↦ elim m.mixed [ true ↦ false | false ↦ is_scalar (standing_of (token_at t (m.count - 1))) ]
      | ValueByte.TheVariants.Other ↦ false
    ]

-- whether a turn that is refused lays a token down first, by its state; none lays two
unfoldable pub state_lays : List ℕ → Tape → Machine → Bool
state_lays text t m =
    elim m.state [
      | Key ↦ key_lays text m
      | KeyValueSeparator ↦ false
      | ObjectValue ↦ false
      | ParseOpen ↦ open_lays text m
      | ArrayValue ↦ value_lays text t m
    ]

-- and where the text ends after blanks, none
unfoldable pub turn_lays : List ℕ → Tape → Machine → Bool
turn_lays text t m = elim (skip_ws text m.at) [ Some p ↦ state_lays text t (to m p m.state m.count) | None ↦ false ]

-- one token more, or none
abbrev pub and_one : ℕ → Bool → ℕ
and_one n true = n + 1
and_one n false = n

-- ---- how many tokens have been laid down
-- the count where a turn goes on or ends, and w where it refuses
abbrev pub laid_by : ℕ → After → ℕ
laid_by w (next m t) = m.count
laid_by w (done n t) = n
laid_by w (refused r) = w

-- by so many turns of a run, or fewer where it ends before
unfoldable pub laid_in : List ℕ → ℕ → ℕ → After → ℕ
laid_in text zero w x = laid_by w x
laid_in text (suc n) w (next m t) = laid_in text n (and_one m.count (turn_lays text t m)) (turn text t m)
laid_in text (suc n) w (done k t) = k
laid_in text (suc n) w (refused r) = w

-- by the parse with no bound, before it ends or refuses
unfoldable pub laid_down : List ℕ → ℕ
laid_down text =
    elim (ltb text_limit (length text)) [
      | true ↦ 0
      | false ↦ laid_in text (enough text) 0 (next (start (has_bom text)) (tape_of unbounded []))
    ]

-- the number of the refusal that is told, 0 for none
abbrev pub refusal_told : ParseTold → ℕ
refusal_told (parse_told refusal count bom place words) = refusal
