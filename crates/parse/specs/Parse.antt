-- The parse: every turn skips blanks, the state decides, and the run goes on until it is done or refused.
use Rattle.std.specs.Prelude.{ℕ, zero, suc, ◌+◌, ◌*◌, Bool, true, false, List, ltb, length, Result, Ok, Err, Some, None}
use Rattle.cut.specs.Blanks.{skip_ws}
use Rattle.tape.specs.Words.{padded}
use Rattle.tape.specs.Tape.{Tape, view, empty_tape}
use Rattle.machine.specs.declared.State.TheVariants.{Key, KeyValueSeparator, ObjectValue, ParseOpen, ArrayValue}
use Rattle.machine.specs.declared.Machine.{Machine}
use Rattle.machine.specs.declared.Refusal.TheVariants.{TooLong, Eof}
use Rattle.machine.specs.Start.{has_bom, start}
use Rattle.machine.specs.Machine.{to}
use Rattle.machine.specs.Finish.{Outcome, outcome, refuse, with_tokens}
use Rattle.parse.specs.After.{After, next, done, refused}
use Rattle.parse.specs.Containers.{text_end}
use Rattle.parse.specs.Key.{key_turn}
use Rattle.parse.specs.KeyValueSeparator.{separator_turn}
use Rattle.parse.specs.ObjectValue.{object_value_turn}
use Rattle.parse.specs.ParseOpen.{parse_open_turn}
use Rattle.parse.specs.ArrayValue.{array_value_turn}
use Rattle.machine.specs.declared.Refusal.{Refusal}

-- what the state makes of a byte that is no blank
unfoldable pub state_turn : List ℕ → Tape → Machine → After
state_turn text t m =
    elim m.state [
      | Key ↦ key_turn text t m
      | KeyValueSeparator ↦ separator_turn text t m
      | ObjectValue ↦ object_value_turn text t m
      | ParseOpen ↦ parse_open_turn text t m
      | ArrayValue ↦ array_value_turn text t m
    ]

-- Every turn skips blanks. Text end there: Eof (2) unless Key
unfoldable pub turn : List ℕ → Tape → Machine → After
turn text t m =
    elim (skip_ws text m.at) [
      | Some p ↦ state_turn text t (to m p m.state m.count)
      | None ↦ text_end t m
    ]

-- so many turns, or fewer where they end before
unfoldable pub run : List ℕ → ℕ → After → After
run text zero x = x
run text (suc n) (next m t) = run text n (turn text t m)
run text (suc n) (done k t) = done k t
run text (suc n) (refused r) = refused r

-- what the end of a run says together with the words that it leaves
abbrev pub ending : Result ℕ Refusal → List ℕ → After
ending (Ok n) ws = done n (view ws n)
ending (Err r) ws = refused r

-- turns enough for any text: each consumes a byte or leaves KeyValueSeparator or ParseOpen for another state
abbrev pub enough : List ℕ → ℕ
enough text = 2 * length text + 2

-- 1 TooLong: text over 16,777,215 bytes
abbrev pub text_limit : ℕ
text_limit = 16777215

-- After success all words past the tokens are 0. An unfinished run answers Eof only because none is unfinished: `parse_ends` of
-- crates/parse/proofs/Runs.antt
abbrev pub answer : Bool → ℕ → After → Outcome
answer bom len (next m t) = refuse len Eof
answer bom len (done n t) = outcome (with_tokens n bom) (padded len t.tokens)
answer bom len (refused r) = refuse len r

-- the parse of a text on a tape of so many words: there is room for as many tokens as its length divided by 3, rounded down; 1 TooLong
-- is tested first
unfoldable pub parse_of : List ℕ → ℕ → Outcome
parse_of text len =
    elim (ltb text_limit (length text)) [
      | true ↦ refuse len TooLong
      | false ↦ answer (has_bom text) len (run text (enough text) (next (start (has_bom text)) (empty_tape len)))
    ]
