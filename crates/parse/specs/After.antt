-- What a turn makes of a machine and a tape.
use Rattle.std.specs.Prelude.{ℕ, List, Result, Ok, Err}
use Rattle.tape.specs.declared.token.Token.{Token}
use Rattle.tape.specs.Tape.{Tape, view, Laying, laid, full, lay}
use Rattle.machine.specs.declared.State.{State}
use Rattle.machine.specs.declared.Machine.{Machine}
use Rattle.machine.specs.declared.Refusal.{Refusal}
use Rattle.machine.specs.declared.Refusal.TheVariants.{Full}
use Rattle.machine.specs.declared.Turn.{Turn}
use Rattle.machine.specs.declared.Turn.TheVariants.{Next, Done}
use Rattle.machine.specs.Machine.{to}

-- a machine and a tape that go on, a finished tape with its count, or a refusal
pub data After : Type 0 where
  next : Machine → Tape → After
  done : ℕ → Tape → After
  refused : Refusal → After

-- what an answer says together with the words that it leaves
abbrev pub after : Result Turn Refusal → List ℕ → After
after (Ok (Next m)) ws = next m (view ws m.count)
after (Ok (Done n)) ws = done n (view ws n)
after (Err r) ws = refused r

-- what comes after a machine that goes on
abbrev pub and_then : After → (Tape → Machine → After) → After
and_then (next m t) go = go t m
and_then (done n t) go = done n t
and_then (refused r) go = refused r

-- a laid token's count and tape; 11 Full: a token needs room and there is none
abbrev pub or_full : Laying → (ℕ → Tape → After) → After
or_full (laid n t) go = go n t
or_full full go = refused Full

-- a token is added, and the machine goes on at a place in a state
unfoldable pub lay_then : Token → ℕ → State → Tape → Machine → After
lay_then x at state t m = or_full (lay t m.count x) (λ n t'. next (to m at state n) t')
