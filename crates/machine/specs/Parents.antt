-- What a container on the tape says, and the machine inside a parent that is taken up.
use Rattle.std.specs.Prelude.{ℕ, Bool, true, false, ◌&&◌, eqb, Option, Some, None}
use Rattle.tape.specs.declared.token.ContainerKind.{ContainerKind}
use Rattle.tape.specs.declared.token.ContainerKind.TheVariants.{Array, Object}
use Rattle.tape.specs.declared.token.Container.{Container}
use Rattle.tape.specs.Token.{container_of}
use Rattle.tape.specs.Tape.{Tape, token_at}
use Rattle.machine.specs.declared.State.{State}
use Rattle.machine.specs.declared.State.TheVariants.{Key, ArrayValue}
use Rattle.machine.specs.declared.Machine.{Machine}

-- token i as a container
abbrev pub container_at : Tape → ℕ → Option Container
container_at t i = container_of (token_at t i)

-- An open container's a word holds its parent's index, 0 at top
abbrev pub parent_of : Option Container → ℕ
parent_of (Some container) = container.link
parent_of None = 0

-- a container's own kind
abbrev pub own_kind : Option Container → ContainerKind
own_kind (Some container) = container.kind
own_kind None = Object

-- Leaving a container takes up its parent: Array gives ArrayValue; Object gives ArrayValue if its stored flag is 1, else Key;
-- none gives Key
abbrev pub state_in_object : Bool → State
state_in_object true = ArrayValue
state_in_object false = Key

abbrev pub state_by : ContainerKind → Bool → State
state_by Array mixed = ArrayValue
state_by Object mixed = state_in_object mixed

abbrev pub state_in : Option Container → State
state_in (Some container) = state_by container.kind container.mixed
state_in None = Key

-- Mixed becomes that stored flag (none: off)
abbrev pub mixed_in : Option Container → Bool
mixed_in (Some container) = container.mixed
mixed_in None = false

-- the machine at a place inside a parent that is taken up
abbrev pub resumed : Option Container → ℕ → ℕ → ℕ → Machine
resumed up parent at count = record { at = at; state = state_in up; parent = parent; mixed = mixed_in up; count = count }

-- nothing open, by the parent and the parent's own
abbrev pub nothing_open : ℕ → ℕ → Bool
nothing_open parent grand = eqb parent 0 && eqb grand 0
