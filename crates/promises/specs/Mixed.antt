-- What the promises say of mixed: where it is in force, where its mark stands, and which flags are stored.
use Rattle.std.specs.Prelude.{ℕ, ◌+◌, ◌<◌, Bool, true, false, ◌≡◌, ◌⊎◌, List}
use Rattle.operator.specs.declared.Operator.TheVariants.{Equal}
use Rattle.operator.specs.Operators.{number_of}
use Rattle.tape.specs.declared.token.Token.{Token}
use Rattle.tape.specs.declared.token.ContainerKind.{ContainerKind}
use Rattle.tape.specs.declared.token.ContainerKind.TheVariants.{Object}
use Rattle.tape.specs.declared.token.ScalarKind.{ScalarKind}
use Rattle.tape.specs.Token.{mixed_container_token, opener_of, scalar_of, operator_of}
use Rattle.sheet.specs.Sound.{nth}
use Rattle.machine.specs.declared.State.{State}
use Rattle.machine.specs.declared.State.TheVariants.{Key, KeyValueSeparator, ObjectValue, ParseOpen, ArrayValue}
use Rattle.parse.specs.After.{After, next, done, refused}

-- ---- mixed is on in ParseOpen and ArrayValue alone
abbrev pub Mixes : State → Bool → Type 0
Mixes Key mixed = mixed ≡ false
Mixes KeyValueSeparator mixed = mixed ≡ false
Mixes ObjectValue mixed = mixed ≡ false
Mixes ParseOpen mixed = Unit {0}
Mixes ArrayValue mixed = Unit {0}

-- in what goes on
abbrev pub Mixing : After → Type 0
Mixing (next m t) = Mixes m.state m.mixed
Mixing (done n t) = Unit {0}
Mixing (refused r) = Unit {0}

-- ---- a MixedContainer has a scalar next
pub record Scalar (t : Token) : Type 0 where
  pub kind : ScalarKind
  pub offset : ℕ
  pub size : ℕ
  pub made : t ≡ scalar_of kind offset size

abbrev pub Marked : List Token → Type 0
Marked ts = (i : ℕ) → nth ts i ≡ mixed_container_token → Scalar (nth ts (i + 1))

-- ---- an open container's opener names the container around it, 0 where there is none. Around an open Object that an Equal stands
-- before, the flag is set
-- the operator that only mixed lays down
abbrev pub equal_token : Token
equal_token = operator_of (number_of Equal)

-- an opener whose flag is set
pub record Flagged (t : Token) : Type 0 where
  pub kind : ContainerKind
  pub link : ℕ
  pub made : t ≡ opener_of kind link true

abbrev pub Stored : List Token → ℕ → Type 0
Stored ts around = (around ≡ 0) ⊎ Flagged (nth ts around)

abbrev pub Flags : List Token → Type 0
Flags ts = (i around : ℕ) (mixed : Bool) → nth ts i ≡ equal_token → nth ts (i + 1) ≡ opener_of Object around mixed → around < i + 1
    → Stored ts around
