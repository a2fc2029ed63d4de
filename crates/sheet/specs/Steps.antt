-- What the parts of the check tell: of one token, of the views in order, of the links.
use Rattle.std.specs.Prelude.{ℕ, ◌+◌, ◌≤◌, ◌<◌, Bool, true, false, ◌≡◌, List, eqb, ltb, length, Option, Some, None}
use Rattle.tape.specs.declared.token.Token.{Token}
use Rattle.tape.specs.declared.token.ScalarKind.{ScalarKind}
use Rattle.tape.specs.declared.shape.Shape.{Shape}
use Rattle.tape.specs.declared.shape.Shape.TheVariants.{Opener, MixedContainer, Scalar, Operator, End}
use Rattle.tape.specs.Token.{may_be_empty, is_header}
use Rattle.tape.specs.Shape.{Opens}
use Rattle.sheet.specs.Sound.{nth, Views, Form, Closed, Opened, Nested, InText, Within, Filled, Headed}

-- what can be said of token i by itself
pub record Held (text_length : ℕ) (ts : List Token) (i : ℕ) : Type 0 where
  pub form : Form (nth ts i)
  pub closed : Closed ts i
  pub opened : Opened ts i
  pub within : Within text_length ts i
  pub filled : Filled ts i
  pub top : i ≡ 0 → (end : ℕ) → Opens (nth ts i) end → ⊥
  pub headed : Headed ts i

-- any later scalar starts later, and past the end of any before it
abbrev pub Spaced : List Token → ℕ → Type 0
Spaced ts j =
    (i offset size later more : ℕ) → i < j → Views (nth ts i) offset size → Views (nth ts j) later more
    → (offset < later) × (offset + size ≤ later)

-- all but the nesting
pub record AllStand (text_length : ℕ) (ts : List Token) : Type 0 where
  pub held : (i : ℕ) → i < length ts → Held text_length ts i
  pub spaced : (j : ℕ) → j < length ts → Spaced ts j

-- openers and Ends name each other
pub record Linked (ts : List Token) : Type 0 where
  pub closed : (i : ℕ) → Closed ts i
  pub opened : (i : ℕ) → Opened ts i

-- tokens that can be laid down along a chain of the containers that are open: beside the links, each has its form, and token 0 opens nothing
pub record Layable (ts : List Token) : Type 0 where
  pub linked : Linked ts
  pub forms : (i : ℕ) → i < length ts → Form (nth ts i)
  pub top : (end : ℕ) → Opens (nth ts 0) end → ⊥

-- the least start that the next scalar may have, after one at an offset
abbrev pub past : ℕ → ℕ → ℕ
past offset size = elim (eqb size 0) [ true ↦ offset + 1 | false ↦ offset + size ]

-- the same after a token of a shape, unless that starts too early
unfoldable pub floor_after : Option Shape → ℕ → Option ℕ
floor_after (Some (Scalar kind offset size)) floor = elim (ltb offset floor) [ true ↦ None | false ↦ Some (past offset size) ]
floor_after (Some (Opener end)) floor = Some floor
floor_after (Some MixedContainer) floor = Some floor
floor_after (Some (Operator number)) floor = Some floor
floor_after (Some (End opener)) floor = Some floor
floor_after None floor = Some floor

-- what a scalar's view and what follows it owe
pub record Suited (text_length : ℕ) (ts : List Token) (next : ℕ) (kind : ScalarKind) (offset size : ℕ) : Type 0 where
  pub within : InText text_length offset size
  pub filled : size ≡ 0 → may_be_empty kind ≡ true
  pub headed : is_header kind ≡ true → (end : ℕ) × Opens (nth ts next) end

-- an opener that can be walked: the links hold, and the containers after it nest
pub record Walkable (ts : List Token) (i end : ℕ) : Type 0 where
  pub linked : Linked ts
  pub opener : Opens (nth ts i) end
  pub later : (k : ℕ) → i < k → Nested ts k

-- what a walk tells of its container, and a sheet whose containers nest of the walk
pub record Walked (ts : List Token) (i : ℕ) (answer : Bool) : Type 0 where
  pub nests : answer ≡ true → Nested ts i
  pub passes : ((k : ℕ) → Nested ts k) → answer ≡ true
