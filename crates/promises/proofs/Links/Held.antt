-- What holds of a machine with its tokens, by its state, and what laying a token down keeps of it.
-- Assumes nothing.
use mathlib.Core.Path.{◌≡◌}
use mathlib.Core.Bool.{Bool, true, false}
use mathlib.Core.List.{List, [], ◌∷◌, ◌++◌}
use Prim.Native.Nat.{ℕ, ◌+◌, ◌-◌, ◌≤◌}
use native.Mathlib.Omega.{arith}
use lib.ListN.{length}
use Rattle.tape.specs.declared.token.Token.{Token}
use Rattle.tape.specs.declared.token.ScalarKind.TheVariants.{Unquoted}
use Rattle.tape.specs.declared.token.ContainerKind.TheVariants.{Array}
use Rattle.tape.specs.Token.{opener_of, quoted_kind}
use Rattle.tape.proofs.Makers.{quoted_headless}
use Rattle.machine.specs.declared.State.{State}
use Rattle.machine.specs.declared.State.TheVariants.{Key, KeyValueSeparator, ObjectValue, ParseOpen, ArrayValue}
use Rattle.machine.specs.declared.Machine.{Machine}
use Rattle.machine.specs.Machine.{to}
use Rattle.parse.specs.After.{After}
use Rattle.parse.proofs.Moves.{Taken, unquoted, quoted}
use Rattle.parse.proofs.Walk as Walk
use Rattle.promises.specs.Mixed.{Scalar, equal_token}
use Rattle.promises.proofs.Links.Rows.{last, add-length, add-last, scalar_made, Plain, plain-scalar, Apart, apart-add}
use Rattle.promises.proofs.Links.Flags.{scalar-no-equal}
use Rattle.promises.proofs.Links.Kept.{Kept, Resting, kept-plain, Tied}

-- the opener whose kind is not yet known
abbrev pub unsettled : Token
unsettled = opener_of Array 0 false

-- an Equal stands last only under mixed
abbrev pub Signed : Bool → List Token → Type 0
Signed mixed ts = last ts ≡ equal_token → mixed ≡ true

-- in ParseOpen the last token is an unsettled opener, which is not yet counted among the open ones; in KeyValueSeparator the
-- last is the key; where a MixedContainer may go in before the last, in KeyValueSeparator and in ArrayValue unmixed, none stands
-- there; only in Key may there be no token
abbrev pub Shaped : State → Bool → ℕ → List Token → Type 0
Shaped Key mixed p ts = Resting ts p
Shaped KeyValueSeparator mixed p ts = Resting ts p × (1 ≤ length ts) × Scalar (last ts) × Apart ts
Shaped ObjectValue mixed p ts = Resting ts p × (1 ≤ length ts) × Signed mixed ts
Shaped ParseOpen mixed p ts = (us : List Token) × (ts ≡ us ++ (unsettled ∷ [])) × Kept us p × (1 ≤ length us) × Signed mixed us
Shaped ArrayValue mixed p ts = Resting ts p × (1 ≤ length ts) × Signed mixed ts × (mixed ≡ false → Apart ts)

-- and the count is that of the tokens
pub record Held (m : Machine) (ts : List Token) : Type 0 where
  pub counted : m.count ≡ length ts
  pub shaped : Shaped m.state m.mixed m.parent ts

-- what a run that is done leaves
pub record Finished (count : ℕ) (ts : List Token) : Type 0 where
  pub counted : count ≡ length ts
  pub tokens : Tied ts

-- so many tokens at rest inside a parent
pub record RestingAt (count p : ℕ) (ts : List Token) : Type 0 where
  pub counted : count ≡ length ts
  pub resting : Resting ts p

-- and at least one
pub record Ready (count p : ℕ) (ts : List Token) : Type 0 where
  pub rest : RestingAt count p ts
  pub some : 1 ≤ length ts

-- what holds of every machine that goes on, with its tokens; what is done is finished
abbrev pub All : (Machine → List Token → Type 0) → After → Type 0
All P x = Walk.All P Finished x

-- a scalar that is cut is a plain token
pub taken-plain : {text : List ℕ} {at : ℕ} {x : Token} {rest : ℕ} → Taken text at x rest → Plain x × Scalar x
taken-plain (unquoted start end rest q) = (plain-scalar Unquoted start (end - start) tt, scalar_made Unquoted start (end - start))
taken-plain (quoted start end rest escaped q) =
    (plain-scalar (quoted_kind escaped) start (end - start) (rw (quoted_headless escaped) tt), scalar_made (quoted_kind escaped) start (end - start))

-- ---- a plain token laid down
-- one more token, counted
pub counted-add : (ts : List Token) (x : Token) {n : ℕ} → n ≡ length ts → n + 1 ≡ length (ts ++ (x ∷ []))
counted-add ts x e = omega (arith, add-length ts x)

-- a state that a token may come before: one in which no opener is unsettled, KeyValueSeparator only after a scalar, and a state
-- that asks for a value after an Equal only under mixed
abbrev pub Before : State → Bool → Token → Type 0
Before Key mixed x = Unit {0}
Before KeyValueSeparator mixed x = Scalar x
Before ObjectValue mixed x = x ≡ equal_token → mixed ≡ true
Before ParseOpen mixed x = ⊥
Before ArrayValue mixed x = x ≡ equal_token → mixed ≡ true

-- a state that a scalar may come before
abbrev pub Settled : State → Type 0
Settled Key = Unit {0}
Settled KeyValueSeparator = Unit {0}
Settled ObjectValue = Unit {0}
Settled ParseOpen = ⊥
Settled ArrayValue = Unit {0}

pub settled_before : (state : State) (mixed : Bool) (x : Token) → Settled state → Scalar x → Before state mixed x
settled_before Key mixed x d s = tt
settled_before KeyValueSeparator mixed x d s = s
settled_before ObjectValue mixed x d s = λ e. scalar-no-equal s e
settled_before ParseOpen mixed x d s = d
settled_before ArrayValue mixed x d s = λ e. scalar-no-equal s e

-- a plain token may come before any such state
pub rest-add : (ts : List Token) (x : Token) (p : ℕ) → Resting ts p → Plain x → (state : State) (mixed : Bool) → Before state mixed x
    → Shaped state mixed p (ts ++ (x ∷ []))
rest-add ts x p r plain Key mixed d = kept-plain ts x r plain
rest-add ts x p r plain KeyValueSeparator mixed d =
    (kept-plain ts x r plain, omega (arith, add-length ts x), rw (add-last ts x) d, apart-add ts x r.kept.row)
rest-add ts x p r plain ObjectValue mixed d = (kept-plain ts x r plain, omega (arith, add-length ts x), rw (add-last ts x) d)
rest-add ts x p r plain ParseOpen mixed d = absurd d
rest-add ts x p r plain ArrayValue mixed d =
    (kept-plain ts x r plain, omega (arith, add-length ts x), rw (add-last ts x) d, λ e. apart-add ts x r.kept.row)

-- a machine that has laid one down
pub added : (m : Machine) (ts : List Token) (x : Token) (at : ℕ) (state : State) → RestingAt m.count m.parent ts → Plain x
    → Before state m.mixed x
    → Held (to m at state (m.count + 1)) (ts ++ (x ∷ []))
added m ts x at state r plain d = record { counted = counted-add ts x r.counted; shaped = rest-add ts x m.parent r.resting plain state m.mixed d }
