-- What is the same with room for k tokens and with room for any number: the answer while all tokens fit, and Full from the first that does not.
-- Assumes nothing.
use mathlib.Core.Path.{◌≡◌, refl, ◌∙◌}
use mathlib.Core.Bool.{Bool, true, false}
use mathlib.Core.List.{List, [], ◌∷◌, ◌++◌}
use Prim.Native.Nat.{ℕ, zero, suc, ◌+◌, ◌-◌, ◌*◌, ◌≤◌, ◌<◌}
use native.Mathlib.Omega.{arith}
use borrow.Author.Tests.{ltb-true, ltb-false}
use lib.Dec.{ltb}
use lib.ListN.{length, length-append}
use Rattle.tape.specs.declared.token.Token.{Token}
use Rattle.tape.specs.Tape.{Tape, holds, unbounded, before_last}
use Rattle.machine.specs.declared.State.{State}
use Rattle.machine.specs.declared.State.TheVariants.{Key, KeyValueSeparator, ObjectValue, ParseOpen, ArrayValue}
use Rattle.machine.specs.declared.Machine.{Machine}
use Rattle.machine.specs.declared.Refusal.TheVariants.{Full}
use Rattle.machine.specs.Refusals.{number}
use Rattle.parse.specs.After.{After, next, done, refused}
use Rattle.parse.proofs.Moves.{Moved, goes, ends, stops}
use Rattle.parse.proofs.Walk.{told, if_room, laying}
use Rattle.promises.specs.Mixed.{Mixes}
use Rattle.promises.specs.Room.{tape_of, laid_by}

-- an answer on a tape with room for k tokens
abbrev pub in_room : ℕ → After → After
in_room k (next m t) = next m (tape_of (holds k) t.tokens)
in_room k (done n t) = done n (tape_of (holds k) t.tokens)
in_room k (refused r) = refused r

-- a key has paid for the MixedContainer that may go in before it
abbrev pub spare : State → ℕ
spare Key = 0
spare KeyValueSeparator = 1
spare ObjectValue = 0
spare ParseOpen = 0
spare ArrayValue = 0

pub spare-few : (s : State) → spare s ≤ 1
spare-few Key = omega arith
spare-few KeyValueSeparator = omega arith
spare-few ObjectValue = omega arith
spare-few ParseOpen = omega arith
spare-few ArrayValue = omega arith

-- a machine on a tape with no bound: the count is that of the tokens, and with two tokens for each byte that is left it is within a budget
pub record Going (text : List ℕ) (budget : ℕ) (m : Machine) (t : Tape) : Type 0 where
  pub free : t.room ≡ unbounded
  pub sized : length t.tokens ≡ m.count
  pub mixes : Mixes m.state m.mixed
  pub paid : m.count + spare m.state + 2 * (length text - m.at) ≤ budget

-- what is known of an answer with no bound: no refusal of it is the eleventh, Full
abbrev pub Known : List ℕ → ℕ → After → Type 0
Known text budget (next m t) = Going text budget m t
Known text budget (done n t) = length t.tokens ≡ n
Known text budget (refused r) = number r < 11

-- from c tokens on to w, which is the count unless it is refused: what is answered with room for k and with no bound
pub record Alike (text : List ℕ) (budget k c w : ℕ) (bounded free : After) : Type 0 where
  pub grows : c ≤ w
  pub most : w ≤ budget + 1
  pub fits : w ≤ k → bounded ≡ in_room k free
  pub full : c ≤ k → k < w → bounded ≡ refused Full
  pub told : laid_by w free ≡ w
  pub known : Known text budget free

-- ---- a result that is told in as much room as there is
-- what is known of a result by which so many tokens have been laid down
abbrev pub Paid : List ℕ → ℕ → ℕ → Moved → Type 0
Paid text budget w (goes m ts) =
    (m.count ≡ w) × (length ts ≡ m.count) × Mixes m.state m.mixed × (m.count + spare m.state + 2 * (length text - m.at) ≤ budget)
Paid text budget w (ends n ts) = (n ≡ w) × (length ts ≡ n) × (n ≤ budget + 1)
Paid text budget w (stops r) = (number r < 11) × (w ≤ budget)

module _ (text : List ℕ) (budget k : ℕ) where
  -- one token more, with the room that there is
  laid_more : (c w : ℕ) (ok : Bool) (x y z : After) → ltb c k ≡ ok → Alike text budget k (c + 1) w x y → (ok ≡ true → z ≡ x)
      → (ok ≡ false → z ≡ refused Full)
      → Alike text budget k c w z y
  laid_more c w true x y z e a f g =
      let fewer : c < k = ltb-true c k e in
      record {
        grows = omega (arith, a.grows);
        most = a.most;
        fits = λ h. f refl ∙ a.fits h;
        full = λ h i. f refl ∙ a.full (omega arith) i;
        told = a.told;
        known = a.known;
      }
  laid_more c w false x y z e a f g =
      let over : k ≤ c = ltb-false c k e in
      record {
        grows = omega (arith, a.grows);
        most = a.most;
        fits = λ h. absurd (omega (arith, a.grows));
        full = λ h i. g refl;
        told = a.told;
        known = a.known;
      }

  told-alike : (c : ℕ) (x : Moved) → Paid text budget c x → Alike text budget k c c (told (holds k) x) (told unbounded x)
  told-alike c (goes m ts) h =
      let known : Going text budget m (tape_of unbounded ts) = record { free = refl; sized = h.1; mixes = h.2; paid = h.3 } in
      record { grows = omega arith; most = omega (arith, h.0, h.3); fits = λ f. refl; full = λ f g. absurd (omega arith); told = h.0; known = known }
  told-alike c (ends n ts) h =
      record { grows = omega arith; most = omega (arith, h.0, h.2); fits = λ f. refl; full = λ f g. absurd (omega arith); told = h.0; known = h.1 }
  told-alike c (stops r) h =
      record { grows = omega arith; most = omega (arith, h.1); fits = λ f. refl; full = λ f g. absurd (omega arith); told = refl; known = h.0 }

  -- so many tokens laid down after c others, and then the result
  pub laying-alike : (c n w : ℕ) (x : Moved) → c + n ≡ w → Paid text budget w x
      → Alike text budget k c w (laying (holds k) c n x) (laying unbounded c n x)
  laying-alike c zero w x e h = let z : c ≡ w = omega arith in rw (← z) (told-alike c x (rw z h))
  laying-alike c (suc n) w x e h =
      laid_more c w (ltb c k) (laying (holds k) (c + 1) n x) (laying unbounded (c + 1) n x) (laying (holds k) c (suc n) x) refl
      (laying-alike (c + 1) n w x (omega arith) h)
      (λ f. rw (laying, if_room, f))
      (λ f. rw (laying, if_room, f))

-- with no bound all are laid down
pub laying-free : (c n : ℕ) (x : Moved) → laying unbounded c n x ≡ told unbounded x
laying-free c zero x = refl
laying-free c (suc n) x = laying-free (c + 1) n x

-- one token more is one more to count
pub added_sized : (ts : List Token) (c : ℕ) (x : Token) → length ts ≡ c → length (ts ++ (x ∷ [])) ≡ c + 1
added_sized ts c x e = rw (length-append ts (x ∷ []), e)

pub mixed-sized : (ts : List Token) (c : ℕ) (x : Token) → length ts ≡ c → length (before_last ts x) ≡ c + 1
mixed-sized [] c x e = rw (← e)
mixed-sized (t ∷ []) c x e = rw (← e)
mixed-sized (t ∷ u ∷ ts) c x e = omega (arith, mixed-sized (u ∷ ts) (length (u ∷ ts)) x refl)
