-- A run of turns: it composes, and the turns that it is given are enough, so that more change nothing.
-- Assumes nothing.
use mathlib.Core.Path.{◌≡◌, refl, sym, ◌∙◌}
use mathlib.Core.List.{List}
use Prim.Native.Nat.{ℕ, zero, suc, ◌+◌, ◌<◌}
use native.Mathlib.Nat.{zero-add, suc-add, not-suc-le-zero}
use native.Mathlib.Omega.{arith}
use Rattle.tape.specs.Tape.{Tape, empty_tape}
use Rattle.machine.specs.declared.Machine.{Machine}
use Rattle.machine.specs.declared.Refusal.{Refusal}
use Rattle.parse.specs.After.{After, next, done, refused}
use Rattle.machine.specs.Start.{has_bom, start}
use Rattle.parse.specs.Parse.{turn, run, enough}
use Rattle.parse.proofs.Walk.{All}
use Rattle.parse.proofs.Falls.{left, rank-few, Fewer, Any, turn_falls}

-- what has ended stays as it is
pub run-done : (text : List ℕ) (n k : ℕ) (t : Tape) → run text n (done k t) ≡ done k t
unfolding run
run-done text zero k t = refl
run-done text (suc n) k t = refl

pub run-refused : (text : List ℕ) (n : ℕ) (r : Refusal) → run text n (refused r) ≡ refused r
unfolding run
run-refused text zero r = refl
run-refused text (suc n) r = refl

-- one turn, and the rest
pub run-turn : (text : List ℕ) (n : ℕ) (m : Machine) (t : Tape) → run text (suc n) (next m t) ≡ run text n (turn text t m)
unfolding run
run-turn text n m t = refl

-- running some turns and then others is running them all
pub run-add : (text : List ℕ) (a b : ℕ) (x : After) → run text (a + b) x ≡ run text b (run text a x)
unfolding run
run-add text zero b x = rw (zero-add b)
run-add text (suc a) b (next m t) = rw (suc-add a b) (run-add text a b (turn text t m))
run-add text (suc a) b (done k t) = run-done text (suc a + b) k t ∙ sym (run-done text b k t)
run-add text (suc a) b (refused r) = run-refused text (suc a + b) r ∙ sym (run-refused text b r)

module _ (text : List ℕ) (bound : ℕ) where
  each : (n k : ℕ) (x : After) → ((m : Machine) (t : Tape) → left text m.at m.state < bound → run text n (next m t) ≡ run text k (next m t))
      → All (Fewer text bound) Any x → run text n x ≡ run text k x
  each n k (next m t) f h = f m t h
  each n k (done c t) f h = run-done text n c t ∙ sym (run-done text k c t)
  each n k (refused r) f h = run-refused text n r ∙ sym (run-refused text k r)

-- with more turns than are left, how many more does not matter
pub run-enough : (text : List ℕ) (n k : ℕ) (m : Machine) (t : Tape) → left text m.at m.state < n → left text m.at m.state < k
    → run text n (next m t) ≡ run text k (next m t)
run-enough text zero k m t h g = absurd (not-suc-le-zero h)
run-enough text (suc n) zero m t h g = absurd (not-suc-le-zero g)
run-enough text (suc n) (suc k) m t h g =
    rw (run-turn text n m t, run-turn text k m t)
    (each text (left text m.at m.state) n k (turn text t m)
    (λ m' t' l. run-enough text n k m' t' (omega arith) (omega arith))
    (turn_falls text t m))

-- nothing goes on
abbrev pub Ended : After → Type 0
Ended x = All (λ m ts. ⊥) Any x

ends-each : (text : List ℕ) (bound n : ℕ) (x : After)
    → ((m : Machine) (t : Tape) → left text m.at m.state < bound → Ended (run text n (next m t)))
    → All (Fewer text bound) Any x → Ended (run text n x)
ends-each text bound n (next m t) f h = f m t h
ends-each text bound n (done c t) f h = rw (run-done text n c t) tt
ends-each text bound n (refused r) f h = rw (run-refused text n r) tt

-- and a run with more turns than are left has ended
pub run_ends : (text : List ℕ) (n : ℕ) (m : Machine) (t : Tape) → left text m.at m.state < n → Ended (run text n (next m t))
run_ends text zero m t h = absurd (not-suc-le-zero h)
run_ends text (suc n) m t h =
    rw (run-turn text n m t)
    (ends-each text (left text m.at m.state) n (turn text t m) (λ m' t' l. run_ends text n m' t' (omega arith)) (turn_falls text t m))

-- a text's turns are enough from any place
pub within-enough : (text : List ℕ) (m : Machine) → left text m.at m.state < enough text
within-enough text m = omega (arith, rank-few m.state)

-- the run that a parse makes has ended, so that `answer` never meets a machine that goes on
pub parse_ends : (text : List ℕ) (len : ℕ) → Ended (run text (enough text) (next (start (has_bom text)) (empty_tape len)))
parse_ends text len = run_ends text (enough text) (start (has_bom text)) (empty_tape len) (within-enough text (start (has_bom text)))
