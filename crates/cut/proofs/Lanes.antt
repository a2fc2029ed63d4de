-- What is computed on a word is computed on each of its bytes, where a sum and a difference stay within a byte.
-- Assumes nothing.
use mathlib.Core.Path.{◌≡◌, refl, ◌∙◌, ap₂}
use mathlib.Core.Bool.{Bool, true, ◌&&◌}
use mathlib.Core.List.{List}
use Prim.Native.Nat.{ℕ, ◌+◌, ◌-◌, ◌^◌, ◌≤◌, ◌<◌}
use native.Mathlib.Omega.{arith}
use borrow.Author.Tests.{ltb-true, leb-true}
use lib.Bits.{bit_and, bit_or, bit_xor, and_block, or_block, xor_block, and_lt, or_lt, xor_lt}
use lib.Dec.{ltb, leb}
use lib.ListN.{length}
use Rattle.data.proofs.Cases as cases
use Rattle.data.specs.Classes.{byte_count}
use Rattle.cut.specs.Lanes.{Bytes, Lane, it, all, both, either, differ, plus, minus, word, spread, value, on, over, stays, Stays}
use Rattle.cut.proofs.Words.{Keeps, each, each_word, each-spread, each_op, each-plus, each-apart, each-le}

module _ (e f : Lane) where
  both-stay : ((b : ℕ) → b < 2 ^ 8 → (stays e b && stays f b) ≡ true) → Stays e × Stays f
  both-stay s = (λ b h. (cases.both (stays e b) (stays f b) (s b h)).0, λ b h. (cases.both (stays e b) (stays f b) (s b h)).1)

  stay_and : (t : ℕ → Bool) → ((b : ℕ) → b < 2 ^ 8 → ((stays e b && stays f b) && t b) ≡ true)
      → (Stays e × Stays f) × ((b : ℕ) → b < 2 ^ 8 → t b ≡ true)
  stay_and t s =
      (both-stay (λ b h. (cases.both (stays e b && stays f b) (t b) (s b h)).0), λ b h. (cases.both (stays e b && stays f b) (t b) (s b h)).1)

-- then it is a function from bytes to bytes
pub keeps : (e : Lane) → Stays e → Keeps (on e)
unfolding stays on value
keeps it s b h = h
keeps (all c) s b h = ltb-true c byte_count (s b h)
keeps (both e f) s b h = let p = both-stay e f s in and_lt 8 _ _ (keeps e p.0 b h) (keeps f p.1 b h)
keeps (either e f) s b h = let p = both-stay e f s in or_lt 8 _ _ (keeps e p.0 b h) (keeps f p.1 b h)
keeps (differ e f) s b h = let p = both-stay e f s in xor_lt 8 _ _ (keeps e p.0 b h) (keeps f p.1 b h)
keeps (plus e f) s b h = let p = stay_and e f (λ b. ltb (on e b + on f b) byte_count) s in ltb-true _ _ (p.1 b h)
keeps (minus e f) s b h = let p = stay_and e f (λ b. leb (on f b) (on e b)) s in omega (arith, keeps e p.0.0 b h)

-- the law: computed on a word, it is computed on each of its bytes
pub over-each : (e : Lane) → Stays e → (bs : List ℕ) → Bytes bs → over e (length bs) (word bs) ≡ each (on e) bs
unfolding stays on over value
over-each it s bs h = each_word bs
over-each (all c) s bs h = each-spread c bs
over-each (both e f) s bs h =
    let p = both-stay e f s in
    ap₂ bit_and (over-each e p.0 bs h) (over-each f p.1 bs h)
    ∙ each_op bit_and refl and_block (on e) (on f) (keeps e p.0) (keeps f p.1) bs h
over-each (either e f) s bs h =
    let p = both-stay e f s in
    ap₂ bit_or (over-each e p.0 bs h) (over-each f p.1 bs h)
    ∙ each_op bit_or refl or_block (on e) (on f) (keeps e p.0) (keeps f p.1) bs h
over-each (differ e f) s bs h =
    let p = both-stay e f s in
    ap₂ bit_xor (over-each e p.0 bs h) (over-each f p.1 bs h)
    ∙ each_op bit_xor refl xor_block (on e) (on f) (keeps e p.0) (keeps f p.1) bs h
over-each (plus e f) s bs h =
    let p = stay_and e f (λ b. ltb (on e b + on f b) byte_count) s in
    ap₂ (λ (x y : ℕ). x + y) (over-each e p.0.0 bs h) (over-each f p.0.1 bs h) ∙ each-plus (on e) (on f) bs
over-each (minus e f) s bs h =
    let p = stay_and e f (λ b. leb (on f b) (on e b)) s in
    ap₂ (λ (x y : ℕ). x - y) (over-each e p.0.0 bs h) (over-each f p.0.1 bs h)
    ∙ omega (arith, each-apart (on e) (on f) bs h (λ b l. leb-true _ _ (p.1 b l)))

-- a computation that is at most c at every byte is at most c spread over the word
pub over_below : (e : Lane) → Stays e → (c : ℕ) → ((b : ℕ) → b < 2 ^ 8 → on e b ≤ c) → (bs : List ℕ) → Bytes bs
    → over e (length bs) (word bs) ≤ spread (length bs) c
over_below e s c le bs h = rw (over-each e s bs h, each-spread c bs) (each-le (on e) (λ b. c) bs h le)
