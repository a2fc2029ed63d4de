-- The library's search for the first byte that passes a test, and the scan of a run: both end at the same place.
-- Assumes nothing.
use mathlib.Core.Path.{◌≡◌, sym, ◌∙◌}
use mathlib.Core.Bool.{Bool}
use mathlib.Core.List.{List, [], ◌∷◌}
use Prim.Native.Nat.{ℕ, ◌+◌, ◌≤◌, min, max}
use native.Mathlib.Omega.{arith}
use borrow.Author.Tests.{eqb-true, eqb-false, ltb-false}
use lib.Dec.{eqb, ltb}
use lib.ListN.{length, drop}
use Rattle.std.specs.Prelude.{Option}
use Rattle.std.specs.List.{position, position_or_len}
use Rattle.std.specs.Option.{unwrap_or}
use Rattle.data.proofs.Cases.{by_bool}
use Rattle.cut.specs.Runs.{stop_from, run_of}
use Rattle.cut.proofs.Runs.{run_none, run_stop, run-at-once}

-- the first place is where the scan ends, as far further on as the scan counts from
stop-place : (stops : ℕ → Bool) (bytes : List ℕ) (at : ℕ) → stop_from stops bytes at ≡ at + position_or_len stops bytes
unfolding stop_from
stop-place stops [] at = omega arith
stop-place stops (b ∷ bs) at =
    by_bool (stops b) (λ t. rw (stop_from, t) (omega arith)) (λ f. rw (stop_from, f) (omega (arith, stop-place stops bs (at + 1))))

place-within : (stops : ℕ → Bool) (bytes : List ℕ) → position_or_len stops bytes ≤ length bytes
place-within stops [] = omega arith
place-within stops (b ∷ bs) = by_bool (stops b) (λ t. rw t (omega arith)) (λ f. rw f (omega (arith, place-within stops bs)))

-- what a search answers, and the number of the bytes where it answers none, is where the scan ends
pub stop-found : (stops : ℕ → Bool) (bytes : List ℕ) (found : Option ℕ) → found ≡ position stops bytes
    → unwrap_or found (length bytes) ≡ stop_from stops bytes 0
stop-found stops bytes found e =
    let p = position_or_len stops bytes in
    by_bool (ltb p (length bytes))
    (λ t. rw (e, t) (omega (arith, stop-place stops bytes 0)))
    (λ f. rw (e, f) (omega (arith, stop-place stops bytes 0, place-within stops bytes, ltb-false p (length bytes) f)))

-- and so it is of what is left of the bytes, as far further on
pub stop-left : (stops : ℕ → Bool) (bytes left : List ℕ) (at n : ℕ) → left ≡ drop at bytes → n ≡ stop_from stops left 0
    → at + n ≡ stop_from stops (drop at bytes) at
stop-left stops bytes left at n e f = rw (← e) (omega (arith, stop-place stops left 0, stop-place stops left at))

-- the run that begins the bytes goes there, and has a byte where there is one
pub run-clamped : (stops : ℕ → Bool) (bytes : List ℕ) (n : ℕ) → n ≡ stop_from stops bytes 0 → min (max n 1) (length bytes) ≡ run_of stops bytes
run-clamped stops bytes n e =
    let within = place-within stops bytes in
    let place = stop-place stops bytes 0 in
    by_bool (eqb (length bytes) 0)
    (λ t. let empty = eqb-true (length bytes) 0 t in sym (run_none stops bytes empty ∙ omega arith))
    (λ f. let some = eqb-false (length bytes) 0 f in
    by_bool (eqb n 0)
    (λ z. let head = eqb-true n 0 z in sym (run-at-once stops bytes (omega arith) (sym e ∙ head) ∙ omega arith))
    (λ g. let later = eqb-false n 0 g in sym (run_stop stops bytes n (sym e) later ∙ omega arith)))
