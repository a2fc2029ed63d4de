-- A part of some bytes, by its bytes and by its place.
-- Assumes nothing.
use mathlib.Core.Path.{◌≡◌, sym, ◌∙◌, ap}
use mathlib.Core.List.{List, []}
use Prim.Native.Nat.{ℕ, ◌+◌, ◌-◌, ◌≤◌, ◌<◌}
use native.Mathlib.Nat.{add_comm}
use native.Mathlib.Omega.{arith}
use borrow.Author.Tests.{lt-ltb, le-ltb}
use lib.ListN.{length, take, drop, drop_of_length-le, length-drop}
use lib.Seq.{take_all, take-nil}
use Rattle.put.specs.Parts.{part_place}

module _ (bytes : List ℕ) (start : ℕ × ℕ) (offset size : ℕ) where
  -- nothing stands there
  pub part_none : length bytes ≤ offset → ([] ≡ take size (drop offset bytes)) × (start ≡ part_place start (length bytes) offset)
  part_none h = (rw (drop_of_length-le bytes h) (sym (take-nil size)), rw (part_place, le-ltb offset (length bytes) h))

  -- the front of what stands there
  pub part-front : {r : List ℕ} {p : ℕ × ℕ} → offset < length bytes → r ≡ take size (take (length bytes - offset) (drop offset bytes))
      → p ≡ (start.0, offset + start.1) → (r ≡ take size (drop offset bytes)) × (p ≡ part_place start (length bytes) offset)
  part-front h e f =
      let all : length (drop offset bytes) ≤ length bytes - offset = omega (arith, length-drop offset bytes) in (
        e ∙ ap (take size) (take_all _ _ all),
        rw (part_place, lt-ltb offset (length bytes) h) (f ∙ ap (λ (n : ℕ). (start.0, n)) (add_comm offset start.1)),
      )
