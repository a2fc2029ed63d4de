-- What stands at a place of a text, where the text from there on is taken apart.
-- Assumes nothing.
use mathlib.Core.Path.{◌≡◌}
use mathlib.Core.List.{List, ◌∷◌}
use Prim.Native.Nat.{ℕ, ◌+◌, ◌-◌, ◌≤◌, ◌<◌}
use native.Mathlib.Numerals.{add-one}
use native.Mathlib.Omega.{arith}
use borrow.Author.Tests.{ltb-true, ltb-false}
use lib.Dec.{ltb}
use lib.ListN.{length, get_or, take, drop, length-drop}
use lib.Seq.{drop-cons, take_all}
use Rattle.data.proofs.Cases.{by_bool}

-- the text from a place within it on is the byte there, and the text from the next place on
pub drop_here : (text : List ℕ) (at : ℕ) → at < length text → drop at text ≡ get_or text at 0 ∷ drop (at + 1) text
drop_here text at h = rw (add-one, drop-cons text at 0)

-- a slice's later part, as the code lends it, is the text from that place on
pub later-part : (text : List ℕ) (at : ℕ) → take (length text - at) (drop at text) ≡ drop at text
later-part text at = take_all (length text - at) (drop at text) (rw length-drop (omega arith))

-- by whether a place is within the text
pub by_place {ℓ} : {P : Type ℓ} (text : List ℕ) (at : ℕ) → (at < length text → P) → (length text ≤ at → P) → P
by_place text at inside past = by_bool (ltb at (length text)) (λ t. inside (ltb-true at (length text) t)) (λ f. past (ltb-false at (length text) f))
