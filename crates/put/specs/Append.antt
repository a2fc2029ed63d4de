-- Bytes put into a lent buffer from a place on, one after another, as far as there is room.
use Rattle.std.specs.Prelude.{ℕ, ◌+◌, ◌-◌, true, false, List, [], ◌∷◌, ◌++◌, ltb, length, set, take, drop, replicate}

-- the place after what was put, and the buffer then
pub data Wrote : Type 0 where
  wrote : ℕ → List ℕ → Wrote

abbrev pub place_of : Wrote → ℕ
place_of (wrote at out) = at

-- each byte at its place, the next at the next; what does not fit is left out, and the place stays where the room ended
unfoldable pub append : List ℕ → ℕ → List ℕ → Wrote
append out at [] = wrote at out
append out at (b ∷ bs) = elim (ltb at (length out)) [ true ↦ append (set out at b) (at + 1) bs | false ↦ wrote at out ]

-- nothing cut short: all of the bytes from the place on, the buffer otherwise as it was, and the place after the last
abbrev pub whole : List ℕ → ℕ → List ℕ → Wrote
whole out at bs = wrote (at + length bs) (take at out ++ bs ++ drop (at + length bs) out)

-- more bytes behind those that were put
abbrev pub and_then : Wrote → List ℕ → Wrote
and_then (wrote at out) bs = append out at bs

-- zeros from a place on
abbrev pub zeroed : List ℕ → ℕ → List ℕ
zeroed bytes at = take at bytes ++ replicate (length bytes - at) 0
