-- What each turn keeps: so many bytes stand in their places.
use Rattle.std.proofs.Common.{◌≡◌, ◌*◌, length, take}
use Rattle.put.proofs.copy_over.Given as goal

abbrev pub invariant-loop-i : goal.invariant-loop-i
invariant-loop-i l = (length l.out ≡ length l.bytes) × (take l.i l.out ≡ take l.i l.bytes)

abbrev pub invariant-loop-turn : goal.invariant-loop-turn
invariant-loop-turn l = (length l.out ≡ length l.bytes) × (take (l.turn * 4) l.out ≡ take (l.turn * 4) l.bytes)
