-- What each turn keeps, and what gets less.
use Prim.Native.Nat.{◌≤◌}
use Rattle.packed.specs.Source.{tokens}
use Rattle.sheet.proofs.Scan.{Scanned}
use Rattle.sheet.proofs.stands.all_stand.Given as goal

abbrev pub invariant-loop-i : goal.invariant-loop-i
invariant-loop-i l = (l.i ≤ l.source.count) × Scanned l.text_length (tokens l.source) l.i l.floor
