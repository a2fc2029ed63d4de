-- The run by the table that parse lends is document 01's.
-- Assumes nothing.
use mathlib.Core.Path.{◌≡◌, ◌∙◌, ap}
use mathlib.Core.List.{List}
use Prim.Native.Nat.{ℕ, ◌+◌, ◌-◌, ◌≤◌, ◌<◌}
use native.Mathlib.Omega.{arith}
use lib.ListN.{length, take, drop}
use Rattle.data.specs.Classes.{classes}
use Rattle.cut.specs.Runs.{run_by, run_end_by, run_end}
use Rattle.cut.proofs.Runs.{run_of-part, run_end_by-classes, run_end-run}

-- cut in the text's later part, with the place added back
pub run_end_lent : (table text : List ℕ) (at n : ℕ) → table ≡ classes → n ≡ run_by table (take (length text - at) (drop at text))
    → at + n ≡ run_end text at
run_end_lent table text at n e f =
    run_of-part table text at n f ∙ ap (λ (c : List ℕ). run_end_by c text at) e ∙ run_end_by-classes text at

pub run_end_fits : (table text : List ℕ) (at n : ℕ) → table ≡ classes → n ≡ run_by table (take (length text - at) (drop at text))
    → at < length text → at + n ≤ length text
run_end_fits table text at n e f h = let r = run_end-run text at h in omega (arith, r.within, run_end_lent table text at n e f)
