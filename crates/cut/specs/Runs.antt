-- An unquoted run goes to the next boundary byte or the end and has at least one byte, boundary or not.
-- Each definition stands twice: by a table of classes that is lent, as the plain cut meets it, and by the thirteen bytes, as the cut by strides
-- and a reader do.
use Rattle.std.specs.Prelude.{ℕ, ◌+◌, Bool, true, false, not, List, [], ◌∷◌, eqb, drop, get_or}
use Rattle.data.specs.Classes.{is_boundary}

-- the place of the first byte that stops a scan, of the bytes that start at a place; past the last byte where none does
unfoldable pub stop_from : (ℕ → Bool) → List ℕ → ℕ → ℕ
stop_from stops [] at = at
stop_from stops (b ∷ bs) at = elim (stops b) [ true ↦ at | false ↦ stop_from stops bs (at + 1) ]

-- how long the run at the head of some bytes is: up to the first byte that stops it, and one byte where that is the head itself
unfoldable pub run_of : (ℕ → Bool) → List ℕ → ℕ
run_of stops [] = 0
run_of stops (b ∷ bs) = elim (stops b) [ true ↦ 1 | false ↦ stop_from stops bs 1 ]

-- the place after the run that starts at a place, where the rest of the text is handed on; that place itself where it is past the end
unfoldable pub run_end_of : (ℕ → Bool) → List ℕ → ℕ → ℕ
run_end_of stops text at = at + run_of stops (drop at text)

-- whether a table gives a byte a class
unfoldable pub classed : List ℕ → ℕ → Bool
classed table b = not (eqb (get_or table b 0) 0)

-- the run by a table of classes, and by the thirteen boundary bytes
unfoldable pub run_by : List ℕ → List ℕ → ℕ
run_by table bytes = run_of (classed table) bytes

unfoldable pub unquoted_run : List ℕ → ℕ
unquoted_run bytes = run_of is_boundary bytes

-- the place after it, by a table of classes, and by the thirteen boundary bytes
unfoldable pub run_end_by : List ℕ → List ℕ → ℕ → ℕ
run_end_by table text at = run_end_of (classed table) text at

unfoldable pub run_end : List ℕ → ℕ → ℕ
run_end text at = run_end_of is_boundary text at
