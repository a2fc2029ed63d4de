-- The BOM, and the machine at the text's start.
use Rattle.std.specs.Prelude.{ℕ, Bool, true, false, ◌&&◌, List, eqb}
use Rattle.machine.specs.declared.State.TheVariants.{Key}
use Rattle.machine.specs.declared.Machine.{Machine}
use Rattle.machine.specs.Machine.{byte_at}

-- a BOM: ef bb bf
abbrev pub bom_first : ℕ
bom_first = 0xef

abbrev pub bom_second : ℕ
bom_second = 0xbb

abbrev pub bom_third : ℕ
bom_third = 0xbf

abbrev pub bom_length : ℕ
bom_length = 3

-- whether the text begins with one
unfoldable pub has_bom : List ℕ → Bool
has_bom text = eqb (byte_at text 0) bom_first && (eqb (byte_at text 1) bom_second && eqb (byte_at text 2) bom_third)

-- Start: Key, parent 0, mixed off, past the BOM
abbrev pub first_place : Bool → ℕ
first_place true = bom_length
first_place false = 0

unfoldable pub start : Bool → Machine
start bom = record { at = first_place bom; state = Key; parent = 0; mixed = false; count = 0 }
