-- The refusals of a parse: document 01's number and place for each.
use Rattle.std.specs.Prelude.{ℕ}
use Rattle.machine.specs.declared.Refusal.{Refusal}
use Rattle.machine.specs.declared.Refusal.TheVariants.{TooLong, Eof, StackEmpty, NoHeader, NoValue, MixedParameter}
use Rattle.machine.specs.declared.Refusal.TheVariants.{NothingPrecedes, UnknownOperator, NoParameter, OpenName, Full}

-- document 01's number for each refusal: its table, 'Refusal numbers and what stays behind'
abbrev pub number : Refusal → ℕ
number TooLong = 1
number Eof = 2
number (StackEmpty p) = 3
number (NoHeader p) = 4
number (NoValue p) = 5
number (MixedParameter p) = 6
number (NothingPrecedes p) = 7
number (UnknownOperator p) = 8
number (NoParameter p) = 9
number (OpenName p) = 10
number Full = 11

-- and its place
abbrev pub place : Refusal → ℕ
place TooLong = 0
place Eof = 0
place (StackEmpty p) = p
place (NoHeader p) = p
place (NoValue p) = p
place (MixedParameter p) = p
place (NothingPrecedes p) = p
place (UnknownOperator p) = p
place (NoParameter p) = p
place (OpenName p) = p
place Full = 0
