-- A scalar: a quoted run, with an escape or without, `@[` through its `]`, or an unquoted run, each a token, and then a state.
use Rattle.std.specs.Prelude.{ℕ, ◌-◌, List, Option, Some, None}
use Rattle.cut.specs.declared.Cut.{Cut}
use Rattle.cut.specs.declared.Cut.TheVariants.{Unquoted, Quoted}
use Rattle.cut.specs.Scalars.{scalar_cut}
use Rattle.tape.specs.declared.token.ScalarKind as ScalarKind
use Rattle.tape.specs.declared.token.Token.{Token}
use Rattle.tape.specs.Token.{scalar_of, quoted_kind}
use Rattle.tape.specs.Tape.{Tape}
use Rattle.machine.specs.declared.State.{State}
use Rattle.machine.specs.declared.Machine.{Machine}
use Rattle.machine.specs.declared.Refusal.TheVariants.{Eof}
use Rattle.parse.specs.declared.scalars.Scalar.{Scalar}
use Rattle.parse.specs.After.{After, refused, lay_then}

-- a token, and the place after it
abbrev pub found : Token → ℕ → Option Scalar
found token rest = Some (record { token = token; rest = rest })

-- what a cut finds, as a token and the place after it
abbrev pub scalar_found : Option Cut → Option Scalar
scalar_found (Some (Unquoted start end rest)) = found (scalar_of ScalarKind.TheVariants.Unquoted start (end - start)) rest
scalar_found (Some (Quoted start end rest escaped)) = found (scalar_of (quoted_kind escaped) start (end - start)) rest
scalar_found None = None

-- a cut scalar is added; one that the text ends in is Eof (2)
abbrev pub cut_then : Option Cut → State → Tape → Machine → After
cut_then (Some (Unquoted start end rest)) state t m = lay_then (scalar_of ScalarKind.TheVariants.Unquoted start (end - start)) rest state t m
cut_then (Some (Quoted start end rest escaped)) state t m = lay_then (scalar_of (quoted_kind escaped) start (end - start)) rest state t m
cut_then None state t m = refused Eof

-- the scalar at the machine's place is added, and the machine goes on past it in a state
unfoldable pub scalar_then : List ℕ → State → Tape → Machine → After
scalar_then text state t m = cut_then (scalar_cut text m.at) state t m
