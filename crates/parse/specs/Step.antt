-- A step of any state: a whole turn, or what is due that is come to in more than one place: a scalar, an operator among values, a parameter. The
-- code takes turns by steps for speed, and the definitions of the turns know nothing of them.
use Rattle.std.specs.Prelude.{ℕ, true, false, List}
use Rattle.tape.specs.Tape.{Tape, view}
use Rattle.machine.specs.declared.State.{State}
use Rattle.machine.specs.declared.Machine.{Machine}
use Rattle.machine.specs.Machine.{within, mixed_on, is_parse_open}
use Rattle.parse.specs.declared.step.Step.{Step}
use Rattle.parse.specs.declared.step.Step.TheVariants.{Turned, Scalar, Operator, Parameter}
use Rattle.parse.specs.After.{After, after, next}
use Rattle.parse.specs.Scalars.{scalar_then}
use Rattle.parse.specs.ParseOpen.{flag_parent, open_as, open_scalar}
use Rattle.parse.specs.ArrayValue.{operator_then}
use Rattle.parse.specs.Parameter.{parameter}

-- the scalar that is due, and in ParseOpen what the next byte says
unfoldable pub entry : List ℕ → State → Tape → Machine → After
entry text state t m = elim (is_parse_open state) [ true ↦ open_scalar text t m | false ↦ scalar_then text state t m ]

-- what is left of it past the scalar
unfoldable pub entered : List ℕ → Tape → Machine → After
entered text t m = elim (is_parse_open m.state) [ true ↦ open_as text (flag_parent t m) m | false ↦ next m t ]

-- what a step says together with the words that it leaves
abbrev pub stepped : List ℕ → Step → List ℕ → Machine → After
stepped text (Turned r) ws m = after r ws
stepped text (Scalar state) ws m = entry text state (view ws m.count) m
stepped text (Operator count) ws m = operator_then text (view ws count) (mixed_on m count)
stepped text (Parameter parent) ws m = parameter text (view ws m.count) (within m parent)
