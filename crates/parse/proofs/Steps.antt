-- What a step leaves due, taken apart. The scalar: what stands there, room for its token, and what is left past it; the operator of a mixed
-- container; the parameter.
-- Assumes nothing.
use mathlib.Core.Path.{◌≡◌, refl, sym, ◌∙◌, ap}
use mathlib.Core.Bool.{Bool, true, false}
use mathlib.Core.List.{List}
use Prim.Native.Nat.{ℕ, ◌+◌, ◌-◌}
use lib.Dec.{eqb}
use Rattle.data.proofs.Cases.{by_bool}
use Rattle.data.specs.Bytes.{exclamation, bracket_open}
use Rattle.std.specs.Prelude.{Option, Some, None}
use Rattle.cut.specs.declared.Cut.{Cut}
use Rattle.cut.specs.declared.Cut.TheVariants as Cuts
use Rattle.cut.specs.Scalars.{scalar_cut}
use Rattle.tape.specs.declared.token.ContainerKind.TheVariants.{Object}
use Rattle.tape.specs.Token.{opener_of}
use Rattle.tape.specs.Tape.{Tape, Laying, laid, full, lay, replace}
use Rattle.machine.specs.declared.State.{State}
use Rattle.machine.specs.declared.State.TheVariants.{Key, KeyValueSeparator, ObjectValue, ParseOpen, ArrayValue}
use Rattle.machine.specs.declared.Machine.{Machine}
use Rattle.machine.specs.declared.Refusal.TheVariants.{Eof, MixedParameter}
use Rattle.parse.specs.declared.scalars.Scalar.{Scalar}
use Rattle.std.specs.Prelude.{Option, Some, None}
use Rattle.machine.specs.Machine.{byte_at, to, within, mixed_on, is_parse_open}
use Rattle.parse.specs.After.{After, next, refused, and_then, or_full, lay_then}
use Rattle.parse.specs.Scalars.{scalar_found, cut_then, scalar_then}
use Rattle.parse.specs.ParseOpen.{flag_parent, open_as, open_parameter, open_scalar}
use Rattle.parse.specs.ArrayValue.{operator_then, unmixed_operator, array_operator}
use Rattle.parse.specs.Parameter.{name_kind, name_start, parameter_name, parameter}
use Rattle.parse.specs.Step.{entry, entered}

module _ (text : List ℕ) (m : Machine) where
  -- what was found is added and passed, or the text ends in it
  abbrev pub taken : Option Scalar → State → Tape → After
  taken (Some s) state t = or_full (lay t m.count s.token) (λ n t'. entered text t' (to m s.rest state n))
  taken None state t = refused Eof

  open_past : (l : Laying) (rest : ℕ)
      → and_then (or_full l (λ n t'. next (to m rest ParseOpen n) t')) (λ t' m'. open_as text (flag_parent t' m') m')
      ≡ or_full l (λ n t'. entered text t' (to m rest ParseOpen n))
  unfolding entered
  open_past (laid n t) rest = refl
  open_past full rest = refl

  plain-past : (l : Laying) (rest : ℕ) (state : State) → is_parse_open state ≡ false
      → or_full l (λ n t'. next (to m rest state n) t') ≡ or_full l (λ n t'. entered text t' (to m rest state n))
  unfolding entered
  plain-past (laid n t) rest state e = rw (entered, e)
  plain-past full rest state e = refl

  open_taken : (x : Option Cut) (t : Tape)
      → and_then (cut_then x ParseOpen t m) (λ t' m'. open_as text (flag_parent t' m') m') ≡ taken (scalar_found x) ParseOpen t
  unfolding lay_then
  open_taken (Some (Cuts.Unquoted start end rest)) t = open_past (lay t m.count _) rest
  open_taken (Some (Cuts.Quoted start end rest escaped)) t = open_past (lay t m.count _) rest
  open_taken None t = refl

  plain-taken : (x : Option Cut) (state : State) (t : Tape) → is_parse_open state ≡ false → cut_then x state t m ≡ taken (scalar_found x) state t
  unfolding lay_then
  plain-taken (Some (Cuts.Unquoted start end rest)) state t e = plain-past (lay t m.count _) rest state e
  plain-taken (Some (Cuts.Quoted start end rest escaped)) state t e = plain-past (lay t m.count _) rest state e
  plain-taken None state t e = refl

  pub entry_taken : (state : State) (t : Tape) → entry text state t m ≡ taken (scalar_found (scalar_cut text m.at)) state t
  unfolding entry open_scalar scalar_then
  entry_taken Key t = plain-taken (scalar_cut text m.at) Key t refl
  entry_taken KeyValueSeparator t = plain-taken (scalar_cut text m.at) KeyValueSeparator t refl
  entry_taken ObjectValue t = plain-taken (scalar_cut text m.at) ObjectValue t refl
  entry_taken ParseOpen t = open_taken (scalar_cut text m.at) t
  entry_taken ArrayValue t = plain-taken (scalar_cut text m.at) ArrayValue t refl

module _ (text : List ℕ) (t : Tape) (m : Machine) where
  -- an operator, by the flag in force
  abbrev by_flag : Bool → After
  by_flag mixed = elim mixed [ true ↦ operator_then text t m | false ↦ unmixed_operator text t m ]

  -- of a container that is mixed already: mixed goes on again, and nothing changes
  pub operator_mixed : m.mixed ≡ true → operator_then text t (mixed_on m m.count) ≡ array_operator text t m
  unfolding array_operator operator_then lay_then
  operator_mixed e =
      ap (λ (b : Bool). operator_then text t (record { at = m.at; state = ArrayValue; parent = m.parent; mixed = b; count = m.count })) (sym e)
      ∙ sym (ap by_flag e)

  -- a parameter that opens a container which is not mixed
  abbrev opened : After
  opened = parameter text (replace t (m.count - 1) (opener_of Object m.parent false)) (within m (m.count - 1))

  pub parameter-opens : m.mixed ≡ false → open_parameter text t m ≡ opened
  unfolding open_parameter
  parameter-opens e = ap (λ (b : Bool). elim b [ true ↦ refused (MixedParameter m.at) | false ↦ opened ]) e

  -- a parameter by its name's kind and place, as one call reads both
  pub parameter_read : byte_at text (m.at + 1) ≡ bracket_open → parameter text t m
      ≡ parameter_name text (name_kind (eqb (byte_at text (m.at + 2)) exclamation)) (name_start m.at (eqb (byte_at text (m.at + 2)) exclamation)) t m
  unfolding parameter name_kind name_start
  parameter_read e =
      by_bool (eqb (byte_at text (m.at + 2)) exclamation)
      (λ b. rw (parameter, e, b))
      (λ b. rw (parameter, e, b))
