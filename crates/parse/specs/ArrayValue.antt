-- ArrayValue. `{`: as ObjectValue. `}`: close, own kind, flag = mixed. `<` `>` `!` `=` unmixed: last token scalar, MixedContainer goes in
-- before it, mixed on; last token End and byte `=`, skip it; else 7. Mixed: `<=` `<` `>=` `>` `!=` `==` `=` add an operator (`=` adds
-- Equal); else 8. Else a scalar.
use Rattle.std.specs.Prelude.{ℕ, ◌+◌, ◌-◌, true, false, List, Some, None, eqb}
use Rattle.data.specs.Bytes.{equals}
use Rattle.operator.specs.Operators.{number_of, sighted}
use Rattle.tape.specs.declared.token.Standing as Standing
use Rattle.tape.specs.Token.{operator_of, standing_of}
use Rattle.tape.specs.Tape.{Tape, token_at}
use Rattle.machine.specs.declared.State.TheVariants.{ArrayValue}
use Rattle.machine.specs.declared.Machine.{Machine}
use Rattle.machine.specs.declared.Refusal.TheVariants.{StackEmpty, NothingPrecedes, UnknownOperator}
use Rattle.machine.specs.declared.bytes.ValueByte.TheVariants.{Brace, Closer, Sign, Other}
use Rattle.machine.specs.Machine.{byte_at, to}
use Rattle.machine.specs.Bytes.{value_byte}
use Rattle.parse.specs.After.{After, next, refused, lay_then}
use Rattle.parse.specs.Scalars.{scalar_then}
use Rattle.machine.specs.Parents.{container_at, parent_of, own_kind, nothing_open}
use Rattle.parse.specs.Containers.{open_then, close}
use Rattle.parse.specs.KeyValueSeparator.{mix_then}

-- `}`: close, own kind, flag = mixed; 3 StackEmpty with nothing open, at it
unfoldable pub array_close : Tape → Machine → After
array_close t m =
    elim (nothing_open m.parent (parent_of (container_at t m.parent))) [
      | true ↦ refused (StackEmpty m.at)
      | false ↦ close (own_kind (container_at t m.parent)) (parent_of (container_at t m.parent)) t m
    ]

-- Mixed: `<=` `<` `>=` `>` `!=` `==` `=` add an operator (`=` adds Equal); else 8, at it, minus 1
unfoldable pub operator_then : List ℕ → Tape → Machine → After
operator_then text t m =
    elim (sighted (byte_at text m.at) (byte_at text (m.at + 1))) [
      | Some sign ↦ lay_then (operator_of (number_of sign.operator)) (m.at + sign.width) ArrayValue t m
      | None ↦ refused (UnknownOperator (m.at - 1))
    ]

-- last token End and byte `=`, skip it; else 7, at it, minus 1
unfoldable pub after_end : List ℕ → Tape → Machine → After
after_end text t m =
    elim (eqb (byte_at text m.at) equals) [
      | true ↦ next (to m (m.at + 1) ArrayValue m.count) t
      | false ↦ refused (NothingPrecedes (m.at - 1))
    ]

-- unmixed: last token scalar, MixedContainer goes in before it, mixed on; last token End and byte `=`, skip it; else 7, at it, minus 1
unfoldable pub unmixed_operator : List ℕ → Tape → Machine → After
unmixed_operator text t m =
    elim (standing_of (token_at t (m.count - 1))) [
      | Standing.TheVariants.Unquoted ↦ mix_then t m (operator_then text)
      | Standing.TheVariants.OtherScalar ↦ mix_then t m (operator_then text)
      | Standing.TheVariants.End ↦ after_end text t m
      | Standing.TheVariants.Nothing ↦ refused (NothingPrecedes (m.at - 1))
    ]

-- `<` `>` `!` `=`, mixed and unmixed
unfoldable pub array_operator : List ℕ → Tape → Machine → After
array_operator text t m = elim m.mixed [ true ↦ operator_then text t m | false ↦ unmixed_operator text t m ]

-- what the byte says: `{` as ObjectValue, `}`, an operator byte, or a scalar
unfoldable pub array_value_turn : List ℕ → Tape → Machine → After
array_value_turn text t m =
    elim (value_byte (byte_at text m.at)) [
      | Brace ↦ open_then t m
      | Closer ↦ array_close t m
      | Sign ↦ array_operator text t m
      | Other ↦ scalar_then text ArrayValue t m
    ]
