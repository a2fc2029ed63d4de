-- KeyValueSeparator. `<=` `<` `>=` `>` `!=` `?=` `==` add an operator; `=` adds none; then ObjectValue. `{`: ObjectValue, not consumed.
-- Else MixedContainer goes in before the key, mixed on, ArrayValue, not consumed.
use Rattle.std.specs.Prelude.{ℕ, ◌+◌, true, false, List, Some, None, eqb}
use Rattle.data.specs.Bytes.{brace_open}
use Rattle.operator.specs.declared.Operator.{Operator}
use Rattle.operator.specs.Operators.{number_of, is_equal, sighted}
use Rattle.tape.specs.Token.{operator_of}
use Rattle.tape.specs.Tape.{Tape, lay_mixed}
use Rattle.machine.specs.declared.State.TheVariants.{ObjectValue}
use Rattle.machine.specs.declared.Machine.{Machine}
use Rattle.machine.specs.Machine.{byte_at, to, mixed_on}
use Rattle.parse.specs.After.{After, next, or_full, lay_then}

-- MixedContainer goes in before the last token, mixed on, ArrayValue, not consumed
unfoldable pub mix_then : Tape → Machine → (Tape → Machine → After) → After
mix_then t m go = or_full (lay_mixed t m.count) (λ n t'. go t' (mixed_on m n))

-- `<=` `<` `>=` `>` `!=` `?=` `==` add an operator; `=` adds none; then ObjectValue
unfoldable pub separator_then : Operator → ℕ → Tape → Machine → After
separator_then operator width t m =
    elim (is_equal operator) [
      | true ↦ next (to m (m.at + width) ObjectValue m.count) t
      | false ↦ lay_then (operator_of (number_of operator)) (m.at + width) ObjectValue t m
    ]

-- an operator; `{`: ObjectValue, not consumed; else MixedContainer goes in before the key
unfoldable pub separator_turn : List ℕ → Tape → Machine → After
separator_turn text t m =
    elim (sighted (byte_at text m.at) (byte_at text (m.at + 1))) [
      | Some sign ↦ separator_then sign.operator sign.width t m
      | None ↦ elim (eqb (byte_at text m.at) brace_open) [
        | true ↦ next (to m m.at ObjectValue m.count) t
        | false ↦ mix_then t m (λ t' m'. next m' t')
      ]
    ]
