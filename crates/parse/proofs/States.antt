-- Which turn a state makes.
-- Assumes nothing.
use mathlib.Core.Path.{◌≡◌}
use mathlib.Core.List.{List}
use Prim.Native.Nat.{ℕ}
use Rattle.tape.specs.Tape.{Tape}
use Rattle.machine.specs.declared.State.TheVariants.{Key, KeyValueSeparator, ObjectValue, ParseOpen, ArrayValue}
use Rattle.machine.specs.declared.Machine.{Machine}
use Rattle.parse.specs.Key.{key_turn}
use Rattle.parse.specs.KeyValueSeparator.{separator_turn}
use Rattle.parse.specs.ObjectValue.{object_value_turn}
use Rattle.parse.specs.ParseOpen.{parse_open_turn}
use Rattle.parse.specs.ArrayValue.{array_value_turn}
use Rattle.parse.specs.Parse.{state_turn}

module _ (text : List ℕ) (t : Tape) (m : Machine) where
  pub in_key : m.state ≡ Key → state_turn text t m ≡ key_turn text t m
  unfolding state_turn
  in_key e = cc

  pub in_separator : m.state ≡ KeyValueSeparator → state_turn text t m ≡ separator_turn text t m
  unfolding state_turn
  in_separator e = cc

  pub in_object-value : m.state ≡ ObjectValue → state_turn text t m ≡ object_value_turn text t m
  unfolding state_turn
  in_object-value e = cc

  pub in_parse_open : m.state ≡ ParseOpen → state_turn text t m ≡ parse_open_turn text t m
  unfolding state_turn
  in_parse_open e = cc

  pub in_array-value : m.state ≡ ArrayValue → state_turn text t m ≡ array_value_turn text t m
  unfolding state_turn
  in_array-value e = cc
