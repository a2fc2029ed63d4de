-- Case splits that hand over their equation, one for each type that a turn goes by.
-- Assumes nothing.
use Rattle.tape.specs.Token.{opened}
use Rattle.std.specs.Prelude.{Some, None, Option}
use mathlib.Core.Path.{◌≡◌, refl}
use mathlib.Core.Bool.{Bool}
use Prim.Native.Nat.{ℕ}
use Rattle.std.specs.Prelude.{Option, Some, None}
use Rattle.cut.specs.declared.Cut as Cuts
use Rattle.operator.specs.declared.Operator.{Operator}
use Rattle.operator.specs.declared.Sighted.{Sighted}
use Rattle.operator.specs.Operators.{sign}
use Rattle.tape.specs.declared.token.ContainerKind.{ContainerKind}
use Rattle.tape.specs.declared.token.Container as Containers
use Rattle.tape.specs.declared.token.Standing as Standings
use Rattle.machine.specs.declared.State.{State}
use Rattle.machine.specs.declared.State.TheVariants.{Key, KeyValueSeparator, ObjectValue, ParseOpen, ArrayValue}
use Rattle.machine.specs.declared.bytes.KeyByte as KeyBytes
use Rattle.machine.specs.declared.bytes.OpenByte as OpenBytes
use Rattle.machine.specs.declared.bytes.ValueByte as ValueBytes
use Rattle.tape.specs.declared.token.Container.{Container}

pub by_skipped : {P : Type 0} (s : Option ℕ) → ((p : ℕ) → s ≡ Some p → P) → (s ≡ None → P) → P
by_skipped (Some p) f g = f p refl
by_skipped None f g = g refl

pub by-cut : {P : Type 0} (x : Option Cuts.Cut) → ((s e r : ℕ) → x ≡ Some (Cuts.TheVariants.Unquoted s e r) → P)
    → ((s e r : ℕ) (escaped : Bool) → x ≡ Some (Cuts.TheVariants.Quoted s e r escaped) → P) → (x ≡ None → P) → P
by-cut (Some (Cuts.TheVariants.Unquoted s e r)) f g h = f s e r refl
by-cut (Some (Cuts.TheVariants.Quoted s e r escaped)) f g h = g s e r escaped refl
by-cut None f g h = h refl

pub by-sighted : {P : Type 0} (x : Option Sighted) → ((o : Operator) (w : ℕ) → x ≡ sign o w → P)
    → (x ≡ None → P) → P
by-sighted (Some s) f g = f s.operator s.width refl
by-sighted None f g = g refl

pub by-container : {P : Type 0} (x : Option Containers.Container)
    → ((k : ContainerKind) (l : ℕ) (f : Bool) → x ≡ opened k l f → P)
    → (x ≡ None → P) → P
by-container (Some container) f g = f container.kind container.link container.mixed refl
by-container None f g = g refl

pub by-standing : {P : Type 0} (x : Standings.Standing) → (x ≡ Standings.TheVariants.Unquoted → P)
    → (x ≡ Standings.TheVariants.OtherScalar → P) → (x ≡ Standings.TheVariants.End → P) → (x ≡ Standings.TheVariants.Nothing → P)
    → P
by-standing Standings.TheVariants.Unquoted f g h i = f refl
by-standing Standings.TheVariants.OtherScalar f g h i = g refl
by-standing Standings.TheVariants.End f g h i = h refl
by-standing Standings.TheVariants.Nothing f g h i = i refl

pub by_state : {P : Type 0} (s : State) → (s ≡ Key → P) → (s ≡ KeyValueSeparator → P) → (s ≡ ObjectValue → P)
    → (s ≡ ParseOpen → P) → (s ≡ ArrayValue → P) → P
by_state Key a b c d e = a refl
by_state KeyValueSeparator a b c d e = b refl
by_state ObjectValue a b c d e = c refl
by_state ParseOpen a b c d e = d refl
by_state ArrayValue a b c d e = e refl

pub by-key_byte : {P : Type 0} (x : KeyBytes.KeyByte) → (x ≡ KeyBytes.TheVariants.Closer → P) → (x ≡ KeyBytes.TheVariants.Brace → P)
    → (x ≡ KeyBytes.TheVariants.Bracket → P) → (x ≡ KeyBytes.TheVariants.Other → P) → P
by-key_byte KeyBytes.TheVariants.Closer a b c d = a refl
by-key_byte KeyBytes.TheVariants.Brace a b c d = b refl
by-key_byte KeyBytes.TheVariants.Bracket a b c d = c refl
by-key_byte KeyBytes.TheVariants.Other a b c d = d refl

pub by-open_byte : {P : Type 0} (x : OpenBytes.OpenByte) → (x ≡ OpenBytes.TheVariants.Closer → P)
    → (x ≡ OpenBytes.TheVariants.Bracket → P) → (x ≡ OpenBytes.TheVariants.Brace → P) → (x ≡ OpenBytes.TheVariants.Other → P)
    → P
by-open_byte OpenBytes.TheVariants.Closer a b c d = a refl
by-open_byte OpenBytes.TheVariants.Bracket a b c d = b refl
by-open_byte OpenBytes.TheVariants.Brace a b c d = c refl
by-open_byte OpenBytes.TheVariants.Other a b c d = d refl

pub by-value_byte : {P : Type 0} (x : ValueBytes.ValueByte) → (x ≡ ValueBytes.TheVariants.Brace → P)
    → (x ≡ ValueBytes.TheVariants.Closer → P) → (x ≡ ValueBytes.TheVariants.Sign → P) → (x ≡ ValueBytes.TheVariants.Other → P)
    → P
by-value_byte ValueBytes.TheVariants.Brace a b c d = a refl
by-value_byte ValueBytes.TheVariants.Closer a b c d = b refl
by-value_byte ValueBytes.TheVariants.Sign a b c d = c refl
by-value_byte ValueBytes.TheVariants.Other a b c d = d refl
