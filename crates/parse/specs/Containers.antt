-- Opening a container, leaving one, and the text's end inside one.
use Rattle.std.specs.Prelude.{ℕ, ◌+◌, Bool, true, false, eqb}
use Rattle.tape.specs.declared.token.ContainerKind.{ContainerKind}
use Rattle.tape.specs.declared.token.ContainerKind.TheVariants.{Array, Object}
use Rattle.tape.specs.Token.{opener_of, end_of}
use Rattle.tape.specs.Tape.{Tape, replace, lay}
use Rattle.machine.specs.declared.State.TheVariants.{ParseOpen}
use Rattle.machine.specs.declared.Machine.{Machine}
use Rattle.machine.specs.declared.Refusal.TheVariants.{Eof}
use Rattle.machine.specs.Machine.{is_key}
use Rattle.machine.specs.Parents.{container_at, parent_of, resumed}
use Rattle.parse.specs.After.{After, next, done, refused, or_full, lay_then}

-- `{` where a value is due: Array added, ParseOpen
unfoldable pub open_then : Tape → Machine → After
open_then t m = lay_then (opener_of Array 0 false) (m.at + 1) ParseOpen t m

-- opener i is closed as a kind with a flag: it names its End, and its End names it
unfoldable pub close_at : ℕ → ContainerKind → Bool → Tape → Machine → (ℕ → Tape → After) → After
close_at i kind mixed t m go = or_full (lay (replace t i (opener_of kind m.count mixed)) m.count (end_of i)) go

-- the container that the machine is in is closed as a kind with the flag in force, and its parent taken up
unfoldable pub close : ContainerKind → ℕ → Tape → Machine → After
close kind grand t m = close_at m.parent kind m.mixed t m (λ n t'. next (resumed (container_at t grand) grand (m.at + 1) n) t')

-- Text end in Key: with no parent, done; with a parent at top level, End is added, it is an unmixed Object, done; deeper, Eof (2)
unfoldable pub key_end : Tape → Machine → After
key_end t m =
    elim (eqb m.parent 0) [
      | true ↦ done m.count t
      | false ↦ elim (eqb (parent_of (container_at t m.parent)) 0) [
        | true ↦ close_at m.parent Object false t m (λ n t'. done n t')
        | false ↦ refused Eof
      ]
    ]

-- Text end there: Eof (2) unless Key
unfoldable pub text_end : Tape → Machine → After
text_end t m = elim (is_key m.state) [ true ↦ key_end t m | false ↦ refused Eof ]
