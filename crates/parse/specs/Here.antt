-- A machine that stands at a byte of a text, with the words that are lent to it.
use Rattle.std.specs.Prelude.{List, ℕ}
use Rattle.tape.specs.Tape.{Tape, view}
use Rattle.machine.specs.declared.Machine.{Machine}
use Rattle.parse.specs.declared.here.Here.{Here}
use Rattle.parse.specs.declared.step.Step.{Step}
use Rattle.parse.specs.After.{After}
use Rattle.parse.specs.Step.{stepped}

-- what a turn, or a part of one, makes of them
abbrev pub from_here : (List ℕ → Tape → Machine → After) → Here → List ℕ → After
from_here part h ws = part h.text.bytes.now (view ws h.m.count) h.m

-- what a step from there says together with the words that it leaves
abbrev pub stepped_here : Step → Here → List ℕ → After
stepped_here s h ws = stepped h.text.bytes.now s ws h.m
