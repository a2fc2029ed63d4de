-- Every tape that a successful parse leaves has views as a sheet owes them: within the text, later ones later, none reaching into
-- the next, and none empty but what stands in quotes.
-- Assumes nothing.
pub mod Spans
pub mod Sheets
pub mod Links
pub mod Laid
pub mod Turns
use mathlib.Core.Path.{◌≡◌, refl}
use mathlib.Core.Bool.{Bool}
use mathlib.Core.List.{List, []}
use Prim.Native.Nat.{ℕ}
use native.Mathlib.Omega.{arith}
use lib.ListN.{length}
use Rattle.tape.specs.Words.{tokens_in}
use Rattle.machine.specs.Start.{start, has_bom}
use Rattle.machine.specs.Finish.{outcome, with_tokens}
use Rattle.parse.specs.Parse.{parse_of}
use Rattle.parse.proofs.Walk.{parse_keeps}
use Rattle.promises.proofs.Rising.Spans.{spans, Upto}
use Rattle.promises.proofs.Rising.Sheets.{Viewed, viewed}
use Rattle.promises.proofs.Rising.Links.{Linked, stands_zero}
use Rattle.promises.proofs.Rising.Laid.{Base}
use Rattle.promises.proofs.Rising.Turns.{Risen, RisenWhole, turn_keeps}

-- a run begins with no token
pub start-kept : (text_length : ℕ) (bom : Bool) → Risen text_length (start bom) []
unfolding start Upto spans
start-kept L bom =
    let bare : Linked 0 0 [] = record { counted = refl; inside = stands_zero []; links = tt } in
    let none : Base L (start bom).at 0 0 [] = record { linked = bare; rising = omega arith } in
    record { base = none; topped = tt }

-- the words of a successful parse hold its tokens, with views as a sheet owes them
pub parse_viewed : (text : List ℕ) (len count : ℕ) (bom : Bool) (words : List ℕ) → parse_of text len ≡ outcome (with_tokens count bom) words
    → Viewed (length text) (tokens_in words count)
parse_viewed text len count bom words e =
    let L : ℕ = length text in
    let ended : RisenWhole L count (tokens_in words count) =
    rw e at (parse_keeps (Risen L) (RisenWhole L) text (start-kept L (has_bom text)) (turn_keeps text) (λ n ts h. h.counted) len)
    in
    viewed L (tokens_in words count) ended.rising
