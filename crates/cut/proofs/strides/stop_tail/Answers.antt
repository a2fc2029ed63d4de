-- `cut::strides::stop_tail` meets its contract: the library's search of what is left ends where the scan from the place on does.
-- Assumes nothing.
use mathlib.Core.Path.{sym, ◌∙◌}
use native.Mathlib.Omega.{arith}
use Rattle.std.proofs.Common.{rules, tests}
use Rattle.std.proofs.lemmas.Iterator.{YieldsList-from_slice}
use Rattle.std.proofs.lemmas.Iterator.Search.{position_from_yields_List}
use Rattle.data.specs.Classes.{is_boundary}
use Rattle.cut.proofs.Positions.{stop-found, stop-left}
use Rattle.cut.proofs.Places.{later-part}
use Rattle.cut.proofs.Runs.{stop_past}
use Rattle.cut.proofs.strides.stop_tail.Goals as goal

pub returns-in-Some : goal.returns-in-Some
returns-in-Some c =
    let d = c.args.d.now in
    let left = c.in-Some.left.now in
    let found = position_from_yields_List is_boundary _ _ c.position.result c.position.ensures.ran
    (YieldsList-from_slice left c.iter.ensures.rest) (λ x b q k. search (rules, tests)) in
    let ends = c.unwrap_or.ensures ∙ stop-found is_boundary left c.position.result found in
    stop-left is_boundary d left c.args.at _ (c.in-Some.ensures.lookup.0.2 ∙ later-part d c.args.at) ends

pub returns-in-None : goal.returns-in-None
returns-in-None c = sym (stop_past is_boundary _ _ (omega (arith, c.in-None.ensures.lookup.0)))
