-- `cut::parse_variable` meets its contract: the library's search ends where the scan does.
-- Assumes nothing.
use mathlib.Core.Path.{◌∙◌}
use Rattle.std.proofs.Common.{rules, tests}
use Rattle.std.proofs.lemmas.Iterator.{YieldsList-from_slice}
use Rattle.std.proofs.lemmas.Iterator.Search.{position_from_yields_List}
use Rattle.cut.specs.Scalars.{bracket_run, closes_bracket}
use Rattle.cut.proofs.Positions.{stop-found}
use Rattle.cut.proofs.parse_variable.Goals as goal

pub returns : goal.returns
unfolding bracket_run closes_bracket
returns c =
    let d = c.args.d.now in
    let found = position_from_yields_List closes_bracket _ _ c.position.result c.position.ensures.ran
    (YieldsList-from_slice d c.iter.ensures.rest) (λ x b q k. search (rules, tests)) in
    c.unwrap_or.ensures ∙ stop-found closes_bracket d c.position.result found
