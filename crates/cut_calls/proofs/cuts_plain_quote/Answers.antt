-- `cut_calls::cuts_plain_quote` meets its contract: it tells the length of what the plain cut finds.
-- Assumes nothing.
use mathlib.Core.Path.{◌∙◌, ap}
use lib.ListN.{length}
use Rattle.cut_calls.specs.Lengths.{quote_length}
use Rattle.cut_calls.proofs.cuts_plain_quote.Goals as goal

pub returns : goal.returns
returns c =
    let all = length c.args.d.now in
    c.quote_length.ensures ∙ ap (quote_length all) c.parse_quote_scalar.ensures
