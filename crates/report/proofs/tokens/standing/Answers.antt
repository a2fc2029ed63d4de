-- `report::tokens::standing` meets its contract: no more tokens stand there than were asked for.
-- Assumes nothing.
use native.Mathlib.Omega.{arith}
use Rattle.tape.proofs.Views.{tokens-length}
use Rattle.report.proofs.tokens.standing.Goals as goal

pub overflow_cast-result : goal.overflow_cast-result
overflow_cast-result c =
    let args = c.args in
    omega (arith, c.held.ensures, tokens-length args.tape.now args.count)
