-- `packed::tokens::token_at` meets its contract.
-- Assumes nothing.
use Rattle.packed.proofs.Packing.{token-read}
use Rattle.packed.proofs.tokens.token_at.Goals as goal

pub returns : goal.returns
returns c = token-read _ _ c.spelt_at.ensures c.spelt_at-2.ensures c.spelt_at-3.ensures
