-- `packed::tokens::put_token` meets its contract.
-- Assumes nothing.
use Rattle.packed.proofs.Packing.{token-put}
use Rattle.packed.proofs.tokens.put_token.Goals as goal

pub returns : goal.returns
returns c =
    token-put _ _ _ c.spell_at.ensures c.spell_at-2.ensures c.spell_at-3.ensures
