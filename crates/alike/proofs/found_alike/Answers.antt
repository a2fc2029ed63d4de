-- `alike::found_alike` meets its contract. The invariant: the tokens that are left of both decide.
-- Assumes nothing.
use Rattle.alike.proofs.Same.{found-other, found-short, beside, beside_on, beside_not, beside_end}
use Rattle.alike.proofs.found_alike.Goals as goal

pub returns-then-found-held : goal.returns-then-found-held
returns-then-found-held c = found-other _ _ _ _ _ c.held.ensures c.if-found-held.true

pub returns-then-not-holds : goal.returns-then-not-holds
returns-then-not-holds c =
    found-short _ _ _ _ _ c.held.ensures c.if-found-held.false c.holds.ensures c.if-not-holds.true

pub loop-i-init : goal.loop-i-init
loop-i-init c =
    beside _ _ _ _ _ c.held.ensures c.if-found-held.false c.holds.ensures c.if-not-holds.false

pub returns-then-not-same_token : goal.returns-then-not-same_token
returns-then-not-same_token c =
    beside_not _ _ _ _ _ _ _ c.loop-i.invariant c.loop-i-test.true
    c.token_of-x.ensures c.token_of.ensures c.same_token.ensures c.if-not-same_token.true

pub loop-i-preserved : goal.loop-i-preserved
loop-i-preserved c =
    beside_on _ _ _ _ _ _ _ c.loop-i.invariant c.loop-i-test.true
    c.token_of-x.ensures c.token_of.ensures c.same_token.ensures c.if-not-same_token.false

pub returns : goal.returns
returns c = beside_end _ _ _ _ _ _ _ c.loop-i.invariant c.loop-i-test.false
