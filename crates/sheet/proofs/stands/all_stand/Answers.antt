-- `sheet::stands::all_stand` meets its contract. The invariant: what the tokens before i have shown; the measure is how many are left.
-- Assumes nothing.
use native.Mathlib.Omega.{arith}
use Rattle.sheet.proofs.Tokens.{read-shape}
use Rattle.sheet.proofs.Scan.{scanned_more, read-floor, stand_all, stand_unheld, stand_passed}
use Rattle.sheet.proofs.stands.all_stand.Goals as goal

pub token_stands-requires : goal.token_stands-requires
token_stands-requires c =
    (c.requires, c.loop-i-test.true, read-shape _ _ _ c.token.ensures c.shape_of-shape.ensures)

pub returns-then-not-token_stands : goal.returns-then-not-token_stands
returns-then-not-token_stands c =
    stand_unheld _ _ _ c.requires _ c.loop-i-test.true
    c.token_stands.ensures
    c.if-not-token_stands.true

pub returns-in_default : goal.returns-in_default
returns-in_default c =
    stand_passed _ _ _ c.requires _ c.loop-i-test.true c.loop-i.invariant.1
    (read-floor _ _ (read-shape _ _ _ c.token.ensures c.shape_of-shape.ensures)
    c.raised.ensures
    c.in_default.is)

pub loop-i-preserved : goal.loop-i-preserved
loop-i-preserved c =
    let here = c.token_stands.ensures.0 c.if-not-token_stands.false in (
      omega arith,
      scanned_more _ _ _ _ c.loop-i.invariant.1 here
          (read-floor _ _ (read-shape _ _ _ c.token.ensures c.shape_of-shape.ensures)
          c.raised.ensures
          c.in-Some.is),
    )

pub returns : goal.returns
returns c = stand_all _ _ _ c.requires c.loop-i.invariant.1 c.loop-i-test.false
