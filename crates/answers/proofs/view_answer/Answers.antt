-- `answers::view_answer` puts all of its line: the words that were read are a part of the room, and the line is short.
-- Assumes nothing.
use Prim.Native.Nat.{◌-◌}
use lib.ListN.{length}
use Rattle.answers.proofs.Fits.{view-all}
use Rattle.answers.proofs.view_answer.Goals as goal

-- the text stands behind the words, and goes to the body's end
pub returns : goal.returns
returns c =
    let from = c.in_ok-text.text in
    let size = length c.args.asked.body.now - from in
    record { holds = view-all _ _ _ _ from size _ _ _ c.put_view.ensures c.requires.1 c.requires.0 }
