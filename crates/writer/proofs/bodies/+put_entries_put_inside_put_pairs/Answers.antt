-- `put_entries`, `put_inside` and `put_pairs`, which call one another, meet their contracts.
-- Assumes nothing.
use Rattle.std.proofs.Common.{true, ◌+◌, sym, arith, List}
use Rattle.put.specs.Append.{append}
use Rattle.put.proofs.Append.{same_bytes, put-empty}
use Rattle.tape.specs.declared.token.Token.{Token}
use Rattle.tape.specs.Words.{tokens_in}
use Rattle.writer.specs.declared.dues.Due.TheVariants.{Entry, Key}
use Rattle.writer.specs.declared.pieces.Piece.{Piece}
use Rattle.writer.specs.Ranges.{inside_text}
use Rattle.data.proofs.Told.{as_told}
use Rattle.writer.proofs.Walks.{bare-within, read_met, step_inside, step_ahead}
use Rattle.writer.proofs.Putting.{not_opener, step_span, enters, enters_range, opened_as, mixed-range, entry-stays, put-braced}
use Rattle.writer.proofs.Putting.{Laid, laid-inside, laid_own, put-start, put_step, put_rest, put-done}
use Rattle.writer.proofs.bodies.+put_entries_put_inside_put_pairs.Goals as goal
use Rattle.writer.proofs.bodies.+put_entries_put_inside_put_pairs.Goals.{put_entries-then-opens, put_entries-else-opens, put_pairs-then-opens, put_pairs-else-opens}

-- ---- entries
pub put_entries-loop-i-init : goal.put_entries-loop-i-init
put_entries-loop-i-init t c =
    let args = c.args in
    put-start _ args.source.now.text.now args.out.now args.at args.from args.end args.alone Entry c.requires

pub put_entries-put_inside-next-requires : goal.put_entries-put_inside-next-requires
put_entries-put_inside-next-requires t c =
    let met = read_met _ _ _ c.loop-i.invariant.range c.loop-i-test.true c.piece-piece.ensures in
    (step_span met c.args.from c.loop-i.invariant.past c.decreases, step_inside met)

pub put_entries-loop-i-smaller : goal.put_entries-loop-i-smaller
put_entries-loop-i-smaller t c =
    let met = read_met _ _ _ c.loop-i.invariant.range c.loop-i-test.true c.piece-piece.ensures in
    let on = step_ahead met _ c.behind-i.ensures in
    omega (arith, on.0)

pub put_entries-loop-i-preserved : goal.put_entries-loop-i-preserved
put_entries-loop-i-preserved t c =
    let args = c.args in
    let at-loop = c.loop-i in
    let told = c.opens.ensures in
    let met = read_met _ _ _ at-loop.invariant.range c.loop-i-test.true c.piece-piece.ensures in
    let laid : Laid (tokens_in args.source.now.words.now args.source.now.count) args.source.now.text.now at-loop.out (at-loop.i + 1) at-loop.next at-loop.first Entry
    c.piece-piece.result c.if-opens.out c.if-opens.next =
    elim c.if-opens.branch [
      | put_entries-then-opens w ↦ laid-inside told w.put_inside-next.auto.out w.out-is w.next-is w.if-opens.true w.put_inside-next.ensures
      | put_entries-else-opens w ↦ laid_own told w.put_piece-next.auto.out w.out-is w.next-is w.if-opens.false w.put_piece-next.ensures
    ]
    in
    put_step at-loop.invariant met _ c.behind-i.ensures c.still_first-first.ensures (entry-stays _) laid

pub put_entries-returns : goal.put_entries-returns
put_entries-returns t c = put-done c.loop-i.invariant c.loop-i-test.false

-- ---- a container
pub put_inside-returns-in_default : goal.put_inside-returns-in_default
put_inside-returns-in_default t c =
    let args = c.args in
    let ts : List Token = tokens_in args.source.now.words.now args.source.now.count in
    let bare = not_opener args.piece c.in_default.not-Opener in
    same_bytes args.out.now args.at _ _ (put-empty _ _) (sym (bare-within bare args.source.now.text.now ts args.from args.first args.due))

pub put_inside-put_entries-close-requires : goal.put_inside-put_entries-close-requires
put_inside-put_entries-close-requires t c =
    let args = c.args in
    let ts : List Token = tokens_in args.source.now.words.now args.source.now.count in
    (enters args.piece args.from c.in-Opener.is c.decreases, enters_range ts args.piece args.from c.in-Opener.is c.requires)

pub put_inside-put_pairs-close-requires : goal.put_inside-put_pairs-close-requires
put_inside-put_pairs-close-requires t c =
    let args = c.args in
    let ts : List Token = tokens_in args.source.now.words.now args.source.now.count in
    (enters args.piece args.from c.in-Opener.is c.decreases, enters_range ts args.piece args.from c.in-Opener.is c.requires)

pub put_inside-returns-in-Array : goal.put_inside-returns-in-Array
unfolding inside_text
put_inside-returns-in-Array t c =
    let args = c.args in
    let ts : List Token = tokens_in args.source.now.words.now args.source.now.count in
    as_told (λ (p : Piece). append args.out.now args.at (inside_text args.source.now.text.now ts args.from args.first args.due p))
    (put-braced args.out.now args.at _ _ c.put_lead-before.ensures c.put_byte-open.ensures c.put_entries-close.ensures c.put_byte.ensures)
    (opened_as c.in-Opener.is c.in-Array.is)

pub put_inside-returns-in-Object : goal.put_inside-returns-in-Object
unfolding inside_text
put_inside-returns-in-Object t c =
    let args = c.args in
    let ts : List Token = tokens_in args.source.now.words.now args.source.now.count in
    as_told (λ (p : Piece). append args.out.now args.at (inside_text args.source.now.text.now ts args.from args.first args.due p))
    (put-braced args.out.now args.at _ _ c.put_lead-before.ensures c.put_byte-open.ensures c.put_pairs-close.ensures c.put_byte-in-Object.ensures)
    (opened_as c.in-Opener.is c.in-Object.is)

-- ---- pairs
pub put_pairs-loop-i-init : goal.put_pairs-loop-i-init
put_pairs-loop-i-init t c =
    let args = c.args in
    put-start _ args.source.now.text.now args.out.now args.at args.from args.end true Key c.requires

pub put_pairs-put_entries-requires : goal.put_pairs-put_entries-requires
put_pairs-put_entries-requires t c =
    let met = read_met _ _ _ c.loop-i.invariant.range c.loop-i-test.true c.piece-piece.ensures in
    (omega (arith, c.loop-i.invariant.past, met.early, c.decreases), mixed-range met c.is_mixed.ensures c.if-is_mixed.true)

pub put_pairs-returns-then-is_mixed : goal.put_pairs-returns-then-is_mixed
put_pairs-returns-then-is_mixed t c =
    let met = read_met _ _ _ c.loop-i.invariant.range c.loop-i-test.true c.piece-piece.ensures in
    put_rest c.loop-i.invariant met c.is_mixed.ensures c.if-is_mixed.true c.put_entries.ensures

pub put_pairs-put_inside-next-requires : goal.put_pairs-put_inside-next-requires
put_pairs-put_inside-next-requires t c =
    let met = read_met _ _ _ c.loop-i.invariant.range c.loop-i-test.true c.piece-piece.ensures in
    (step_span met c.args.from c.loop-i.invariant.past c.decreases, step_inside met)

pub put_pairs-loop-i-smaller : goal.put_pairs-loop-i-smaller
put_pairs-loop-i-smaller t c =
    let met = read_met _ _ _ c.loop-i.invariant.range c.loop-i-test.true c.piece-piece.ensures in
    let on = step_ahead met _ c.behind-i.ensures in
    omega (arith, on.0)

pub put_pairs-loop-i-preserved : goal.put_pairs-loop-i-preserved
put_pairs-loop-i-preserved t c =
    let args = c.args in
    let at-loop = c.loop-i in
    let told = c.opens.ensures in
    let met = read_met _ _ _ at-loop.invariant.range c.loop-i-test.true c.piece-piece.ensures in
    let laid : Laid (tokens_in args.source.now.words.now args.source.now.count) args.source.now.text.now at-loop.out (at-loop.i + 1) at-loop.next at-loop.first at-loop.due
    c.piece-piece.result c.if-opens.out c.if-opens.next =
    elim c.if-opens.branch [
      | put_pairs-then-opens w ↦ laid-inside told w.put_inside-next.auto.out w.out-is w.next-is w.if-opens.true w.put_inside-next.ensures
      | put_pairs-else-opens w ↦ laid_own told w.put_piece-next.auto.out w.out-is w.next-is w.if-opens.false w.put_piece-next.ensures
    ]
    in
    put_step at-loop.invariant met _ c.behind-i.ensures c.still_first-first.ensures c.due_after-due.ensures laid

pub put_pairs-returns : goal.put_pairs-returns
put_pairs-returns t c = put-done c.loop-i.invariant c.loop-i-test.false
