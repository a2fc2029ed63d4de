use Rattle.std.proofs.Common.{◌≡◌, ℕ, ◌+◌, ◌≤◌, List, ◌++◌, rules, length, take, sym, ap, ◌∙◌, subst, length-take-le}
use Rattle.std.proofs.lemmas.List.{take-append-le}
use Rattle.std.proofs.Math.Seq.{take-append-add}
use Rattle.std.specs.Io.KnownBytes.{Consumes}
use Rattle.std.proofs.KnownBytes.{Consumes-trans}
use borrow.Rule.Slice.PartMut.{put_mid, post_of}
use Rattle.input.proofs.read_full.Goals as goal

-- after a read of n bytes behind the first `done`, the front is what it was, and those
front-put_mid : (done k n : ℕ) (xs ys : List ℕ) → done ≤ length xs → n ≤ length ys → take (done + n) (put_mid done k xs ys) ≡ take done xs ++ take n ys
front-put_mid done k n xs ys within fits =
    let front = take done xs in
    let rest = ys ++ post_of done k xs in
    ap (λ m. take (m + n) (front ++ rest)) (sym (length-take-le done xs within))
    ∙ take-append-add front rest n
    ∙ ap (λ l. front ++ l) (take-append-le n ys (post_of done k xs) fits)

pub loop-done-preserved : goal.loop-done-preserved
loop-done-preserved g c =
    let from = c.loop-done in
    let front = front-put_mid from.done _ c.in_ok-n.n from.buffer c.read.new.buf from.invariant.1 c.in_ok-n.ensures.bound.0 in
    (search rules, search rules, subst (Consumes _ _) (sym front) (Consumes-trans _ _ _ _ _ from.invariant.2 c.in_ok-n.ensures.bytes.0))
