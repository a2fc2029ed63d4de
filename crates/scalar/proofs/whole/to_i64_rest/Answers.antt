-- `scalar::whole::to_i64_rest` meets its contract: the part that begins after the number lies in the bytes, and so does none at their end.
-- Assumes nothing.
use Rattle.std.proofs.Common.{sym, ◌∙◌, le_refl, arith}
use Rattle.scalar.proofs.Wholes.{part-within, rest-told, rest_from, rest-none}
use Rattle.scalar.proofs.whole.to_i64_rest.Goals as goal

pub slice_bounds-result-count : goal.slice_bounds-result-count
slice_bounds-result-count c = omega (arith, part-within _ _ _ (sym c.i64_part.ensures ∙ c.in-Ok.is))

pub slice_bounds-result-start : goal.slice_bounds-result-start
slice_bounds-result-start c = omega (arith, part-within _ _ _ (sym c.i64_part.ensures ∙ c.in-Ok.is))

pub returns-in-Ok : goal.returns-in-Ok
returns-in-Ok c =
    let told = sym c.i64_part.ensures ∙ c.in-Ok.is in
    let from = rest_from _ c.args.d.ref_ptr _ (part-within _ _ _ told) (rest-told _ _ told) in
    record { bytes = from.0; place = from.1 }

pub returns-in-Err : goal.returns-in-Err
returns-in-Err c =
    let from = rest_from _ c.args.d.ref_ptr _ (le_refl _) (rest-none _ (rest-told _ _ (sym c.i64_part.ensures ∙ c.in-Err.is))) in
    record { bytes = from.0; place = from.1 }
