-- `packed::tokens::put_all` meets its contract. The invariant: the first so many of the tokens stand in the buffer.
-- Assumes nothing.
use mathlib.Core.List.{List}
use mathlib.Core.Path.{refl, ◌∙◌, ap}
use native.Mathlib.Omega.{arith}
use lib.Seq.{sets, take_all}
use Rattle.tape.specs.declared.token.Token.{Token}
use Rattle.tape.specs.Words.{tokens_in, token_in}
use Rattle.packed.specs.Packed.{packed}
use Rattle.packed.proofs.Packing.{packed_more}
use borrow.Author.Rules.{rules}
use Rattle.packed.proofs.tokens.put_all.Goals as goal

pub loop-i-init : goal.loop-i-init
unfolding packed
loop-i-init c = (refl, refl)

pub put_token-requires : goal.put_token-requires
put_token-requires c = omega (arith, c.loop-i.invariant.0)

pub loop-i-preserved : goal.loop-i-preserved
unfolding token_in
loop-i-preserved c =
    let inv = c.loop-i.invariant in (
      search rules,
      packed_more _ _ _ _ (omega arith) c.token_of.ensures inv.1 c.put_token.ensures,
    )

pub shape_of-out : goal.shape_of-out
shape_of-out c = c.loop-i.invariant.0

pub returns : goal.returns
returns c =
    let ts : List Token = tokens_in c.args.words.now c.args.count in
    c.loop-i.invariant.1
    ∙ ap (λ (us : List Token). sets c.args.out.now c.args.at (packed us)) (take_all c.loop-i.i ts (omega arith))
