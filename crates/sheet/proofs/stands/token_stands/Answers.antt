-- `sheet::stands::token_stands` meets its contract: one law for each shape.
-- Assumes nothing.
use mathlib.Core.Path.{◌≡◌, sym, ◌∙◌}
use Rattle.std.specs.Prelude.{Some}
use Rattle.tape.specs.declared.shape.Shape.TheVariants as Shapes
use Rattle.std.proofs.Common.{rules}
use borrow.Author.Tests.{eq-eqb}
use Rattle.sheet.proofs.Tokens.{first_opens, opener_held, mixed_container_held, scalar_held, operator_held, end_held, nothing_held}
use Rattle.sheet.proofs.stands.token_stands.Goals as goal

pub returns-else-i-ne0 : goal.returns-else-i-ne0
returns-else-i-ne0 c =
    let is : c.args.shape ≡ Some (Shapes.Opener c.in-Some-Opener.end) = search rules in
    rw (eq-eqb _ _ c.if-i-ne0.false) (first_opens _ _ _ (sym c.requires.2 ∙ is) c.if-i-ne0.false)

pub returns-then-i-ne0 : goal.returns-then-i-ne0
returns-then-i-ne0 c =
    let is : c.args.shape ≡ Some (Shapes.Opener c.in-Some-Opener.end) = search rules in
    opener_held _ _ _ (sym c.requires.2 ∙ is) c.if-i-ne0.true c.closes.ensures

pub returns-in-Some-MixedContainer : goal.returns-in-Some-MixedContainer
returns-in-Some-MixedContainer c =
    let is : c.args.shape ≡ Some (Shapes.MixedContainer) = search rules in
    mixed_container_held _ _ _ (sym c.requires.2 ∙ is)

pub returns-in-Some-Scalar : goal.returns-in-Some-Scalar
returns-in-Some-Scalar c =
    let is : c.args.shape ≡ Some (Shapes.Scalar c.in-Some-Scalar.kind c.in-Some-Scalar.offset c.in-Some-Scalar.length) = search rules in
    scalar_held _ _ _ (sym c.requires.2 ∙ is) c.suits.ensures

pub returns-in-Some-Operator : goal.returns-in-Some-Operator
returns-in-Some-Operator c =
    let is : c.args.shape ≡ Some (Shapes.Operator c.in-Some-Operator.field-0-0) = search rules in
    operator_held _ _ _ (sym c.requires.2 ∙ is)

pub returns-in-Some-End : goal.returns-in-Some-End
returns-in-Some-End c =
    let is : c.args.shape ≡ Some (Shapes.End c.in-Some-End.opener) = search rules in
    end_held _ _ _ (sym c.requires.2 ∙ is) c.opened.ensures

pub returns-in-None : goal.returns-in-None
returns-in-None c = nothing_held _ _ _ (sym c.requires.2 ∙ c.in-None.is)
