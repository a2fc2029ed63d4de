-- `report::tokens::put_name` meets its contract: the test that held picks the name, and a scalar's kind its own.
-- Assumes nothing.
use mathlib.Core.Path.{◌≡◌, sym, ◌∙◌}
use mathlib.Core.Bool.{false}
use borrow.Author.Tests.{ne_eqb}
use lib.Dec.{eqb}
use Rattle.tape.specs.declared.token.ScalarKind.{ScalarKind}
use Rattle.tape.specs.declared.token.ScalarKind.TheVariants.{Unquoted, Quoted, Parameter, UndefinedParameter, Header, QuotedEscape}
use Rattle.tape.specs.Token.{scalar_code}
use Rattle.tape.proofs.Makers.{unnamed}
use Rattle.tape.proofs.Shapes.{named-code}
use Rattle.report.specs.Dump.{name_of, named}
use Rattle.put.proofs.Append.{put-empty}
use Rattle.report.proofs.tokens.put_name.Goals as goal

pub returns-then-code-eq-ARRAY : goal.returns-then-code-eq-ARRAY
unfolding name_of named
returns-then-code-eq-ARRAY c = rw c.if-code-eq-ARRAY.true c.put_bytes.ensures

pub returns-then-code-eq-OBJECT : goal.returns-then-code-eq-OBJECT
unfolding name_of named
returns-then-code-eq-OBJECT c = rw c.if-code-eq-OBJECT.true c.put_bytes-then-code-eq-OBJECT.ensures

pub returns-then-code-eq-MIXED_CONTAINER : goal.returns-then-code-eq-MIXED_CONTAINER
unfolding name_of named
returns-then-code-eq-MIXED_CONTAINER c = rw c.if-code-eq-MIXED_CONTAINER.true c.put_bytes-then-code-eq-MIXED_CONTAINER.ensures

pub returns-then-code-eq-OPERATOR : goal.returns-then-code-eq-OPERATOR
unfolding name_of named
returns-then-code-eq-OPERATOR c = rw c.if-code-eq-OPERATOR.true c.put_bytes-then-code-eq-OPERATOR.ensures

pub returns-then-code-eq-END : goal.returns-then-code-eq-END
unfolding name_of named
returns-then-code-eq-END c = rw c.if-code-eq-END.true c.put_bytes-then-code-eq-END.ensures

pub returns-in-Some : goal.returns-in-Some
returns-in-Some c =
    rw (named-code _ _ (sym c.scalar_named.ensures ∙ c.in-Some.is)) c.put_scalar_name.ensures

pub returns-in-None : goal.returns-in-None
unfolding name_of named
returns-in-None c =
    let none : (kind : ScalarKind) → eqb _ (scalar_code kind) ≡ false =
    λ kind. unnamed _ kind (sym c.scalar_named.ensures ∙ c.in-None.is) in
    rw (
      name_of,
      named,
      ne_eqb _ _ c.if-code-eq-ARRAY.false,
      ne_eqb _ _ c.if-code-eq-OBJECT.false,
      ne_eqb _ _ c.if-code-eq-MIXED_CONTAINER.false,
      none Unquoted,
      none Quoted,
      none Parameter,
      none UndefinedParameter,
      ne_eqb _ _ c.if-code-eq-OPERATOR.false,
      ne_eqb _ _ c.if-code-eq-END.false,
      none Header,
      none QuotedEscape,
    ) (put-empty _ _)
