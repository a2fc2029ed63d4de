-- `cut::skip_ws_t` meets its contract: the invariants say what is left, that skipping from the start finds what skipping from `i` on
-- finds, outside a comment and inside one.
-- Assumes nothing.
use mathlib.Core.Path.{sym, ◌∙◌}
use native.Mathlib.Omega.{arith}
use borrow.Author.Rules.{rules}
use Rattle.cut.proofs.Blanks.{skip-past, skip-blank, skip-hash, skip-here, comment-past, comment-ends, comment-goes_on}
use Rattle.cut.proofs.skip_ws_t.Goals as goal

pub blanks-preserved-then-is_blank : goal.blanks-preserved-then-is_blank
blanks-preserved-then-is_blank c =
    c.blanks.invariant ∙ skip-blank _ _ c.blanks-test.true (sym c.is_blank.ensures ∙ c.if-is_blank.true)

pub returns-then-b-ne35 : goal.returns-then-b-ne35
returns-then-b-ne35 c =
    sym
    (c.blanks.invariant ∙ skip-here _ _ c.blanks-test.true (sym c.is_blank.ensures ∙ c.if-is_blank.false) c.if-b-ne35.true)

pub comment-init : goal.comment-init
comment-init c = (
  search rules,
  search rules,
  c.blanks.invariant ∙ skip-hash _ _ c.blanks-test.true (sym c.is_blank.ensures ∙ c.if-is_blank.false) c.if-b-ne35.false,
)

pub blanks-smaller : goal.blanks-smaller
blanks-smaller c = omega (arith, c.comment.invariant)

pub blanks-preserved : goal.blanks-preserved
blanks-preserved c = c.comment.invariant.2 ∙ comment-ends _ _ (search rules) c.if-c-eq10.true

pub comment-preserved : goal.comment-preserved
comment-preserved c = (search rules, search rules, c.comment.invariant.2 ∙ comment-goes_on _ _ (search rules) c.if-c-eq10.false)

pub returns-after-blanks : goal.returns-after-blanks
returns-after-blanks c = sym (c.blanks.invariant ∙ skip-past _ _ c.blanks-test.false)

pub returns-then-i-text : goal.returns-then-i-text
returns-then-i-text c = sym (c.comment.invariant.2 ∙ comment-past _ _ (search rules))
