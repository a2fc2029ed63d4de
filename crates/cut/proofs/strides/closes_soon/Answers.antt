-- `cut::strides::closes_soon` meets its contract: the two tests of the first byte, made at once, are those made one after the other.
-- Assumes nothing.
use mathlib.Core.Bool.{not, ◌&&◌}
use mathlib.Core.Path.{◌≡◌, sym, ◌∙◌}
use Prim.Native.Nat.{ℕ}
use native.Mathlib.Omega.{arith}
use lib.Dec.{eqb}
use Rattle.data.proofs.Cases.{by_bool}
use Rattle.data.specs.Bytes.{quote, backslash}
use Rattle.cut.specs.Marks.{turns_quote}
use Rattle.cut.proofs.Quotes.{soon_short, soon_other, soon_quote}
use Rattle.cut.proofs.strides.closes_soon.Goals as goal

at_once : (b : ℕ) → not (turns_quote b) ≡ (not (eqb b quote) && not (eqb b backslash))
unfolding turns_quote
at_once b = by_bool (eqb b quote) (λ t. rw (turns_quote, t)) (λ f. rw (turns_quote, f))

pub returns-in-34 : goal.returns-in-34
returns-in-34 c = sym (soon_quote _ c.in-34.len_at_least (omega arith) ∙ at_once _)

pub returns-in_default : goal.returns-in_default
returns-in_default c = sym (soon_short _ c.in_default.len_below)

pub returns-in_default-2 : goal.returns-in_default-2
returns-in_default-2 c = sym (soon_other _ (λ e. omega arith))
