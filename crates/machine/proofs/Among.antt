-- Bytes that a test tells apart. No proof needs it any more; docs/PORT.md names it.
-- Assumes nothing.
use mathlib.Core.Bool.{Bool, true, false, false≢true}
use mathlib.Core.Path.{◌≡◌, sym, ◌∙◌, ap}
use Prim.Native.Nat.{ℕ}
use borrow.Author.Tests.{ne_eqb}
use lib.Dec.{eqb}

-- a byte of which a test says no is none of which it says yes
pub unlike : (test : ℕ → Bool) (sign b : ℕ) → test sign ≡ true → test b ≡ false → eqb b sign ≡ false
unlike test sign b t f = ne_eqb b sign (λ e. false≢true (sym f ∙ ap test e ∙ t))
