-- What is left in what was lent.
-- Assumes nothing.
use mathlib.Core.Path.{◌≡◌}
use mathlib.Core.List.{List}
use Prim.Native.Nat.{ℕ}
use Rattle.writer.specs.declared.Refusal.{Refusal}
use Rattle.std.specs.Prelude.{Err}
use Rattle.writer.specs.Write.{left, zeros, refuse}

-- a refusal over what is all zero
pub refused-left : (why : Refusal) (room scratch : ℕ) {out tape : List ℕ} → out ≡ zeros room → tape ≡ zeros scratch
    → left (Err why) out tape ≡ refuse room scratch why
refused-left why room scratch e f = rw (e, f)
