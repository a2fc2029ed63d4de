-- What a reading answers is what C is told.
-- Assumes nothing.
use Prim.Native.Nat.{ℕ}
use mathlib.Core.Path.{◌≡◌}
use Rattle.capi.specs.Told.{read_told}

-- the refusal and the value of a reading, told as they are
pub reads : {Read Value : Type 0} (refusal : Read → ℕ) (value : Read → Value) {told said : ℕ} {v : Value} {read spec : Read} →
    read ≡ spec → v ≡ value read → said ≡ refusal read → told ≡ said → read_told told v ≡ read_told (refusal spec) (value spec)
reads refusal value p v n t = cc
