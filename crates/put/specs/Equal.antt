-- Whether two runs of bytes are the same.
use Rattle.std.specs.Prelude.{ℕ, Bool, List, eqb}
use Rattle.data.specs.Pairs.{pairwise}

-- as many bytes, and each the other's
abbrev pub equal_bytes : List ℕ → List ℕ → Bool
equal_bytes a b = pairwise eqb a b
