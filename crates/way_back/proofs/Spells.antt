-- Tokens over a text that spell a tree, with whatever offsets.
-- Assumes nothing.
use Prim.Native.Nat.{ℕ, ◌+◌}
use mathlib.Core.Path.{◌≡◌}
use mathlib.Core.List.{List, [], ◌∷◌, ◌++◌}
use lib.ListN.{length}
use Rattle.tape.specs.declared.token.Token.{Token}
use Rattle.tape.specs.declared.token.ContainerKind.TheVariants.{Array, Object}
use Rattle.tape.specs.declared.token.ScalarKind.{ScalarKind}
use Rattle.tape.specs.declared.token.ScalarKind.TheVariants.{Unquoted, Quoted}
use Rattle.tape.specs.Token.{scalar_of}
use Rattle.put.specs.Parts.{view_of}
use Rattle.way_back.proofs.Tree.{Word, unquoted, quoted, Entry, scalar, empty, array, object, Entries, no_entries, more, Pairs, no_pairs, pair}
use Rattle.way_back.proofs.Tree.{Tree, nothing, pairs, enclosed}

-- a scalar's kind and bytes
abbrev pub kind_of : Word → ScalarKind
kind_of (unquoted bytes) = Unquoted
kind_of (quoted bytes) = Quoted

abbrev pub bytes_of : Word → List ℕ
bytes_of (unquoted bytes) = bytes
bytes_of (quoted bytes) = bytes

-- a token that views a word
pub record SpellsWord (src : List ℕ) (w : Word) (x : Token) : Type 0 where
  pub offset : ℕ
  pub token : x ≡ scalar_of (kind_of w) offset (length (bytes_of w))
  pub view : view_of src offset (length (bytes_of w)) ≡ bytes_of w

-- tokens from an index on that spell an entry, further entries, further pairs
abbrev mutual
  pub Spells : Entry → List ℕ → ℕ → List Token → Type 0
  Spells (scalar w) src i ts = (x : Token) × (ts ≡ x ∷ []) × SpellsWord src w x
  Spells empty src i ts = ts ≡ enclosed Array i []
  Spells (array e es) src i ts =
      (xs : List Token) × (ys : List Token) × (ts ≡ enclosed Array i (xs ++ ys))
      × Spells e src (i + 1) xs × Spells-entries es src (i + 1 + length xs) ys
  Spells (object k e ps) src i ts =
      (x : Token) × (xs : List Token) × (ys : List Token) × (ts ≡ enclosed Object i (x ∷ (xs ++ ys)))
      × SpellsWord src k x × Spells e src (i + 2) xs × Spells-pairs ps src (i + 2 + length xs) ys

  pub Spells-entries : Entries → List ℕ → ℕ → List Token → Type 0
  Spells-entries no_entries src i ts = ts ≡ []
  Spells-entries (more e es) src i ts =
      (xs : List Token) × (ys : List Token) × (ts ≡ xs ++ ys) × Spells e src i xs × Spells-entries es src (i + length xs) ys

  pub Spells-pairs : Pairs → List ℕ → ℕ → List Token → Type 0
  Spells-pairs no_pairs src i ts = ts ≡ []
  Spells-pairs (pair k e ps) src i ts =
      (x : Token) × (xs : List Token) × (ys : List Token) × (ts ≡ x ∷ (xs ++ ys))
      × SpellsWord src k x × Spells e src (i + 1) xs × Spells-pairs ps src (i + 1 + length xs) ys

abbrev pub SpellsTree : Tree → List ℕ → List Token → Type 0
SpellsTree nothing src ts = ts ≡ []
SpellsTree (pairs k e ps) src ts =
    (x : Token) × (xs : List Token) × (ys : List Token) × (ts ≡ x ∷ (xs ++ ys))
    × SpellsWord src k x × Spells e src 1 xs × Spells-pairs ps src (1 + length xs) ys
