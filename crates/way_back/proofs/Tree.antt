-- A plain sheet as a tree, the text that is written for it, and its tokens as they stand on a tape when that text is parsed.
-- Assumes nothing.
use Prim.Native.Nat.{ℕ, ◌+◌}
use mathlib.Core.Bool.{false}
use mathlib.Core.List.{List, [], ◌∷◌, ◌++◌}
use lib.ListN.{length}
use Rattle.data.specs.Bytes.{space, quote, equals, brace_open, brace_close}
use Rattle.tape.specs.declared.token.Token.{Token}
use Rattle.tape.specs.declared.token.ContainerKind.{ContainerKind}
use Rattle.tape.specs.declared.token.ContainerKind.TheVariants.{Array, Object}
use Rattle.tape.specs.declared.token.ScalarKind.TheVariants.{Unquoted, Quoted}
use Rattle.tape.specs.Token.{scalar_of}
use Rattle.way_back.specs.Plain.{AllPlain, AllBare}
use Rattle.writer.proofs.Grown.{boxed}

-- a scalar's bytes, by how they are written
pub data Word : Type 0 where
  unquoted : List ℕ → Word
  quoted : List ℕ → Word

-- an entry; the further entries of an array; the further pairs of an object. An object has a first pair, and an array that is not empty
-- a first entry
mutual
  pub data Entry : Type 0 where
    scalar : Word → Entry
    empty : Entry
    array : Entry → Entries → Entry
    object : Word → Entry → Pairs → Entry

  pub data Entries : Type 0 where
    no_entries : Entries
    more : Entry → Entries → Entries

  pub data Pairs : Type 0 where
    no_pairs : Pairs
    pair : Word → Entry → Pairs → Pairs

-- the root: nothing, or pairs
pub data Tree : Type 0 where
  nothing : Tree
  pairs : Word → Entry → Pairs → Tree

-- ---- the text
abbrev pub write_word : Word → List ℕ
write_word (unquoted bytes) = bytes
write_word (quoted bytes) = quote ∷ (bytes ++ (quote ∷ []))

-- an entry; further entries and pairs, each after a space
abbrev mutual
  pub write : Entry → List ℕ
  write (scalar w) = write_word w
  write empty = brace_open ∷ brace_close ∷ []
  write (array e es) = brace_open ∷ (write e ++ (write_entries es ++ (brace_close ∷ [])))
  write (object k e ps) = brace_open ∷ (write_word k ++ (equals ∷ (write e ++ (write-pairs ps ++ (brace_close ∷ [])))))

  pub write_entries : Entries → List ℕ
  write_entries no_entries = []
  write_entries (more e es) = space ∷ (write e ++ write_entries es)

  pub write-pairs : Pairs → List ℕ
  write-pairs no_pairs = []
  write-pairs (pair k e ps) = space ∷ (write_word k ++ (equals ∷ (write e ++ write-pairs ps)))

abbrev pub write_tree : Tree → List ℕ
write_tree nothing = []
write_tree (pairs k e ps) = write_word k ++ (equals ∷ (write e ++ write-pairs ps))

-- ---- the tokens, of what is written at a place, from an index on
abbrev pub token_of : Word → ℕ → Token
token_of (unquoted bytes) at = scalar_of Unquoted at (length bytes)
token_of (quoted bytes) at = scalar_of Quoted (at + 1) (length bytes)

-- the place of a key's entry
abbrev pub value_at : Word → ℕ → ℕ
value_at k at = at + length (write_word k) + 1

-- an unflagged container at index i around some tokens
abbrev pub enclosed : ContainerKind → ℕ → List Token → List Token
enclosed kind i body = boxed kind false i body

abbrev mutual
  pub flatten : Entry → ℕ → ℕ → List Token
  flatten (scalar w) at i = token_of w at ∷ []
  flatten empty at i = enclosed Array i []
  flatten (array e es) at i =
      enclosed Array i
      (flatten e (at + 1) (i + 1) ++ flatten-entries es (at + 1 + length (write e)) (i + 1 + length (flatten e (at + 1) (i + 1))))
  flatten (object k e ps) at i =
      enclosed Object i
      (token_of k (at + 1)
      ∷ (flatten e (value_at k (at + 1)) (i + 2)
      ++ flatten-pairs ps (value_at k (at + 1) + length (write e)) (i + 2 + length (flatten e (value_at k (at + 1)) (i + 2)))))

  pub flatten-entries : Entries → ℕ → ℕ → List Token
  flatten-entries no_entries at i = []
  flatten-entries (more e es) at i = flatten e (at + 1) i ++ flatten-entries es (at + 1 + length (write e)) (i + length (flatten e (at + 1) i))

  pub flatten-pairs : Pairs → ℕ → ℕ → List Token
  flatten-pairs no_pairs at i = []
  flatten-pairs (pair k e ps) at i =
      token_of k (at + 1)
      ∷ (flatten e (value_at k (at + 1)) (i + 1)
      ++ flatten-pairs ps (value_at k (at + 1) + length (write e)) (i + 1 + length (flatten e (value_at k (at + 1)) (i + 1))))

abbrev pub flatten_tree : Tree → List Token
flatten_tree nothing = []
flatten_tree (pairs k e ps) =
    token_of k 0
    ∷ (flatten e (value_at k 0) 1 ++ flatten-pairs ps (value_at k 0 + length (write e)) (1 + length (flatten e (value_at k 0) 1)))

-- ---- plain trees. That objects are not empty, and that there are no operators, MixedContainers, flags, headers, parameters or code 11,
-- is the tree's own form
abbrev pub PlainWord : Word → Type 0
PlainWord (unquoted []) = ⊥
PlainWord (unquoted (b ∷ bs)) = AllPlain (b ∷ bs)
PlainWord (quoted bytes) = AllBare bytes

abbrev pub Filled : Entry → Type 0
Filled (scalar w) = Unit {0}
Filled empty = ⊥
Filled (array e es) = Unit {0}
Filled (object k e ps) = Unit {0}

abbrev mutual
  pub Plain-entry : Entry → Type 0
  Plain-entry (scalar w) = PlainWord w
  Plain-entry empty = Unit {0}
  Plain-entry (array e es) = Filled e × Plain-entry e × Plain-entries es
  Plain-entry (object k e ps) = PlainWord k × Plain-entry e × Plain-pairs ps

  pub Plain-entries : Entries → Type 0
  Plain-entries no_entries = Unit {0}
  Plain-entries (more e es) = Plain-entry e × Plain-entries es

  pub Plain-pairs : Pairs → Type 0
  Plain-pairs no_pairs = Unit {0}
  Plain-pairs (pair k e ps) = PlainWord k × Plain-entry e × Plain-pairs ps

abbrev pub PlainTree : Tree → Type 0
PlainTree nothing = Unit {0}
PlainTree (pairs k e ps) = PlainWord k × Plain-entry e × Plain-pairs ps
