-- When a sheet is sound: document 01's section of that name, a field to a sentence.
-- A sheet's tokens are a list; past them stands `no_token`, which opens, ends and views nothing.
use Rattle.std.specs.Prelude.{ℕ, ◌+◌, ◌≤◌, ◌<◌, ◌≡◌, true, List, length}
use Rattle.tape.specs.declared.token.Token.{Token}
use Rattle.tape.specs.declared.token.ScalarKind.{ScalarKind}
use Rattle.tape.specs.declared.token.ScalarKind.TheVariants.{Header}
use Rattle.tape.specs.Token.{least_operator, greatest_operator, mixed_container_token, may_be_empty, scalar_of, operator_of, end_of}
pub use Rattle.tape.specs.Token.{nth}
use Rattle.tape.specs.Shape.{Opens}
use Rattle.tape.specs.Words.{words_for, tokens_in}

-- a scalar of some kind, with its view
abbrev pub Views : Token → ℕ → ℕ → Type 0
Views t offset size = (kind : ScalarKind) × (t ≡ scalar_of kind offset size)

-- the forms of 'Three words to a token'
pub data Form (t : Token) : Type 0 where
  container : (end : ℕ) → Opens t end → Form t
  mixed_container : t ≡ mixed_container_token → Form t
  scalar : (offset size : ℕ) → Views t offset size → Form t
  operator : (number : ℕ) → least_operator ≤ number → number ≤ greatest_operator → t ≡ operator_of number → Form t
  closing : (opener : ℕ) → t ≡ end_of opener → Form t

-- ---- the sentences, of token i of a list
-- a container at i has i < end < c, and its End names i
abbrev pub Closed : List Token → ℕ → Type 0
Closed ts i = (end : ℕ) → Opens (nth ts i) end → (i < end) × (end < length ts) × (nth ts end ≡ end_of i)

-- an End names an earlier opener that names it
abbrev pub Opened : List Token → ℕ → Type 0
Opened ts i = (opener : ℕ) → nth ts i ≡ end_of opener → (opener < i) × Opens (nth ts opener) i

-- what opens inside a container ends before it does
abbrev pub Nested : List Token → ℕ → Type 0
Nested ts i = (end j inner : ℕ) → Opens (nth ts i) end → i < j → j < end → Opens (nth ts j) inner → inner < end

-- a scalar's view ends within the text
abbrev pub InText : ℕ → ℕ → ℕ → Type 0
InText text_length offset size = offset + size ≤ text_length

abbrev pub Within : ℕ → List Token → ℕ → Type 0
Within text_length ts i = (offset size : ℕ) → Views (nth ts i) offset size → InText text_length offset size

-- a later scalar starts later
abbrev pub Rising : List Token → ℕ → Type 0
Rising ts i = (j offset size later more : ℕ) → i < j → Views (nth ts i) offset size → Views (nth ts j) later more → offset < later

-- a scalar does not reach past the start of the next, which is the later one that has none between
abbrev pub Apart : List Token → ℕ → Type 0
Apart ts i =
    (j offset size later more : ℕ) → i < j → ((k a b : ℕ) → i < k → k < j → Views (nth ts k) a b → ⊥)
    → Views (nth ts i) offset size → Views (nth ts j) later more → offset + size ≤ later

-- only Quoted may have length 0, and code 11, which is treated as code 5
abbrev pub Filled : List Token → ℕ → Type 0
Filled ts i = (kind : ScalarKind) (offset : ℕ) → nth ts i ≡ scalar_of kind offset 0 → may_be_empty kind ≡ true

-- a Header has a container next
abbrev pub Headed : List Token → ℕ → Type 0
Headed ts i = (offset size : ℕ) → nth ts i ≡ scalar_of Header offset size → (end : ℕ) × Opens (nth ts (i + 1)) end

-- ---- a list of tokens over a text of a length
pub record Sheet (text_length : ℕ) (ts : List Token) : Type 0 where
  pub forms : (i : ℕ) → i < length ts → Form (nth ts i)
  pub closed : (i : ℕ) → Closed ts i
  pub opened : (i : ℕ) → Opened ts i
  pub nested : (i : ℕ) → Nested ts i
  pub within : (i : ℕ) → Within text_length ts i
  pub rising : (i : ℕ) → Rising ts i
  pub apart : (i : ℕ) → Apart ts i
  pub filled : (i : ℕ) → Filled ts i
  -- token 0 opens nothing
  pub top : (end : ℕ) → Opens (nth ts 0) end → ⊥
  pub headed : (i : ℕ) → Headed ts i

-- ---- words with a count: the words of so many tokens are there, and those tokens are sound; later words are ignored
pub record Sound (text_length : ℕ) (words : List ℕ) (count : ℕ) : Type 0 where
  pub fits : words_for count ≤ length words
  pub tokens : Sheet text_length (tokens_in words count)
