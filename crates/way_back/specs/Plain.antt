-- Plain sheets, which are always accepted.
use Rattle.std.specs.Prelude.{ℕ, zero, suc, ◌+◌, Bool, true, not, ◌&&◌, ◌≡◌, List, [], ◌∷◌, ◌++◌, eqb, length}
use Rattle.data.specs.Bytes.{quote, minus, point, digit_zero, backslash}
use Rattle.data.specs.Classes.{among}
use Rattle.tape.specs.declared.token.Token.{Token}
use Rattle.tape.specs.declared.token.ContainerKind.{ContainerKind}
use Rattle.tape.specs.declared.token.ContainerKind.TheVariants.{Array, Object}
use Rattle.tape.specs.declared.token.ScalarKind.TheVariants.{Unquoted, Quoted, Parameter, UndefinedParameter, Header, QuotedEscape}
use Rattle.tape.specs.Token.{nth, opener_of, scalar_of, operator_of, mixed_container_token}
use Rattle.sheet.specs.Sound.{Sheet}
use Rattle.promises.specs.Each.{Each}
use Rattle.writer.specs.Forest.{Forest, no_more, leaf, box, forest_of}
use Rattle.put.specs.Parts.{view_of}

-- ---- bytes
-- the first of the letters, small and capital, and how many there are; how many digits
abbrev pub letter_a : ℕ
letter_a = 97

abbrev pub capital_a : ℕ
capital_a = 65

abbrev pub letters : ℕ
letters = 26

abbrev pub digits : ℕ
digits = 10

abbrev pub underscore : ℕ
underscore = 95

-- n bytes from b on
abbrev pub bytes_from : ℕ → ℕ → List ℕ
bytes_from b zero = []
bytes_from b (suc n) = b ∷ bytes_from (b + 1) n

-- letters, digits, `_`, `.` and `-`: a to z, A to Z, 0 to 9, and the three
abbrev pub plain_bytes : List ℕ
plain_bytes =
    bytes_from letter_a letters ++ (bytes_from capital_a letters ++ (bytes_from digit_zero digits ++ (underscore ∷ point ∷ minus ∷ [])))

-- a byte that is one of them
unfoldable pub plain_byte : ℕ → Bool
plain_byte b = among b plain_bytes

-- a byte that is no quote and no backslash
unfoldable pub bare_byte : ℕ → Bool
bare_byte b = not (eqb b quote) && not (eqb b backslash)

-- each byte is plain, and each is bare
abbrev pub AllPlain : List ℕ → Type 0
AllPlain bytes = Each (λ b. plain_byte b ≡ true) bytes

abbrev pub AllBare : List ℕ → Type 0
AllBare bytes = Each (λ b. bare_byte b ≡ true) bytes

-- ---- key and entry in turn
-- a body of a kind, and every body in it: an object's is key and entry in turn, and an array's is entries
abbrev pub InTurn : Forest → ContainerKind → Type 0
InTurn no_more kind = Unit {0}
InTurn (leaf x rest) Array = InTurn rest Array
InTurn (box kind flag inner rest) Array = InTurn inner kind × InTurn rest Array
InTurn (leaf key no_more) Object = ⊥
InTurn (leaf key (leaf x rest)) Object = InTurn rest Object
InTurn (leaf key (box kind flag inner rest)) Object = InTurn inner kind × InTurn rest Object
InTurn (box kind flag inner rest) Object = ⊥

-- ---- the sheet
-- the clauses of the request
pub data Clause : Type 0 where
  in_turn : Clause
  no_operators : Clause
  no_mixed_containers : Clause
  no_flags : Clause
  no_headers : Clause
  no_parameters : Clause
  no_undefined_parameters : Clause
  no_escapes : Clause
  unquoted_bytes : Clause
  quoted_bytes : Clause
  objects_filled : Clause
  first_entries_filled : Clause

-- what each says of some tokens over a text
abbrev pub Says : Clause → List ℕ → List Token → Type 0
-- root and objects are key and entry in turn
Says in_turn text ts = InTurn (forest_of ts) Object
-- no operators, MixedContainers, flags, headers, parameters or code 11
Says no_operators text ts = (i number : ℕ) → nth ts i ≡ operator_of number → ⊥
Says no_mixed_containers text ts = (i : ℕ) → nth ts i ≡ mixed_container_token → ⊥
Says no_flags text ts = (i end : ℕ) (kind : ContainerKind) → nth ts i ≡ opener_of kind end true → ⊥
Says no_headers text ts = (i offset size : ℕ) → nth ts i ≡ scalar_of Header offset size → ⊥
Says no_parameters text ts = (i offset size : ℕ) → nth ts i ≡ scalar_of Parameter offset size → ⊥
Says no_undefined_parameters text ts = (i offset size : ℕ) → nth ts i ≡ scalar_of UndefinedParameter offset size → ⊥
Says no_escapes text ts = (i offset size : ℕ) → nth ts i ≡ scalar_of QuotedEscape offset size → ⊥
-- unquoted bytes only letters, digits, `_`, `.` and `-`
Says unquoted_bytes text ts = (i offset size : ℕ) → nth ts i ≡ scalar_of Unquoted offset size → AllPlain (view_of text offset size)
-- quoted bytes without quote or backslash
Says quoted_bytes text ts = (i offset size : ℕ) → nth ts i ≡ scalar_of Quoted offset size → AllBare (view_of text offset size)
-- objects not empty: an empty container is one whose End is the next token
Says objects_filled text ts = (i : ℕ) (flag : Bool) → nth ts i ≡ opener_of Object (i + 1) flag → ⊥
-- no array whose first entry is an empty container
Says first_entries_filled text ts =
    (i end : ℕ) (kind : ContainerKind) (flag first : Bool) → nth ts i ≡ opener_of Array end flag
    → nth ts (i + 1) ≡ opener_of kind (i + 2) first → ⊥

-- a sound sheet over the text, and a clause to a field
pub record Plain (text : List ℕ) (ts : List Token) : Type 0 where
  pub sound : Sheet (length text) ts
  pub in_turn : Says in_turn text ts
  pub no_operators : Says no_operators text ts
  pub no_mixed_containers : Says no_mixed_containers text ts
  pub no_flags : Says no_flags text ts
  pub no_headers : Says no_headers text ts
  pub no_parameters : Says no_parameters text ts
  pub no_undefined_parameters : Says no_undefined_parameters text ts
  pub no_escapes : Says no_escapes text ts
  pub unquoted_bytes : Says unquoted_bytes text ts
  pub quoted_bytes : Says quoted_bytes text ts
  pub objects_filled : Says objects_filled text ts
  pub first_entries_filled : Says first_entries_filled text ts
