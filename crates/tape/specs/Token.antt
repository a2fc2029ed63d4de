-- A token's code and two words: document 01, 'Three words to a token', and code 11, quoted with an escape, whose words are as Quoted's.
use Rattle.std.specs.Prelude.{ℕ, Bool, true, false, ◌||◌, List, [], ◌∷◌, eqb, get_or, Option, Some, None}
use Rattle.tape.specs.declared.token.Token.{Token}
use Rattle.tape.specs.declared.token.ContainerKind.{ContainerKind}
use Rattle.tape.specs.declared.token.ContainerKind.TheVariants.{Array, Object}
use Rattle.tape.specs.declared.token.ScalarKind.{ScalarKind}
use Rattle.tape.specs.declared.token.ScalarKind.TheVariants.{Unquoted, Quoted, Parameter, UndefinedParameter, Header, QuotedEscape}
use Rattle.tape.specs.declared.token.Container.{Container}
use Rattle.tape.specs.declared.token.Standing.{Standing}
use Rattle.tape.specs.declared.token.Standing.TheVariants.{End, OtherScalar}

-- ---- the codes
abbrev pub array_code : ℕ
array_code = 1

abbrev pub object_code : ℕ
object_code = 2

abbrev pub mixed_container_code : ℕ
mixed_container_code = 3

abbrev pub unquoted_code : ℕ
unquoted_code = 4

abbrev pub quoted_code : ℕ
quoted_code = 5

abbrev pub parameter_code : ℕ
parameter_code = 6

abbrev pub undefined_parameter_code : ℕ
undefined_parameter_code = 7

abbrev pub operator_code : ℕ
operator_code = 8

abbrev pub end_code : ℕ
end_code = 9

abbrev pub header_code : ℕ
header_code = 10

abbrev pub quoted_escape_code : ℕ
quoted_escape_code = 11

-- the numbers of operators go from 1 to 8
abbrev pub least_operator : ℕ
least_operator = 1

abbrev pub greatest_operator : ℕ
greatest_operator = 8

abbrev pub container_code : ContainerKind → ℕ
container_code Array = array_code
container_code Object = object_code

abbrev pub scalar_code : ScalarKind → ℕ
scalar_code Unquoted = unquoted_code
scalar_code Quoted = quoted_code
scalar_code Parameter = parameter_code
scalar_code UndefinedParameter = undefined_parameter_code
scalar_code Header = header_code
scalar_code QuotedEscape = quoted_escape_code

-- the kinds of scalar, listed once: whatever asks whether a code is a scalar's goes through this list
abbrev pub scalar_kinds : List ScalarKind
scalar_kinds = Unquoted ∷ Quoted ∷ Parameter ∷ UndefinedParameter ∷ Header ∷ QuotedEscape ∷ []

-- the first of some kinds that has a code, or none
abbrev pub named_among : List ScalarKind → ℕ → Option ScalarKind
named_among [] code = None
named_among (kind ∷ kinds) code = elim (eqb code (scalar_code kind)) [ true ↦ Some kind | false ↦ named_among kinds code ]

-- the kind of scalar that a code names, or none
unfoldable pub scalar_named : ℕ → Option ScalarKind
scalar_named code = named_among scalar_kinds code

-- whether a code names a kind of scalar
abbrev pub names_scalar : Option ScalarKind → Bool
names_scalar (Some kind) = true
names_scalar None = false

abbrev pub is_scalar_code : ℕ → Bool
is_scalar_code code = names_scalar (scalar_named code)

-- the kind of a quoted run, by whether a backslash took part in it: the tape gets code 11, quoted with an escape
abbrev pub quoted_kind : Bool → ScalarKind
quoted_kind true = QuotedEscape
quoted_kind false = Quoted

-- only Quoted may have length 0, and code 11, which is treated as code 5
abbrev pub may_be_empty : ScalarKind → Bool
may_be_empty kind = eqb (scalar_code kind) quoted_code || eqb (scalar_code kind) quoted_escape_code

-- a Header has a container next
abbrev pub is_header : ScalarKind → Bool
is_header kind = eqb (scalar_code kind) header_code

-- ---- an opener's b word: mixed, 0 or 1
abbrev pub flag_word : Bool → ℕ
flag_word true = 1
flag_word false = 0

abbrev pub flag_of : ℕ → Bool
flag_of b = eqb b 1

-- whether a word is that of its own flag
abbrev pub stores_flag : ℕ → Bool
stores_flag b = eqb b (flag_word (flag_of b))

-- ---- the tokens, by what they are
abbrev pub opener_of : ContainerKind → ℕ → Bool → Token
opener_of kind link mixed = record { code = container_code kind; a = link; b = flag_word mixed }

abbrev pub end_of : ℕ → Token
end_of opener = record { code = end_code; a = opener; b = 0 }

abbrev pub scalar_of : ScalarKind → ℕ → ℕ → Token
scalar_of kind offset length = record { code = scalar_code kind; a = offset; b = length }

abbrev pub operator_of : ℕ → Token
operator_of number = record { code = operator_code; a = number; b = 0 }

abbrev pub mixed_container_token : Token
mixed_container_token = record { code = mixed_container_code; a = 0; b = 0 }

-- what is read where no token stands
abbrev pub no_token : Token
no_token = record { code = 0; a = 0; b = 0 }

-- token i of a list, or the token of zeros where there is none
abbrev pub nth : List Token → ℕ → Token
nth ts i = get_or ts i no_token

-- ---- what a token is
-- a container of a kind, with its link and its flag
abbrev pub opened : ContainerKind → ℕ → Bool → Option Container
opened kind link mixed = Some (record { kind = kind; link = link; mixed = mixed })

-- the kind of container that a code names, or none
unfoldable pub container_named : ℕ → Option ContainerKind
container_named code =
    elim (eqb code array_code) [
      | true ↦ Some Array
      | false ↦ elim (eqb code object_code) [ true ↦ Some Object | false ↦ None ]
    ]

-- an opener with its kind, link and stored flag, or none
unfoldable pub container_of : Token → Option Container
container_of t =
    elim (eqb t.code array_code) [
      | true ↦ opened Array t.a (flag_of t.b)
      | false ↦ elim (eqb t.code object_code) [
        | true ↦ opened Object t.a (flag_of t.b)
        | false ↦ None
      ]
    ]

-- an Unquoted, another scalar, an End, or none of these
unfoldable pub standing_of : Token → Standing
standing_of t =
    elim (eqb t.code unquoted_code) [
      | true ↦ Standing.Unquoted
      | false ↦ elim (is_scalar_code t.code) [
        | true ↦ OtherScalar
        | false ↦ elim (eqb t.code end_code) [ true ↦ End | false ↦ Standing.Nothing ]
      ]
    ]

-- ---- a token changed
-- the same view as a Header
abbrev pub headed : Token → Token
headed t = scalar_of Header t.a t.b

-- the same opener with another link, another flag, or as another kind; a token that opens nothing stays as it is
abbrev pub relink : Token → Option Container → ℕ → Token
relink t (Some container) other = opener_of container.kind other container.mixed
relink t None other = t

abbrev pub reflag : Token → Option Container → Bool → Token
reflag t (Some container) other = opener_of container.kind container.link other
reflag t None other = t

abbrev pub rekind : Token → Option Container → ContainerKind → Token
rekind t (Some container) other = opener_of other container.link container.mixed
rekind t None other = t

unfoldable pub relinked : Token → ℕ → Token
relinked t link = relink t (container_of t) link

unfoldable pub reflagged : Token → Bool → Token
reflagged t mixed = reflag t (container_of t) mixed

unfoldable pub rekinded : Token → ContainerKind → Token
rekinded t kind = rekind t (container_of t) kind
