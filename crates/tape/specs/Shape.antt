-- What a token's words make it: document 01, 'Three words to a token', read from the words to the token.
use Rattle.std.specs.Prelude.{ℕ, Bool, true, false, ◌≡◌, eqb, ltb, Option, Some, None}
use Rattle.tape.specs.declared.token.Token.{Token}
use Rattle.tape.specs.declared.token.ContainerKind.{ContainerKind}
use Rattle.tape.specs.declared.shape.Shape.{Shape}
use Rattle.tape.specs.declared.shape.Shape.TheVariants.{Opener, MixedContainer, Scalar, Operator, End}
use Rattle.tape.specs.declared.shape.Link.{Link}
use Rattle.tape.specs.declared.shape.Link.TheVariants.{ToEnd, ToOpener}
use Rattle.tape.specs.Token.{mixed_container_code, operator_code, end_code, least_operator, greatest_operator}
use Rattle.tape.specs.Token.{scalar_named, stores_flag, opener_of, container_of}

-- an End, an operator by its number, or a MixedContainer: the tokens whose b is 0
unfoldable pub bare_shape : ℕ → ℕ → Option Shape
bare_shape code a =
    elim (eqb code end_code) [
      | true ↦ Some (End a)
      | false ↦ elim (eqb code operator_code) [
        | true ↦ elim (ltb a least_operator) [
          | true ↦ None
          | false ↦ elim (ltb greatest_operator a) [ true ↦ None | false ↦ Some (Operator a) ]
        ]
        | false ↦ elim (eqb code mixed_container_code) [
          | true ↦ elim (eqb a 0) [ true ↦ (Some MixedContainer) | false ↦ None ]
          | false ↦ None
        ]
      ]
    ]

-- a container whose b stores a flag, a scalar, or one of the tokens whose b is 0
unfoldable pub shape_of : Token → Option Shape
shape_of t =
    elim (container_of t) [
      | Some container ↦ elim (stores_flag t.b) [ true ↦ Some (Opener container.link) | false ↦ None ]
      | None ↦ elim (scalar_named t.code) [
        | Some kind ↦ Some (Scalar kind t.a t.b)
        | None ↦ elim (eqb t.b 0) [ true ↦ bare_shape t.code t.a | false ↦ None ]
      ]
    ]

-- what a token of a shape names
abbrev pub linked : Option Shape → Option Link
linked (Some (Opener end)) = Some (ToEnd end)
linked (Some MixedContainer) = None
linked (Some (Scalar kind offset size)) = None
linked (Some (Operator number)) = None
linked (Some (End opener)) = Some (ToOpener opener)
linked None = None

-- an opener's End, an End's opener, or none
abbrev pub link_of : Token → Option Link
link_of t = linked (shape_of t)

-- a container's opener that names its End
abbrev pub Opens : Token → ℕ → Type 0
Opens t end = (kind : ContainerKind) × (mixed : Bool) × (t ≡ opener_of kind end mixed)
