-- A token of a sheet by its index: document 01's refusal 12, and what a walk through a sheet asks.
use Rattle.std.specs.Prelude.{ℕ, ◌+◌, Bool, true, false, List, [], leb, ltb, length, take, drop, Option, Some, None}
use Rattle.tape.specs.declared.shape.Shape.{Shape}
use Rattle.tape.specs.declared.shape.Shape.TheVariants.{Opener, MixedContainer, Scalar, Operator, End}
use Rattle.tape.specs.declared.shape.Link.{Link}
use Rattle.tape.specs.declared.shape.Link.TheVariants.{ToEnd, ToOpener}
use Rattle.tape.specs.Shape.{shape_of, link_of}
use Rattle.tape.specs.Words.{words_for, token_in}
use Rattle.sheet.specs.declared.views.Viewed.{Viewed}

-- a view at an offset, with a length
abbrev pub seen : ℕ → ℕ → Option Viewed
seen offset length = Some (record { offset = offset; length = length })

-- document 01's number for the refusal, 0 where there is none
abbrev pub refusal_of : Option Viewed → ℕ
refusal_of (Some v) = 0
refusal_of None = 12

-- and its place, 0 for the refusal and where there is none
abbrev pub refusal_place : Option Viewed → ℕ
refusal_place (Some v) = 0
refusal_place None = 0

-- a token's code, 0 where there is no token
unfoldable pub code_in : List ℕ → ℕ → ℕ → ℕ
code_in words count i = (token_in words count i).code

-- the token that a link names, 0 for none
abbrev pub named : Option Link → ℕ
named (Some (ToEnd end)) = end
named (Some (ToOpener opener)) = opener
named None = 0

-- an opener's End or an End's opener, 0 where there is none
unfoldable pub link_in : List ℕ → ℕ → ℕ → ℕ
link_in words count i = named (link_of (token_in words count i))

-- whether a view ends past a text of a length
abbrev pub past_text : ℕ → ℕ → ℕ → Bool
past_text text_length offset size = ltb text_length (offset + size)

-- where a scalar's view lies, unless it ends past the text
unfoldable pub placed : ℕ → Option Shape → Option Viewed
placed text_length (Some (Scalar kind offset size)) = elim (past_text text_length offset size) [ true ↦ None | false ↦ seen offset size ]
placed text_length (Some (Opener end)) = None
placed text_length (Some MixedContainer) = None
placed text_length (Some (Operator number)) = None
placed text_length (Some (End opener)) = None
placed text_length None = None

-- refused where the index is not below the count, the words of the count are over the words, the token is no scalar, or its
-- view is outside the text
unfoldable pub viewed : ℕ → List ℕ → ℕ → ℕ → Option Viewed
viewed text_length words count i =
    elim (ltb i count) [
      | true ↦ elim (leb (words_for count) (length words)) [
        | true ↦ placed text_length (shape_of (token_in words count i))
        | false ↦ None
      ]
      | false ↦ None
    ]

-- the part of the text that an answer names, empty for the refusal
abbrev pub part_of : List ℕ → Option Viewed → List ℕ
part_of text (Some v) = take v.length (drop v.offset text)
part_of text None = []

-- where that part lies, in a text that starts at a place: so many bytes behind the start, at the start for the refusal
abbrev pub place_of : ℕ × ℕ → Option Viewed → ℕ × ℕ
place_of start (Some v) = (start.0, start.1 + v.offset)
place_of start None = start
