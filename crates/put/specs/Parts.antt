-- A part of some bytes: which bytes they are, and where they lie.
use Rattle.std.specs.Prelude.{ℕ, ◌+◌, true, false, List, ltb, take, drop}

-- so many bytes from an offset on, or as many as there are: what a scalar views in its text
abbrev pub view_of : List ℕ → ℕ → ℕ → List ℕ
view_of text offset size = take size (drop offset text)

-- in bytes of a length that start at a place: so many bytes behind the start, and at the start where there are not so many
abbrev pub part_place : ℕ × ℕ → ℕ → ℕ → ℕ × ℕ
part_place start size offset = elim (ltb offset size) [ true ↦ (start.0, start.1 + offset) | false ↦ start ]
