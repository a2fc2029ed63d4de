-- The scalar that starts at a place of a text, by its first byte: a quoted run, `@[` through its `]`, or an unquoted run.
use Rattle.std.specs.Prelude.{ℕ, ◌+◌, Bool, true, false, List, Option, Some, None, eqb, ltb, length, drop, get_or}
use Rattle.data.specs.Bytes.{quote, at_sign, bracket_open, bracket_close}
use Rattle.data.specs.Classes.{is_boundary}
use Rattle.cut.specs.Quotes.{quoted_run}
use Rattle.cut.specs.Runs.{stop_from, run_end_of}
use Rattle.cut.specs.declared.Cut.{Cut}
use Rattle.cut.specs.declared.Cut.TheVariants.{Unquoted, Quoted}
use Rattle.cut.specs.declared.QuotedRun.{QuotedRun}

-- an unquoted view from a start to an end, where the text goes on
abbrev pub unquoted : ℕ → ℕ → Option Cut
unquoted start end = Some (Unquoted start end end)

-- Quoted views leave out the quotes and keep escapes; no closing quote is the text's end: none is Eof (2). What is said of a
-- backslash is passed on
abbrev pub quoted : ℕ → Option QuotedRun → Option Cut
quoted start (Some run) = Some (Quoted start (start + run.length) (start + run.length + 1) run.escaped)
quoted start None = None

-- whether a byte ends an interpolated variable
unfoldable pub closes_bracket : ℕ → Bool
closes_bracket b = eqb b bracket_close

-- how many bytes stand before the first `]`; all where there is none
unfoldable pub bracket_run : List ℕ → ℕ
bracket_run bytes = stop_from closes_bracket bytes 0

-- whether `@[` stands at a place
unfoldable pub opens_variable : List ℕ → ℕ → Bool
opens_variable text at = elim (eqb (get_or text at 0) at_sign) [ true ↦ eqb (get_or text (at + 1) 0) bracket_open | false ↦ false ]

-- `@[` runs through the first `]`, kept in the view; none is the text's end, Eof (2)
unfoldable pub variable_cut : List ℕ → ℕ → Option Cut
variable_cut text at =
    let last = at + 2 + bracket_run (drop (at + 2) text) in
    elim (ltb last (length text)) [ true ↦ unquoted at (last + 1) | false ↦ None ]

-- the scalar that starts at a place, by what stops an unquoted run (other `@` is an unquoted run); the end where the place is past it
-- or a run is not closed
unfoldable pub cut_of : (ℕ → Bool) → List ℕ → ℕ → Option Cut
cut_of stops text at =
    elim (ltb at (length text)) [
      | false ↦ None
      | true ↦ elim (eqb (get_or text at 0) quote) [
        | true ↦ quoted (at + 1) (quoted_run (drop (at + 1) text))
        | false ↦ elim (opens_variable text at) [
          | true ↦ variable_cut text at
          | false ↦ unquoted at (run_end_of stops text at)
        ]
      ]
    ]

-- by the thirteen boundary bytes
unfoldable pub scalar_cut : List ℕ → ℕ → Option Cut
scalar_cut text at = cut_of is_boundary text at
