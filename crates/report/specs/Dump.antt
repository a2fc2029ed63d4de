-- The dump of a text: document 01, 'The dump'; `QuotedEscape` in it is code 11.
use Rattle.std.specs.Prelude.{ℕ, ◌+◌, true, false, List, [], ◌∷◌, ◌++◌, eqb, ltb, length}
use Rattle.data.specs.Bytes.{space, line_feed}
use Rattle.tape.specs.declared.token.Token.{Token}
use Rattle.tape.specs.Token.{array_code, object_code, mixed_container_code, operator_code, end_code}
use Rattle.tape.specs.Token.{unquoted_code, quoted_code, parameter_code, undefined_parameter_code, header_code, quoted_escape_code}
use Rattle.tape.specs.Words.{tokens_in}
use Rattle.machine.specs.Finish.{Outcome, outcome}
use Rattle.parse.specs.Parse.{parse_of}
use Rattle.parse.specs.Told.{ParseTold, parse_told, tell_parse}
use Rattle.report.specs.Digits.{decimal}
use Rattle.report.specs.Room.{most_input}
use Rattle.report.specs.Words as words

-- a code with the name of its tokens
pub record Named : Type 0 where
  pub code : ℕ
  pub name : List ℕ

abbrev pub names : List Named
names =
    record { code = array_code; name = words.array }
    ∷ record { code = object_code; name = words.object }
    ∷ record { code = mixed_container_code; name = words.mixed_container }
    ∷ record { code = unquoted_code; name = words.unquoted }
    ∷ record { code = quoted_code; name = words.quoted }
    ∷ record { code = parameter_code; name = words.parameter }
    ∷ record { code = undefined_parameter_code; name = words.undefined_parameter }
    ∷ record { code = operator_code; name = words.operator }
    ∷ record { code = end_code; name = words.end }
    ∷ record { code = header_code; name = words.header }
    ∷ record { code = quoted_escape_code; name = words.quoted_escape }
    ∷ []

-- the name that a list of names has for a code; a code that it does not have has none
unfoldable pub named : List Named → ℕ → List ℕ
named [] code = []
named (n ∷ ns) code = elim (eqb code n.code) [ true ↦ n.name | false ↦ named ns code ]

unfoldable pub name_of : ℕ → List ℕ
unfolding named
name_of code = named names code

-- a space and a number
abbrev pub field : ℕ → List ℕ
field n = space ∷ [] ++ decimal n

-- index, name, a, b
unfoldable pub line_of : ℕ → Token → List ℕ
line_of i t = decimal i ++ (space ∷ []) ++ name_of t.code ++ field t.a ++ field t.b ++ (line_feed ∷ [])

-- then index, name, a, b per token: the lines of tokens whose first has index i
unfoldable pub lines_from : ℕ → List Token → List ℕ
lines_from i [] = []
lines_from i (t ∷ ts) = line_of i t ++ lines_from (i + 1) ts

-- a header with count and BOM as 0 or 1
unfoldable pub header_of : ℕ → ℕ → List ℕ
header_of count bom = words.tokens ++ decimal count ++ words.bom ++ decimal bom ++ (line_feed ∷ [])

-- `refused NUMBER`, also as a line, and `refused NUMBER PLACE`
abbrev pub refusal : ℕ → List ℕ
refusal number = words.refused ++ decimal number

abbrev pub refused_line : ℕ → List ℕ
refused_line number = refusal number ++ (line_feed ∷ [])

unfoldable pub refused_of : ℕ → ℕ → List ℕ
refused_of number place = refusal number ++ field place ++ (line_feed ∷ [])

-- what a parse tells, by document 01's numbers: a refusal prints its line, and success a header and the tokens
unfoldable pub lines_of : ParseTold → List ℕ
lines_of (parse_told refusal count bom place ws) =
    elim (eqb refusal 0) [
      | true ↦ header_of count bom ++ lines_from 0 (tokens_in ws count)
      | false ↦ refused_of refusal place
    ]

-- the dump of a text with a tape of so many words
unfoldable pub dump_of : List ℕ → ℕ → List ℕ
unfolding lines_of
dump_of text len = lines_of (tell_parse (parse_of text len))

-- the words that a parse leaves
abbrev pub left_by : Outcome → List ℕ
left_by (outcome p ws) = ws

-- what the program prints: the dump of its input, or that the input is too long
unfoldable pub save_of : List ℕ → ℕ → List ℕ
save_of input len =
    elim (ltb most_input (length input)) [
      | true ↦ words.input_over ++ decimal most_input ++ (line_feed ∷ [])
      | false ↦ dump_of input len
    ]

-- and the words that it leaves: an input that is too long is not parsed
unfoldable pub save_leaves : List ℕ → List ℕ → List ℕ
save_leaves input ws = elim (ltb most_input (length input)) [ true ↦ ws | false ↦ left_by (parse_of input (length ws)) ]
