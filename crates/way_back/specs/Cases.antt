-- Why a sheet that is not plain is not promised: for each clause of a plain sheet a small sound sheet that breaks it, and how it is
-- refused.
use Rattle.std.specs.Prelude.{ℕ, true, false, ◌≡◌, List, [], ◌∷◌, map, length}
use Prim.Native.String.{String}
use Rattle.tape.specs.declared.token.Token.{Token}
use Rattle.tape.specs.declared.token.ContainerKind.TheVariants.{Array, Object}
use Rattle.tape.specs.declared.token.ScalarKind.TheVariants.{Unquoted, Quoted, Parameter, UndefinedParameter, Header, QuotedEscape}
use Rattle.tape.specs.Token.{opener_of, end_of, scalar_of, operator_of, mixed_container_token}
use Rattle.tape.specs.Words.{words_for}
use Rattle.sheet.specs.Sound.{Sheet}
use Rattle.promises.specs.Cases.{bytes}
use Rattle.promises.specs.Each.{Each}
use Rattle.writer.specs.Refusals.{refusal_of}
use Rattle.writer.specs.Write.{write_of}
use Rattle.way_back.specs.Plain.{Clause, in_turn, no_operators, no_mixed_containers, no_flags, no_headers, no_parameters}
use Rattle.way_back.specs.Plain.{no_undefined_parameters, no_escapes, unquoted_bytes, quoted_bytes, objects_filled}
use Rattle.way_back.specs.Plain.{first_entries_filled, Says}
use Rattle.way_back.specs.Accepted.{answer_of}

-- one line of the table: the clause that is broken, in the request's words and by its name, the text and the tokens over it, and the
-- refusal's number
pub record Case : Type 0 where
  pub broken : String
  pub clause : Clause
  pub text : String
  pub tokens : List Token
  pub refusal : ℕ

-- how many bytes and how many tokens there is room for
abbrev pub room : ℕ
room = 16

-- what is answered
unfoldable pub refused : Case → ℕ
refused c = refusal_of (answer_of (write_of (bytes c.text) c.tokens room (words_for room) true))

-- such a line, written in a line
abbrev pub case : String → Clause → String → List Token → ℕ → Case
case broken clause text tokens refusal = record { broken = broken; clause = clause; text = text; tokens = tokens; refusal = refusal }

-- the key `a`, which is the first byte of each text, and what stands for its entry
abbrev pub keyed : List Token → List Token
keyed entry = scalar_of Unquoted 0 1 ∷ entry

-- the table
unfoldable pub cases : List Case
cases =
    case "root is key and entry in turn" in_turn "a" (keyed []) 46
    ∷ case "objects are key and entry in turn" in_turn "ab" (keyed (opener_of Object 3 false ∷ scalar_of Unquoted 1 1 ∷ end_of 1 ∷ [])) 46
    ∷ case "no operators" no_operators "a" (keyed (opener_of Array 3 false ∷ operator_of 1 ∷ end_of 1 ∷ [])) 45
    ∷ case "no MixedContainers" no_mixed_containers "a" (keyed (opener_of Array 3 false ∷ mixed_container_token ∷ end_of 1 ∷ [])) 45
    ∷ case "no flags" no_flags "a" (keyed (opener_of Array 2 true ∷ end_of 1 ∷ [])) 45
    ∷ case "no headers" no_headers "ab"
    (keyed (opener_of Array 5 false ∷ scalar_of Header 1 1 ∷ opener_of Array 4 false ∷ end_of 3 ∷ end_of 1 ∷ [])) 45
    ∷ case "no parameters" no_parameters "ab" (keyed (scalar_of Parameter 1 1 ∷ [])) 46
    ∷ case "no undefined parameters" no_undefined_parameters "ab" (keyed (scalar_of UndefinedParameter 1 1 ∷ [])) 46
    ∷ case "no code 11" no_escapes "a" (keyed (scalar_of QuotedEscape 1 0 ∷ [])) 45
    ∷ case "unquoted bytes only letters, digits, `_`, `.` and `-`" unquoted_bytes "a " (keyed (scalar_of Unquoted 1 1 ∷ [])) 45
    ∷ case "quoted bytes without quote" quoted_bytes "a\"" (keyed (scalar_of Quoted 1 1 ∷ [])) 45
    ∷ case "quoted bytes without backslash" quoted_bytes "a\\" (keyed (scalar_of Quoted 1 1 ∷ [])) 45
    ∷ case "objects not empty" objects_filled "a" (keyed (opener_of Object 2 false ∷ end_of 1 ∷ [])) 45
    ∷ case "no array whose first entry is an empty container" first_entries_filled "a"
    (keyed (opener_of Array 4 false ∷ opener_of Array 3 false ∷ end_of 2 ∷ end_of 1 ∷ [])) 45
    ∷ []

-- ---- what is shown of each line
-- what is answered to its sheet is the refusal that it says
abbrev pub CasesHold : Type 0
CasesHold = map refused cases ≡ map (λ c. c.refusal) cases

-- its sheet is sound
abbrev pub CasesSound : Type 0
CasesSound = Each (λ c. Sheet (length (bytes c.text)) c.tokens) cases

-- and its clause is broken
abbrev pub CasesBroken : Type 0
CasesBroken = Each (λ c. Says c.clause (bytes c.text) c.tokens → ⊥) cases
