-- The cases marked P in document 01, 'Both sides of each edge', and those of code 11: a quoted run with an escape and without, and a
-- parameter's run, which is unquoted: a text, how many tokens the tape has room for, and what the parse answers.
use Rattle.std.specs.Prelude.{ℕ, Bool, true, false, List, [], ◌∷◌, Ok, Err}
use Prim.Native.Char.{code}
use Prim.Native.String.{String}
use Prim.Native.String as Strings
use Rattle.tape.specs.declared.token.Token.{Token}
use Rattle.tape.specs.declared.token.ContainerKind.TheVariants.{Array}
use Rattle.tape.specs.declared.token.ScalarKind.TheVariants.{Unquoted, Quoted, Header, QuotedEscape}
use Rattle.tape.specs.Token.{opener_of, end_of, scalar_of, operator_of, mixed_container_token}
use Rattle.tape.specs.Words.{words_for, token_in, tokens_in}
use Rattle.machine.specs.Refusals.{number, place}
use Rattle.machine.specs.Finish.{Outcome, outcome}
use Rattle.parse.specs.Parse.{parse_of}

infixl 20 refusal◌at◌
-- the bytes of a text that is written in ASCII
unfoldable pub bytes : String → List ℕ
bytes Strings.[] = []
bytes (Strings.◌∷◌ c s) = code c ∷ bytes s

-- so many tokens; so many, of which one is of note; all of them; each with whether the text began with ef bb bf; or a refusal's number
-- and place
pub data Answer : Type 0 where
  tokens : ℕ → Bool → Answer
  tokens_with : ℕ → ℕ → Token → Bool → Answer
  these : List Token → Bool → Answer
  refusal◌at◌ : ℕ → ℕ → Answer

-- one line of the table
pub record Case : Type 0 where
  pub text : String
  pub room : ℕ
  pub answer : Answer

-- what an outcome answers, told as a line of the table tells it
unfoldable pub told : Answer → Outcome → Answer
told (tokens n b) (outcome (Ok p) ws) = tokens p.count p.bom
told (tokens_with n i t b) (outcome (Ok p) ws) = tokens_with p.count i (token_in ws p.count i) p.bom
told (these ts b) (outcome (Ok p) ws) = these (tokens_in ws p.count) p.bom
told (refusal n at p) (outcome (Ok p') ws) = tokens p'.count p'.bom
told (tokens n b) (outcome (Err r) ws) = refusal (number r) at (place r)
told (tokens_with n i t b) (outcome (Err r) ws) = refusal (number r) at (place r)
told (these ts b) (outcome (Err r) ws) = refusal (number r) at (place r)
told (refusal n at p) (outcome (Err r) ws) = refusal (number r) at (place r)

-- what the parse answers to the text of a line
unfoldable pub parsed : Case → Answer
parsed c = told c.answer (parse_of (bytes c.text) (words_for c.room))

abbrev pub case : String → ℕ → Answer → Case
case text room answer = record { text = text; room = room; answer = answer }

-- the dump's input, token by token as document 01 prints them
unfoldable pub dumped : List Token
dumped =
    scalar_of Unquoted 0 1
    ∷ opener_of Array 7 true
    ∷ scalar_of Unquoted 3 1
    ∷ mixed_container_token
    ∷ scalar_of Unquoted 5 1
    ∷ operator_of 7
    ∷ scalar_of Unquoted 7 1
    ∷ end_of 1
    ∷ []

-- a container that holds a MixedContainer, and whose flag is 0 behind an empty one
unfoldable pub forgotten : List Token
forgotten =
    scalar_of Unquoted 0 1
    ∷ opener_of Array 9 false
    ∷ scalar_of Unquoted 3 1
    ∷ mixed_container_token
    ∷ scalar_of Unquoted 5 1
    ∷ operator_of 7
    ∷ scalar_of Unquoted 7 1
    ∷ opener_of Array 8 false
    ∷ end_of 7
    ∷ end_of 1
    ∷ []

unfoldable pub cases : List Case
cases =
    case "a={b c=d}\n" 8 (these dumped false)
    ∷ case "a={b c=d}\n" 7 (refusal 11 at 0)
    ∷ case "" 16 (tokens 0 false)
    ∷ case "a" 16 (refusal 2 at 0)
    ∷ case "a }" 16 (refusal 3 at 2)
    ∷ case "{ a }" 16 (refusal 4 at 2)
    ∷ case "a={{b}<c}" 16 (refusal 7 at 5)
    ∷ case "a={b !c}" 16 (refusal 8 at 4)
    ∷ case "a={b=c" 16 (tokens 5 false)
    ∷ case "a={b={c=d" 16 (refusal 2 at 0)
    ∷ case "a={{}}" 16 (tokens 3 false)
    ∷ case "a=rgb{1}" 16 (tokens_with 5 1 (scalar_of Header 2 3) false)
    ∷ case "[[!a]b=c]" 16 (tokens 5 false)
    ∷ case "a={b c=d {}}" 16 (these forgotten false)
    ∷ case "a=\"b\\\"c\"" 16 (tokens_with 2 1 (scalar_of QuotedEscape 3 4) false)
    ∷ case "a=\"bc\"" 16 (tokens_with 2 1 (scalar_of Quoted 3 2) false)
    ∷ case "[[x]\"\\\"]" 16 (tokens_with 2 1 (scalar_of Unquoted 4 3) false)
    ∷ []
