-- Our answer read as the Rust's, token by token (AsRust), and what the Rust's parse answers: demand 2 says that the two are one.
use Rattle.std.specs.Prelude.{ℕ, Bool, true, false, List, map, eqb}
use Rattle.std.proofs.Math.Option.{Option, some}
use Rattle.tape.specs.Words.{tokens_in}
use Rattle.parse.specs.Told.{ParseTold, parse_told}
use Rattle.rust_tape.specs.RustTape as Rust
use Rattle.rust_tape.specs.RustTape.{TextToken, ErrorKind, Message, Flow, utf8_bom, parsed_by}
use Rattle.rust_tape.specs.AsRust.{token_as_rust}

-- the Rust's answer, its errors told by document 01's number and place: the BOM and the tokens, an error, or none of these
pub data Answer : Type 0 where
  tokens : (bom : Bool) → List (Option TextToken) → Answer
  error : (number place : ℕ) → Answer
  no_answer : Answer

-- what our parse tells, read so
abbrev pub as_rust : ParseTold → Answer
as_rust (parse_told refusal count bom place words) =
    elim (eqb refusal 0) [
      | true ↦ tokens (eqb bom 1) (map token_as_rust (tokens_in words count))
      | false ↦ error refusal place
    ]

-- document 01's number for each of the Rust's messages
abbrev pub message_number : Message → ℕ
message_number Rust.TokenHeaders = 4
message_number Rust.ClosedValue = 5
message_number Rust.MixedNotExpected = 6
message_number Rust.ScalarToPrecede = 7
message_number Rust.Unrecognized = 8
message_number Rust.ParameterStart = 9
message_number Rust.NameEnd = 10

-- and for each error
abbrev pub error_number : ErrorKind → ℕ
error_number Rust.Eof = 2
error_number (Rust.StackEmpty offset) = 3
error_number (Rust.InvalidSyntax msg offset) = message_number msg

-- and its place
abbrev pub error_place : ErrorKind → ℕ
error_place Rust.Eof = 0
error_place (Rust.StackEmpty offset) = offset
error_place (Rust.InvalidSyntax msg offset) = offset

-- what the Rust's parse comes to; a parse that has not returned, or has panicked, has no answer
abbrev pub answered : Bool → Flow → Answer
answered bom (Rust.loop p) = no_answer
answered bom (Rust.ok ts) = tokens bom (map some ts)
answered bom (Rust.err e ts) = error (error_number e) (error_place e)
answered bom Rust.panic = no_answer

-- its answer to a text by a cut
unfoldable pub answer_by : (List ℕ → ℕ) → List ℕ → Answer
answer_by cut text = answered (utf8_bom text) (parsed_by cut text)
