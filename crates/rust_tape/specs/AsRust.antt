-- A token of ours read as the Rust's, by document 01's table, 'Three words to a token', and code 11. Demand 2 knows our tokens by this one reading.
use Rattle.std.specs.Prelude.{ℕ, [], ◌∷◌, eqb}
use Rattle.std.proofs.Math.Option.{Option, none, some}
use Rattle.tape.specs.declared.token.Token.{Token}
use Rattle.tape.specs.Token.{array_code, object_code, mixed_container_code, operator_code, end_code, flag_of}
use Rattle.tape.specs.Token.{unquoted_code, quoted_code, parameter_code, undefined_parameter_code, header_code, quoted_escape_code}
use Rattle.rust_tape.specs.RustTape as Rust
use Rattle.rust_tape.specs.RustTape.{TextToken, ◌⇒◌, arms}

-- an operator by its number
unfoldable pub operator_as_rust : ℕ → Option TextToken
operator_as_rust number =
    arms (
    (eqb number 1 ⇒ some (Rust.OfOperator Rust.LessThan))
    ∷ (eqb number 2 ⇒ some (Rust.OfOperator Rust.LessThanEqual))
    ∷ (eqb number 3 ⇒ some (Rust.OfOperator Rust.GreaterThan))
    ∷ (eqb number 4 ⇒ some (Rust.OfOperator Rust.GreaterThanEqual))
    ∷ (eqb number 5 ⇒ some (Rust.OfOperator Rust.NotEqual))
    ∷ (eqb number 6 ⇒ some (Rust.OfOperator Rust.Exact))
    ∷ (eqb number 7 ⇒ some (Rust.OfOperator Rust.Equal))
    ∷ (eqb number 8 ⇒ some (Rust.OfOperator Rust.Exists))
    ∷ [])
    none

-- a token of ours is one of the Rust's, or none; codes 5 and 11 are both read as its Quoted
unfoldable pub token_as_rust : Token → Option TextToken
token_as_rust t =
    arms (
    (eqb t.code array_code ⇒ some (Rust.Array t.a (flag_of t.b)))
    ∷ (eqb t.code object_code ⇒ some (Rust.Object t.a (flag_of t.b)))
    ∷ (eqb t.code mixed_container_code ⇒ some Rust.MixedContainer)
    ∷ (eqb t.code unquoted_code ⇒ some (Rust.OfScalar Rust.Unquoted t.a t.b))
    ∷ (eqb t.code quoted_code ⇒ some (Rust.OfScalar Rust.Quoted t.a t.b))
    ∷ (eqb t.code parameter_code ⇒ some (Rust.OfScalar Rust.Parameter t.a t.b))
    ∷ (eqb t.code undefined_parameter_code ⇒ some (Rust.OfScalar Rust.UndefinedParameter t.a t.b))
    ∷ (eqb t.code operator_code ⇒ operator_as_rust t.a)
    ∷ (eqb t.code end_code ⇒ some (Rust.End t.a))
    ∷ (eqb t.code header_code ⇒ some (Rust.OfScalar Rust.Header t.a t.b))
    ∷ (eqb t.code quoted_escape_code ⇒ some (Rust.OfScalar Rust.Quoted t.a t.b))
    ∷ [])
    none
