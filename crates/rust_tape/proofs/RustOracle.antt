-- The definition of the Rust's parser beside the real one: worked out on the texts of RustRows, in the domain and past it, it answers what the Rust did.
-- Assumes nothing.
use Prim.Native.Nat.{ℕ}
use mathlib.Core.Path.{◌≡◌, refl}
use mathlib.Core.Bool.{Bool}
use mathlib.Core.List.{List, [], ◌∷◌, map}
use Rattle.promises.specs.Cases.{bytes}
use Rattle.rust_tape.specs.RustRows.{Row, rows}
use Rattle.rust_tape.specs.RustCuts.{stride_stops, character_class, has_class, forward_search, stride, strides_from, strides, scalar_look}
use Rattle.rust_tape.specs.RustCuts.{scalar_strides, split_at_scalar_fallback, split_at_scalar, quote_look, quote_strides, quote_from}
use Rattle.rust_tape.specs.RustCuts.{parse_quote_scalar_fallback, parse_quote_scalar}
use Rattle.rust_tape.specs.RustTape as Rust
use Rattle.rust_tape.specs.RustTape.{Operator, Variant, TextToken, Flow, minus, index, slice_from, assign, insert, get, skip_ws_t, skip_comment_t}
use Rattle.rust_tape.specs.RustTape.{parse_quote, split_scalar, parse_scalar, parse_variable, parse_by, at_end, parameter_value, parameter_rest}
use Rattle.rust_tape.specs.RustTape.{parameter_name, parameter_from, parse_parameter_definition, key_close, key_header, key_brace, key_arm}
use Rattle.rust_tape.specs.RustTape.{separator_by, value_arm, open_close, open_brace, flagged, open_first, open_bracket, open_arm, array_close}
use Rattle.rust_tape.specs.RustTape.{operator_by, after_end, array_sign, array_arm, by_its_state, rust_turn, rust_loop, utf8_bom, begin}
use Rattle.rust_tape.specs.RustTape.{turns_by, parsed_by, rust_parse}
use Rattle.parse.specs.Told.{bit}
use Rattle.rust_tape.specs.Answers.{error_number, error_place}

-- ---- the Rust's tokens by document 01's numbers
abbrev variant_code : Variant → ℕ
variant_code Rust.Unquoted = 4
variant_code Rust.Quoted = 5
variant_code Rust.Parameter = 6
variant_code Rust.UndefinedParameter = 7
variant_code Rust.Header = 10

abbrev operator_number : Operator → ℕ
operator_number Rust.LessThan = 1
operator_number Rust.LessThanEqual = 2
operator_number Rust.GreaterThan = 3
operator_number Rust.GreaterThanEqual = 4
operator_number Rust.NotEqual = 5
operator_number Rust.Exact = 6
operator_number Rust.Equal = 7
operator_number Rust.Exists = 8

abbrev then_words : TextToken → List ℕ → List ℕ
then_words (Rust.Array end mixed) words = 1 ∷ end ∷ bit mixed ∷ words
then_words (Rust.Object end mixed) words = 2 ∷ end ∷ bit mixed ∷ words
then_words Rust.MixedContainer words = 3 ∷ 0 ∷ 0 ∷ words
then_words (Rust.OfScalar variant start size) words = variant_code variant ∷ start ∷ size ∷ words
then_words (Rust.OfOperator operator) words = 8 ∷ operator_number operator ∷ 0 ∷ words
then_words (Rust.End start-idx) words = 9 ∷ start-idx ∷ 0 ∷ words

abbrev words_of : List TextToken → List ℕ
words_of [] = []
words_of (t ∷ ts) = then_words t (words_of ts)

abbrev shown : Bool → Flow → List ℕ
shown bom (Rust.loop p) = []
shown bom (Rust.ok ts) = 0 ∷ 0 ∷ bit bom ∷ words_of ts
shown bom (Rust.err e ts) = error_number e ∷ error_place e ∷ 0 ∷ words_of ts
shown bom Rust.panic = []

unfoldable pub shown_of : Row → List ℕ
shown_of r = shown (utf8_bom r.text) (rust_parse r.text)

pub rust_answers : map shown_of rows ≡ map (λ r. r.answer) rows
unfolding rows bytes shown_of stride_stops character_class has_class forward_search stride strides_from strides scalar_look scalar_strides
    split_at_scalar_fallback split_at_scalar quote_look quote_strides quote_from parse_quote_scalar_fallback parse_quote_scalar
    minus index slice_from assign insert get skip_ws_t skip_comment_t parse_quote split_scalar parse_scalar parse_variable parse_by at_end
    parameter_value parameter_rest parameter_name parameter_from parse_parameter_definition key_close key_header key_brace key_arm
    separator_by value_arm open_close open_brace flagged open_first open_bracket open_arm array_close operator_by after_end array_sign array_arm
    by_its_state rust_turn rust_loop utf8_bom begin turns_by parsed_by
rust_answers = refl
