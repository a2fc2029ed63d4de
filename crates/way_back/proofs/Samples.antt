-- A sheet that parse leaves and that is plain: so plain sheets are not nothing.
-- Assumes nothing.
use mathlib.Core.Path.{◌≡◌, refl, sym, ◌∙◌, ap}
use mathlib.Core.Bool.{Bool, true, false, not, ◌&&◌, false≢true}
use mathlib.Core.List.{List, [], ◌∷◌}
use Prim.Native.Nat.{ℕ, zero, suc}
use native.Mathlib.Omega.{arith}
use borrow.Author.Tests.{eq-eqb, not-true}
use lib.Dec.{eqb}
use lib.ListN.{length, drop}
use Rattle.data.specs.Classes.{is_boundary}
use Rattle.cut.specs.Blanks.{is_blank, blanks_from, comment_from, skip_ws}
use Rattle.cut.specs.Runs.{stop_from, run_of, run_end_of}
use Rattle.cut.specs.Quotes.{quoted_from, skipped_from, quoted_run}
use Rattle.cut.specs.Scalars.{opens_variable, cut_of, scalar_cut}
use Rattle.operator.specs.Operators.{sighted}
use Rattle.tape.specs.declared.token.Token.{Token}
use Rattle.tape.specs.declared.token.ContainerKind.{ContainerKind}
use Rattle.tape.specs.declared.token.ContainerKind.TheVariants.{Array, Object}
use Rattle.tape.specs.declared.token.ScalarKind.TheVariants.{Unquoted, Quoted}
use Rattle.tape.specs.Token.{array_code, object_code, mixed_container_code, parameter_code, undefined_parameter_code, operator_code}
use Rattle.tape.specs.Token.{header_code, quoted_escape_code, nth, container_of, scalar_named, scalar_of, opener_of, end_of}
use Rattle.tape.specs.Words.{words_for, tokens_in, words_of, padded}
use Rattle.tape.specs.Tape.{token_at, replace, add, lay}
use Rattle.machine.specs.Bytes.{key_byte, open_byte, follows_key}
use Rattle.machine.specs.Start.{has_bom, start}
use Rattle.machine.specs.Finish.{outcome, with_tokens}
use Rattle.parse.specs.After.{lay_then}
use Rattle.parse.specs.Containers.{open_then, close_at, close, key_end, text_end}
use Rattle.parse.specs.Scalars.{scalar_then}
use Rattle.parse.specs.Key.{key_close, key_turn}
use Rattle.parse.specs.KeyValueSeparator.{separator_then, separator_turn}
use Rattle.parse.specs.ObjectValue.{object_value_turn}
use Rattle.parse.specs.ParseOpen.{settle, flag_parent, open_as, open_scalar, parse_open_turn}
use Rattle.parse.specs.Parse.{state_turn, turn, run, parse_of}
use Rattle.promises.specs.Cases.{bytes}
use Rattle.promises.proofs.Demand3.{parse_sound}
use Rattle.sheet.specs.Sound.{Sheet}
use Rattle.put.specs.Parts.{view_of}
use Rattle.writer.specs.Forest.{forest_in, stretch, forest_of}
use Rattle.way_back.specs.Plain.{plain_byte, bare_byte, AllPlain, AllBare, Plain}
use Rattle.writer.proofs.Forms.{first_of, second_of}

abbrev text : List ℕ
text = bytes "a={b=\"c\"}"

abbrev tokens : List Token
tokens = scalar_of Unquoted 0 1 ∷ opener_of Object 4 false ∷ scalar_of Unquoted 3 1 ∷ scalar_of Quoted 6 1 ∷ end_of 1 ∷ []

-- it is what parse leaves
parsed : parse_of text (words_for 5) ≡ outcome (with_tokens 5 false) (words_of tokens)
unfolding bytes is_boundary is_blank blanks_from comment_from skip_ws stop_from run_of run_end_of quoted_from skipped_from quoted_run
    opens_variable cut_of scalar_cut sighted container_of scalar_named words_of padded token_at replace add lay key_byte open_byte
    follows_key has_bom start lay_then open_then close_at close key_end text_end scalar_then key_close key_turn separator_then
    separator_turn object_value_turn settle flag_parent open_as open_scalar parse_open_turn state_turn turn run parse_of
parsed = refl

sound : Sheet (length text) tokens
unfolding tokens_in words_of
sound = (parse_sound text (words_for 5) 5 false (words_of tokens) parsed).tokens

-- a code that no token has
lacks : ℕ → List Token → Bool
lacks code [] = not (eqb 0 code)
lacks code (x ∷ xs) = not (eqb x.code code) && lacks code xs

lacking : (code : ℕ) (xs : List Token) → lacks code xs ≡ true → (i : ℕ) → (nth xs i).code ≡ code → ⊥
unfolding lacks
lacking code [] h i e = false≢true (sym (not-true _ h) ∙ eq-eqb 0 code e)
lacking code (x ∷ xs) h zero e = false≢true (sym (not-true _ (first_of _ _ h)) ∙ eq-eqb x.code code e)
lacking code (x ∷ xs) h (suc i) e = lacking code xs (second_of (not (eqb x.code code)) _ h) i e

no_code : (code : ℕ) → lacks code tokens ≡ true → (i : ℕ) (x : Token) → nth tokens i ≡ x → x.code ≡ code → ⊥
no_code code h i x e c = lacking code tokens h i (ap (λ (t : Token). t.code) e ∙ c)

-- the words of one token are those of the other
words_same : {x y : Token} → x ≡ y → (x.code ≡ y.code) × (x.a ≡ y.a) × (x.b ≡ y.b)
words_same e = (ap (λ (t : Token). t.code) e, ap (λ (t : Token). t.a) e, ap (λ (t : Token). t.b) e)

-- the first two tokens, and those behind them, of which none opens anything
by_place : {P : Type 0} (code : ℕ) → lacks code (drop 2 tokens) ≡ true → (i : ℕ) (x : Token) → nth tokens i ≡ x → x.code ≡ code
    → (i ≡ 0 → nth tokens 0 ≡ x → P) → (i ≡ 1 → nth tokens 1 ≡ x → P) → P
by_place code h zero x e c f g = f refl e
by_place code h (suc zero) x e c f g = g refl e
by_place code h (suc (suc i)) x e c f g = absurd (lacking code (drop 2 tokens) h i ((words_same e).0 ∙ c))

plain-view : (i offset size : ℕ) → nth tokens i ≡ scalar_of Unquoted offset size → AllPlain (view_of text offset size)
unfolding bytes plain_byte
plain-view zero offset size e = rw (← (words_same e).1, ← (words_same e).2) (refl, tt)
plain-view (suc zero) offset size e = absurd (omega (arith, words_same e))
plain-view (suc (suc zero)) offset size e = rw (← (words_same e).1, ← (words_same e).2) (refl, tt)
plain-view (suc (suc (suc zero))) offset size e = absurd (omega (arith, words_same e))
plain-view (suc (suc (suc (suc zero)))) offset size e = absurd (omega (arith, words_same e))
plain-view (suc (suc (suc (suc (suc i))))) offset size e = absurd (omega (arith, words_same e))

bare-view : (i offset size : ℕ) → nth tokens i ≡ scalar_of Quoted offset size → AllBare (view_of text offset size)
unfolding bytes bare_byte
bare-view zero offset size e = absurd (omega (arith, words_same e))
bare-view (suc zero) offset size e = absurd (omega (arith, words_same e))
bare-view (suc (suc zero)) offset size e = absurd (omega (arith, words_same e))
bare-view (suc (suc (suc zero))) offset size e = rw (← (words_same e).1, ← (words_same e).2) (refl, tt)
bare-view (suc (suc (suc (suc zero)))) offset size e = absurd (omega (arith, words_same e))
bare-view (suc (suc (suc (suc (suc i))))) offset size e = absurd (omega (arith, words_same e))

unflagged : (i end : ℕ) (kind : ContainerKind) → nth tokens i ≡ opener_of kind end true → ⊥
unfolding lacks
unflagged i end Array e = no_code array_code refl i _ e refl
unflagged i end Object e = by_place object_code refl i _ e refl (λ z f. omega (arith, words_same f)) (λ z f. omega (arith, words_same f))

pub sample_plain : Plain text tokens
unfolding lacks forest_in stretch forest_of container_of
sample_plain = record {
  sound = sound;
  in_turn = (tt, tt);
  no_operators = λ i number e. no_code operator_code refl i _ e refl;
  no_mixed_containers = λ i e. no_code mixed_container_code refl i _ e refl;
  no_flags = unflagged;
  no_headers = λ i offset size e. no_code header_code refl i _ e refl;
  no_parameters = λ i offset size e. no_code parameter_code refl i _ e refl;
  no_undefined_parameters = λ i offset size e. no_code undefined_parameter_code refl i _ e refl;
  no_escapes = λ i offset size e. no_code quoted_escape_code refl i _ e refl;
  unquoted_bytes = plain-view;
  quoted_bytes = bare-view;
  objects_filled = λ i flag e. by_place object_code refl i _ e refl (λ z f. omega (arith, words_same f)) (λ z f. omega (arith, z, words_same f));
  first_entries_filled = λ i end kind flag first e f. no_code array_code refl i _ e refl;
}
