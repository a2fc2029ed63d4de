-- Every line of the table of cases holds, by computation: its refusal, its sheet's soundness, and that its clause is broken.
-- Assumes nothing.
use mathlib.Core.Path.{◌≡◌, refl}
use mathlib.Core.Bool.{Bool, true, false, false≢true}
use mathlib.Core.List.{List, [], ◌∷◌, map}
use lib.ListN.{length}
use Rattle.data.specs.Classes.{is_boundary}
use Rattle.cut.specs.Blanks.{is_blank, blanks_from, comment_from, skip_ws}
use Rattle.cut.specs.Runs.{stop_from, run_of, run_end_of, run_end}
use Rattle.cut.specs.Quotes.{quoted_from, skipped_from, quoted_run}
use Rattle.cut.specs.Scalars.{opens_variable, cut_of, scalar_cut}
use Rattle.operator.specs.Operators.{sighted, numbered}
use Rattle.tape.specs.declared.token.ContainerKind.TheVariants.{Array}
use Rattle.tape.specs.Token.{container_of, scalar_named, standing_of}
use Rattle.tape.specs.Shape.{bare_shape, shape_of}
use Rattle.tape.specs.Words.{tokens_in, words_of, padded}
use Rattle.tape.specs.Tape.{token_at, replace, add, add_before_last, lay, lay_mixed}
use Rattle.parse.specs.After.{lay_then}
use Rattle.parse.specs.Containers.{open_then, close_at, close, key_end, text_end}
use Rattle.parse.specs.Scalars.{scalar_then}
use Rattle.machine.specs.Bytes.{key_byte, open_byte, follows_key, begins_operator, value_byte}
use Rattle.parse.specs.Key.{key_close, key_turn}
use Rattle.parse.specs.KeyValueSeparator.{mix_then, separator_then, separator_turn}
use Rattle.parse.specs.ObjectValue.{object_value_turn}
use Rattle.parse.specs.ParseOpen.{settle, open_empty, open_brace, flag_parent, open_as, open_scalar, parse_open_turn}
use Rattle.parse.specs.ArrayValue.{array_close, operator_then, after_end, unmixed_operator, array_operator, array_value_turn}
use Rattle.machine.specs.Start.{has_bom, start}
use Rattle.parse.specs.Parse.{state_turn, turn, run, parse_of}
use Rattle.promises.specs.Cases.{bytes}
use Rattle.data.specs.Pairs.{pairwise}
use Rattle.writer.specs.Forest.{forest_in, stretch, forest_of}
use Rattle.writer.specs.Pieces.{piece_of, sign_bytes, own_bytes}
use Rattle.writer.specs.Dues.{due_after}
use Rattle.writer.specs.Form.{takes, has_form}
use Rattle.writer.specs.Text.{piece_text, body_text}
use Rattle.writer.specs.Levels.{levels}
use Rattle.alike.specs.Alike.{same_view, same_words, same_token, found_alike}
use Rattle.data.specs.Reasons.{first_of}
use Rattle.writer.specs.Write.{text_of, weigh, read_back, write_of}
use Rattle.sheet.specs.Sound.{Sheet}
use Rattle.promises.specs.Each.{Each}
use Rattle.way_back.specs.Plain.{plain_byte, bare_byte}
use Rattle.way_back.specs.Cases.{Case, refused, cases, CasesHold, CasesSound, CasesBroken}
use Rattle.way_back.proofs.Tested.{opens, opens_to, ends_at, stands, spaced, nested, below, stands_behind, tested, tested-sound}

-- what is answered to each sheet is the refusal that its line says
pub cases_hold : CasesHold
unfolding bytes refused cases is_boundary is_blank blanks_from comment_from skip_ws stop_from run_of run_end_of run_end quoted_from
    skipped_from quoted_run opens_variable cut_of scalar_cut sighted numbered container_of scalar_named standing_of bare_shape
    shape_of tokens_in words_of padded token_at replace add add_before_last lay lay_mixed lay_then open_then close_at close key_end text_end
    scalar_then key_byte key_close key_turn mix_then separator_then separator_turn object_value_turn open_byte settle open_empty open_brace
    flag_parent follows_key open_as open_scalar parse_open_turn begins_operator value_byte array_close operator_then after_end
    unmixed_operator array_operator array_value_turn state_turn turn run has_bom start parse_of forest_in stretch forest_of piece_of
    sign_bytes own_bytes due_after takes has_form piece_text body_text levels pairwise same_view same_words same_token found_alike
    text_of first_of weigh read_back write_of
cases_hold = refl

-- a line whose sheet passes the test
passes : Case → Bool
passes c = tested (length (bytes c.text)) c.tokens

passed : (cs : List Case) → map passes cs ≡ map (λ c. true) cs → Each (λ c. Sheet (length (bytes c.text)) c.tokens) cs
unfolding passes
passed [] e = tt
passed (c ∷ cs) e =
    let here : passes c ≡ true = cc in
    let rest : map passes cs ≡ map (λ c. true) cs = cc in
    (tested-sound (length (bytes c.text)) c.tokens here, passed cs rest)

pub cases-sound : CasesSound
unfolding bytes cases container_of scalar_named bare_shape shape_of opens opens_to ends_at stands spaced nested below stands_behind tested passes
cases-sound = passed cases refl

infixr 20 ◌and◌
-- of a line and of those behind it
◌and◌ : {P Q : Type 0} → P → Q → P × Q
◌and◌ p q = (p, q)

pub cases-broken : CasesBroken
unfolding bytes cases plain_byte bare_byte container_of forest_in stretch forest_of
cases-broken =
    (λ f. f)
    and (λ f. f.0)
    and (λ f. f 2 1 refl)
    and (λ f. f 2 refl)
    and (λ f. f 1 2 Array refl)
    and (λ f. f 2 1 1 refl)
    and (λ f. f 1 1 1 refl)
    and (λ f. f 1 1 1 refl)
    and (λ f. f 1 1 0 refl)
    and (λ f. false≢true (f 1 1 1 refl).0)
    and (λ f. false≢true (f 1 1 1 refl).0)
    and (λ f. false≢true (f 1 1 1 refl).0)
    and (λ f. f 1 false refl)
    and (λ f. f 1 4 Array false false refl refl)
    and tt
