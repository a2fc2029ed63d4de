-- Every line of the table of cases holds, by computation.
-- Assumes nothing.
use mathlib.Core.Path.{◌≡◌, refl}
use mathlib.Core.List.{map}
use Rattle.data.specs.Classes.{is_boundary}
use Rattle.cut.specs.Blanks.{is_blank, blanks_from, comment_from, skip_ws}
use Rattle.cut.specs.Runs.{stop_from, run_of, run_end_of, run_end}
use Rattle.cut.specs.Quotes.{quoted_from, skipped_from, quoted_run}
use Rattle.cut.specs.Scalars.{closes_bracket, bracket_run, opens_variable, variable_cut, cut_of, scalar_cut}
use Rattle.operator.specs.Operators.{sighted}
use Rattle.tape.specs.Token.{container_of, scalar_named, standing_of}
use Rattle.tape.specs.Words.{room_of, tokens_in, words_of, token_in, padded}
use Rattle.tape.specs.Tape.{token_at, replace, add, add_before_last, lay, lay_mixed}
use Rattle.parse.specs.After.{lay_then}
use Rattle.parse.specs.Containers.{open_then, close_at, close, key_end, text_end}
use Rattle.parse.specs.Scalars.{scalar_then}
use Rattle.machine.specs.Bytes.{key_byte, open_byte, follows_key, begins_operator, value_byte}
use Rattle.parse.specs.Key.{key_close, open_header, key_header, key_brace, key_turn}
use Rattle.parse.specs.KeyValueSeparator.{mix_then, separator_then, separator_turn}
use Rattle.parse.specs.ObjectValue.{object_value_turn}
use Rattle.parse.specs.ParseOpen.{settle, open_empty, open_parameter, open_brace, flag_parent, open_as, open_scalar, parse_open_turn}
use Rattle.parse.specs.ArrayValue.{array_close, operator_then, after_end, unmixed_operator, array_operator, array_value_turn}
use Rattle.parse.specs.Parameter.{parameter_object, value_or_object, parameter_value, parameter_named, parameter_name, parameter}
use Rattle.machine.specs.Start.{has_bom, start}
use Rattle.parse.specs.Parse.{state_turn, turn, run, parse_of}
use Rattle.promises.specs.Cases.{bytes, told, parsed, dumped, forgotten, cases}

-- what the parse answers to each text is what its line says
pub cases_hold : map parsed cases ≡ map (λ c. c.answer) cases
unfolding bytes told parsed dumped forgotten cases is_boundary is_blank blanks_from comment_from skip_ws stop_from run_of run_end_of run_end
    quoted_from skipped_from quoted_run closes_bracket bracket_run opens_variable variable_cut cut_of scalar_cut sighted container_of
    scalar_named standing_of room_of tokens_in words_of token_in padded token_at replace add add_before_last lay lay_mixed lay_then open_then
    close_at close key_end text_end scalar_then key_byte key_close open_header key_header key_brace key_turn mix_then separator_then
    separator_turn object_value_turn open_byte settle open_empty open_parameter open_brace flag_parent follows_key open_as open_scalar
    parse_open_turn begins_operator value_byte array_close operator_then after_end unmixed_operator array_operator array_value_turn
    parameter_object value_or_object parameter_value parameter_named parameter_name parameter state_turn turn run has_bom start parse_of
cases_hold = refl
