-- A date as a line (request W8): what is read of a scalar, with its day count, and the date of a count.
use Rattle.std.specs.Prelude.{Result, Ok, Err, ℕ, List, [], ◌∷◌, ◌++◌}
use Rattle.data.specs.Bytes.{line_feed, equals}
use Rattle.date.specs.Calendar.{days_of, date_at}
use Rattle.date.specs.Reading.{date_read}
use Rattle.date.specs.Refusals.{error_number_of}
use Rattle.std.specs.Result.{result_unwrap_or}
use Rattle.date.specs.declared.calendar.Date.{Date}
use Rattle.date.specs.declared.refusals.DateError.{DateError}
use Rattle.report.specs.Digits.{decimal}
use Rattle.report.specs.Dump.{field, refusal}

-- year, month and day
abbrev pub year_month_day : Date → List ℕ
year_month_day t = (equals ∷ [] ++ decimal t.year) ++ field t.month ++ field t.day

-- and the hour, which is 0 where none stands there, and the day count; or the refusal's number
abbrev pub date_text : Result Date DateError → List ℕ
date_text (Ok t) = year_month_day t ++ field t.hour ++ field (result_unwrap_or (days_of t) 0)
date_text (Err e) = decimal (error_number_of e)

unfoldable pub date_line : List ℕ → List ℕ
date_line d = date_text (date_read d) ++ (line_feed ∷ [])

-- the date of a count, or that it is refused
abbrev pub refusal_text : DateError → List ℕ
refusal_text e = refusal (error_number_of e)

abbrev pub told_text : Result Date DateError → List ℕ
told_text (Ok t) = year_month_day t
told_text (Err e) = refusal_text e

unfoldable pub day_line : ℕ → List ℕ
day_line count = told_text (date_at count) ++ (line_feed ∷ [])
