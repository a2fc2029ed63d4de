-- Request W8's numbers for what is refused about dates, and what stands for a date where there is none.
use Rattle.std.specs.Prelude.{Result, ℕ}
use Rattle.scalar.specs.Numbers.{refusal_of}
use Rattle.date.specs.Calendar.{date}
use Rattle.date.specs.declared.calendar.Date.{Date}
use Rattle.date.specs.declared.refusals.DateError.TheVariants.{NotADate, OutOfRange}
use Rattle.date.specs.declared.refusals.DateError.{DateError}

-- not the shape
abbrev pub not_a_date : ℕ
not_a_date = 51

-- a part or a count out of range
abbrev pub out_of_range : ℕ
out_of_range = 52

-- the number of a refusal
abbrev pub error_number_of : DateError → ℕ
error_number_of NotADate = not_a_date
error_number_of OutOfRange = out_of_range

-- and of what is answered about dates, 0 where there is an answer
abbrev pub date_refusal : {A : Type 0} → Result A DateError → ℕ
date_refusal r = refusal_of error_number_of r

-- zeros, where there is no date
abbrev pub no_date : Date
no_date = date 0 0 0 0
