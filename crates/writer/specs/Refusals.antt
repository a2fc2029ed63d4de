-- The refusals of the way back, by their numbers.
use Rattle.std.specs.Prelude.{ℕ, Result, Ok, Err}
use Rattle.writer.specs.declared.Refusal.{Refusal}
use Rattle.writer.specs.declared.Refusal.TheVariants.{NotSound, TooDeep, TooLong, NoRoom, ReadsOtherwise, OtherForm}

-- 41 not sound, 42 too deep, 43 text over the limit, 44 no room, 45 would read differently, 46 not of this form
abbrev pub number : Refusal → ℕ
number NotSound = 41
number TooDeep = 42
number TooLong = 43
number NoRoom = 44
number ReadsOtherwise = 45
number OtherForm = 46

-- the number of an answer, 0 where there is no refusal, and the length of the text, 0 where there is none
abbrev pub refusal_of : Result ℕ Refusal → ℕ
refusal_of (Ok length) = 0
refusal_of (Err r) = number r

abbrev pub length_of : Result ℕ Refusal → ℕ
length_of (Ok length) = length
length_of (Err r) = 0
