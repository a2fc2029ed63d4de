-- `date::calendar::days_in` meets its contract: the table is the definition's.
-- Assumes nothing.
use mathlib.Core.Path.{refl}
use Rattle.date.specs.Calendar.{month_days, days_in}
use Rattle.date.proofs.calendar.days_in.Goals as goal

pub returns : goal.returns
unfolding month_days days_in
returns c = refl
