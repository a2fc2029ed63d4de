-- `date::reading::to_date` meets its contract: of all parts that are taken the calendar decides. The other ends are found by the lemmas that it names.
-- Assumes nothing.
use Rattle.std.proofs.Common.{sym, ◌∙◌, arith}
use Rattle.date.proofs.Readings.{day_last, hour_last}
use Rattle.date.proofs.reading.to_date.Goals as goal

pub returns-then-d-after_day : goal.returns-then-d-after_day
returns-then-d-after_day c =
    c.ranged.ensures
    ∙ sym (day_last _ c.in_ok-year.year c.in_ok-year.after_year (grind arith) c.in_ok-month.month c.in_ok-month.after_month (grind arith)
    c.in_ok-day.day c.in_ok-day.after_day (grind arith) c.if-d-after_day.true)

pub returns : goal.returns
returns c =
    c.ranged-2.ensures
    ∙ sym (hour_last _ c.in_ok-year.year c.in_ok-year.after_year (grind arith) c.in_ok-month.month c.in_ok-month.after_month (grind arith)
    c.in_ok-day.day c.in_ok-day.after_day (grind arith) c.in_ok-hour.hour c.in_ok-hour.after_hour (grind arith) c.if-after_hour-d.false c.if-hour-lt-FIRST_HOUR.false)
