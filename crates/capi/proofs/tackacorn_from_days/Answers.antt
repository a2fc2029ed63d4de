-- `capi::tackacorn_from_days` meets its contract: it tells what `from_days` answers, which has no hour.
-- Assumes nothing.
use Rattle.std.proofs.Common.{ℕ, ◌≡◌, sym, ◌∙◌, ap}
use Rattle.std.specs.Result.{result_unwrap_or}
use Rattle.date.specs.Calendar.{date}
use Rattle.date.specs.Refusals.{date_refusal, no_date}
use Rattle.date.specs.declared.calendar.Date.{Date}
use Rattle.date.proofs.Days.{no-hour}
use Rattle.capi.specs.Told.{read_told}
use Rattle.capi.proofs.Tells.{reads}
use Rattle.capi.proofs.tackacorn_from_days.Goals as goal

pub returns : goal.returns
returns c =
    let v = c.unwrap_or-date.result in
    let hour : v.hour ≡ 0 =
    ap (λ (t : Date). t.hour) (c.unwrap_or-date.ensures ∙ ap (λ r. result_unwrap_or r no_date) c.from_days-read.ensures) ∙ no-hour _ in
    ap (λ (h : ℕ). read_told c.wide.result (date v.year v.month v.day h)) (sym hour)
    ∙ reads date_refusal (λ r. result_unwrap_or r no_date) c.from_days-read.ensures c.unwrap_or-date.ensures c.refusal.ensures c.wide.ensures
