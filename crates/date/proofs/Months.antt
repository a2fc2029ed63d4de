-- Laws of months that stand one after another: the days before each, and how many end before a day.
-- Assumes nothing.
use mathlib.Core.Path.{◌≡◌, refl, ◌∙◌, ap}
use mathlib.Core.List.{List, [], ◌∷◌}
use Prim.Native.Nat.{ℕ, zero, suc, ◌+◌, ◌-◌, ◌≤◌, ◌<◌}
use native.Mathlib.Nat.{le_of_suc-le-suc, not-suc-le-zero}
use native.Mathlib.Omega.{arith}
use borrow.Author.Tests.{lt-ltb, le-ltb, ltb-true, ltb-false}
use lib.Dec.{ltb}
use lib.ListN.{length, get_or, take, drop}
use lib.Seq.{drop-cons, take_all}
use Rattle.data.proofs.Cases.{by_bool}
use Rattle.date.specs.Calendar.{together, months_past, month_days, months, year_days, days_in, days_before, month_at}

-- ---- of any months

-- the days before a month and its own are those before the next
next-month : (ns : List ℕ) (k : ℕ) → k < length ns → together (take (suc k) ns) ≡ together (take k ns) + get_or ns k 0
unfolding together
next-month [] k h = absurd (not-suc-le-zero h)
next-month (n ∷ ns) zero h = omega arith
next-month (n ∷ ns) (suc k) h = omega (arith, next-month ns k (le_of_suc-le-suc h))

-- a month and those before it have no more days than those before a later one, and than all
pub before-later : (ns : List ℕ) (j k : ℕ) → j < k → together (take j ns) + get_or ns j 0 ≤ together (take k ns)
unfolding together
before-later ns j zero h = absurd (not-suc-le-zero h)
before-later [] zero (suc k) h = omega arith
before-later [] (suc j) (suc k) h = omega arith
before-later (n ∷ ns) zero (suc k) h = omega arith
before-later (n ∷ ns) (suc j) (suc k) h = omega (arith, before-later ns j k (le_of_suc-le-suc h))

some_of_all : (ns : List ℕ) (j : ℕ) → together (take j ns) + get_or ns j 0 ≤ together ns
some_of_all ns j =
    let past = suc j + length ns in
    omega (arith, ap together (take_all past ns (omega arith)), before-later ns j past (omega arith))

-- the month of a day: it ends after it
past-none : (n : ℕ) (ns : List ℕ) (day : ℕ) → day < n → months_past (n ∷ ns) day ≡ 0
unfolding months_past
past-none n ns day h = rw (months_past, lt-ltb day n h)

past_one : (n : ℕ) (ns : List ℕ) (day : ℕ) → n ≤ day → months_past (n ∷ ns) day ≡ suc (months_past ns (day - n))
unfolding months_past
past_one n ns day h = rw (months_past, le-ltb day n h)

-- a day of the month after k others
pub past-here : (ns : List ℕ) (k day : ℕ) → k < length ns → day < get_or ns k 0 → months_past ns (together (take k ns) + day) ≡ k
unfolding together
past-here [] k day h small = absurd (not-suc-le-zero h)
past-here (n ∷ ns) zero day h small = past-none n ns (0 + day) (omega arith)
past-here (n ∷ ns) (suc k) day h small =
    past_one n ns (n + together (take k ns) + day) (omega arith)
    ∙ ap suc (ap (months_past ns) (omega arith) ∙ past-here ns k day (le_of_suc-le-suc h) small)

-- and of any day of the year
record Found (ns : List ℕ) (day past : ℕ) : Type 0 where
  pub among : past < length ns
  pub after : together (take past ns) ≤ day
  pub before : day < together (take past ns) + get_or ns past 0

past-found : (ns : List ℕ) (day : ℕ) → day < together ns → Found ns day (months_past ns day)
unfolding together
past-found [] day h = absurd (not-suc-le-zero h)
past-found (n ∷ ns) day h =
    by_bool (ltb day n)
    (λ t. let here = ltb-true day n t in rw (past-none n ns day here) (record { among = omega arith; after = omega arith; before = omega arith }))
    (λ f. let later = ltb-false day n f in
    let found = past-found ns (day - n) (omega arith) in
    rw (past_one n ns day later)
    (record {
      among = omega (arith, found.among);
      after = omega (arith, found.after);
      before = omega (arith, found.before);
    }))

-- ---- of the table

pub table-length : length month_days ≡ months
unfolding month_days
table-length = refl

pub table_days : together month_days ≡ year_days
unfolding month_days together
table_days = refl

-- none are before the first, and those before a month and its own are before the next
pub before_first : days_before 1 ≡ 0
unfolding days_before month_days together
before_first = refl

pub before-next : (month : ℕ) → 1 ≤ month → month ≤ months → days_before (month + 1) ≡ days_before month + days_in month
unfolding days_before days_in
before-next month h k =
    let step : month + 1 - 1 ≡ suc (month - 1) = omega arith in
    ap (λ (j : ℕ). together (take j month_days)) step ∙ next-month month_days (month - 1) (omega (arith, table-length))

-- with its own they are no more than those of a year
pub before_year : (month : ℕ) → days_before month + days_in month ≤ year_days
unfolding days_before days_in
before_year month = omega (arith, some_of_all month_days (month - 1), table_days)

-- so no month has more days than a year
pub days_in-year : (month : ℕ) → days_in month ≤ year_days
days_in-year month = omega (arith, before_year month)

-- ---- the month of a day of the year

-- what is left of the year from a month on
abbrev pub from_month : ℕ → List ℕ
from_month month = drop (month - 1) month_days

from-here : (month : ℕ) → 1 ≤ month → month ≤ months → from_month month ≡ days_in month ∷ from_month (month + 1)
unfolding days_in
from-here month h k =
    let step : suc (month - 1) ≡ month + 1 - 1 = omega arith in
    drop-cons month_days (month - 1) 0 (omega (arith, table-length)) ∙ ap (λ (j : ℕ). days_in month ∷ drop j month_days) step

-- a day of the first of them
pub in_this_month : (month left : ℕ) → 1 ≤ month → month ≤ months → left < days_in month → months_past (from_month month) left ≡ 0
in_this_month month left h k small =
    ap (λ (ns : List ℕ). months_past ns left) (from-here month h k) ∙ past-none (days_in month) (from_month (month + 1)) left small

-- and one of a later month
pub in_a_later-month : (month left : ℕ) → 1 ≤ month → month ≤ months → days_in month ≤ left
    → months_past (from_month month) left ≡ suc (months_past (from_month (month + 1)) (left - days_in month))
in_a_later-month month left h k large =
    ap (λ (ns : List ℕ). months_past ns left) (from-here month h k) ∙ past_one (days_in month) (from_month (month + 1)) left large

pub left_over : (month : ℕ) → 1 ≤ month → month ≤ months → together (from_month month) ≡ days_in month + together (from_month (month + 1))
unfolding together
left_over month h k = ap together (from-here month h k)

-- of the last month all that are left are days
pub last-month : (month left : ℕ) → month ≡ months → left < together (from_month month) → months_past (from_month month) left ≡ 0
unfolding month_days together days_in
last-month month left e h =
    let days : together (from_month month) ≡ days_in months = ap (λ (m : ℕ). together (from_month m)) e in
    ap (λ (m : ℕ). months_past (from_month m) left) e ∙ past-none (days_in months) [] left (omega (arith, h, days))

-- the month of a day of the year is one of them, and the day lies in it
pub record Falls (day month : ℕ) : Type 0 where
  pub some : 1 ≤ month
  pub among : month ≤ months
  pub after : days_before month ≤ day
  pub before : day < days_before month + days_in month

pub month_falls : (day : ℕ) → day < year_days → Falls day (month_at day)
unfolding month_at days_before days_in
month_falls day h =
    let past = months_past month_days day in
    let found = past-found month_days day (omega (arith, h, table_days)) in
    let step : past + 1 - 1 ≡ past = omega arith in
    let days : together (take (past + 1 - 1) month_days) ≡ together (take past month_days) = ap (λ (k : ℕ). together (take k month_days)) step in
    let own : get_or month_days (past + 1 - 1) 0 ≡ get_or month_days past 0 = ap (λ (k : ℕ). get_or month_days k 0) step in
    record {
      some = omega arith;
      among = omega (arith, found.among, table-length);
      after = omega (arith, found.after, days);
      before = omega (arith, found.before, days, own);
    }
