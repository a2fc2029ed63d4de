-- What is read of bytes that have the shape of a date, and of others.
-- Assumes nothing.
use mathlib.Core.Path.{◌≡◌, refl, sym, ◌∙◌, ap, subst}
use mathlib.Core.Bool.{Bool, true, false, not, ◌||◌}
use mathlib.Core.List.{List, [], ◌∷◌, map}
use Prim.Native.Nat.{ℕ, ◌+◌, ◌≤◌, ◌<◌}
use native.Mathlib.Omega.{arith}
use borrow.Author.Tests.{ne_eqb}
use lib.ListN.{length}
use Rattle.data.proofs.Cases.{by_bool}
use Rattle.data.specs.Reasons.{first_of}
use Rattle.scalar.specs.Digits.{value}
use Rattle.date.specs.Calendar.{date, in_range, ranged}
use Rattle.date.specs.Reading.{part_at, pointed_part, right_number, shaped, numbers, told_by, hour_zero, out_of_range, dated, date_read}
use Rattle.date.specs.declared.calendar.Date.{Date}
use Rattle.date.specs.declared.refusals.DateError.TheVariants.{NotADate, OutOfRange}
use Rattle.date.specs.declared.refusals.DateError.{DateError}
use Rattle.std.specs.Prelude.{Some, None, Result, Ok, Err}
use Rattle.date.proofs.Ranges.{ranged_in, ranged_out, bounded-ranged}
use Rattle.date.proofs.Shapes.{run, Taken, closed, closed_parts, first, no-first, next, lost, over}

-- ---- by the reasons to refuse

dated-none : (out : Bool) (t : Date) → dated false out t ≡ Err NotADate
unfolding dated first_of
dated-none out t = refl

dated_out : (t : Date) → dated true true t ≡ Err OutOfRange
unfolding dated first_of
dated_out t = refl

dated-is : (t : Date) → dated true false t ≡ Ok t
unfolding dated first_of
dated-is t = refl

dated-range : (t : Date) → dated true (not (in_range t)) t ≡ ranged t
dated-range t =
    by_bool (in_range t)
    (λ e. ap (λ (r : Bool). dated true (not r) t) e ∙ dated-is t ∙ sym (ranged_in t e))
    (λ e. ap (λ (r : Bool). dated true (not r) t) e ∙ dated_out t ∙ sym (ranged_out t e))

-- ---- bytes that have not the shape

pub reads_none : (d : List ℕ) → shaped d ≡ false → date_read d ≡ Err NotADate
unfolding date_read
reads_none d e = ap (λ (s : Bool). dated s (out_of_range (numbers d)) (told_by (numbers d))) e ∙ dated-none _ _

-- ---- bytes that have it, by their numbers

module _ (d : List ℕ) (shape : shaped d ≡ true) where
  by-hour : (ns : List ℕ) {zero : Bool} → numbers d ≡ ns → hour_zero ns ≡ zero
      → date_read d ≡ dated true (zero || not (in_range (told_by ns))) (told_by ns)
  unfolding date_read out_of_range
  by-hour ns e f =
      (λ j. dated (shape j) (out_of_range (e j)) (told_by (e j)))
      ∙ ap (λ (z : Bool). dated true (z || not (in_range (told_by ns))) (told_by ns)) f

  by-range : (ns : List ℕ) → numbers d ≡ ns → hour_zero ns ≡ false → date_read d ≡ ranged (told_by ns)
  by-range ns e f = by-hour ns e f ∙ dated-range (told_by ns)

  by_zero : (ns : List ℕ) → numbers d ≡ ns → hour_zero ns ≡ true → date_read d ≡ Err OutOfRange
  by_zero ns e f = by-hour ns e f ∙ dated_out (told_by ns)

  pub reads-day : (year month day : ℕ) → numbers d ≡ year ∷ month ∷ day ∷ [] → date_read d ≡ ranged (date year month day 0)
  unfolding hour_zero
  reads-day year month day e = by-range (year ∷ month ∷ day ∷ []) e refl

  pub reads-hour : (year month day hour : ℕ) → numbers d ≡ year ∷ month ∷ day ∷ hour ∷ [] → 1 ≤ hour
      → date_read d ≡ ranged (date year month day hour)
  unfolding hour_zero
  reads-hour year month day hour e h = by-range (year ∷ month ∷ day ∷ hour ∷ []) e (ne_eqb hour 0 (λ z. omega (arith, z)))

  reads-no-hour : (year month day : ℕ) → numbers d ≡ year ∷ month ∷ day ∷ 0 ∷ [] → date_read d ≡ Err OutOfRange
  unfolding hour_zero
  reads-no-hour year month day e = by_zero (year ∷ month ∷ day ∷ 0 ∷ []) e refl

-- ---- and by the parts that were taken

-- the number that the digits at a place write
abbrev written : List ℕ → ℕ → ℕ
written d at = value 0 (run d at)

module _ (d : List ℕ) {year month day after_year after_month after_day : ℕ} (y : Taken d [] 0 year after_year)
    (m : Taken d (run d 0 ∷ []) (after_year + 1) month after_month)
    (k : Taken d (run d 0 ∷ run d (after_year + 1) ∷ []) (after_month + 1) day after_day) where
  -- the three parts of a date are all
  pub reads_three : length d ≤ after_day → date_read d ≡ ranged (date year month day 0)
  unfolding numbers right_number
  reads_three h =
      let shape = closed_parts d _ _ _ _ k h refl in
      reads-day d shape (written d 0) (written d (after_year + 1)) (written d (after_month + 1)) (ap (map (value 0)) (closed d _ _ _ _ k h))
      ∙ sym (bounded-ranged (written d 0) (written d (after_year + 1)) (written d (after_month + 1)) 0)
      ∙ sym (λ j. ranged (date (y.number_is j) (m.number_is j) (k.number_is j) 0))

  -- or there is an hour
  module _ {hour after-hour : ℕ}
      (o : Taken d (run d 0 ∷ run d (after_year + 1) ∷ run d (after_month + 1) ∷ []) (after_day + 1) hour after-hour)
      (h : length d ≤ after-hour) where
    four-shaped : shaped d ≡ true
    unfolding right_number
    four-shaped = closed_parts d _ _ _ _ o h refl

    four-numbers : numbers d ≡ written d 0 ∷ written d (after_year + 1) ∷ written d (after_month + 1) ∷ written d (after_day + 1) ∷ []
    unfolding numbers
    four-numbers = ap (map (value 0)) (closed d _ _ _ _ o h)

    pub reads-four : 1 ≤ hour → date_read d ≡ ranged (date year month day hour)
    reads-four some =
        reads-hour d four-shaped _ _ _ _ four-numbers (omega (arith, some, o.number_is))
        ∙ sym (bounded-ranged (written d 0) (written d (after_year + 1)) (written d (after_month + 1)) (written d (after_day + 1)))
        ∙ sym (λ j. ranged (date (y.number_is j) (m.number_is j) (k.number_is j) (o.number_is j)))

    pub reads_zero : hour < 1 → date_read d ≡ Err OutOfRange
    reads_zero none =
        let zero_is : written d (after_day + 1) ≡ 0 = omega (arith, none, o.number_is) in
        reads-no-hour d four-shaped _ _ _
        (four-numbers ∙ ap (λ (n : ℕ). written d 0 ∷ written d (after_year + 1) ∷ written d (after_month + 1) ∷ n ∷ []) zero_is)

-- ---- and by what each part tells, one after another

-- no year
pub no_year : (d : List ℕ) → part_at d 0 ≡ None → date_read d ≡ Err NotADate
no_year d none = reads_none d (no-first d none)

module _ (d : List ℕ) (year after_year : ℕ) (y : part_at d 0 ≡ Some (year, after_year)) where
  -- no month
  pub no_month : pointed_part d after_year ≡ None → date_read d ≡ Err NotADate
  unfolding right_number
  no_month none = reads_none d (lost _ _ _ _ _ (first d y) none (λ h. refl))

  module _ (month after_month : ℕ) (m : pointed_part d after_year ≡ Some (month, after_month)) where
    -- no day
    pub no_day : pointed_part d after_month ≡ None → date_read d ≡ Err NotADate
    unfolding right_number
    no_day none = reads_none d (lost _ _ _ _ _ (next _ _ _ _ _ (first d y) m) none (λ h. refl))

    module _ (day after_day : ℕ) (k : pointed_part d after_month ≡ Some (day, after_day)) where
      month_taken : Taken d (run d 0 ∷ []) (after_year + 1) month after_month
      month_taken = next _ _ _ _ _ (first d y) m

      day_taken : Taken d (run d 0 ∷ run d (after_year + 1) ∷ []) (after_month + 1) day after_day
      day_taken = next _ _ _ _ _ month_taken k

      -- nothing behind the day
      pub day_last : length d ≤ after_day → date_read d ≡ ranged (date year month day 0)
      day_last h = reads_three d (first d y) month_taken day_taken h

      -- something behind it that is no hour
      pub no_hour : after_day < length d → pointed_part d after_day ≡ None → date_read d ≡ Err NotADate
      no_hour h none = reads_none d (lost _ _ _ _ _ day_taken none (λ k. absurd (omega (arith, h, k))))

      module _ (hour after_hour : ℕ) (o : pointed_part d after_day ≡ Some (hour, after_hour)) where
        hour_taken : Taken d (run d 0 ∷ run d (after_year + 1) ∷ run d (after_month + 1) ∷ []) (after_day + 1) hour after_hour
        hour_taken = next _ _ _ _ _ day_taken o

        -- an hour, and something behind it
        pub hour_followed : after_hour < length d → date_read d ≡ Err NotADate
        hour_followed h = reads_none d (over _ _ _ _ _ hour_taken refl h)

        -- an hour of 0, or of any other number
        pub hour_of_0 : length d ≤ after_hour → hour < 1 → date_read d ≡ Err OutOfRange
        hour_of_0 h none = reads_zero d (first d y) month_taken day_taken hour_taken h none

        pub hour_last : length d ≤ after_hour → 1 ≤ hour → date_read d ≡ ranged (date year month day hour)
        hour_last h some = reads-four d (first d y) month_taken day_taken hour_taken h some

-- ---- whatever the bytes are

-- what is known of bytes that are read as a date
pub record IsRead (d : List ℕ) (t : Date) : Type 0 where
  pub shape : shaped d ≡ true
  pub hour : hour_zero (numbers d) ≡ false
  pub ranged : in_range t ≡ true
  pub told : t ≡ told_by (numbers d)

-- by what is read: a date, or a refusal
pub by-date : (P : Result Date DateError → Type 0) (d : List ℕ) → ((t : Date) → IsRead d t → P (Ok t)) → P (Err NotADate) → P (Err OutOfRange) → P (date_read d)
by-date P d is none out =
    by_bool (shaped d)
    (λ shape. by_bool (hour_zero (numbers d))
    (λ zero. subst P (sym (by_zero d shape (numbers d) refl zero)) out)
    (λ some. let read = by-range d shape (numbers d) refl some in
    by_bool (in_range (told_by (numbers d)))
    (λ e. subst P (sym (read ∙ ranged_in _ e)) (is _ (record { shape = shape; hour = some; ranged = e; told = refl })))
    (λ e. subst P (sym (read ∙ ranged_out _ e)) out)))
    (λ f. subst P (sym (reads_none d f)) none)

-- whether there is a date, by a number, so that a date is no refusal
abbrev some_date : Result Date DateError → ℕ
some_date (Ok t) = 1
some_date (Err e) = 0

abbrev date_in : Date → Result Date DateError → Date
date_in else (Ok t) = t
date_in else (Err e) = else

pub is_read : (d : List ℕ) (t : Date) → date_read d ≡ Ok t → IsRead d t
is_read d t =
    by-date (λ r. r ≡ Ok t → IsRead d t) d
    (λ u known same. subst (IsRead d) (ap (date_in t) same) known)
    (λ same. absurd (omega (arith, ap some_date same)))
    (λ same. absurd (omega (arith, ap some_date same)))
