-- Dates: their days, by the day of the year, and what is read of a scalar, by its parts.
-- Assumes nothing.
use Rattle.std.specs.Result.{result_unwrap_or}
use mathlib.Core.Path.{◌≡◌, refl, sym, ◌∙◌, ap}
use mathlib.Core.Bool.{Bool, true, false, not, ◌&&◌, ◌||◌, false≢true}
use mathlib.Core.List.{List, [], ◌∷◌, ◌++◌, map}
use mathlib.Core.Logic.{inl, inr}
use Prim.Native.Nat.{ℕ, ◌-◌, ◌≤◌, ◌<◌, min}
use native.Mathlib.Omega.{arith}
use borrow.Author.Tests.{ltb-true, ltb-false, eqb-true, eqb-false, ne_eqb}
use lib.Dec.{eqb, ltb}
use lib.IntN.{pos}
use lib.ListN.{length, drop, length-drop}
use Rattle.data.proofs.Cases.{by_bool, both}
use Rattle.data.specs.Bytes.{plus, minus, point, digit_zero}
use Rattle.data.specs.Reasons.{first_of}
use Rattle.scalar.specs.Digits.{is_digit, digits_alone, digit_first, digit_run, value, digits_in, most_u64}
use Rattle.scalar.specs.Float.{rest}
use Rattle.scalar.specs.Numbers.{answered}
use Rattle.scalar.specs.Whole.{most_i64, signed, i64_rest}
use Rattle.scalar.proofs.Rests.{run_alone}
use Rattle.scalar.proofs.Runs.{digit_bounds, run_length}
use Rattle.date.specs.Calendar.{date, month_days, together, days_in, days_before, within, in_range, Ranged, count_of, days_of, date_counted, date_at}
use Rattle.date.specs.Reading.{onto, parts, is_part, all_parts, right_number, shaped, numbers, told_by, hour_zero, out_of_range, dated, date_read}
use Rattle.date.specs.Refusals.{date_refusal, no_date}
use Rattle.date.specs.declared.calendar.Date.{Date}
use Rattle.std.specs.Prelude.{Result, Ok}
use Rattle.date.specs.declared.refusals.DateError.{DateError}
use Rattle.date.proofs.Days.{days_in-range, days_out, date_in-range, date-past, day-within, date-back, date-within, day-back}
use Rattle.date.proofs.Months.{table-length, table_days, before-later, before_year}
use Rattle.date.proofs.Ranges.{ranged-is, is-ranged, ranged_in}
use Rattle.date.proofs.Readings.{reads-day, reads-hour, by-date, is_read}
use Rattle.date.proofs.Shapes.{parts-some, parts-point, parts-other, digit-no-point, part-digits, many_parts}
use Rattle.report.specs.Digits.{decimal}
use Rattle.report.proofs.Decimal.{decimal-value, decimal-run, decimal-some}
use Rattle.promises.specs.Cases.{bytes}
use Rattle.promises.specs.Dates.{TableHolds, InRange, without_hour, DatesAndBack, HourLeftOut, CountsAndBack, Earlier, InOrder}
use Rattle.promises.specs.Dates.{Exactly, EndsHold, ElseRefused, date_reasons, Read, joined, Apart, Shape, Writes, WrittenDigits}
use Rattle.promises.specs.Dates.{WrittenOut, to_the_day, to_the_hour, ReadsExactly, hour_part, written, WrittenReads, OnLeadingNumbers}
use Rattle.promises.specs.Dates.{edges, EdgesHold}
use Rattle.promises.specs.LeadingNumber.{is_sign, has_minus, after_sign, digits_of, no_number, too_large, number_reasons, first_number}
use Rattle.promises.proofs.LeadingNumber.{leading}

-- ---- the calendar

pub table-holds : TableHolds
table-holds = (table-length, table_days)

pub in_range-is : InRange
in_range-is t = (ranged-is t, is-ranged t)

-- ---- day counts

-- the count of a date in range
count-told : (t : Date) → in_range t ≡ true → result_unwrap_or (days_of t) 0 ≡ count_of t
count-told t e = ap (λ r. result_unwrap_or r 0) (days_in-range t e)

pub dates_and_back : DatesAndBack
dates_and_back t e =
    record {
      counted = ap date_refusal (days_in-range t e);
      back = ap date_at (count-told t e) ∙ date_in-range (count_of t) (day-within t e) ∙ ap Ok (date-back t e);
    }

-- the hour is no part of the count
without_ranged : (t : Date) → in_range t ≡ true → in_range (without_hour t) ≡ true
without_ranged t e =
    let r = ranged-is t e in
    is-ranged (without_hour t) (record { year = r.year; month = r.month; day = r.day; hour = omega arith })

pub hour-left_out : HourLeftOut
unfolding count_of
hour-left_out t e = days_in-range t e ∙ sym (days_in-range (without_hour t) (without_ranged t e))

pub counts_and_back : CountsAndBack
counts_and_back n h =
    let is = date_in-range n h in
    record {
      dated = ap date_refusal is;
      ranged = ap (λ (r : Result Date DateError). in_range (result_unwrap_or r no_date)) is ∙ date-within n h;
      back =
          ap (λ (r : Result Date DateError). days_of (result_unwrap_or r no_date)) is ∙ days_in-range (date_counted n) (date-within n h)
          ∙ ap Ok (day-back n h);
    }

pub ends_hold : EndsHold
unfolding days_of in_range within days_in month_days count_of days_before together
ends_hold = (refl, refl)

pub else_refused : ElseRefused
else_refused =
    record {
      date = λ t e. ap date_refusal (days_out t e);
      count = λ n h. ap date_refusal (date-past n h);
    }

pub exactly : Exactly
exactly n = (
  λ found. let t = found.0 in let e = found.1 in
      omega (arith, day-within t e, sym (count-told t e) ∙ ap (λ r. result_unwrap_or r 0) found.2),
  λ h. (date_counted n, date-within n h, days_in-range (date_counted n) (date-within n h) ∙ ap Ok (day-back n h)),
)

-- ---- their order

module _ (a b : Date) (x : in_range a ≡ true) (y : in_range b ≡ true) where
  p : Ranged a
  p = ranged-is a x

  q : Ranged b
  q = ranged-is b y

  year_earlier : a.year < b.year → count_of a < count_of b
  unfolding count_of
  year_earlier h = omega (arith, h, p.day, before_year a.month, p.year)

  month_earlier : a.year ≡ b.year → a.month < b.month → count_of a < count_of b
  unfolding count_of days_before days_in
  month_earlier e h =
      omega (arith, e, p.day, q.day, before-later month_days (a.month - 1) (b.month - 1) (omega (arith, h, p.month)))

  day_earlier : a.year ≡ b.year → a.month ≡ b.month → a.day < b.day → count_of a < count_of b
  unfolding count_of
  day_earlier e f h = omega (arith, e, ap days_before f, h, p.day)

  same-day : a.year ≡ b.year → a.month ≡ b.month → a.day ≡ b.day → count_of a ≡ count_of b
  unfolding count_of
  same-day e f g = omega (arith, e, ap days_before f, g)

  earlier : Earlier a b → count_of a < count_of b
  earlier (inl h) = year_earlier h
  earlier (inr (e, inl h)) = month_earlier e h
  earlier (inr (e, inr (f, h))) = day_earlier e f h

-- of two numbers one is less, or they are the same
compared {ℓ} : {P : Type ℓ} (m n : ℕ) → (m < n → P) → (n < m → P) → (m ≡ n → P) → P
compared m n less more same =
    by_bool (ltb m n)
    (λ t. less (ltb-true m n t))
    (λ f. by_bool (ltb n m) (λ t. more (ltb-true n m t)) (λ g. same (omega (arith, ltb-false m n f, ltb-false n m g))))

-- of two days the smaller is the earlier date's
later : (a b : Date) → in_range a ≡ true → in_range b ≡ true → count_of a < count_of b → Earlier a b
later a b x y h =
    compared a.year b.year inl
    (λ over. absurd (omega (arith, h, year_earlier b a y x over)))
    (λ year. compared a.month b.month
    (λ less. inr (year, inl less))
    (λ over. absurd (omega (arith, h, month_earlier b a y x (sym year) over)))
    (λ month. compared a.day b.day
    (λ less. inr (year, inr (month, less)))
    (λ over. absurd (omega (arith, h, day_earlier b a y x (sym year) (sym month) over)))
    (λ day. absurd (omega (arith, h, same-day a b x y year month day)))))

pub in_order : InOrder
in_order a b x y = (
  λ e. omega (arith, count-told a x, count-told b y, earlier a b x y e),
  λ h. later a b x y (omega (arith, h, count-told a x, count-told b y)),
)

-- ---- why bytes are refused

by-reasons : (shape out : Bool) (t : Date) → date_refusal (dated shape out t) ≡ first_number (date_reasons (not shape) out)
unfolding dated first_of
by-reasons true true t = refl
by-reasons true false t = refl
by-reasons false out t = refl

none-there : (shape out : Bool) (t : Date) → date_refusal (dated shape out t) ≡ answered → result_unwrap_or (dated shape out t) no_date ≡ t
unfolding dated first_of
none-there true true t e = absurd (omega (arith, e))
none-there true false t e = refl
none-there false out t e = absurd (omega (arith, e))

read-ranged : (d : List ℕ) → date_refusal (date_read d) ≡ answered → in_range (result_unwrap_or (date_read d) no_date) ≡ true
read-ranged d =
    by-date (λ r. date_refusal r ≡ answered → in_range (result_unwrap_or r no_date) ≡ true) d
    (λ t r none. r.ranged)
    (λ none. absurd (omega (arith, none)))
    (λ none. absurd (omega (arith, none)))

pub read : (d : List ℕ) → Read d
unfolding date_read
read d =
    record {
      refusal = by-reasons (shaped d) (out_of_range (numbers d)) (told_by (numbers d));
      told = none-there (shaped d) (out_of_range (numbers d)) (told_by (numbers d));
      ranged = read-ranged d;
      counted = λ e. ap date_refusal (days_in-range (result_unwrap_or (date_read d) no_date) (read-ranged d e));
    }

-- ---- the parts of a scalar are it again

joined-point : (ps : List (List ℕ)) → 0 < length ps → joined ([] ∷ ps) ≡ point ∷ joined ps
unfolding joined
joined-point [] h = absurd (omega arith)
joined-point (p ∷ ps) h = refl

joined-other : (b : ℕ) (ps : List (List ℕ)) → 0 < length ps → joined (onto (b ∷ []) ps) ≡ b ∷ joined ps
unfolding joined
joined-other b [] h = absurd (omega arith)
joined-other b (p ∷ []) h = refl
joined-other b (p ∷ q ∷ ps) h = refl

pub apart : Apart
unfolding parts joined
apart [] = refl
apart (b ∷ d) =
    by_bool (eqb b point)
    (λ t. ap joined (parts-point b d t) ∙ joined-point (parts d) (parts-some d) ∙ (λ j. sym (eqb-true b point t) j ∷ apart d j))
    (λ f. ap joined (parts-other b d f) ∙ joined-other b (parts d) (parts-some d) ∙ ap (λ (s : List ℕ). b ∷ s) (apart d))

-- ---- and parts that are joined are the scalar's

-- a part is digits alone, and the other way round where there is a digit
part-alone : (p : List ℕ) → is_part p ≡ true → digits_alone p ≡ true
unfolding digits_alone
part-alone [] e = refl
part-alone (b ∷ p) e = sym (part-digits b p) ∙ e

alone-part : (p : List ℕ) → 0 < length p → digits_alone p ≡ true → is_part p ≡ true
alone-part [] h e = absurd (omega arith)
alone-part (b ∷ p) h e = part-digits b p ∙ e

-- digits before a point, and digits before the end
pointed-parts : (p s : List ℕ) → digits_alone p ≡ true → parts (p ++ point ∷ s) ≡ p ∷ parts s
unfolding digits_alone
pointed-parts [] s e = parts-point point s refl
pointed-parts (b ∷ p) s e =
    let tests = both (is_digit b) (digits_alone p) e in
    parts-other b (p ++ point ∷ s) (digit-no-point b tests.0) ∙ ap (onto (b ∷ [])) (pointed-parts p s tests.1)

last-parts : (p : List ℕ) → digits_alone p ≡ true → parts p ≡ p ∷ []
unfolding digits_alone parts
last-parts [] e = refl
last-parts (b ∷ p) e =
    let tests = both (is_digit b) (digits_alone p) e in
    parts-other b p (digit-no-point b tests.0) ∙ ap (onto (b ∷ [])) (last-parts p tests.1)

joined-parts : (p : List ℕ) (ps : List (List ℕ)) → all_parts (p ∷ ps) ≡ true → parts (joined (p ∷ ps)) ≡ p ∷ ps
unfolding all_parts joined
joined-parts p [] e = last-parts p (part-alone p (both (is_part p) true e).0)
joined-parts p (q ∷ ps) e =
    let tests = both (is_part p) (all_parts (q ∷ ps)) e in
    pointed-parts p (joined (q ∷ ps)) (part-alone p tests.0) ∙ ap (λ (qs : List (List ℕ)). p ∷ qs) (joined-parts q ps tests.1)

joined-shaped : (p : List ℕ) (ps : List (List ℕ)) → all_parts (p ∷ ps) ≡ true → right_number (length (p ∷ ps)) ≡ true
    → shaped (joined (p ∷ ps)) ≡ true
unfolding shaped
joined-shaped p ps e f =
    ap (λ (qs : List (List ℕ)). right_number (length qs) && all_parts qs) (joined-parts p ps e) ∙ (λ j. f j && e j)

pub shape : Shape
unfolding shaped right_number
shape d = (
  λ e. let tests = both (right_number (length (parts d))) (all_parts (parts d)) e in (parts d, tests.0, tests.1, sym (apart d)),
  λ w. ap shaped w.3 ∙ of_parts w.0 w.1 w.2,
)
  where
    of_parts : (ps : List (List ℕ)) → right_number (length ps) ≡ true → all_parts ps ≡ true → shaped (joined ps) ≡ true
    of_parts [] number each = absurd (false≢true number)
    of_parts (p ∷ ps) number each = joined-shaped p ps each number

-- ---- written out

pub written-digits : WrittenDigits
unfolding value digits_alone is_digit
written-digits =
    record {
      decimals = λ n. record {
        digits = alone-part (decimal n) (decimal-some n) (ap digits_alone (sym (decimal-run n)) ∙ run_alone (decimal n));
        number = decimal-value n;
      };
      zeros = λ p n w. record { digits = part-digits digit_zero p ∙ part-alone p w.digits; number = w.number };
    }

module _ (t : Date) (e : in_range t ≡ true) where
  day-reads : (y m k : List ℕ) → Writes y t.year → Writes m t.month → Writes k t.day
      → date_read (joined (y ∷ m ∷ k ∷ [])) ≡ Ok (without_hour t)
  unfolding all_parts right_number numbers
  day-reads y m k wy wm wk =
      let each : all_parts (y ∷ m ∷ k ∷ []) ≡ true = λ j. wy.digits j && (wm.digits j && (wk.digits j && true)) in
      reads-day _ (joined-shaped y (m ∷ k ∷ []) each refl) t.year t.month t.day
      (ap (map (value 0)) (joined-parts y (m ∷ k ∷ []) each) ∙ (λ j. wy.number j ∷ wm.number j ∷ wk.number j ∷ []))
      ∙ ranged_in (without_hour t) (without_ranged t e)

  hour-reads : (y m k h : List ℕ) → Writes y t.year → Writes m t.month → Writes k t.day → Writes h t.hour → 1 ≤ t.hour
      → date_read (joined (y ∷ m ∷ k ∷ h ∷ [])) ≡ Ok t
  unfolding all_parts right_number numbers
  hour-reads y m k h wy wm wk wh some =
      let each : all_parts (y ∷ m ∷ k ∷ h ∷ []) ≡ true =
      λ j. wy.digits j && (wm.digits j && (wk.digits j && (wh.digits j && true))) in
      reads-hour _ (joined-shaped y (m ∷ k ∷ h ∷ []) each refl) t.year t.month t.day t.hour
      (ap (map (value 0)) (joined-parts y (m ∷ k ∷ h ∷ []) each) ∙ (λ j. wy.number j ∷ wm.number j ∷ wk.number j ∷ wh.number j ∷ []))
      some
      ∙ ranged_in t e

  reads_as : (d : List ℕ) → WrittenOut d t → date_read d ≡ Ok t
  reads_as d (to_the_day y m k wy wm wk none same) =
      ap date_read same ∙ day-reads y m k wy wm wk ∙ ap (λ (h : ℕ). Ok (date t.year t.month t.day h)) (sym none)
  reads_as d (to_the_hour y m k h wy wm wk wh some same) = ap date_read same ∙ hour-reads y m k h wy wm wk wh some

-- a part of a scalar, by what is known of it
writes : (p : List ℕ) (ps : List (List ℕ)) {n : ℕ} → all_parts (p ∷ ps) ≡ true → n ≡ value 0 p → Writes p n × (all_parts ps ≡ true)
unfolding all_parts
writes p ps e f = let tests = both (is_part p) (all_parts ps) e in (record { digits = tests.0; number = sym f }, tests.1)

-- the parts of a scalar that is read as a date
parted : (d : List ℕ) (t : Date) (ps : List (List ℕ)) → d ≡ joined ps → right_number (length ps) ≡ true → all_parts ps ≡ true
    → hour_zero (map (value 0) ps) ≡ false → t ≡ told_by (map (value 0) ps) → WrittenOut d t
unfolding right_number hour_zero
parted d t [] same number each some told = absurd (false≢true number)
parted d t (y ∷ []) same number each some told = absurd (false≢true number)
parted d t (y ∷ m ∷ []) same number each some told = absurd (false≢true number)
parted d t (y ∷ m ∷ k ∷ []) same number each some told =
    let wy = writes y (m ∷ k ∷ []) each (ap (λ (t : Date). t.year) told) in
    let wm = writes m (k ∷ []) wy.1 (ap (λ (t : Date). t.month) told) in
    let wk = writes k [] wm.1 (ap (λ (t : Date). t.day) told) in
    to_the_day y m k wy.0 wm.0 wk.0 (ap (λ (t : Date). t.hour) told) same
parted d t (y ∷ m ∷ k ∷ h ∷ []) same number each some told =
    let wy = writes y (m ∷ k ∷ h ∷ []) each (ap (λ (t : Date). t.year) told) in
    let wm = writes m (k ∷ h ∷ []) wy.1 (ap (λ (t : Date). t.month) told) in
    let wk = writes k (h ∷ []) wm.1 (ap (λ (t : Date). t.day) told) in
    let wh = writes h [] wk.1 (ap (λ (t : Date). t.hour) told) in
    let stands : 1 ≤ t.hour = omega (arith, ap (λ (t : Date). t.hour) told, eqb-false (value 0 h) 0 some) in
    to_the_hour y m k h wy.0 wm.0 wk.0 wh.0 stands same
parted d t (y ∷ m ∷ k ∷ h ∷ x ∷ ps) same number each some told =
    absurd (false≢true (sym (many_parts (length (y ∷ m ∷ k ∷ h ∷ x ∷ ps)) (omega arith)) ∙ number))

pub reads-exactly : ReadsExactly
unfolding shaped numbers
reads-exactly d t = (
  λ e. let r = is_read d t e in
      let tests = both (right_number (length (parts d))) (all_parts (parts d)) r.shape in
      (r.ranged, parted d t (parts d) (sym (apart d)) tests.0 tests.1 r.hour r.told),
  λ w. reads_as t w.0 d w.1,
)

pub written-reads : WrittenReads
unfolding written
written-reads t e =
    let digits = written-digits.decimals in
    (reads-exactly (written t) t).1 (
      e,
      by_bool (eqb t.hour 0)
          (λ none. to_the_day _ _ _ (digits t.year) (digits t.month) (digits t.day) (eqb-true t.hour 0 none)
          (ap joined (ap (λ (ps : List (List ℕ)). decimal t.year ∷ decimal t.month ∷ decimal t.day ∷ ps) (no-hour-part t.hour none))))
          (λ some. to_the_hour _ _ _ _ (digits t.year) (digits t.month) (digits t.day) (digits t.hour)
          (omega (arith, eqb-false t.hour 0 some))
          (ap joined (ap (λ (ps : List (List ℕ)). decimal t.year ∷ decimal t.month ∷ decimal t.day ∷ ps) (some-hour-part t.hour some)))),
    )
  where
    no-hour-part : (h : ℕ) → eqb h 0 ≡ true → hour_part h ≡ []
    no-hour-part h f = rw (hour_part, f)

    some-hour-part : (h : ℕ) → eqb h 0 ≡ false → hour_part h ≡ decimal h ∷ []
    some-hour-part h f = rw (hour_part, f)

-- ---- on W7

-- where no reason is there, the digits are not too large
not_large : (none large : Bool) → first_number (number_reasons none large) ≡ answered → large ≡ false
unfolding first_of
not_large true large e = absurd (omega (arith, e))
not_large false true e = absurd (omega (arith, e))
not_large false false e = refl

-- a byte that is a digit is no sign
no_sign : (b : ℕ) → is_digit b ≡ true → is_sign b ≡ false
no_sign b e =
    let minus-not = ne_eqb b minus (λ p. omega (arith, p, digit_bounds b e)) in
    let plus-not = ne_eqb b plus (λ p. omega (arith, p, digit_bounds b e)) in
    λ j. minus-not j || plus-not j

pub on-leading-numbers : OnLeadingNumbers
unfolding digit_first has_minus after_sign digits_in
on-leading-numbers [] f e = absurd (false≢true f)
on-leading-numbers (b ∷ s) f e =
    let d = b ∷ s in
    let all = leading d in
    let unsigned : after_sign d ≡ d = rw (after_sign, no_sign b f) in
    let digits : digits_of d ≡ digit_run d = ap digit_run unsigned in
    let plain : has_minus d ≡ false = ne_eqb b minus (λ p. omega (arith, p, digit_bounds b f)) in
    let small = ltb-false most_i64 (value 0 (digits_of d)) (not_large (no_number d) (too_large d) (sym all.number_refusal ∙ e)) in
    let held : value 0 (digit_run d) ≡ min (value 0 (digit_run d)) most_u64 = omega (arith, small, ap (value 0) digits) in
    let left : i64_rest d ≡ drop (length (digit_run d)) d = all.rest_of e ∙ ap rest unsigned in
    record {
      number = all.number e ∙ (λ j. signed (plain j) (value 0 (digits j))) ∙ ap pos held;
      end = omega (arith, ap length left, length-drop (length (digit_run d)) d, run_length d);
    }

-- ---- both sides of each edge

pub edges_hold : EdgesHold
unfolding bytes edges is_digit digits_alone digit_first value parts is_part all_parts right_number shaped numbers hour_zero out_of_range dated date_read
    first_of days_of in_range within days_in month_days count_of days_before together
edges_hold = refl
