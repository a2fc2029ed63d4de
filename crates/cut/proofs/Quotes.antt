-- Reading a quoted run, a byte at a time, where it ends, and whether a backslash took part in it.
-- Assumes nothing.
use mathlib.Core.Path.{◌≡◌, refl, sym, ◌∙◌, ap}
use mathlib.Core.Bool.{Bool, true, false, not, ◌||◌, false≢true}
use mathlib.Core.List.{List, [], ◌∷◌}
use mathlib.Core.Logic.{◌⊎◌, inl, inr, ◌↔◌}
use Prim.Native.Nat.{ℕ, zero, suc, ◌+◌, ◌≤◌, ◌<◌}
use native.Mathlib.Omega.{arith}
use borrow.Author.Tests.{not-true, eq-eqb, ne_eqb, eqb-true, eqb-false, ltb-true, ltb-false}
use lib.Dec.{eqb, ltb}
use lib.ListN.{length, get_or, drop, drop_of_length-le}
use Rattle.data.proofs.Cases.{by_bool, both}
use Rattle.data.specs.Bytes.{quote, backslash}
use Rattle.cut.specs.Marks.{turns_quote}
use Rattle.cut.specs.Quotes.{quoted_from, skipped_from, quoted_run, closed, closes_soon, Backslash, Tells}
use Rattle.std.specs.Prelude.{Option, Some, None}
use Rattle.std.proofs.lemmas.Option.{same_Some}
use Rattle.cut.specs.declared.QuotedRun.{QuotedRun}
use Rattle.cut.proofs.Marks.{no-turn}
use Rattle.cut.proofs.Places.{drop_here, by_place}

-- the byte that a backslash skips, or the end where there is none
skipped : (d : List ℕ) (n : ℕ) → skipped_from (drop n d) n ≡ quoted_from (drop (n + 1) d) (n + 1) true
unfolding quoted_from
skipped d n =
    by_bool (ltb n (length d))
    (λ t. rw (drop_here d n (ltb-true n (length d) t)))
    (λ f. rw (drop_of_length-le d {i = n} (ltb-false n (length d) f), drop_of_length-le d {i = n + 1} (omega (arith, ltb-false n (length d) f))))

module _ (d : List ℕ) (n : ℕ) (e : Bool) where
  -- past the last byte nothing closes it
  pub quoted-past : length d ≤ n → quoted_from (drop n d) n e ≡ None
  unfolding quoted_from
  quoted-past h = rw (drop_of_length-le d h)

  -- a quote closes it
  pub quoted-closes : n < length d → get_or d n 0 ≡ quote → quoted_from (drop n d) n e ≡ closed n e
  unfolding quoted_from
  quoted-closes h q = rw (drop_here d n h) (rw (quoted_from, eq-eqb (get_or d n 0) quote q))

  -- a backslash takes part, and passes itself and one byte more
  pub quoted_escapes : n < length d → get_or d n 0 ≡ backslash → quoted_from (drop n d) n e ≡ quoted_from (drop (n + 2) d) (n + 2) true
  unfolding quoted_from
  quoted_escapes h s =
      rw (drop_here d n h) (rw (quoted_from, ap (λ (b : ℕ). eqb b quote) s, eq-eqb (get_or d n 0) backslash s)
      (skipped d (n + 1) ∙ ap (λ (k : ℕ). quoted_from (drop k d) k true) {x = n + 1 + 1} {y = n + 2} (omega arith)))

  -- any other byte is passed
  pub quoted-goes_on : n < length d → (get_or d n 0 ≡ quote → ⊥) → (get_or d n 0 ≡ backslash → ⊥)
      → quoted_from (drop n d) n e ≡ quoted_from (drop (n + 1) d) (n + 1) e
  unfolding quoted_from
  quoted-goes_on h q s = rw (drop_here d n h) (rw (quoted_from, ne_eqb (get_or d n 0) quote q, ne_eqb (get_or d n 0) backslash s))

-- where a run whose first n bytes are passed, with a backslash among them or none, is closed: at a quote of the part. Its flag is set
-- exactly when it was, or a backslash stands from n on
record Closing (d : List ℕ) (n : ℕ) (e : Bool) (end : ℕ) (escaped : Bool) : Type 0 where
  pub from : n ≤ end
  pub within : end < length d
  pub closes : get_or d end 0 ≡ quote
  pub took_part : (escaped ≡ true) ↔ ((e ≡ true) ⊎ Backslash d n end)

-- behind a byte that is no backslash
closing-later : (d : List ℕ) (n : ℕ) (e : Bool) (end : ℕ) (escaped : Bool) → (get_or d n 0 ≡ backslash → ⊥)
    → Closing d (n + 1) e end escaped → Closing d n e end escaped
closing-later d n e end escaped other c =
    record {
      from = omega (arith, c.from);
      within = c.within;
      closes = c.closes;
      took_part = (λ t. earlier (c.took_part.0 t), λ w. c.took_part.1 (later w));
    }
  where
    earlier : (e ≡ true) ⊎ Backslash d (n + 1) end → (e ≡ true) ⊎ Backslash d n end
    earlier (inl t) = inl t
    earlier (inr s) = inr (record { place = s.place; from = omega (arith, s.from); before = s.before; stands = s.stands })

    later : (e ≡ true) ⊎ Backslash d n end → (e ≡ true) ⊎ Backslash d (n + 1) end
    later (inl t) = inl t
    later (inr s) =
        by_bool (eqb s.place n)
        (λ t. absurd (other (ap (λ (k : ℕ). get_or d k 0) (sym (eqb-true s.place n t)) ∙ s.stands)))
        (λ f. inr (record { place = s.place; from = past f; before = s.before; stands = s.stands }))
      where
        past : eqb s.place n ≡ false → n + 1 ≤ s.place
        past f = let no = eqb-false s.place n f in omega (arith, s.from)

-- behind a backslash and the byte that it skips
closing-escaped : (d : List ℕ) (n : ℕ) (e : Bool) (end : ℕ) (escaped : Bool) → get_or d n 0 ≡ backslash
    → Closing d (n + 2) true end escaped → Closing d n e end escaped
closing-escaped d n e end escaped s c =
    record {
      from = omega (arith, c.from);
      within = c.within;
      closes = c.closes;
      took_part = (λ t. inr (record { place = n; from = omega arith; before = omega (arith, c.from); stands = s }), λ w. c.took_part.1 (inl refl));
    }

-- at the quote itself no byte is left
closing-here : (d : List ℕ) (n : ℕ) (e : Bool) → n < length d → get_or d n 0 ≡ quote → Closing d n e n e
closing-here d n e within q =
    record { from = omega arith; within = within; closes = q; took_part = (λ t. inl t, λ w. before w) }
  where
    before : (e ≡ true) ⊎ Backslash d n n → e ≡ true
    before (inl t) = t
    before (inr s) = absurd (omega (arith, s.from, s.before))

-- one run is closed at one place, with one flag
same-closed : {n end : ℕ} {e escaped : Bool} → closed n e ≡ closed end escaped → (n ≡ end) × (e ≡ escaped)
same-closed h = let r = same_Some _ _ h in (ap (λ (x : QuotedRun). x.length) r, ap (λ (x : QuotedRun). x.escaped) r)

-- by as many turns as there are bytes left
closing : (d : List ℕ) (turns n : ℕ) (e : Bool) (end : ℕ) (escaped : Bool) → length d ≤ n + turns
    → quoted_from (drop n d) n e ≡ closed end escaped → Closing d n e end escaped
closing d zero n e end escaped enough q =
    let past = quoted-past d n e (omega arith) in let no : ◌≡◌ {A = ℕ} 0 1 = cc in absurd (omega arith)
closing d (suc turns) n e end escaped enough q =
    by_place d n
    (λ within. by_bool (eqb (get_or d n 0) quote)
    (λ t. let here = quoted-closes d n e within (eqb-true _ _ t) in let same = same-closed (sym here ∙ q) in
    rw (← same.0, ← same.1) (closing-here d n e within (eqb-true _ _ t)))
    (λ not-quote. by_bool (eqb (get_or d n 0) backslash)
    (λ b. closing-escaped d n e end escaped (eqb-true _ _ b)
    (closing d turns (n + 2) true end escaped (omega arith) (sym (quoted_escapes d n e within (eqb-true _ _ b)) ∙ q)))
    (λ other. closing-later d n e end escaped (eqb-false _ _ other)
    (closing d turns (n + 1) e end escaped (omega arith)
    (sym (quoted-goes_on d n e within (eqb-false _ _ not-quote) (eqb-false _ _ other)) ∙ q)))))
    (λ past. let gone = quoted-past d n e past in let no : ◌≡◌ {A = ℕ} 0 1 = cc in absurd (omega arith))

-- a closed run from a place to another: it ends within the bytes, at a quote, and its flag is set exactly when a backslash stands in it
pub record ClosedRun (bytes : List ℕ) (start end : ℕ) (escaped : Bool) : Type 0 where
  pub from : start ≤ end
  pub within : end < length bytes
  pub closes : get_or bytes end 0 ≡ quote
  pub tells : Tells bytes start end escaped

-- as the quoted run of a part is
pub quoted_run-closes : (d : List ℕ) (end : ℕ) (escaped : Bool) → quoted_run d ≡ closed end escaped → ClosedRun d 0 end escaped
unfolding quoted_run
quoted_run-closes d end escaped q =
    let c = closing d (length d) 0 false end escaped (omega arith) q in
    record {
      from = c.from;
      within = c.within;
      closes = c.closes;
      tells = (λ t. only (c.took_part.0 t), λ s. c.took_part.1 (inr s));
    }
  where
    only : (false ≡ true) ⊎ Backslash d 0 end → Backslash d 0 end
    only (inl t) = absurd (false≢true t)
    only (inr s) = s

-- ---- a run that begins further on

-- what is read of later bytes, counted from m on, with a backslash before them or none
abbrev pub moved : ℕ → Bool → Option QuotedRun → Option QuotedRun
moved m e (Some run) = closed (m + run.length) (e || run.escaped)
moved m e None = None

or_true : (e : Bool) → (e || true) ≡ true
or_true true = refl
or_true false = refl

or_false : (e : Bool) → (e || false) ≡ e
or_false true = refl
or_false false = refl

-- at a byte of the run, and at one that a backslash skips
moves : (bytes : List ℕ) (m : ℕ) (e : Bool)
    → ((n : ℕ) (f : Bool) → quoted_from bytes (m + n) (e || f) ≡ moved m e (quoted_from bytes n f))
    × ((n : ℕ) → skipped_from bytes (m + n) ≡ moved m e (skipped_from bytes n))
unfolding quoted_from
moves [] m e = (λ n f. refl, λ n. refl)
moves (b ∷ bs) m e =
    let later = moves bs m e in
    let next : (n : ℕ) → m + n + 1 ≡ m + (n + 1) = λ n. omega arith in (
      λ n f. by_bool (eqb b quote)
          (λ q. rw (quoted_from, q))
          (λ o. by_bool (eqb b backslash)
          (λ s. rw (quoted_from, o, s) (ap (skipped_from bs) (next n) ∙ later.1 (n + 1)))
          (λ g. rw (quoted_from, o, g) (ap (λ (k : ℕ). quoted_from bs k (e || f)) (next n) ∙ later.0 (n + 1) f))),
      λ n. ap (λ (k : ℕ). quoted_from bs k true) (next n)
          ∙ ap (quoted_from bs (m + (n + 1))) (sym (or_true e)) ∙ later.0 (n + 1) true,
    )

-- so the run of the bytes that are left is the rest of the run
pub quoted-moved : (bytes : List ℕ) (at : ℕ) (e : Bool) → quoted_from bytes at e ≡ moved at e (quoted_run bytes)
unfolding quoted_run
quoted-moved bytes at e =
    ap (λ (k : ℕ). quoted_from bytes k e) {x = at} {y = at + 0} (omega arith)
    ∙ ap (quoted_from bytes (at + 0)) (sym (or_false e)) ∙ (moves bytes at e).0 0 false

-- ---- a run of one byte

-- not of fewer than two bytes, nor before a second that is no quote
pub soon_short : (d : List ℕ) → length d < 2 → closes_soon d ≡ false
unfolding closes_soon
soon_short [] h = refl
soon_short (b ∷ []) h = refl
soon_short (b ∷ next ∷ bs) h = absurd (omega arith)

pub soon_other : (d : List ℕ) → (get_or d 1 0 ≡ quote → ⊥) → closes_soon d ≡ false
unfolding closes_soon
soon_other [] n = refl
soon_other (b ∷ []) n = refl
soon_other (b ∷ next ∷ bs) n = rw (ne_eqb next quote n)

-- before a quote the first byte decides
pub soon_quote : (d : List ℕ) → 1 < length d → get_or d 1 0 ≡ quote → closes_soon d ≡ not (turns_quote (get_or d 0 0))
unfolding closes_soon
soon_quote [] h q = absurd (omega arith)
soon_quote (b ∷ []) h q = absurd (omega arith)
soon_quote (b ∷ next ∷ bs) h q = rw (eq-eqb next quote q)

-- then the run is closed at its second byte
pub soon_run : (d : List ℕ) → closes_soon d ≡ true → quoted_run d ≡ closed 1 false
unfolding closes_soon quoted_run
soon_run [] e = absurd (false≢true e)
soon_run (b ∷ []) e = absurd (false≢true e)
soon_run (b ∷ next ∷ bs) e =
    let p = both (eqb next quote) (not (turns_quote b)) e in
    let n = no-turn b (not-true (turns_quote b) p.1) in
    quoted-goes_on (b ∷ next ∷ bs) 0 false (omega arith) n.0 n.1
    ∙ quoted-closes (b ∷ next ∷ bs) 1 false (omega arith) (eqb-true next quote p.0)
