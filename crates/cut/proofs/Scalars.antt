-- The scalar at a place, by its first byte, and the bounds of its view.
-- Assumes nothing.
use mathlib.Core.Path.{◌≡◌, refl, sym, ◌∙◌, ap, subst}
use mathlib.Core.Bool.{Bool, true, false, false≢true}
use mathlib.Core.List.{List}
use Prim.Native.Nat.{ℕ, ◌+◌, ◌-◌, ◌≤◌, ◌<◌}
use native.Mathlib.Omega.{arith}
use borrow.Author.Tests.{eq-eqb, ne_eqb, eqb-true, eqb-false, lt-ltb, le-ltb}
use lib.Dec.{eqb}
use lib.ListN.{length, get_or, take, drop, length-drop, get_or-eq_default}
use lib.Seq.{get_or-drop}
use Rattle.data.proofs.Cases.{by_bool}
use Rattle.data.specs.Bytes.{quote, at_sign, bracket_open}
use Rattle.data.specs.Classes.{is_boundary}
use Rattle.cut.specs.Quotes.{quoted_run, closed, Backslash}
use Rattle.cut.specs.Runs.{run_end_of}
use Rattle.cut.specs.Scalars.{unquoted, quoted, closes_bracket, bracket_run, opens_variable, variable_cut, cut_of, scalar_cut}
use Rattle.cut.specs.declared.Cut.{Cut}
use Rattle.std.specs.Prelude.{Option, Some, None}
use Rattle.cut.specs.declared.Cut.TheVariants.{Unquoted, Quoted}
use Rattle.cut.specs.declared.QuotedRun.{QuotedRun}
use Rattle.cut.proofs.Places.{later-part, by_place}
use Rattle.cut.proofs.Quotes.{ClosedRun, quoted_run-closes}
use Rattle.cut.proofs.Runs.{scanned, run_of-run}

-- a variable starts at no other byte than `@`
pub opens_not : (text : List ℕ) (at : ℕ) → (get_or text at 0 ≡ at_sign → ⊥) → opens_variable text at ≡ false
unfolding opens_variable
opens_not text at n = rw (opens_variable, ne_eqb (get_or text at 0) at_sign n)

-- and there by the byte that follows
pub opens-next : (text : List ℕ) (at : ℕ) → get_or text at 0 ≡ at_sign → opens_variable text at ≡ eqb (get_or text (at + 1) 0) bracket_open
unfolding opens_variable
opens-next text at e = rw (opens_variable, eq-eqb (get_or text at 0) at_sign e)

-- which the last byte lacks
pub opens-past : (text : List ℕ) (at : ℕ) → length text ≤ at + 1 → opens_variable text at ≡ false
opens-past text at h =
    by_bool (eqb (get_or text at 0) at_sign)
    (λ t. opens-next text at (eqb-true _ _ t) ∙ ap (λ (b : ℕ). eqb b bracket_open) (get_or-eq_default text 0 {n = at + 1} h))
    (λ f. opens_not text at (eqb-false _ _ f))

-- so `@[` stands whole within the text
pub opens-within : (text : List ℕ) (at : ℕ) → opens_variable text at ≡ true → at + 2 ≤ length text
opens-within text at e = by_place text (at + 1) (λ inside. omega arith) (λ past. absurd (false≢true (sym (opens-past text at past) ∙ e)))

module _ (stops : ℕ → Bool) (text : List ℕ) (at : ℕ) where
  -- past the end there is no scalar
  pub cut-past : length text ≤ at → cut_of stops text at ≡ None
  unfolding cut_of
  cut-past h = rw (cut_of, le-ltb at (length text) h)

  module _ (within : at < length text) where
    -- a quote opens a quoted run
    pub cut-quoted : get_or text at 0 ≡ quote → cut_of stops text at ≡ quoted (at + 1) (quoted_run (drop (at + 1) text))
    unfolding cut_of
    cut-quoted e = rw (cut_of, lt-ltb at (length text) within, eq-eqb (get_or text at 0) quote e)

    -- `@[` opens a variable
    pub cut_variable : (get_or text at 0 ≡ quote → ⊥) → opens_variable text at ≡ true → cut_of stops text at ≡ variable_cut text at
    unfolding cut_of
    cut_variable n o = rw (cut_of, lt-ltb at (length text) within, ne_eqb (get_or text at 0) quote n, o)

    -- and any other byte an unquoted run
    pub cut-run : (get_or text at 0 ≡ quote → ⊥) → opens_variable text at ≡ false → cut_of stops text at ≡ unquoted at (run_end_of stops text at)
    unfolding cut_of
    cut-run n o = rw (cut_of, lt-ltb at (length text) within, ne_eqb (get_or text at 0) quote n, o)

-- the bytes before a `]` are no more than there are
pub bracket-within : (bytes : List ℕ) → bracket_run bytes ≤ length bytes
unfolding bracket_run
bracket-within bytes = (scanned closes_bracket bytes 0).within (omega arith)

-- a variable that a `]` closes, and one that none does
pub variable_closed : (text : List ℕ) (at n : ℕ) → n ≡ bracket_run (drop (at + 2) text) → at + 2 + n < length text
    → variable_cut text at ≡ unquoted at (at + 2 + n + 1)
unfolding variable_cut
variable_closed text at n e h = rw (e, variable_cut, lt-ltb (at + 2 + bracket_run (drop (at + 2) text)) (length text) (rw e at h))

pub variable_open : (text : List ℕ) (at n : ℕ) → n ≡ bracket_run (drop (at + 2) text) → length text ≤ at + 2 + n → variable_cut text at ≡ None
unfolding variable_cut
variable_open text at n e h = rw (variable_cut, ← e, le-ltb (at + 2 + n) (length text) h)

-- what the quoted run of a slice's later part says of the text
pub quoted-part : (text : List ℕ) (start : ℕ) (q : Option QuotedRun) → q ≡ quoted_run (take (length text - start) (drop start text))
    → q ≡ quoted_run (drop start text)
quoted-part text start q e = e ∙ ap quoted_run (later-part text start)

-- a closed run of a slice's later part, said of the text
pub quoted-part-closes : (text : List ℕ) (start n : ℕ) (escaped : Bool) → start ≤ length text → quoted_run (drop start text) ≡ closed n escaped
    → ClosedRun text start (start + n) escaped
quoted-part-closes text start n escaped h q =
    let c = quoted_run-closes (drop start text) n escaped q in
    record {
      from = omega arith;
      within = omega (arith, c.within, length-drop start text);
      closes = sym (get_or-drop start text n 0) ∙ c.closes;
      tells = (λ e. there (c.tells.0 e), λ s. c.tells.1 (here s));
    }
  where
    there : Backslash (drop start text) 0 n → Backslash text start (start + n)
    there s =
        record {
          place = start + s.place;
          from = omega arith;
          before = omega (arith, s.before);
          stands = sym (get_or-drop start text s.place 0) ∙ s.stands;
        }

    here : Backslash text start (start + n) → Backslash (drop start text) 0 n
    here s =
        let back : start + (s.place - start) ≡ s.place = omega (arith, s.from) in
        record {
          place = s.place - start;
          from = omega arith;
          before = omega (arith, s.from, s.before);
          stands = get_or-drop start text (s.place - start) 0 ∙ ap (λ (k : ℕ). get_or text k 0) back ∙ s.stands;
        }

-- and the bracket of a slice's later part
pub bracket-part : (text : List ℕ) (start n : ℕ) → n ≡ bracket_run (take (length text - start) (drop start text))
    → n ≡ bracket_run (drop start text)
bracket-part text start n e = e ∙ ap bracket_run (later-part text start)

-- an unquoted view starts at the place and has a byte; the text goes on at its end
pub record UnquotedView (text : List ℕ) (at start end rest : ℕ) : Type 0 where
  pub starts : start ≡ at
  pub moves : at < end
  pub within : end ≤ length text
  pub goes_on : rest ≡ end

-- a quoted view starts after its quote and is a closed run, which may be empty; the text goes on after the quote that closes it
pub record QuotedView (text : List ℕ) (at start end rest : ℕ) (escaped : Bool) : Type 0 where
  pub starts : start ≡ at + 1
  pub run : ClosedRun text start end escaped
  pub goes_on : rest ≡ end + 1

-- what a cut has to hold to, by its kind
View : List ℕ → ℕ → Option Cut → Type 0
View text at (Some (Unquoted start end rest)) = UnquotedView text at start end rest
View text at (Some (Quoted start end rest escaped)) = QuotedView text at start end rest escaped
View text at None = Unit {0}

quoted-view : (text : List ℕ) (at : ℕ) (q : Option QuotedRun) → at + 1 ≤ length text → quoted_run (drop (at + 1) text) ≡ q
    → View text at (quoted (at + 1) q)
unfolding View
quoted-view text at (Some run) h e =
    record { starts = refl; run = quoted-part-closes text (at + 1) run.length run.escaped h e; goes_on = refl }
quoted-view text at None h e = tt

variable_view : (text : List ℕ) (at : ℕ) → View text at (variable_cut text at)
unfolding View
variable_view text at =
    by_place text (at + 2 + bracket_run (drop (at + 2) text))
    (λ closed. rw (variable_closed text at _ refl closed)
    record { starts = refl; moves = omega arith; within = omega arith; goes_on = refl })
    (λ unclosed. rw (variable_open text at _ refl unclosed) tt)

view : (stops : ℕ → Bool) (text : List ℕ) (at : ℕ) → View text at (cut_of stops text at)
unfolding View
view stops text at =
    by_place text at
    (λ within. by_bool (eqb (get_or text at 0) quote)
    (λ q. rw (cut-quoted stops text at within (eqb-true _ _ q)) (quoted-view text at (quoted_run (drop (at + 1) text)) (omega arith) refl))
    (λ n. by_bool (opens_variable text at)
    (λ o. rw (cut_variable stops text at within (eqb-false _ _ n) o) (variable_view text at))
    (λ f. let r = run_of-run stops text at within in
    rw (cut-run stops text at within (eqb-false _ _ n) f)
    record { starts = refl; moves = r.moves; within = r.within; goes_on = refl })))
    (λ past. rw (cut-past stops text at past) tt)

-- the bounds of an unquoted scalar, `@[` through its `]` among them
pub unquoted_bounds : (text : List ℕ) (at start end rest : ℕ) → scalar_cut text at ≡ Some (Unquoted start end rest) → UnquotedView text at start end rest
unfolding View scalar_cut
unquoted_bounds text at start end rest e = subst (View text at) e (view is_boundary text at)

-- the bounds of a quoted scalar
pub quoted_bounds : (text : List ℕ) (at start end rest : ℕ) (escaped : Bool) → scalar_cut text at ≡ Some (Quoted start end rest escaped)
    → QuotedView text at start end rest escaped
unfolding View scalar_cut
quoted_bounds text at start end rest escaped e = subst (View text at) e (view is_boundary text at)

-- past the end there is no scalar
pub scalar_cut-past : (text : List ℕ) (at : ℕ) → length text ≤ at → scalar_cut text at ≡ None
unfolding scalar_cut
scalar_cut-past text at h = cut-past is_boundary text at h
