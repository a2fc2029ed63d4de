-- Skipping blanks, a byte at a time, and where it lands.
-- Assumes nothing.
use mathlib.Core.Path.{◌≡◌, refl, sym, ◌∙◌}
use mathlib.Core.Bool.{true, false}
use mathlib.Core.List.{List, ◌∷◌}
use Prim.Native.Nat.{ℕ, zero, suc, ◌+◌, ◌≤◌, ◌<◌}
use native.Mathlib.Omega.{arith}
use borrow.Author.Tests.{eq-eqb, ne_eqb, eqb-true, eqb-false}
use lib.Dec.{eqb}
use lib.ListN.{length, get_or, take, drop, drop_of_length-le}
use lib.Seq.{get_or-take, length-take-le}
use Rattle.data.proofs.Cases.{by_bool}
use Rattle.data.specs.Bytes.{hash, line_feed}
use Rattle.cut.specs.Blanks.{is_blank, blanks_from, comment_from, skip_ws}
use Rattle.std.specs.Prelude.{Option, Some, None}
use Rattle.cut.proofs.Places.{drop_here, by_place}

-- a byte outside a comment, and inside one
blanks_at : (b : ℕ) (bs : List ℕ) (at : ℕ)
    → blanks_from (b ∷ bs) at
    ≡ elim (is_blank b) [ true ↦ blanks_from bs (at + 1) | false ↦ elim (eqb b hash) [ true ↦ comment_from bs (at + 1) | false ↦ Some at ] ]
unfolding blanks_from
blanks_at b bs at = refl

comment-at : (b : ℕ) (bs : List ℕ) (at : ℕ)
    → comment_from (b ∷ bs) at ≡ elim (eqb b line_feed) [ true ↦ blanks_from bs (at + 1) | false ↦ comment_from bs (at + 1) ]
unfolding comment_from
comment-at b bs at = refl

-- skipping blanks from inside a comment
unfoldable pub skip_comment : List ℕ → ℕ → Option ℕ
skip_comment text at = comment_from (drop at text) at

-- past the last byte there is nothing to find
pub skip-past : (text : List ℕ) (at : ℕ) → length text ≤ at → skip_ws text at ≡ None
unfolding skip_ws blanks_from
skip-past text at h = rw (skip_ws, drop_of_length-le text h)

-- a blank is passed
pub skip-blank : (text : List ℕ) (at : ℕ) → at < length text → is_blank (get_or text at 0) ≡ true → skip_ws text at ≡ skip_ws text (at + 1)
unfolding skip_ws
skip-blank text at h e = rw (skip_ws, drop_here text at h, blanks_at, e)

-- a `#` opens a comment
pub skip-hash : (text : List ℕ) (at : ℕ) → at < length text → is_blank (get_or text at 0) ≡ false → get_or text at 0 ≡ hash
    → skip_ws text at ≡ skip_comment text (at + 1)
unfolding skip_ws skip_comment
skip-hash text at h f e = rw (skip_ws, drop_here text at h, blanks_at, f, eq-eqb (get_or text at 0) hash e)

-- any other byte is where it lands
pub skip-here : (text : List ℕ) (at : ℕ) → at < length text → is_blank (get_or text at 0) ≡ false → (get_or text at 0 ≡ hash → ⊥)
    → skip_ws text at ≡ Some at
unfolding skip_ws
skip-here text at h f n = rw (skip_ws, drop_here text at h, blanks_at, f, ne_eqb (get_or text at 0) hash n)

-- a comment that meets the end of the text is the end
pub comment-past : (text : List ℕ) (at : ℕ) → length text ≤ at → skip_comment text at ≡ None
unfolding skip_comment comment_from
comment-past text at h = rw (skip_comment, drop_of_length-le text h)

-- its LF ends it
pub comment-ends : (text : List ℕ) (at : ℕ) → at < length text → get_or text at 0 ≡ line_feed → skip_comment text at ≡ skip_ws text (at + 1)
unfolding skip_ws skip_comment
comment-ends text at h e = rw (skip_comment, drop_here text at h, comment-at, eq-eqb (get_or text at 0) line_feed e)

-- and no other byte does
pub comment-goes_on : (text : List ℕ) (at : ℕ) → at < length text → (get_or text at 0 ≡ line_feed → ⊥)
    → skip_comment text at ≡ skip_comment text (at + 1)
unfolding skip_comment
comment-goes_on text at h n = rw (skip_comment, drop_here text at h, comment-at, ne_eqb (get_or text at 0) line_feed n)

-- where skipping from a place on lands: at a byte of the text that is no blank and opens no comment
pub record Landed (text : List ℕ) (at place : ℕ) : Type 0 where
  pub from : at ≤ place
  pub within : place < length text
  pub no_blank : is_blank (get_or text place 0) ≡ false
  pub no_comment : get_or text place 0 ≡ hash → ⊥

-- landed there, with nothing but blanks passed: the text cut off there has nothing to find from here on
record Reached (text : List ℕ) (at place : ℕ) (cut_off : Option ℕ) : Type 0 where
  landed : Landed text at place
  passed : cut_off ≡ None

-- a byte before the place stands in the text cut off there
record Uncut (text : List ℕ) (at place : ℕ) : Type 0 where
  below : at < length (take place text)
  byte : get_or (take place text) at 0 ≡ get_or text at 0

uncut : (text : List ℕ) (at place : ℕ) → Landed text (at + 1) place → Uncut text at place
uncut text at place l =
    let h : at < place = omega (arith, l.from) in
    record { below = rw (length-take-le place text (omega (arith, l.within))) h; byte = get_or-take place text at 0 h }

-- one byte is passed before what is left reaches it
reach_later : (text : List ℕ) (at place : ℕ) (now later : Option ℕ) → (Uncut text at place → now ≡ later)
    → Reached text (at + 1) place later → Reached text at place now
reach_later text at place now later step r =
    let l = r.landed in
    record {
      landed = record { from = omega (arith, l.from); within = l.within; no_blank = l.no_blank; no_comment = l.no_comment };
      passed = step (uncut text at place l) ∙ r.passed;
    }

reach_here : (text : List ℕ) (at place : ℕ) → at ≡ place → at < length text → is_blank (get_or text at 0) ≡ false
    → (get_or text at 0 ≡ hash → ⊥)
    → Reached text at place (skip_ws (take place text) at)
reach_here text at place e within no_blank no_comment =
    rw (← e)
    record {
      landed = record { from = omega arith; within = within; no_blank = no_blank; no_comment = no_comment };
      passed = skip-past (take at text) at (omega (arith, length-take-le at text (omega arith)));
    }

nowhere : {P : Type 0} (s : Option ℕ) (place : ℕ) → s ≡ None → s ≡ Some place → P
nowhere s place gone found = let no : ◌≡◌ {A = ℕ} 0 1 = cc in absurd (omega arith)

same_place : (s : Option ℕ) (at place : ℕ) → s ≡ Some at → s ≡ Some place → at ≡ place
same_place s at place here found = cc

-- by as many turns as there are bytes left, outside a comment and inside one
reach : (text : List ℕ) (turns at place : ℕ) → length text ≤ at + turns
    → (skip_ws text at ≡ Some place → Reached text at place (skip_ws (take place text) at))
    × (skip_comment text at ≡ Some place → Reached text at place (skip_comment (take place text) at))
reach text zero at place enough =
    (λ e. nowhere _ place (skip-past text at (omega arith)) e, λ e. nowhere _ place (comment-past text at (omega arith)) e)
reach text (suc turns) at place enough =
    let next = reach text turns (at + 1) place (omega arith) in
    by_place text at
    (λ within. (
      λ e. by_bool (is_blank (get_or text at 0))
          (λ blank. reach_later text at place _ _ (λ k. skip-blank _ at k.below (rw k.byte blank))
          (next.0 (sym (skip-blank text at within blank) ∙ e)))
          (λ no_blank. by_bool (eqb (get_or text at 0) hash)
          (λ t. let opens = eqb-true (get_or text at 0) hash t in
          reach_later text at place _ _ (λ k. skip-hash _ at k.below (rw k.byte no_blank) (k.byte ∙ opens))
          (next.1 (sym (skip-hash text at within no_blank opens) ∙ e)))
          (λ f. let other = eqb-false (get_or text at 0) hash f in
          reach_here text at place (same_place _ at place (skip-here text at within no_blank other) e) within no_blank other)),
      λ e. by_bool (eqb (get_or text at 0) line_feed)
          (λ t. let ends = eqb-true (get_or text at 0) line_feed t in
          reach_later text at place _ _ (λ k. comment-ends _ at k.below (k.byte ∙ ends))
          (next.0 (sym (comment-ends text at within ends) ∙ e)))
          (λ f. let other = eqb-false (get_or text at 0) line_feed f in
          reach_later text at place _ _ (λ k. comment-goes_on _ at k.below (rw k.byte other))
          (next.1 (sym (comment-goes_on text at within other) ∙ e))),
    ))
    (λ past. (λ e. nowhere _ place (skip-past text at past) e, λ e. nowhere _ place (comment-past text at past) e))

-- skipping lands at a byte that is no blank
pub skip_lands : (text : List ℕ) (at place : ℕ) → skip_ws text at ≡ Some place → Landed text at place
skip_lands text at place e = ((reach text (length text) at place (omega arith)).0 e).landed

-- nothing but blanks lies between: the text cut off where it lands has nothing to find
pub skip-passes : (text : List ℕ) (at place : ℕ) → skip_ws text at ≡ Some place → skip_ws (take place text) at ≡ None
skip-passes text at place e = ((reach text (length text) at place (omega arith)).0 e).passed

-- a place that was landed on is landed on again
pub skip-again : (text : List ℕ) (at place : ℕ) → skip_ws text at ≡ Some place → skip_ws text place ≡ Some place
skip-again text at place e = let l = skip_lands text at place e in skip-here text place l.within l.no_blank l.no_comment
