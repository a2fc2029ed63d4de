-- Scanning to the first byte that stops, a byte at a time, and where a run ends.
-- Assumes nothing.
use mathlib.Core.Path.{◌≡◌, refl, sym, ◌∙◌, ap, subst, fun_ext}
use mathlib.Core.Bool.{Bool, true, false, not, false≢true, not-not}
use mathlib.Core.List.{List, [], ◌∷◌}
use Prim.Native.Nat.{ℕ, zero, suc, ◌+◌, ◌-◌, ◌≤◌, ◌<◌}
use native.Mathlib.Nat.{zero-add}
use native.Mathlib.Omega.{arith}
use borrow.Author.Tests.{eqb-true, eqb-false, ltb-true, ltb-false}
use lib.Dec.{eqb, ltb}
use lib.ListN.{length, get_or, take, drop, length-drop, drop_of_length-le}
use lib.Seq.{drop-drop, get_or-drop}
use Rattle.data.proofs.Boundary.{entry_zero}
use Rattle.data.proofs.Cases.{by_bool}
use Rattle.data.specs.Classes.{is_boundary, classes}
use Rattle.cut.specs.Runs.{stop_from, run_of, run_end_of, classed, run_by, unquoted_run, run_end_by, run_end}
use Rattle.cut.proofs.Places.{drop_here, later-part, by_place}

-- past the last byte the scan has ended
pub stop_past : (stops : ℕ → Bool) (text : List ℕ) (at : ℕ) → length text ≤ at → stop_from stops (drop at text) at ≡ at
unfolding stop_from
stop_past stops text at h = rw (drop_of_length-le text h)

-- a byte that stops it is where it ends
pub stop_here : (stops : ℕ → Bool) (text : List ℕ) (at : ℕ) → at < length text → stops (get_or text at 0) ≡ true
    → stop_from stops (drop at text) at ≡ at
unfolding stop_from
stop_here stops text at h e = rw (drop_here text at h, stop_from, e)

-- any other byte is passed
pub stop_later : (stops : ℕ → Bool) (text : List ℕ) (at : ℕ) → at < length text → stops (get_or text at 0) ≡ false
    → stop_from stops (drop at text) at ≡ stop_from stops (drop (at + 1) text) (at + 1)
unfolding stop_from
stop_later stops text at h e = rw (drop_here text at h, stop_from, e)

-- where a scan from a place on ends: every byte passed is one that does not stop it, and the byte there, if any, is one that does
pub record Scanned (stops : ℕ → Bool) (text : List ℕ) (at end : ℕ) : Type 0 where
  pub from : at ≤ end
  pub within : at ≤ length text → end ≤ length text
  pub inside : (k : ℕ) → at ≤ k → k < end → stops (get_or text k 0) ≡ false
  pub halted : end < length text → stops (get_or text end 0) ≡ true

module _ (stops : ℕ → Bool) (text : List ℕ) where
  scanned_past : (at : ℕ) → length text ≤ at → Scanned stops text at at
  scanned_past at h =
      record { from = omega arith; within = λ w. w; inside = λ k f l. absurd (omega arith); halted = λ l. absurd (omega arith) }

  scanned_here : (at : ℕ) → stops (get_or text at 0) ≡ true → Scanned stops text at at
  scanned_here at e = record { from = omega arith; within = λ w. w; inside = λ k f l. absurd (omega arith); halted = λ l. e }

  scanned_later : (at end : ℕ) → at < length text → stops (get_or text at 0) ≡ false → Scanned stops text (at + 1) end → Scanned stops text at end
  scanned_later at end h e s =
      record {
        from = omega (arith, s.from);
        within = λ w. s.within (omega arith);
        inside = λ k f l. by_bool (eqb k at) (λ t. rw (eqb-true k at t) e) (λ n. s.inside k (omega (arith, eqb-false k at n)) l);
        halted = s.halted;
      }

  -- by as many turns as there are bytes left
  scan : (turns at : ℕ) → length text ≤ at + turns → Scanned stops text at (stop_from stops (drop at text) at)
  scan zero at enough = rw (stop_past stops text at (omega arith)) (scanned_past at (omega arith))
  scan (suc turns) at enough =
      by_place text at
      (λ within. by_bool (stops (get_or text at 0))
      (λ here. rw (stop_here stops text at within here) (scanned_here at here))
      (λ later. rw (stop_later stops text at within later) (scanned_later at _ within later (scan turns (at + 1) (omega arith)))))
      (λ past. rw (stop_past stops text at past) (scanned_past at past))

-- a scan is right wherever it starts
pub scanned : (stops : ℕ → Bool) (text : List ℕ) (at : ℕ) → Scanned stops text at (stop_from stops (drop at text) at)
scanned stops text at = scan stops text (length text) at (omega arith)

-- a scan that counts from further on ends as much further on
stop_shift : (stops : ℕ → Bool) (bytes : List ℕ) (at more : ℕ) → stop_from stops bytes (more + at) ≡ more + stop_from stops bytes at
unfolding stop_from
stop_shift stops [] at more = refl
stop_shift stops (b ∷ bs) at more =
    by_bool (stops b)
    (λ t. rw (stop_from, t))
    (λ f. rw (stop_from, f) (ap (stop_from stops bs) {x = more + at + 1} {y = more + (at + 1)} (omega arith) ∙ stop_shift stops bs (at + 1) more))

-- the run at the head of no bytes is empty
pub run_none : (stops : ℕ → Bool) (bytes : List ℕ) → length bytes ≡ 0 → run_of stops bytes ≡ 0
unfolding run_of
run_none stops [] e = refl
run_none stops (b ∷ bs) e = absurd (omega arith)

-- a head that stops it is a run of its own
pub run_head : (stops : ℕ → Bool) (bytes : List ℕ) → 0 < length bytes → stops (get_or bytes 0 0) ≡ true → run_of stops bytes ≡ 1
unfolding run_of
run_head stops [] h e = absurd (omega arith)
run_head stops (b ∷ bs) h e = rw (run_of, e)

-- and after any other head the run is the scan's
pub run-scan : (stops : ℕ → Bool) (bytes : List ℕ) → 0 < length bytes → stops (get_or bytes 0 0) ≡ false
    → run_of stops bytes ≡ stop_from stops (drop 1 bytes) 1
unfolding run_of
run-scan stops [] h e = absurd (omega arith)
run-scan stops (b ∷ bs) h e = rw (run_of, e)

-- so a scan of the bytes that passes some is the run
pub run_stop : (stops : ℕ → Bool) (bytes : List ℕ) (n : ℕ) → stop_from stops bytes 0 ≡ n → (n ≡ 0 → ⊥) → run_of stops bytes ≡ n
unfolding run_of stop_from
run_stop stops [] n e some = absurd (some (sym e))
run_stop stops (b ∷ bs) n e some =
    by_bool (stops b) (λ t. absurd (some (sym (rw (stop_from, t) at e)))) (λ f. rw (run_of, f) (rw (stop_from, f) at e))

-- one that stops at once stops at the head, which is a run of its own
pub run-at-once : (stops : ℕ → Bool) (bytes : List ℕ) → 0 < length bytes → stop_from stops bytes 0 ≡ 0 → run_of stops bytes ≡ 1
run-at-once stops bytes h e =
    by_bool (stops (get_or bytes 0 0))
    (λ t. run_head stops bytes h t)
    (λ f. absurd (omega (arith, stop_later stops bytes 0 h f, (scanned stops bytes 1).from)))

-- one that goes on from a later place passes some
pub run-later : (stops : ℕ → Bool) (bytes : List ℕ) (from : ℕ) → 0 < from → stop_from stops bytes 0 ≡ stop_from stops (drop from bytes) from
    → run_of stops bytes ≡ stop_from stops (drop from bytes) from
run-later stops bytes from h e = run_stop stops bytes _ e (λ z. omega (arith, (scanned stops bytes from).from))

-- and before a second byte that stops it the run is the head, whatever that is
pub run_second : (stops : ℕ → Bool) (bytes : List ℕ) → 1 < length bytes → stops (get_or bytes 1 0) ≡ true → run_of stops bytes ≡ 1
run_second stops bytes h e =
    by_bool (stops (get_or bytes 0 0))
    (λ t. run_head stops bytes (omega arith) t)
    (λ f. run-scan stops bytes (omega arith) f ∙ stop_here stops bytes 1 h e)

-- an unquoted run from a place to an end: at least one byte; a byte that stops it is a run of its own, and after any other there is none that
-- stops it, and one that does unless the text ends
pub record Run (stops : ℕ → Bool) (text : List ℕ) (at end : ℕ) : Type 0 where
  pub moves : at < end
  pub within : end ≤ length text
  pub alone : stops (get_or text at 0) ≡ true → end ≡ at + 1
  pub inside : (k : ℕ) → at < k → k < end → stops (get_or text k 0) ≡ false
  pub halted : stops (get_or text at 0) ≡ false → end < length text → stops (get_or text end 0) ≡ true

-- the head of the text from a place on is the byte there
pub head_here : (text : List ℕ) (at : ℕ) → get_or (drop at text) 0 0 ≡ get_or text at 0
head_here text at = get_or-drop at text 0 0 ∙ ap (λ (k : ℕ). get_or text k 0) {x = at + 0} {y = at} (omega arith)

-- the place after a run: the next one, or where the scan from its second byte on ends
run_alone : (stops : ℕ → Bool) (text : List ℕ) (at : ℕ) → at < length text → stops (get_or text at 0) ≡ true → run_end_of stops text at ≡ at + 1
unfolding run_end_of
run_alone stops text at h e =
    ap (λ (n : ℕ). at + n) (run_head stops (drop at text) (rw length-drop (omega arith)) (ap stops (head_here text at) ∙ e))

run_scans : (stops : ℕ → Bool) (text : List ℕ) (at : ℕ) → at < length text → stops (get_or text at 0) ≡ false
    → run_end_of stops text at ≡ stop_from stops (drop (at + 1) text) (at + 1)
unfolding run_end_of
run_scans stops text at h e =
    ap (λ (n : ℕ). at + n) (run-scan stops (drop at text) (rw length-drop (omega arith)) (ap stops (head_here text at) ∙ e))
    ∙ sym (stop_shift stops (drop 1 (drop at text)) 1 at)
    ∙ ap (λ (bs : List ℕ). stop_from stops bs (at + 1)) (drop-drop 1 at text)

pub run_of-run : (stops : ℕ → Bool) (text : List ℕ) (at : ℕ) → at < length text → Run stops text at (run_end_of stops text at)
run_of-run stops text at h =
    by_bool (stops (get_or text at 0))
    (λ t. rw (run_alone stops text at h t)
    record {
      moves = omega arith;
      within = omega arith;
      alone = λ e. refl;
      inside = λ k f l. absurd (omega arith);
      halted = λ e l. absurd (false≢true (sym e ∙ t));
    })
    (λ f. rw (run_scans stops text at h f)
    (let s = scanned stops text (at + 1) in
    record {
      moves = omega (arith, s.from);
      within = s.within (omega arith);
      alone = λ e. absurd (false≢true (sym f ∙ e));
      inside = λ k g l. s.inside k (omega arith) l;
      halted = λ e l. s.halted l;
    }))

-- only one end makes a run
pub run_only : (stops : ℕ → Bool) (text : List ℕ) (at end : ℕ) → at < length text → Run stops text at end → end ≡ run_end_of stops text at
run_only stops text at end h r =
    let o = run_of-run stops text at h in
    let e = run_end_of stops text at in
    by_bool (stops (get_or text at 0))
    (λ t. r.alone t ∙ sym (o.alone t))
    (λ f. by_bool (ltb end e)
    (λ t. let short = ltb-true end e t in absurd (false≢true (sym (o.inside end r.moves short) ∙ r.halted f (omega (arith, o.within)))))
    (λ g. by_bool (ltb e end)
    (λ t. let long = ltb-true e end t in absurd (false≢true (sym (r.inside e o.moves long) ∙ o.halted f (omega (arith, r.within)))))
    (λ l. omega (arith, ltb-false end e g, ltb-false e end l))))

-- past the end there is no run
pub run_past : (stops : ℕ → Bool) (text : List ℕ) (at : ℕ) → length text ≤ at → run_end_of stops text at ≡ at
unfolding run_end_of run_of
run_past stops text at h = rw (run_end_of, drop_of_length-le text h) (omega arith)

-- and no run reaches past it
pub run-within : (stops : ℕ → Bool) (text : List ℕ) (at : ℕ) → at ≤ length text → run_end_of stops text at ≤ length text
run-within stops text at h =
    by_place text at (λ inside. (run_of-run stops text at inside).within) (λ past. rw (run_past stops text at past) h)

-- a run cut from a slice's later part, as the code lends it
part_of-run : (stops : ℕ → Bool) (text : List ℕ) (at n : ℕ) → n ≡ run_of stops (take (length text - at) (drop at text))
    → at + n ≡ run_end_of stops text at
unfolding run_end_of
part_of-run stops text at n e = ap (λ (k : ℕ). at + k) (e ∙ ap (run_of stops) (later-part text at))

pub run_of-part : (table text : List ℕ) (at n : ℕ) → n ≡ run_by table (take (length text - at) (drop at text)) → at + n ≡ run_end_by table text at
unfolding run_by run_end_by
run_of-part table text at n e = part_of-run (classed table) text at n e

pub unquoted-part : (text : List ℕ) (at n : ℕ) → n ≡ unquoted_run (take (length text - at) (drop at text)) → at + n ≡ run_end text at
unfolding unquoted_run run_end
unquoted-part text at n e = part_of-run is_boundary text at n e

pub run_end_by-within : (table text : List ℕ) (at : ℕ) → at ≤ length text → run_end_by table text at ≤ length text
unfolding run_end_by
run_end_by-within table text at h = run-within (classed table) text at h

-- data's table gives a class to the thirteen boundary bytes and to no other number
pub classed-classes : classed classes ≡ is_boundary
unfolding classed
classed-classes = fun_ext (λ b. ap not (entry_zero b) ∙ not-not (is_boundary b))

-- so what is cut by it is cut by the thirteen bytes
pub run_end_by-classes : (text : List ℕ) (at : ℕ) → run_end_by classes text at ≡ run_end text at
unfolding run_end_by run_end
run_end_by-classes text at = ap (λ (s : ℕ → Bool). run_end_of s text at) classed-classes

-- the place after an unquoted run, and what stands up to it
pub run_end-run : (text : List ℕ) (at : ℕ) → at < length text → Run is_boundary text at (run_end text at)
unfolding run_end
run_end-run text at h = run_of-run is_boundary text at h

pub run_end-within : (text : List ℕ) (at : ℕ) → at ≤ length text → run_end text at ≤ length text
unfolding run_end
run_end-within text at h = run-within is_boundary text at h

pub run_end-past : (text : List ℕ) (at : ℕ) → length text ≤ at → run_end text at ≡ at
unfolding run_end
run_end-past text at h = run_past is_boundary text at h

-- the run at the head of some bytes is the one that starts at their first place
pub unquoted_run-run : (bytes : List ℕ) → 0 < length bytes → Run is_boundary bytes 0 (unquoted_run bytes)
unfolding run_end_of unquoted_run
unquoted_run-run bytes h = subst (λ (e : ℕ). Run is_boundary bytes 0 e) (zero-add (run_of is_boundary bytes)) (run_of-run is_boundary bytes 0 h)
