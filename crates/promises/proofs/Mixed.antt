-- What is promised of mixed: where it is in force, where its mark stands on a finished tape, and that the flag which brings it back
-- is stored.
-- Assumes nothing.
use mathlib.Core.Path.{◌≡◌, refl, sym, subst}
use mathlib.Core.Bool.{Bool}
use mathlib.Core.List.{List, [], ◌∷◌, ◌++◌}
use Prim.Native.Nat.{ℕ, ◌*◌, ◌≤◌, ◌<◌}
use native.Mathlib.Omega.{arith}
use borrow.Author.Tests.{ltb-true, ltb-false}
use lib.Dec.{ltb}
use lib.ListN.{length}
use Rattle.data.proofs.Cases.{by_bool}
use Rattle.tape.specs.declared.token.Token.{Token}
use Rattle.tape.specs.Words.{tokens_in}
use Rattle.tape.proofs.Shapes.{opens-link, end-link, link-made}
use Rattle.sheet.specs.Sound.{nth}
use Rattle.tape.specs.Tape.{Tape, Room, holds, unbounded}
use Rattle.machine.specs.declared.State.{State}
use Rattle.machine.specs.declared.State.TheVariants.{Key, KeyValueSeparator, ObjectValue, ParseOpen, ArrayValue}
use Rattle.machine.specs.declared.Machine.{Machine}
use Rattle.parse.specs.After.{After, next, done, refused}
use Rattle.machine.specs.Start.{has_bom}
use Rattle.machine.specs.Finish.{outcome, with_tokens}
use Rattle.parse.specs.Parse.{parse_of}
use Rattle.promises.specs.Room.{after_turns}
use Rattle.promises.specs.Mixed.{Mixing, Marked, Flags}
use Rattle.promises.specs.Reached.{Reached}
use Rattle.promises.proofs.Alike.{in_room, Known}
use Rattle.promises.proofs.Room.{laid_in_turns, turns-alike}
use Rattle.promises.proofs.Links.Nest.{by_equal}
use Rattle.promises.proofs.Links.Rows.{add_new, add_same}
use Rattle.promises.proofs.Links.Flags.{codes-differ, coded_below, flags-add}
use Rattle.promises.proofs.Links.Kept.{Kept}
use Rattle.promises.proofs.Links.Held as Held
use Rattle.promises.proofs.Links.Held.{Held, Shaped, unsettled}
use Rattle.promises.proofs.Links.Parse.{run-from-start, parse_tied}

-- ---- mixed is on in ParseOpen and ArrayValue alone, on every tape and after any number of turns. So in KeyValueSeparator `=` never
-- adds an operator: the Rust's arm for it there while mixed is on, which document 01 leaves out, is never taken
mixing_free : (text : List ℕ) (budget : ℕ) (x : After) → Known text budget x → Mixing x
mixing_free text budget (next m t) h = h.mixes
mixing_free text budget (done n t) h = tt
mixing_free text budget (refused r) h = tt

mixing_in_room : (k : ℕ) (x : After) → Mixing x → Mixing (in_room k x)
mixing_in_room k (next m t) h = h
mixing_in_room k (done n t) h = tt
mixing_in_room k (refused r) h = tt

module _ (text : List ℕ) (n : ℕ) where
  free-turns : Mixing (after_turns text n unbounded)
  free-turns = mixing_free text (2 * length text) (after_turns text n unbounded) (turns-alike text n 0).known

  pub mixed_in_arrays : (room : Room) → Mixing (after_turns text n room)
  mixed_in_arrays unbounded = free-turns
  mixed_in_arrays (holds k) =
      let a = turns-alike text n k in
      by_bool (ltb k (laid_in_turns text n))
      (λ e. rw (a.full (omega arith) (ltb-true _ _ e)) tt)
      (λ e. rw (a.fits (ltb-false _ _ e)) (mixing_in_room k (after_turns text n unbounded) free-turns))

-- ---- a MixedContainer stands directly before a scalar, on every tape that a successful parse leaves
pub mixed-before-scalar : (text : List ℕ) (len count : ℕ) (bom : Bool) (words : List ℕ) → parse_of text len ≡ outcome (with_tokens count bom) words
    → Marked (tokens_in words count)
mixed-before-scalar text len count bom words e = (parse_tied text len count bom words e).tokens.marked

-- ---- an Equal is laid down under mixed alone. Where an Object opens behind one, the container around it, if there is one, has
-- stored its flag as long as the Object is open: what leaving the Object takes mixed up from
shaped-flags : (state : State) (mixed : Bool) (p : ℕ) (ts : List Token) → Shaped state mixed p ts → Flags ts
shaped-flags Key mixed p ts s = s.kept.flags
shaped-flags KeyValueSeparator mixed p ts s = s.0.kept.flags
shaped-flags ObjectValue mixed p ts s = s.0.kept.flags
shaped-flags ParseOpen mixed p ts s = rw s.1 (flags-add s.0 unsettled s.2.flags (λ c b e f. codes-differ (λ z. omega arith) e))
shaped-flags ArrayValue mixed p ts s = s.0.kept.flags

pub flag_remembered : (text : List ℕ) (n : ℕ) (room : Room) (m : Machine) (t : Tape) → after_turns text n room ≡ next m t → Flags t.tokens
flag_remembered text n room m t e =
    let h : Held m t.tokens = subst (λ (x : After). Held.All Held x) e (run-from-start text n (has_bom text) _ refl) in
    shaped-flags m.state m.mixed m.parent t.tokens h.shaped

-- ---- an End names an opener that names it, and token 0 opens nothing, in mid-parse as on a finished tape
kept-reached : (ts : List Token) {p : ℕ} → Kept ts p → Reached ts
kept-reached ts k =
    record {
      opened = λ i opener e. let c = k.links.opened i opener (end-link (nth ts i) e) in (c.0, link-made (nth ts opener) c.1);
      top = λ end o. k.links.top end (opens-link (nth ts 0) o);
    }

-- and with an unsettled opener behind the others
open_reached : (ts us : List Token) {p : ℕ} → ts ≡ us ++ (unsettled ∷ []) → Kept us p → 1 ≤ length us → Reached ts
open_reached ts us standing k some =
    let r = kept-reached us k in
    rw standing
    record {
      opened = λ i opener e.
          by_equal i (length us)
          (λ z. codes-differ (λ y. omega arith) (sym (rw (z, add_new us unsettled) at e)))
          (λ d.
          let below : i < length us = coded_below us i (λ z. omega arith) (rw (add_same us unsettled i d) at e) in
          let o = r.opened i opener (rw (add_same us unsettled i d) at e) in
          (o.0, rw (add_same us unsettled opener (λ z. omega (arith, o.0))) o.1));
      top = λ end o. r.top end (rw (add_same us unsettled 0 (λ z. omega arith)) at o);
    }

shaped-reached : (state : State) (mixed : Bool) (p : ℕ) (ts : List Token) → Shaped state mixed p ts → Reached ts
shaped-reached Key mixed p ts s = kept-reached ts s.kept
shaped-reached KeyValueSeparator mixed p ts s = kept-reached ts s.0.kept
shaped-reached ObjectValue mixed p ts s = kept-reached ts s.0.kept
shaped-reached ParseOpen mixed p ts s = open_reached ts s.0 s.1 s.2 s.3
shaped-reached ArrayValue mixed p ts s = kept-reached ts s.0.kept

pub reached-in_order : (text : List ℕ) (n : ℕ) (room : Room) (m : Machine) (t : Tape) → after_turns text n room ≡ next m t → Reached t.tokens
reached-in_order text n room m t e =
    let h : Held m t.tokens = subst (λ (x : After). Held.All Held x) e (run-from-start text n (has_bom text) _ refl) in
    shaped-reached m.state m.mixed m.parent t.tokens h.shaped
