-- A tape whose views rise up to an end and whose links lead to no scalar, and what every change of a tape keeps of that.
-- Assumes nothing.
use Rattle.std.specs.Prelude.{None}
use mathlib.Core.Path.{◌≡◌, refl, sym, ◌∙◌}
use mathlib.Core.Bool.{Bool, true, false}
use mathlib.Core.List.{List, [], ◌∷◌, ◌++◌, append-nil}
use Prim.Native.Nat.{ℕ, ◌+◌, ◌-◌, ◌≤◌, ◌<◌, min}
use native.Mathlib.Omega.{arith}
use borrow.Author.Tests.{eqb-true, eqb-false}
use lib.Dec.{eqb}
use lib.ListN.{set}
use Rattle.data.proofs.Cases.{by_bool}
use Rattle.tape.specs.declared.token.Token.{Token}
use Rattle.tape.specs.declared.token.ScalarKind.{ScalarKind}
use Rattle.tape.specs.declared.token.ContainerKind.{ContainerKind}
use Rattle.tape.specs.declared.token.Standing as Standings
use Rattle.tape.specs.Token.{array_code, object_code, scalar_named, mixed_container_token, scalar_of, operator_of, end_of, headed, container_of, opened}
use Rattle.tape.specs.Token.{standing_of}
use Rattle.tape.specs.Shape.{Opens}
use Rattle.tape.specs.Tape.{before_last}
use Rattle.tape.proofs.Makers.{scalar-container, unquoted_coded}
use Rattle.machine.specs.Parents.{nothing_open}
use Rattle.parse.proofs.Splits.{by-container}
use Rattle.parse.proofs.Moves.{closed_as}
use Rattle.sheet.specs.Sound.{nth}
use Rattle.promises.proofs.Rising.Spans.{span, span_of, spans, Follows, Upto, opens-bare, end-bare, mixed-bare, scalar-span, spans-add, spans-set}
use Rattle.promises.proofs.Rising.Spans.{spans-before_last, upto-later, upto_add}
use Rattle.promises.proofs.Rising.Links.{Stands, Linked, link, stands-unlinked, stands-add, stands_set, linked-add, linked-set, linked-mixed}
use Rattle.promises.proofs.Rising.Links.{linked_in}
use Rattle.promises.proofs.Rising.Links.{linked-close}

-- ---- tokens
pub scalar-link : (kind : ScalarKind) (offset size : ℕ) → link (scalar_of kind offset size) ≡ 0
scalar-link kind offset size = rw (scalar-container kind offset size)

pub operator-link : (number : ℕ) → link (operator_of number) ≡ 0
unfolding container_of
operator-link number = refl

-- what opens a container has no view
pub opened-bare : (t : Token) (kind : ContainerKind) (to_end : ℕ) (mixed : Bool) → container_of t ≡ opened kind to_end mixed → span_of t ≡ []
unfolding container_of span_of scalar_named
opened-bare t kind to_end mixed e =
    by_bool (eqb t.code array_code)
    (λ f. rw (eqb-true t.code array_code f))
    (λ f. by_bool (eqb t.code object_code)
    (λ g. rw (eqb-true t.code object_code g))
    (λ g. let no : None ≡ opened kind to_end mixed = rw (container_of, f, g) at e in cc))

-- an Unquoted that becomes a Header keeps its view
pub headed-span : (t : Token) → standing_of t ≡ Standings.TheVariants.Unquoted → span_of (headed t) ≡ span_of t
unfolding span_of scalar_named
headed-span t e = rw (unquoted_coded t e)

pub headed-link : (t : Token) → link (headed t) ≡ 0
unfolding container_of
headed-link t = refl

-- ---- the tape, with its views up to an end
pub record Base (text_length end count parent : ℕ) (ts : List Token) : Type 0 where
  pub linked : Linked count parent ts
  pub rising : Upto 0 (spans ts) (min end text_length)

module _ {L end count parent : ℕ} {ts : List Token} (b : Base L end count parent ts) where
  -- a later end
  pub base-later : (later : ℕ) → end ≤ later → Base L later count parent ts
  base-later later h = record { linked = b.linked; rising = upto-later 0 (spans ts) (min end L) (min later L) (omega arith) b.rising }

  -- another parent
  pub base_in : (other : ℕ) → Stands ts other → Base L end count other ts
  base_in other s = record { linked = linked_in ts count parent other s b.linked; rising = b.rising }

  -- a token without a view is added
  pub base-bare : (x : Token) → span_of x ≡ [] → Stands ts (link x) → Base L end (count + 1) parent (ts ++ (x ∷ []))
  base-bare x e s =
      record {
        linked = linked-add ts count parent x (stands-add ts x (link x) s) b.linked;
        rising = rw (spans-add ts x, e, append-nil (spans ts)) b.rising;
      }

  -- a scalar is added
  pub base-scalar : (kind : ScalarKind) (offset size later : ℕ) → Follows (min end L) (span kind offset size) (min later L)
      → Base L later (count + 1) parent (ts ++ (scalar_of kind offset size ∷ []))
  base-scalar kind offset size later f =
      let x = scalar_of kind offset size in
      record {
        linked = linked-add ts count parent x (stands-unlinked (ts ++ (x ∷ [])) (link x) (scalar-link kind offset size)) b.linked;
        rising = rw (spans-add ts x, scalar-span kind offset size) (upto_add 0 (spans ts) (min end L) (span kind offset size) (min later L) f b.rising);
      }

  -- a run with a byte or more in it is added
  pub base-run : (kind : ScalarKind) (start stop later : ℕ) → end ≤ start → start < stop → stop ≤ L → stop ≤ later
      → Base L later (count + 1) parent (ts ++ (scalar_of kind start (stop - start) ∷ []))
  base-run kind start stop later from some in-text past =
      base-scalar kind start (stop - start) later record { from = omega arith; starts = omega arith; ends = omega arith; full = λ z. omega arith }

  -- a token is changed to one of the same view
  pub base-set : (i : ℕ) (x : Token) → span_of x ≡ span_of (nth ts i) → Stands ts (link x) → Base L end count parent (set ts i x)
  base-set i x e s =
      record {
        linked = linked-set ts count parent i x e s b.linked;
        rising = rw (spans-set ts i x e) b.rising;
      }

  -- a MixedContainer goes in before the last
  pub base-mixed : Base L end (count + 1) parent (before_last ts mixed_container_token)
  base-mixed =
      record {
        linked = linked-mixed ts count parent b.linked;
        rising = rw (spans-before_last ts mixed_container_token mixed-bare) b.rising;
      }

  -- an opener is closed
  pub base-close : (i : ℕ) {x : Token} → Opens x count → span_of (nth ts i) ≡ [] → Base L end (count + 1) parent (closed_as ts i x)
  base-close i {x} o e =
      record {
        linked = linked-close ts count parent i x o e b.linked;
        rising = rw (spans-add (set ts i x) (end_of i), end-bare i, append-nil (spans (set ts i x)), spans-set ts i x (opens-bare o ∙ sym e)) b.rising;
      }

  -- where the container's parent stands after that
  pub stands-closed : (i : ℕ) {x : Token} → Opens x count → (other : ℕ) → span_of (nth ts i) ≡ [] → Stands ts other
      → Stands (closed_as ts i x) other
  stands-closed i {x} o other e s = stands-add (set ts i x) (end_of i) other (stands_set ts i x other (opens-bare o ∙ sym e) s)

  -- the opener that is closed has no view: the parent stands, or its link shows that it opens
  pub open_bare : nothing_open parent (link (nth ts parent)) ≡ false → span_of (nth ts parent) ≡ []
  open_bare e =
      by_bool (eqb parent 0)
      (λ f. by-container (container_of (nth ts parent))
      (λ k l m g. opened-bare (nth ts parent) k l m g)
      (λ g. let h : link (nth ts parent) ≡ 0 = rw g in let no : true ≡ false = rw (f, h) at e in cc))
      (λ f. (b.linked.inside (λ z. eqb-false parent 0 f z)).1)
