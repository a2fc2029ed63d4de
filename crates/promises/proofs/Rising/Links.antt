-- Where an opener's link leads while a tape is laid down: to no scalar, so that a container can be closed without touching a view.
-- Assumes nothing.
use mathlib.Core.Path.{◌≡◌, refl, sym, ◌∙◌, ap}
use mathlib.Core.Bool.{Bool}
use mathlib.Core.List.{List, [], ◌∷◌, ◌++◌}
use Prim.Native.Nat.{ℕ, zero, suc, ◌+◌, ◌<◌}
use native.Mathlib.Omega.{arith}
use borrow.Author.Tests.{ltb-true, ltb-false}
use lib.Dec.{ltb}
use lib.ListN.{length, set, length-append, length-set, get_or-append}
use lib.Seq.{set_out, set-append_left, get_or-append_seam}
use Rattle.data.proofs.Cases.{by_bool}
use Rattle.tape.specs.declared.token.Token.{Token}
use Rattle.tape.specs.declared.token.ContainerKind.{ContainerKind}
use Rattle.tape.specs.declared.token.ContainerKind.TheVariants.{Array, Object}
use Rattle.tape.specs.Token.{no_token, mixed_container_token, opener_of, end_of, container_of}
use Rattle.tape.specs.Shape.{Opens}
use Rattle.tape.specs.Tape.{before_last}
use Rattle.machine.specs.Parents.{parent_of}
use Rattle.parse.proofs.Moves.{closed_as}
use Rattle.sheet.specs.Sound.{nth}
use Rattle.promises.specs.Each.{Each}
use Rattle.promises.proofs.Each.{each-add, each_set, each-before_last, each_at, each_map}
use Rattle.promises.proofs.Rising.Spans.{span_of, mixed-bare, end-bare, opens-bare}

-- 0, or the index of a token that is no scalar
abbrev pub Stands : List Token → ℕ → Type 0
Stands ts i = (i ≡ 0 → ⊥) → (i < length ts) × (span_of (nth ts i) ≡ [])

-- a token's link, 0 where it opens nothing
abbrev pub link : Token → ℕ
link t = parent_of (container_of t)

-- the tokens of a machine with a count and a parent: as many as counted, and the parent and every link stand
pub record Linked (count parent : ℕ) (ts : List Token) : Type 0 where
  pub counted : count ≡ length ts
  pub inside : Stands ts parent
  pub links : Each (λ t. Stands ts (link t)) ts

-- ---- 0 stands, and so does what opens nothing
pub stands_zero : (ts : List Token) → Stands ts 0
stands_zero ts h = absurd (h refl)

none-link : link no_token ≡ 0
unfolding container_of
none-link = refl

mixed-link : link mixed_container_token ≡ 0
unfolding container_of
mixed-link = refl

pub end-link : (opener : ℕ) → link (end_of opener) ≡ 0
unfolding container_of
end-link opener = refl

pub opener-link : (kind : ContainerKind) (i : ℕ) (mixed : Bool) → link (opener_of kind i mixed) ≡ i
unfolding container_of
opener-link Array i mixed = refl
opener-link Object i mixed = refl

pub opens-link : {t : Token} {i : ℕ} → Opens t i → link t ≡ i
opens-link {i = i} o = ap link o.2 ∙ opener-link o.0 i o.1

pub stands-unlinked : (ts : List Token) (i : ℕ) → i ≡ 0 → Stands ts i
stands-unlinked ts i e h = absurd (h e)

-- where the parent's link leads
pub stands_up : {ts : List Token} {count parent : ℕ} (i : ℕ) → Linked count parent ts → Stands ts (link (nth ts i))
stands_up {ts} i l = each_at (λ t. Stands ts (link t)) ts i (stands-unlinked ts (link no_token) none-link) l.links

-- ---- the changes of a tape
pub nth-add : (ts : List Token) (x : Token) (i : ℕ) → i < length ts → nth (ts ++ (x ∷ [])) i ≡ nth ts i
nth-add ts x i h = get_or-append ts (x ∷ []) no_token i h

pub nth_last : (ts : List Token) (x : Token) → nth (ts ++ (x ∷ [])) (length ts) ≡ x
nth_last ts x = get_or-append_seam ts x [] no_token

pub stands-add : (ts : List Token) (x : Token) (i : ℕ) → Stands ts i → Stands (ts ++ (x ∷ [])) i
stands-add ts x i s h =
    let k = s h in
    (omega (arith, k.0, length-append ts (x ∷ [])), rw (nth-add ts x i k.0) k.1)

pub linked-add : (ts : List Token) (count parent : ℕ) (x : Token) → Stands (ts ++ (x ∷ [])) (link x) → Linked count parent ts
    → Linked (count + 1) parent (ts ++ (x ∷ []))
linked-add ts count parent x s l =
    record {
      counted = omega (arith, l.counted, length-append ts (x ∷ []));
      inside = stands-add ts x parent l.inside;
      links =
          each-add (λ t. Stands (ts ++ (x ∷ [])) (link t)) ts x s
          (each_map (λ t. Stands ts (link t)) (λ t. Stands (ts ++ (x ∷ [])) (link t)) (λ t. stands-add ts x (link t)) ts l.links);
    }

-- changing a token to one of the same view changes no view
pub nth-set : (ts : List Token) (i : ℕ) (x : Token) (j : ℕ) → span_of x ≡ span_of (nth ts i) → span_of (nth (set ts i x) j) ≡ span_of (nth ts j)
nth-set [] i x j e = refl
nth-set (t ∷ ts) zero x zero e = e
nth-set (t ∷ ts) zero x (suc j) e = refl
nth-set (t ∷ ts) (suc i) x zero e = refl
nth-set (t ∷ ts) (suc i) x (suc j) e = nth-set ts i x j e

pub stands_set : (ts : List Token) (i : ℕ) (x : Token) (j : ℕ) → span_of x ≡ span_of (nth ts i) → Stands ts j → Stands (set ts i x) j
stands_set ts i x j e s h =
    let k = s h in
    (rw (length-set ts i x) k.0, nth-set ts i x j e ∙ k.1)

pub linked-set : (ts : List Token) (count parent i : ℕ) (x : Token) → span_of x ≡ span_of (nth ts i) → Stands ts (link x) → Linked count parent ts
    → Linked count parent (set ts i x)
linked-set ts count parent i x e s l =
    record {
      counted = l.counted ∙ sym (length-set ts i x);
      inside = stands_set ts i x parent e l.inside;
      links =
          each_set (λ t. Stands (set ts i x) (link t)) ts i x (stands_set ts i x (link x) e s)
          (each_map (λ t. Stands ts (link t)) (λ t. Stands (set ts i x) (link t)) (λ t. stands_set ts i x (link t) e) ts l.links);
    }

-- a token without a view goes in before the last, which moves up: no index of another comes to a scalar
length-before_last : (ts : List Token) (x : Token) → length (before_last ts x) ≡ length ts + 1
length-before_last [] x = refl
length-before_last (t ∷ []) x = refl
length-before_last (t ∷ u ∷ ts) x = omega (arith, length-before_last (u ∷ ts) x)

nth-before_last : (ts : List Token) (x : Token) (i : ℕ) → i < length ts → span_of x ≡ [] → span_of (nth ts i) ≡ []
    → span_of (nth (before_last ts x) i) ≡ []
nth-before_last [] x i h e f = absurd (omega arith)
nth-before_last (t ∷ []) x zero h e f = e
nth-before_last (t ∷ []) x (suc i) h e f = absurd (omega arith)
nth-before_last (t ∷ u ∷ ts) x zero h e f = f
nth-before_last (t ∷ u ∷ ts) x (suc i) h e f = nth-before_last (u ∷ ts) x i (omega arith) e f

stands-before_last : (ts : List Token) (x : Token) (i : ℕ) → span_of x ≡ [] → Stands ts i → Stands (before_last ts x) i
stands-before_last ts x i e s h =
    let k = s h in
    (omega (arith, k.0, length-before_last ts x), nth-before_last ts x i k.0 e k.1)

pub linked-mixed : (ts : List Token) (count parent : ℕ) → Linked count parent ts → Linked (count + 1) parent (before_last ts mixed_container_token)
linked-mixed ts count parent l =
    let x = mixed_container_token in
    record {
      counted = omega (arith, l.counted, length-before_last ts x);
      inside = stands-before_last ts x parent mixed-bare l.inside;
      links =
          each-before_last (λ t. Stands (before_last ts x) (link t)) ts x (stands-unlinked (before_last ts x) (link x) mixed-link)
          (each_map (λ t. Stands ts (link t)) (λ t. Stands (before_last ts x) (link t)) (λ t. stands-before_last ts x (link t) mixed-bare) ts l.links);
    }

-- another parent
pub linked_in : (ts : List Token) (count parent other : ℕ) → Stands ts other → Linked count parent ts → Linked count other ts
linked_in ts count parent other s l = record { counted = l.counted; inside = s; links = l.links }

-- an opener that is closed: it names its End, which is laid down last
pub linked-close : (ts : List Token) (count parent i : ℕ) (x : Token) → Opens x count → span_of (nth ts i) ≡ [] → Linked count parent ts
    → Linked (count + 1) parent (closed_as ts i x)
linked-close ts count parent i x o e l =
    let y = end_of i in
    let more : Linked (count + 1) parent (ts ++ (y ∷ [])) = linked-add ts count parent y (stands-unlinked (ts ++ (y ∷ [])) (link y) (end-link i)) l in
    by_bool (ltb i (length ts))
    (λ h.
    let within : i < length ts = ltb-true _ _ h in
    let here : Stands (ts ++ (y ∷ [])) (link x) =
    rw (opens-link o, l.counted) (λ z. (omega (arith, length-append ts (y ∷ [])), rw (nth_last ts y) (end-bare i)))
    in
    rw (← set-append_left ts (y ∷ []) i x within)
    (linked-set (ts ++ (y ∷ [])) (count + 1) parent i x (rw (nth-add ts y i within) (opens-bare o ∙ sym e)) here more))
    (λ h. rw (set_out ts i x (ltb-false _ _ h)) more)
