-- Leaving a container, and the text's end inside one, keep the tokens in order.
-- Assumes nothing.
use Rattle.std.specs.Prelude.{Some, None, Result, Option}
use mathlib.Core.Path.{◌≡◌, refl, sym, ◌∙◌, ap}
use mathlib.Core.Bool.{Bool, true, false}
use mathlib.Core.List.{List, [], ◌∷◌, ◌++◌}
use mathlib.Core.Logic.{inl, inr}
use Prim.Native.Nat.{ℕ, ◌+◌, ◌≤◌, ◌<◌}
use native.Mathlib.Omega.{arith}
use lib.ListN.{length, set, length-set, get_or-eq_default}
use Rattle.tape.specs.declared.token.Token.{Token}
use Rattle.tape.specs.declared.token.ContainerKind.{ContainerKind}
use Rattle.tape.specs.declared.token.ContainerKind.TheVariants.{Array, Object}
use Rattle.tape.specs.declared.token.Container as Containers
use Rattle.tape.specs.declared.shape.Link.TheVariants.{ToEnd}
use Rattle.tape.specs.Token.{no_token, opener_of, end_of, container_of, opened}
use Rattle.tape.proofs.Makers.{end_uncoded}
use Rattle.tape.specs.Shape.{Opens}
use Rattle.tape.specs.Tape.{Tape, unbounded, token_at}
use Rattle.sheet.specs.Sound.{nth}
use Rattle.machine.specs.declared.Machine.{Machine}
use Rattle.machine.specs.Parents as C
use Rattle.machine.specs.Parents.{container_at, state_in, mixed_in, resumed, nothing_open}
use Rattle.parse.proofs.Splits.{by-container}
use Rattle.parse.proofs.Moves.{Moved, on_tape, container_in, above, closed_as, Over, done_bare, done_closed, too_early}
use Rattle.parse.proofs.Walk.{Meets}
use Rattle.promises.proofs.Links.Nest.{by-below, Parent}
use Rattle.promises.proofs.Links.Rows.{add-length, add-last, not_scalar, Apart, apart_unscaled}
use Rattle.promises.proofs.Links.Flags.{codes-differ}
use Rattle.promises.proofs.Links.Kept.{link_at, Kept, Resting, container-link, link-container, kept-close, tied}
use Rattle.promises.proofs.Links.Held.{Signed, Shaped, Held, Finished, RestingAt, Ready}
use Rattle.tape.proofs.Makers.{by_opened}

-- what is read as an opener is one
pub reads-opener : (ts : List Token) {p : ℕ} → Kept ts p → (i : ℕ) {kind : ContainerKind} {link : ℕ} {mixed : Bool}
    → container_of (nth ts i) ≡ opened kind link mixed → link_at ts i ≡ Some (ToEnd link)
unfolding container_of
reads-opener ts s i e =
    by-below i (length ts)
    (λ h. container-link (s.row.forms i h) e)
    (λ h.
    let none : nth ts i ≡ no_token = get_or-eq_default ts no_token {n = i} h in
    let z : ◌≡◌ {A = ℕ} 0 1 = cc in absurd (omega arith))

-- the container that the machine is in
pub record Inside (t : Tape) (p : ℕ) : Type 0 where
  pub kind : ContainerKind
  pub up : ℕ
  pub mixed : Bool
  pub read : container_at t p ≡ opened kind up mixed
  pub link : link_at t.tokens p ≡ Some (ToEnd up)
  pub before : up < p

inside : (t : Tape) (p : ℕ) → (p ≡ 0 → ⊥) → Parent (link_at t.tokens) p → Inside t p
unfolding token_at
inside t p some (inl z) = absurd (some z)
inside t p some (inr o) =
    let r = link-container (nth t.tokens p) o.1 in
    record { kind = r.0; up = o.0; mixed = r.1; read = r.2; link = o.1; before = o.2 }

-- where something is open by the parent and the parent's own, the machine is in a container
pub in_container : (t : Tape) (p : ℕ) → Kept t.tokens p → nothing_open p (C.parent_of (container_at t p)) ≡ false → Inside t p
unfolding token_at
in_container t p s e = inside t p (λ z. let n = none z in let y : ◌≡◌ {A = ℕ} 0 1 = cc in omega arith) s.links.parent
  where
    none : p ≡ 0 → nothing_open p (C.parent_of (container_at t p)) ≡ true
    none z =
        by-container (container_of (nth t.tokens p))
        (λ k l f c. absurd (s.links.top l (rw z at (reads-opener t.tokens s p c))))
        (λ c. rw (c, z))

-- a parent taken up behind an End
pub resumes : (c : Option Containers.Container) (ts : List Token) (p opener : ℕ) → Resting (ts ++ (end_of opener ∷ [])) p
    → Shaped (state_in c) (mixed_in c) p (ts ++ (end_of opener ∷ []))
resumes c ts p opener r = by_opened (λ c. Shaped (state_in c) (mixed_in c) p (ts ++ (end_of opener ∷ []))) go r c
  where
    some : 1 ≤ length (ts ++ (end_of opener ∷ []))
    some = omega (arith, add-length ts (end_of opener))

    apart : Apart (ts ++ (end_of opener ∷ []))
    apart = apart_unscaled _ r.kept.row (λ s. not_scalar {t = end_of opener} (end_uncoded opener) (rw (add-last ts (end_of opener)) at s))

    signed : (mixed : Bool) → Signed mixed (ts ++ (end_of opener ∷ []))
    signed mixed e = codes-differ (λ z. omega arith) (rw (add-last ts (end_of opener)) at e)

    go : (kind : ContainerKind) (link : ℕ) (mixed : Bool) → Shaped (state_in (opened kind link mixed)) mixed p (ts ++ (end_of opener ∷ []))
    go Array link mixed = (r, some, signed mixed, λ e. apart)
    go Object link true = (r, some, signed true, λ e. apart)
    go Object link false = r

pub closed-length : (ts : List Token) (p : ℕ) (x y : Token) → length (set ts p x ++ (y ∷ [])) ≡ length ts + 1
closed-length ts p x y = add-length (set ts p x) y ∙ ap (λ (k : ℕ). k + 1) (length-set ts p x)

module _ (m : Machine) (ts : List Token) (r : RestingAt m.count m.parent ts) where
  -- the container that the machine is in
  pub held-inside : (m.parent ≡ 0 → ⊥) → Inside (on_tape unbounded ts) m.parent
  held-inside some = inside (on_tape unbounded ts) m.parent some r.resting.kept.links.parent

  -- the tokens with that container closed, inside its parent
  closed-rests : (o : Inside (on_tape unbounded ts) m.parent) (x : Token) → Opens x m.count
      → Ready (m.count + 1) o.up (closed_as ts m.parent x)
  closed-rests o x names =
      let l = closed-length ts m.parent x (end_of m.parent) in
      record {
        rest = record {
          counted = rw (r.counted, l);
          resting = kept-close ts m.parent o.up x (rw r.counted at names) r.resting o.link o.before;
        };
        some = rw l (omega arith);
      }

  pub close-held : (x : Token) → Opens x m.count → nothing_open m.parent (above ts m.parent) ≡ false
      → Held (resumed (container_in ts (above ts m.parent)) (above ts m.parent) (m.at + 1) (m.count + 1)) (closed_as ts m.parent x)
  unfolding token_at
  close-held x names e =
      let o = in_container (on_tape unbounded ts) m.parent r.resting.kept e in
      let g = (closed-rests o x names).rest in
      let up : o.up ≡ above ts m.parent = ap C.parent_of (sym o.read) in
      rw (← up)
      record {
        counted = g.counted;
        shaped = resumes (container_in ts o.up) (set ts m.parent x) o.up m.parent g.resting;
      }

-- the text's end leaves the tokens tied, or is refused
pub end-held : (m : Machine) (ts : List Token) → Held m ts → {n : ℕ} {x : Moved} → Over m ts n x → Meets Held Finished x
unfolding token_at
end-held m ts h (done_bare e z) = record { counted = h.counted; tokens = tied ts (rw z at (rw e at h.shaped)) }
end-held m ts h (done_closed e some top) =
    let r : RestingAt m.count m.parent ts = record { counted = h.counted; resting = rw e at h.shaped } in
    let o = held-inside m ts r some in
    let z : o.up ≡ 0 = ap C.parent_of (sym o.read) ∙ top in
    let k = (closed-rests m ts r o (opener_of Object m.count false) (Object, false, refl)).rest in
    record { counted = k.counted; tokens = tied _ (rw z at k.resting) }
end-held m ts h too_early = tt
