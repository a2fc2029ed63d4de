-- What a walk through a container has shown on the way: the containers that open before the place that it has come to, end
-- before it.
-- Assumes nothing.
use Rattle.std.specs.Prelude.{Some, None}
use mathlib.Core.Path.{◌≡◌, sym, ◌∙◌, subst}
use mathlib.Core.Bool.{Bool, true, false, false≢true}
use mathlib.Core.List.{List}
use mathlib.Core.Logic.{◌↔◌}
use Prim.Native.Nat.{ℕ, ◌+◌, ◌-◌, ◌≤◌, ◌<◌}
use native.Mathlib.Omega.{arith}
use borrow.Author.Tests.{eq-eqb, eqb-true, eqb-false, ltb-true, ltb-false}
use lib.Dec.{eqb, ltb}
use Rattle.data.proofs.Cases.{by_bool}
use Rattle.tape.specs.declared.token.Token.{Token}
use Rattle.tape.specs.declared.shape.Link.TheVariants.{ToEnd, ToOpener}
use Rattle.tape.specs.Token.{end_of}
use Rattle.tape.specs.Shape.{link_of, Opens}
use Rattle.tape.specs.Words.{tokens_in}
use Rattle.tape.proofs.Shapes.{link-made, unlinked-opens}
use Rattle.tape.proofs.Views.{tokens-length}
use Rattle.sheet.specs.Sound.{nth, Nested}
use Rattle.sheet.specs.Steps.{Linked, Walkable, Walked}
use Rattle.sheet.proofs.Links.{told-yes, told-no, one_end, end-opens_not}
use Rattle.sheet.proofs.Tokens.{opener_in}

-- by the order of two numbers
pub by_order : {P : Type 0} (a b : ℕ) → (a < b → P) → (a ≡ b → P) → (b < a → P) → P
by_order a b less same more =
    by_bool (ltb a b)
    (λ t. less (ltb-true a b t))
    (λ t.
    by_bool (eqb a b)
    (λ e. same (eqb-true a b e))
    (λ e. more (omega (arith, ltb-false a b t, eqb-false a b e))))

-- the containers that open between i and a place end before it
abbrev Behind : List Token → ℕ → ℕ → Type 0
Behind ts i at = (j inner : ℕ) → i < j → j < at → Opens (nth ts j) inner → inner < at

pub opens-there : (ts : List Token) {j k inner : ℕ} → j ≡ k → Opens (nth ts j) inner → Opens (nth ts k) inner
opens-there ts {j} {k} {inner} e o = subst (λ (x : ℕ). Opens (nth ts x) inner) e o

-- where a walk from i to end has come
pub record Come (ts : List Token) (i end at : ℕ) : Type 0 where
  pub past : i < at
  pub behind : Behind ts i at
  -- and on a sheet whose containers nest it comes no further than the End
  pub short : ((k : ℕ) → Nested ts k) → at ≤ end

module _ (ts : List Token) (i end : ℕ) (w : Walkable ts i end) where
  pub walk_ahead : i < end
  walk_ahead = (w.linked.closed i end w.opener).0

  pub jump_ahead : (at : ℕ) {inner : ℕ} → link_of (nth ts at) ≡ Some (ToEnd inner) → at < inner
  jump_ahead at {inner} l = (w.linked.closed at inner (link-made (nth ts at) l)).0

  pub come_first : Come ts i end (i + 1)
  come_first =
      record {
        past = omega arith;
        behind = λ j inner h k o. absurd (omega (arith, h, k));
        short = λ n. let h = walk_ahead in omega arith;
      }

  module _ (at : ℕ) (c : Come ts i end at) (before : at < end) where
    -- over a container
    pub come_over : {inner : ℕ} → link_of (nth ts at) ≡ Some (ToEnd inner) → Come ts i end (inner + 1)
    come_over {inner} l =
        let o : Opens (nth ts at) inner = link-made (nth ts at) l in
        let ends = w.linked.closed at inner o in
        record {
          past = omega (arith, c.past, ends.0);
          behind = λ j f h k p. over j f h k p ends.0 ends.2 o;
          short = λ n. let q = n i end at inner w.opener c.past before o in omega arith;
        }
      where
        over : (j f : ℕ) → i < j → j < inner + 1 → Opens (nth ts j) f → at < inner → nth ts inner ≡ end_of at → Opens (nth ts at) inner
            → f < inner + 1
        over j f h k p later names o =
            by_order j at
            (λ l. let q = c.behind j f h l p in omega arith)
            (λ e. let same : f ≡ inner = one_end (nth ts at) (opens-there ts e p) o in omega arith)
            (λ l.
            by_order j inner
            (λ m. let q = w.later at c.past inner j f o l m p in omega arith)
            (λ e. absurd (end-opens_not (nth ts inner) (opens-there ts e p) names))
            (λ m. absurd (omega arith)))

    -- over a token that is neither an opener nor an End
    pub come_on : link_of (nth ts at) ≡ None → Come ts i end (at + 1)
    come_on l =
        record {
          past = omega (arith, c.past);
          behind = λ j f h k p. on j f h k p;
          short = λ n. omega (arith, before);
        }
      where
        on : (j f : ℕ) → i < j → j < at + 1 → Opens (nth ts j) f → f < at + 1
        on j f h k p =
            by_order j at
            (λ m. let q = c.behind j f h m p in omega arith)
            (λ e. absurd (unlinked-opens (nth ts at) l (opens-there ts e p)))
            (λ m. absurd (omega arith))

    -- an End is met: its opener stands before i, and i's container crosses that one
    pub come_crossed : {opener : ℕ} → link_of (nth ts at) ≡ Some (ToOpener opener) → Walked ts i false
    come_crossed {opener} l =
        record { nests = λ e. absurd (false≢true e); passes = λ n. absurd (crossed n) }
      where
        crossed : ((k : ℕ) → Nested ts k) → ⊥
        crossed n =
            let o = w.linked.opened at opener (link-made (nth ts at) l) in
            by_order opener i
            (λ m. let q = n opener at i end o.1 m c.past w.opener in omega arith)
            (λ e. let same : at ≡ end = one_end (nth ts i) (opens-there ts e o.1) w.opener in omega arith)
            (λ m. let q = c.behind opener at m o.0 o.1 in omega arith)

  -- the walk is over
  pub come_out : (at : ℕ) → Come ts i end at → end ≤ at → Walked ts i (eqb at end)
  come_out at c h =
      record {
        nests = λ e other j f o k l p.
            let here : at ≡ end = eqb-true at end e in
            let same : other ≡ end = one_end (nth ts i) o w.opener in
            let q = c.behind j f k (omega arith) p in
            omega arith;
        passes = λ n. eq-eqb at end (let s = c.short n in omega arith);
      }

-- ---- the containers taken from the last to the first
-- those from i on nest
pub record NestedFrom (ts : List Token) (i : ℕ) : Type 0 where
  pub each : (k : ℕ) → i ≤ k → Nested ts k

-- past the tokens there are none
pub nested_past : (ws : List ℕ) (n : ℕ) → NestedFrom (tokens_in ws n) n
nested_past ws n = record { each = λ k h end j inner o. absurd (omega (arith, h, opener_in (tokens_in ws n) k o, tokens-length ws n)) }

pub nested_all : (ts : List Token) {i : ℕ} → NestedFrom ts i → i ≤ 0 → (true ≡ true) ↔ ((k : ℕ) → Nested ts k)
nested_all ts {i} f z = told-yes (λ k. f.each k (omega arith))

module _ (ts : List Token) (i : ℕ) (some : 0 < i) (from : NestedFrom ts i) where
  pub nested_more : Nested ts (i - 1) → NestedFrom ts (i - 1)
  nested_more here =
      record {
        each = λ k h.
            by_order k i
            (λ l. let there : i - 1 ≡ k = omega arith in subst (λ (x : ℕ). Nested ts x) there here)
            (λ e. from.each k (omega arith))
            (λ l. from.each k (omega arith));
      }

  -- a token that opens nothing
  pub nested_end : {opener : ℕ} → link_of (nth ts (i - 1)) ≡ Some (ToOpener opener) → NestedFrom ts (i - 1)
  nested_end l = nested_more (λ end j inner o. absurd (end-opens_not (nth ts (i - 1)) o (link-made (nth ts (i - 1)) l)))

  pub nested_none : link_of (nth ts (i - 1)) ≡ None → NestedFrom ts (i - 1)
  nested_none l = nested_more (λ end j inner o. absurd (unlinked-opens (nth ts (i - 1)) l o))

  -- one that does can be walked
  pub walkable : {end : ℕ} → Linked ts → link_of (nth ts (i - 1)) ≡ Some (ToEnd end) → Walkable ts (i - 1) end
  walkable links l = record { linked = links; opener = link-made (nth ts (i - 1)) l; later = λ k h. from.each k (omega arith) }

-- a walk that does not come out
pub nested_not : (ts : List Token) (i : ℕ) {r : Bool} → Walked ts i r → r ≡ false → (false ≡ true) ↔ ((k : ℕ) → Nested ts k)
nested_not ts i w f = told-no (λ n. false≢true (sym f ∙ w.passes n))
