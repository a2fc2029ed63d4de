-- What laying tokens down along a chain has shown on the way: which containers are open, what stands on the tape for them, and that those that
-- have ended nest.
-- Assumes nothing.
use mathlib.Core.Path.{◌≡◌, sym, ◌∙◌, ap, subst}
use mathlib.Core.Bool.{true}
use mathlib.Core.List.{List}
use mathlib.Core.Logic.{◌↔◌}
use Prim.Native.Nat.{ℕ, ◌+◌, ◌≤◌, ◌<◌}
use native.Mathlib.Omega.{arith}
use lib.ListN.{length, set, length-set}
use lib.Seq.{get_or-set_same, get_or-set_other, ext_get_or}
use Rattle.tape.specs.declared.token.Token.{Token}
use Rattle.tape.specs.Token.{no_token, end_of}
use Rattle.tape.specs.Shape.{Opens}
use Rattle.sheet.specs.Sound.{nth, Nested}
use Rattle.sheet.specs.Steps.{Layable}
use Rattle.sheet.proofs.Links.{told-yes, one_end, end-opens_not}
use Rattle.sheet.proofs.Nesting.{by_order, opens-there}

-- a token with another link
abbrev pub with_link : Token → ℕ → Token
with_link t link = record { code = t.code; a = link; b = t.b }

-- the container at k is open before token i
pub record Open (ts : List Token) (i k : ℕ) : Type 0 where
  pub below : k < i
  pub end : ℕ
  pub opens : Opens (nth ts k) end
  pub ahead : i ≤ end

-- the innermost that is open before token i, 0 for none
pub record Top (ts : List Token) (i inner : ℕ) : Type 0 where
  pub over : (k : ℕ) → Open ts i k → k ≤ inner
  pub there : 0 < inner → Open ts i inner

-- what opens in a container that has ended before token i ends in it
abbrev NestedTo : List Token → ℕ → Type 0
NestedTo ts i = (a b ea eb : ℕ) → Opens (nth ts a) ea → Opens (nth ts b) eb → a < b → b < ea → ea < i → eb < ea

-- the tokens on the tape: those that are open have their parent for a link
pub record Laid (ts us : List Token) (i : ℕ) : Type 0 where
  pub whole : (k : ℕ) → k < i → (Open ts i k → ⊥) → nth us k ≡ nth ts k
  pub chained : (k : ℕ) → Open ts i k → (parent : ℕ) × Top ts k parent × (nth us k ≡ with_link (nth ts k) parent)

pub record Chain (ts us : List Token) (i inner : ℕ) : Type 0 where
  pub size : length us ≡ length ts
  pub within : i ≤ length ts
  pub top : Top ts i inner
  pub nested : NestedTo ts i
  pub laid : Laid ts us i

same-opener : {t : Token} {a b : ℕ} → t ≡ end_of a → t ≡ end_of b → a ≡ b
same-opener e f = let same : end_of _ ≡ end_of _ = sym e ∙ f in ap (λ (t : Token). t.a) same

-- an opener has its own link
own_link : (t : Token) {end : ℕ} → Opens t end → with_link t end ≡ t
own_link t {end} o = ap (λ (x : Token). with_link x end) o.2 ∙ sym o.2

-- before any token
pub chain-none : (ts us : List Token) → length us ≡ length ts → Chain ts us 0 0
chain-none ts us e =
    record {
      size = e;
      within = omega arith;
      top = record { over = λ k o. absurd (omega (arith, o.below)); there = λ h. absurd (omega arith) };
      nested = λ a b ea eb o p h l m. absurd (omega arith);
      laid = record { whole = λ k h n. absurd (omega arith); chained = λ k o. absurd (omega (arith, o.below)) };
    }

module _ (ts us : List Token) (i inner : ℕ) (ok : Layable ts) (c : Chain ts us i inner) where
  -- ---- from a token to the next
  -- a container stays open past a token that is not its End
  open_on : (k : ℕ) → Open ts i k → (nth ts i ≡ end_of k → ⊥) → Open ts (i + 1) k
  open_on k o n =
      by_order i o.end
      (λ h. record { below = omega (arith, o.below); end = o.end; opens = o.opens; ahead = omega arith })
      (λ e. absurd (n (ap (nth ts) e ∙ (ok.linked.closed k o.end o.opens).2)))
      (λ h. absurd (omega (arith, o.ahead)))

  open_back : (k : ℕ) → Open ts (i + 1) k → k < i → Open ts i k
  open_back k o h = record { below = h; end = o.end; opens = o.opens; ahead = omega (arith, o.ahead) }

  -- an open container is not token 0
  open_some : (k : ℕ) → Open ts i k → 0 < k
  open_some k o =
      by_order 0 k
      (λ h. h)
      (λ e. absurd (ok.top o.end (opens-there ts (sym e) o.opens)))
      (λ h. absurd (omega arith))

  -- a token that is no End ends no container
  nested-on : ((k : ℕ) → nth ts i ≡ end_of k → ⊥) → NestedTo ts (i + 1)
  nested-on n a b ea eb o p h l m =
      by_order ea i
      (λ g. c.nested a b ea eb o p h l g)
      (λ e. absurd (n a (ap (nth ts) (sym e) ∙ (ok.linked.closed a ea o).2)))
      (λ g. absurd (omega arith))

  -- and changes what is open by itself alone
  laid_on : (vs : List Token) → ((k : ℕ) → nth ts i ≡ end_of k → ⊥) → ((k : ℕ) → k < i → nth vs k ≡ nth us k)
      → ((Open ts (i + 1) i → ⊥) → nth vs i ≡ nth ts i)
      → (Open ts (i + 1) i → (parent : ℕ) × Top ts i parent × (nth vs i ≡ with_link (nth ts i) parent))
      → Laid ts vs (i + 1)
  laid_on vs n same whole chained =
      record {
        whole = λ k h no.
            by_order k i
            (λ l. same k l ∙ c.laid.whole k l (λ o. no (open_on k o (n k))))
            (λ e. subst (λ (x : ℕ). (Open ts (i + 1) x → ⊥) → nth vs x ≡ nth ts x) (sym e) whole no)
            (λ l. absurd (omega arith));
        chained = λ k o.
            by_order k i
            (λ l. let old = c.laid.chained k (open_back k o l) in (old.0, old.1, same k l ∙ old.2))
            (λ e.
            subst (λ (x : ℕ). Open ts (i + 1) x → (parent : ℕ) × Top ts x parent × (nth vs x ≡ with_link (nth ts x) parent)) (sym e) chained o)
            (λ l. absurd (omega (arith, o.below)));
      }

  module _ (more : i < length ts) {t : Token} (here : t ≡ nth ts i) where
    there_in : i < length us
    there_in = omega (arith, c.size)

    -- ---- an opener
    pub chain-opener : Opens t t.a → (vs : List Token) → vs ≡ set us i (with_link t inner) → Chain ts vs (i + 1) i
    chain-opener ot vs e =
        record {
          size = ap length e ∙ length-set us i _ ∙ c.size;
          within = omega arith;
          top =
              record {
                over = λ k q. omega (arith, q.below);
                there = λ h. record { below = omega arith; end = t.a; opens = o; ahead = omega (arith, (ok.linked.closed i t.a o).0) };
              };
          nested = nested-on no_end;
          laid =
              laid_on vs no_end (λ k l. ap (λ (x : List Token). nth x k) e ∙ get_or-set_other us i k _ no_token (λ q. omega arith))
              (λ no. absurd (no (record { below = omega arith; end = t.a; opens = o; ahead = omega (arith, (ok.linked.closed i t.a o).0) })))
              (λ q. (
                inner,
                c.top,
                ap (λ (x : List Token). nth x i) e ∙ get_or-set_same us i _ no_token there_in
                    ∙ ap (λ (x : Token). with_link x inner) here,
              ));
        }
      where
        o : Opens (nth ts i) t.a
        o = subst (λ (x : Token). Opens x t.a) here ot

        no_end : (k : ℕ) → nth ts i ≡ end_of k → ⊥
        no_end k q = end-opens_not (nth ts i) o q

    -- ---- a token that is neither an opener nor an End
    pub chain-other : (Opens t t.a → ⊥) → (t ≡ end_of t.a → ⊥) → (vs : List Token) → vs ≡ set us i t → Chain ts vs (i + 1) inner
    chain-other not_opener not_end vs e =
        record {
          size = ap length e ∙ length-set us i _ ∙ c.size;
          within = omega arith;
          top =
              record {
                over = λ k q.
                    by_order k i
                    (λ l. c.top.over k (open_back k q l))
                    (λ f. absurd (no-opener q.end (opens-there ts f q.opens)))
                    (λ l. absurd (omega (arith, q.below)));
                there = λ h. open_on inner (c.top.there h) (no_end inner);
              };
          nested = nested-on no_end;
          laid =
              laid_on vs no_end (λ k l. ap (λ (x : List Token). nth x k) e ∙ get_or-set_other us i k _ no_token (λ q. omega arith))
              (λ no. ap (λ (x : List Token). nth x i) e ∙ get_or-set_same us i _ no_token there_in ∙ here)
              (λ q. absurd (no-opener q.end q.opens));
        }
      where
        no_end : (k : ℕ) → nth ts i ≡ end_of k → ⊥
        no_end k q = let is : t ≡ end_of k = here ∙ q in not_end (is ∙ ap end_of (sym (ap (λ (x : Token). x.a) is)))

        no-opener : (end : ℕ) → Opens (nth ts i) end → ⊥
        no-opener end q =
            let o : Opens t end = subst (λ (x : Token). Opens x end) (sym here) q in
            let a : end ≡ t.a = sym (ap (λ (x : Token). x.a) o.2) in
            not_opener (subst (λ (k : ℕ). Opens t k) a o)

    -- ---- an End
    module _ (ends : t ≡ end_of t.a) where
      ends-here : nth ts i ≡ end_of t.a
      ends-here = sym here ∙ ends

      -- its container is open, and so is the innermost
      opener : (t.a < i) × Opens (nth ts t.a) i
      opener = ok.linked.opened i t.a ends-here

      named : Open ts i t.a
      named = record { below = opener.0; end = i; opens = opener.1; ahead = omega arith }

      pub innermost : Open ts i inner
      innermost = c.top.there (omega (arith, open_some t.a named, c.top.over t.a named))

      -- where that is another, it ends outside of the one that is named
      pub chain_crossed : (t.a ≡ inner → ⊥) → ((k : ℕ) → Nested ts k) → ⊥
      chain_crossed other n =
          let closed = ok.linked.closed inner innermost.end innermost.opens in
          let later : t.a < inner = by_order t.a inner (λ h. h) (λ e. absurd (other e)) (λ h. absurd (omega (arith, c.top.over t.a named))) in
          by_order i innermost.end
          (λ h. omega (arith, n t.a i inner innermost.end opener.1 later innermost.below innermost.opens))
          (λ e. other (same-opener ends-here (ap (nth ts) e ∙ closed.2)))
          (λ h. omega (arith, innermost.ahead))

      -- where it is that one, its parent is then the innermost
      module _ (same : t.a ≡ inner) where
        ends_inner : nth ts i ≡ end_of inner
        ends_inner = ends-here ∙ ap end_of same

        opens_inner : Opens (nth ts inner) i
        opens_inner = opens-there ts same opener.1

        nested-end : NestedTo ts (i + 1)
        nested-end a b ea eb o p h l m =
            by_order ea i
            (λ g. c.nested a b ea eb o p h l g)
            (λ e.
            let is : a ≡ inner = same-opener (ap (nth ts) (sym e) ∙ (ok.linked.closed a ea o).2) ends_inner in
            let still : i ≤ eb → b ≤ inner = λ g. c.top.over b (record { below = omega arith; end = eb; opens = p; ahead = g }) in
            by_order eb i
            (λ g. omega arith)
            (λ g. absurd (omega (arith, still (omega arith))))
            (λ g. absurd (omega (arith, still (omega arith)))))
            (λ g. absurd (omega arith))

        -- what is open past its End is open before it, and is not the innermost
        open_past : (k : ℕ) → Open ts (i + 1) k → Open ts inner k
        open_past k q =
            by_order k i
            (λ l.
            let back = open_back k q l in
            by_order k inner
            (λ m. record { below = m; end = q.end; opens = q.opens; ahead = omega (arith, q.ahead, innermost.below) })
            (λ e. absurd (omega (arith, q.ahead, one_end (nth ts inner) (opens-there ts e q.opens) opens_inner)))
            (λ m. absurd (omega (arith, c.top.over k back))))
            (λ e. absurd (end-opens_not (nth ts i) (opens-there ts e q.opens) ends_inner))
            (λ l. absurd (omega (arith, q.below)))

        -- and the other way round
        open_behind : (k : ℕ) → Open ts inner k → Open ts (i + 1) k
        open_behind k q =
            let closed = ok.linked.closed k q.end q.opens in
            by_order q.end i
            (λ l.
            by_order inner q.end
            (λ m. absurd (omega (arith, c.nested k inner q.end i q.opens opens_inner q.below m l)))
            (λ e. absurd (end-opens_not (nth ts inner) opens_inner (ap (nth ts) e ∙ closed.2)))
            (λ m. absurd (omega (arith, q.ahead))))
            (λ e. absurd (omega (arith, q.below, same-opener ends_inner (ap (nth ts) (sym e) ∙ closed.2))))
            (λ l. record { below = omega (arith, q.below, innermost.below); end = q.end; opens = q.opens; ahead = omega arith })

        abbrev parent : ℕ
        parent = (c.laid.chained inner innermost).0

        top-end : Top ts (i + 1) parent
        top-end =
            let up = (c.laid.chained inner innermost).1 in
            record { over = λ k q. up.over k (open_past k q); there = λ h. open_behind _ (up.there h) }

        module _ (vs : List Token) (e : vs ≡ set (set us i t) inner (with_link (nth (set us i t) inner) i)) where
          other-same : (k : ℕ) → k < i → (k ≡ inner → ⊥) → nth vs k ≡ nth us k
          other-same k h n =
              ap (λ (x : List Token). nth x k) e ∙ get_or-set_other (set us i t) inner k _ no_token n
              ∙ get_or-set_other us i k t no_token (λ q. omega arith)

          -- the innermost has its link back
          inner_whole : nth vs inner ≡ nth ts inner
          inner_whole =
              let l = innermost.below in
              ap (λ (x : List Token). nth x inner) e
              ∙ get_or-set_same (set us i t) inner _ no_token (omega (arith, length-set us i t, c.size))
              ∙ ap (λ (x : Token). with_link x i) (get_or-set_other us i inner t no_token (λ q. omega arith) ∙ (c.laid.chained inner innermost).2)
              ∙ own_link (nth ts inner) opens_inner

          here-whole : nth vs i ≡ nth ts i
          here-whole =
              let l = innermost.below in
              ap (λ (x : List Token). nth x i) e ∙ get_or-set_other (set us i t) inner i _ no_token (λ q. omega arith)
              ∙ get_or-set_same us i t no_token there_in ∙ here

          laid_end : Laid ts vs (i + 1)
          laid_end =
              record {
                whole = λ k h no.
                    by_order k i
                    (λ l.
                    by_order k inner
                    (λ m. whole-other k l (λ q. omega arith) no)
                    (λ q. subst (λ (x : ℕ). nth vs x ≡ nth ts x) (sym q) inner_whole)
                    (λ m. whole-other k l (λ q. omega arith) no))
                    (λ q. subst (λ (x : ℕ). nth vs x ≡ nth ts x) (sym q) here-whole)
                    (λ l. absurd (omega arith));
                chained = λ k o.
                    let past = open_past k o in
                    let l = innermost.below in
                    let old = c.laid.chained k (open_back k o (omega (arith, past.below))) in
                    (old.0, old.1, other-same k (omega (arith, past.below)) (λ q. omega (arith, past.below)) ∙ old.2);
              }
            where
              whole-other : (k : ℕ) → k < i → (k ≡ inner → ⊥) → (Open ts (i + 1) k → ⊥) → nth vs k ≡ nth ts k
              whole-other k l n shut =
                  other-same k l n ∙ c.laid.whole k l (λ o. shut (open_on k o (λ q. n (same-opener q ends_inner))))

          pub chain-end : (r : ℕ) → r ≡ (nth (set us i t) inner).a → Chain ts vs (i + 1) r
          chain-end r f =
              let l = innermost.below in
              let is : parent ≡ r =
              sym (f ∙ ap (λ (x : Token). x.a) (get_or-set_other us i inner t no_token (λ q. omega arith) ∙ (c.laid.chained inner innermost).2)) in
              record {
                size = ap length e ∙ length-set (set us i t) inner _ ∙ length-set us i t ∙ c.size;
                within = omega arith;
                top = subst (Top ts (i + 1)) is top-end;
                nested = nested-end;
                laid = laid_end;
              }

-- ---- past the last token none is open
module _ (ts us : List Token) (i inner : ℕ) (ok : Layable ts) (c : Chain ts us i inner) (last : length ts ≤ i) where
  chain-closed : (k : ℕ) → Open ts i k → ⊥
  chain-closed k o = omega (arith, last, o.ahead, (ok.linked.closed k o.end o.opens).1)

  -- so the tokens are all as they were, and the containers nest
  pub chain-laid : us ≡ ts
  chain-laid = ext_get_or no_token us ts c.size (λ k h. c.laid.whole k (omega (arith, c.size, last, h)) (chain-closed k))

  pub chain-nested : (true ≡ true) ↔ ((k : ℕ) → Nested ts k)
  chain-nested =
      told-yes (λ k end j inner o h l p. c.nested k j end inner o p h l (omega (arith, last, (ok.linked.closed k end o).1)))
