-- A list of tokens that passes a test is a sound sheet, so that the sheets of a table are shown to be sound by computing. The test looks
-- at each token, and at each two.
-- Assumes nothing.
use Rattle.std.specs.Prelude.{Option, Some, None}
use mathlib.Core.Path.{◌≡◌, refl, sym, ◌∙◌, ap, subst}
use mathlib.Core.Bool.{Bool, true, false, not, ◌&&◌, ◌||◌, false≢true}
use mathlib.Core.List.{List}
use Prim.Native.Nat.{ℕ, zero, suc, ◌+◌, ◌<◌}
use native.Mathlib.Omega.{arith}
use borrow.Author.Tests.{ltb-true, leb-true, eqb-true, eq-eqb, lt-ltb}
use lib.Dec.{eqb, leb, ltb}
use lib.ListN.{length}
use Rattle.tape.specs.declared.token.Token.{Token}
use Rattle.tape.specs.declared.shape.Shape.{Shape}
use Rattle.tape.specs.declared.shape.Shape.TheVariants.{Opener, MixedContainer, Scalar, Operator, End}
use Rattle.tape.specs.declared.shape.Link.{Link}
use Rattle.tape.specs.declared.shape.Link.TheVariants.{ToEnd, ToOpener}
use Rattle.tape.specs.Token.{nth, end_code, may_be_empty, is_header, is_scalar_code, end_of}
use Rattle.tape.specs.Shape.{shape_of, link_of, Opens}
use Rattle.tape.proofs.Shapes.{opens-link, link-made}
use Rattle.tape.proofs.Makers.{scalar_coded}
use Rattle.sheet.specs.Sound.{Views, Sheet}
use Rattle.sheet.specs.Steps.{Held}
use Rattle.sheet.proofs.Links.{told-yes}
use Rattle.sheet.proofs.Tokens.{opener_in, opener_held, mixed_container_held, operator_held, end_held, scalar_held}
use Rattle.sheet.proofs.Nesting.{by_order}
use Rattle.sheet.proofs.Whole.{standing-sheet}
use Rattle.writer.proofs.Forms.{both, first_of, second_of}
use Rattle.way_back.proofs.Same.{as_made}

-- ---- tests of a token
-- where one test holds, so does another
if_then : (a b : Bool) → (not a || b) ≡ true → a ≡ true → b ≡ true
if_then true b h e = h
if_then false b h e = absurd (false≢true e)

unfoldable pub opens : Option Link → Bool
opens (Some (ToEnd end)) = true
opens (Some (ToOpener opener)) = false
opens None = false

opens-told : (t : Token) (l : Option Link) → link_of t ≡ l → opens l ≡ true → (end : ℕ) × Opens t end
unfolding opens
opens-told t (Some (ToEnd end)) e h = (end, link-made t e)
opens-told t (Some (ToOpener opener)) e h = absurd (false≢true h)
opens-told t None e h = absurd (false≢true h)

-- an opener that names i
unfoldable pub opens_to : Token → ℕ → Bool
opens_to t i = opens (link_of t) && eqb t.a i

opens_to-told : (t : Token) (i : ℕ) → opens_to t i ≡ true → Opens t i
unfolding opens_to
opens_to-told t i h =
    let o = opens-told t (link_of t) refl (first_of _ _ h) in
    subst (λ (k : ℕ). Opens t k) (sym (ap (λ (x : Token). x.a) o.1.2) ∙ eqb-true t.a i (second_of (opens (link_of t)) _ h)) o.1

-- an End that names i
unfoldable pub ends_at : Token → ℕ → Bool
ends_at t i = eqb t.code end_code && (eqb t.a i && eqb t.b 0)

ends_at-told : (t : Token) (i : ℕ) → ends_at t i ≡ true → t ≡ end_of i
unfolding ends_at
ends_at-told t i h =
    let g = second_of (eqb t.code end_code) _ h in
    as_made t (eqb-true _ _ (first_of _ _ h)) (eqb-true _ _ (first_of _ _ g)) (eqb-true _ _ (second_of (eqb t.a i) _ g))

-- ---- a token and a later one: a scalar starts past an earlier one, and what opens inside a container ends before it does
unfoldable pub spaced : Token → Token → Bool
spaced x y = not (is_scalar_code x.code && is_scalar_code y.code) || (ltb x.a y.a && leb (x.a + x.b) y.a)

unfoldable pub nested : ℕ → Token → Token → Bool
nested j x y = not (opens (link_of x) && (opens (link_of y) && ltb j x.a)) || ltb y.a x.a

-- a test of every number below one
unfoldable pub below : ℕ → (ℕ → Bool) → Bool
below zero test = true
below (suc n) test = test n && below n test

of_below : (n : ℕ) (test : ℕ → Bool) → below n test ≡ true → (i : ℕ) → i < n → test i ≡ true
unfolding below
of_below zero test h i l = absurd (omega arith)
of_below (suc n) test h i l =
    by_order i n
    (λ m. of_below n test (second_of (test n) _ h) i m)
    (λ e. rw e (first_of (test n) _ h))
    (λ m. absurd (omega arith))

module _ (L : ℕ) (ts : List Token) where
  -- ---- each token by its shape
  unfoldable pub stands : ℕ → Option Shape → Bool
  stands i (Some (Opener end)) = ltb 0 i && (ltb i end && ends_at (nth ts end) i)
  stands i (Some MixedContainer) = true
  stands i (Some (Scalar kind offset size)) =
      leb (offset + size) L && ((not (eqb size 0) || may_be_empty kind) && (not (is_header kind) || opens (link_of (nth ts (i + 1)))))
  stands i (Some (Operator number)) = true
  stands i (Some (End opener)) = ltb opener i && opens_to (nth ts opener) i
  stands i None = false

  held : (i : ℕ) (s : Option Shape) → shape_of (nth ts i) ≡ s → stands i s ≡ true → Held L ts i
  unfolding stands
  held i (Some (Opener end)) e h =
      let g = second_of (ltb 0 i) _ h in
      let named : (i < end) × (nth ts end ≡ end_of i) = (ltb-true i end (first_of _ _ g), ends_at-told (nth ts end) i (second_of (ltb i end) _ g)) in
      (opener_held L ts i e (λ z. omega (arith, ltb-true 0 i (first_of _ _ h))) (told-yes named)).0 refl
  held i (Some MixedContainer) e h = (mixed_container_held L ts i e).0 refl
  held i (Some (Scalar kind offset size)) e h =
      let g = second_of (leb (offset + size) L) _ h in
      let headed = second_of (not (eqb size 0) || may_be_empty kind) _ g in
      (scalar_held L ts i e (told-yes record {
        within = leb-true _ _ (first_of _ _ h);
        filled = λ z. if_then (eqb size 0) _ (first_of _ _ g) (eq-eqb size 0 z);
        headed = λ k. opens-told (nth ts (i + 1)) _ refl (if_then (is_header kind) _ headed k);
      })).0 refl
  held i (Some (Operator number)) e h = (operator_held L ts i e).0 refl
  held i (Some (End opener)) e h =
      (end_held L ts i e (told-yes (ltb-true opener i (first_of _ _ h), opens_to-told (nth ts opener) i (second_of (ltb opener i) _ h)))).0 refl
  held i None e h = absurd (false≢true h)

  -- ---- the test
  -- token j, with those before it
  unfoldable pub stands_behind : ℕ → Bool
  stands_behind j = stands j (shape_of (nth ts j)) && below j (λ i. spaced (nth ts i) (nth ts j) && nested j (nth ts i) (nth ts j))

  unfoldable pub tested : Bool
  tested = below (length ts) stands_behind

  pub tested-sound : tested ≡ true → Sheet L ts
  unfolding opens spaced nested stands_behind tested
  tested-sound h =
      standing-sheet L ts
      record {
        held = λ i l. held i (shape_of (nth ts i)) refl (first_of _ _ (of_below (length ts) stands_behind h i l));
        spaced = λ j l i offset size later more k v w.
            let x = nth ts i in
            let y = nth ts j in
            let past = if_then _ _ (first_of (spaced x y) _ (two j i l k)) (both (view_coded v) (view_coded w)) in
            let starts = ltb-true x.a y.a (first_of _ _ past) in
            let ends = leb-true (x.a + x.b) y.a (second_of (ltb x.a y.a) _ past) in
            (omega (arith, starts, ap word_a v.1, ap word_a w.1), omega (arith, ends, ap word_a v.1, ap word_b v.1, ap word_a w.1));
      }
      (λ i end j inner o k l p.
      let x = nth ts i in
      let y = nth ts j in
      let inside = both (opener-opens o) (both (opener-opens p) (lt-ltb j x.a (omega (arith, ap word_a o.2)))) in
      let ended = ltb-true y.a x.a (if_then _ _ (second_of (spaced x y) _ (two j i (opener_in ts j p) k)) inside) in
      omega (arith, ended, ap word_a o.2, ap word_a p.2))
    where
      word_a : Token → ℕ
      word_a t = t.a

      word_b : Token → ℕ
      word_b t = t.b

      two : (j i : ℕ) → j < length ts → i < j → (spaced (nth ts i) (nth ts j) && nested j (nth ts i) (nth ts j)) ≡ true
      two j i l k =
          of_below j _ (second_of (stands j (shape_of (nth ts j))) _ (of_below (length ts) stands_behind h j l)) i k

      view_coded : {t : Token} {offset size : ℕ} → Views t offset size → is_scalar_code t.code ≡ true
      view_coded v = rw v.1 (scalar_coded v.0)

      opener-opens : {t : Token} {end : ℕ} → Opens t end → opens (link_of t) ≡ true
      opener-opens {t} o = rw (opens-link t o)
