-- What the test of two sheets being the same tokens tells, and when it holds.
-- Assumes nothing.
use Rattle.std.specs.Prelude.{Option, Some, None}
use mathlib.Core.Path.{◌≡◌, refl, sym, ◌∙◌, ap}
use mathlib.Core.Bool.{true, false≢true}
use mathlib.Core.List.{List, [], ◌∷◌, ◌++◌}
use Prim.Native.Nat.{ℕ, zero, suc}
use borrow.Author.Tests.{eqb-true, eq-eqb}
use lib.Dec.{eqb}
use lib.ListN.{length}
use Rattle.data.specs.Pairs.{pairwise}
use Rattle.data.proofs.Pairs.{pairs_self}
use Rattle.put.proofs.Equality.{equal_are, equal_self}
use Rattle.tape.specs.declared.token.Token.{Token}
use Rattle.tape.specs.declared.token.ScalarKind.{ScalarKind}
use Rattle.tape.specs.Token.{nth, scalar_named, scalar_code, scalar_of}
use Rattle.tape.proofs.Makers.{code-names}
use Rattle.tape.proofs.Shapes.{named-code}
use Rattle.put.specs.Parts.{view_of}
use Rattle.alike.specs.Alike.{same_view, same_words, same_token, alike}
use Rattle.writer.proofs.Forms.{both, first_of, second_of}

-- a token by its words
pub as_made : (x : Token) {c a b : ℕ} → x.code ≡ c → x.a ≡ a → x.b ≡ b → x ≡ record { code = c; a = a; b = b }
as_made x e f g = rw (← e, ← f, ← g)

-- two tokens that are the same: one that is no scalar, as it is, or a scalar, by what it views
pub data Same (text other : List ℕ) (x y : Token) : Type 0 where
  same : scalar_named x.code ≡ None → x ≡ y → Same text other x y
  viewed : (kind : ScalarKind) (offset place size : ℕ) → x ≡ scalar_of kind offset size → y ≡ scalar_of kind place size
      → view_of text offset size ≡ view_of other place size → Same text other x y

module _ (text other : List ℕ) where
  -- what is left to test, by the kind
  by_kind : (x y : Token) (s : Option ScalarKind) → x.code ≡ y.code → scalar_named x.code ≡ s
      → elim s [ Some kind ↦ same_view text other x y | None ↦ same_words x y ] ≡ true → Same text other x y
  unfolding same_view same_words
  by_kind x y None codes s t =
      same s (as_made x codes (eqb-true x.a y.a (first_of _ _ t)) (eqb-true x.b y.b (second_of (eqb x.a y.a) _ t)))
  by_kind x y (Some kind) codes s t =
      let c = named-code x.code kind s in
      let b : x.b ≡ y.b = eqb-true x.b y.b (first_of _ _ t) in
      viewed kind x.a y.a x.b (as_made x c refl refl) (as_made y (sym codes ∙ c) refl (sym b))
      (equal_are (view_of text x.a x.b) (view_of other y.a y.b) (second_of (eqb x.b y.b) _ t)
      ∙ ap (view_of other y.a) (sym b))

  pub same-told : (x y : Token) → same_token text other x y ≡ true → Same text other x y
  unfolding same_token
  same-told x y h =
      by_kind x y (scalar_named x.code) (eqb-true x.code y.code (first_of (eqb x.code y.code) _ h)) refl
      (second_of (eqb x.code y.code) _ h)

  same-scalar : (kind : ScalarKind) (a b n : ℕ) → view_of text a n ≡ view_of other b n
      → same_token text other (scalar_of kind a n) (scalar_of kind b n) ≡ true
  unfolding same_token same_view
  same-scalar kind a b n v =
      both (eq-eqb (scalar_code kind) (scalar_code kind) refl)
      (rw (code-names kind) (both (eq-eqb n n refl) (rw v (equal_self (view_of other b n)))))

  same_itself : (x : Token) → scalar_named x.code ≡ None → same_token text other x x ≡ true
  unfolding same_token same_words
  same_itself x n = both (eq-eqb x.code x.code refl) (rw n (both (eq-eqb x.a x.a refl) (eq-eqb x.b x.b refl)))

  pub same-holds : (x y : Token) → Same text other x y → same_token text other x y ≡ true
  same-holds x y (same n e) = rw (← e) (same_itself x n)
  same-holds x y (viewed kind a b n p q v) = rw (p, q) (same-scalar kind a b n v)

  -- ---- lists
  pub alike-length : (xs ys : List Token) → alike text other xs ys ≡ true → length xs ≡ length ys
  unfolding pairwise
  alike-length [] [] h = refl
  alike-length [] (y ∷ ys) h = absurd (false≢true h)
  alike-length (x ∷ xs) [] h = absurd (false≢true h)
  alike-length (x ∷ xs) (y ∷ ys) h = ap suc (alike-length xs ys (second_of (same_token text other x y) _ h))

  pub alike_at : (xs ys : List Token) → alike text other xs ys ≡ true → (i : ℕ) → Same text other (nth xs i) (nth ys i)
  unfolding pairwise scalar_named
  alike_at [] [] h i = same refl refl
  alike_at [] (y ∷ ys) h i = absurd (false≢true h)
  alike_at (x ∷ xs) [] h i = absurd (false≢true h)
  alike_at (x ∷ xs) (y ∷ ys) h zero = same-told x y (first_of (same_token text other x y) _ h)
  alike_at (x ∷ xs) (y ∷ ys) h (suc i) = alike_at xs ys (second_of (same_token text other x y) _ h) i

  pub alike-one : {x y : Token} → Same text other x y → (xs ys : List Token) → alike text other xs ys ≡ true
      → alike text other (x ∷ xs) (y ∷ ys) ≡ true
  unfolding pairwise
  alike-one {x} {y} s xs ys h = both (same-holds x y s) h

  pub alike-none : alike text other [] [] ≡ true
  unfolding pairwise
  alike-none = refl

  pub alike-append : (xs ys us vs : List Token) → alike text other xs ys ≡ true → alike text other us vs ≡ true
      → alike text other (xs ++ us) (ys ++ vs) ≡ true
  unfolding pairwise
  alike-append [] [] us vs h g = g
  alike-append [] (y ∷ ys) us vs h g = absurd (false≢true h)
  alike-append (x ∷ xs) [] us vs h g = absurd (false≢true h)
  alike-append (x ∷ xs) (y ∷ ys) us vs h g =
      both (first_of (same_token text other x y) _ h) (alike-append xs ys us vs (second_of (same_token text other x y) _ h) g)

-- every token over a text is the same as itself
pub same_self : (text : List ℕ) (x : Token) → Same text text x x
same_self text x = go (scalar_named x.code) refl
  where
    go : (s : Option ScalarKind) → scalar_named x.code ≡ s → Same text text x x
    go None s = same s refl
    go (Some kind) s =
        let e : x ≡ scalar_of kind x.a x.b = as_made x (named-code x.code kind s) refl refl in
        viewed kind x.a x.a x.b e e refl

pub alike_self : (text : List ℕ) (xs : List Token) → alike text text xs xs ≡ true
alike_self text xs = pairs_self (same_token text text) (λ x. same-holds text text x x (same_self text x)) xs
