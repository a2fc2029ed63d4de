-- What a token of each shape owes by itself.
-- Assumes nothing.
use Rattle.std.specs.Prelude.{Option, Some, None}
use mathlib.Core.Path.{◌≡◌, sym, ◌∙◌, ap, subst}
use mathlib.Core.Bool.{Bool, true, false}
use mathlib.Core.List.{List}
use mathlib.Core.Logic.{◌↔◌}
use Prim.Native.Nat.{ℕ, ◌+◌, ◌<◌}
use native.Mathlib.Omega.{arith}
use borrow.Author.Tests.{ltb-true, ltb-false}
use lib.Dec.{ltb}
use lib.ListN.{length, get_or-eq_default}
use Rattle.data.proofs.Cases.{by_bool}
use Rattle.tape.specs.declared.token.Token.{Token}
use Rattle.tape.specs.declared.token.ScalarKind.{ScalarKind}
use Rattle.tape.specs.declared.token.ScalarKind.TheVariants.{Header}
use Rattle.tape.specs.declared.shape.Shape.{Shape}
use Rattle.tape.specs.declared.shape.Shape.TheVariants.{Opener, MixedContainer, Scalar, Operator, End}
use Rattle.tape.specs.Token.{no_token, nth, may_be_empty, is_header, scalar_of, end_of}
use Rattle.tape.specs.Shape.{shape_of, Opens}
use Rattle.tape.specs.Words.{tokens_in, token_in}
use Rattle.tape.proofs.Shapes.{opens-shape, mixed_container-shape, scalar-shape, operator-shape, end-shape, no-shape, shape-made}
use Rattle.tape.proofs.Makers.{header-told}
use Rattle.sheet.specs.Sound.{Views, Form, container, mixed_container, scalar, operator, closing, InText}
use Rattle.sheet.specs.Steps.{Suited, Held}
use Rattle.sheet.proofs.Links.{told-yes, told-no, told_through, one_end}

-- the shape that was read is that of the token
pub read-shape : (ws : List ℕ) (n i : ℕ) {t : Token} {r : Option Shape} → t ≡ token_in ws n i → r ≡ shape_of t → r ≡ shape_of (nth (tokens_in ws n) i)
unfolding token_in
read-shape ws n i e f = f ∙ ap shape_of e

-- ---- no token has two shapes
abbrev pub NotOpener : Option Shape → Type 0
NotOpener (Some (Opener end)) = ⊥
NotOpener (Some MixedContainer) = Unit
NotOpener (Some (Scalar kind offset size)) = Unit
NotOpener (Some (Operator number)) = Unit
NotOpener (Some (End opener)) = Unit
NotOpener None = Unit

abbrev pub NotEnd : Option Shape → Type 0
NotEnd (Some (Opener end)) = Unit
NotEnd (Some MixedContainer) = Unit
NotEnd (Some (Scalar kind offset size)) = Unit
NotEnd (Some (Operator number)) = Unit
NotEnd (Some (End opener)) = ⊥
NotEnd None = Unit

abbrev pub NotScalar : Option Shape → Type 0
NotScalar (Some (Opener end)) = Unit
NotScalar (Some MixedContainer) = Unit
NotScalar (Some (Scalar kind offset size)) = ⊥
NotScalar (Some (Operator number)) = Unit
NotScalar (Some (End opener)) = Unit
NotScalar None = Unit

abbrev pub IsNothing : Option Shape → Type 0
IsNothing (Some (Opener end)) = ⊥
IsNothing (Some MixedContainer) = ⊥
IsNothing (Some (Scalar kind offset size)) = ⊥
IsNothing (Some (Operator number)) = ⊥
IsNothing (Some (End opener)) = ⊥
IsNothing None = Unit

pub views-shape : (t : Token) {offset size : ℕ} (v : Views t offset size) → shape_of t ≡ Some (Scalar v.0 offset size)
views-shape t {offset} {size} v = ap shape_of v.1 ∙ scalar-shape v.0 offset size

pub ends-shape : (t : Token) {opener : ℕ} → t ≡ end_of opener → shape_of t ≡ Some (End opener)
ends-shape t {opener} e = ap shape_of e ∙ end-shape opener

pub opens_not : (t : Token) {s : Option Shape} → shape_of t ≡ s → NotOpener s → {end : ℕ} → Opens t end → ⊥
opens_not t e n o = subst NotOpener (sym e ∙ opens-shape t o) n

pub ends_not : (t : Token) {s : Option Shape} → shape_of t ≡ s → NotEnd s → {opener : ℕ} → t ≡ end_of opener → ⊥
ends_not t e n o = subst NotEnd (sym e ∙ ends-shape t o) n

pub views_not : (t : Token) {s : Option Shape} → shape_of t ≡ s → NotScalar s → {offset size : ℕ} → Views t offset size → ⊥
views_not t e n v = subst NotScalar (sym e ∙ views-shape t v) n

-- words that no token has have no form
formless : (t : Token) → shape_of t ≡ None → Form t → ⊥
formless t e (container end o) = subst IsNothing (sym e ∙ opens-shape t o) tt
formless t e (mixed_container q) = subst IsNothing (sym e ∙ ap shape_of q ∙ mixed_container-shape) tt
formless t e (scalar offset size v) = subst IsNothing (sym e ∙ views-shape t v) tt
formless t e (operator number low high q) = subst IsNothing (sym e ∙ ap shape_of q ∙ operator-shape number low high) tt
formless t e (closing opener q) = subst IsNothing (sym e ∙ ends-shape t q) tt

-- where a token of a shape stands, there is one
pub stands_in : (ts : List Token) (i : ℕ) {s : Option Shape} → shape_of (nth ts i) ≡ s → (IsNothing s → ⊥) → i < length ts
stands_in ts i {s} e n =
    by_bool (ltb i (length ts))
    (λ t. ltb-true _ _ t)
    (λ f.
    let none : nth ts i ≡ no_token = get_or-eq_default ts no_token {n = i} (ltb-false _ _ f) in
    absurd (n (subst IsNothing (sym no-shape ∙ ap shape_of (sym none) ∙ e) tt)))

pub opener_in : (ts : List Token) (i : ℕ) {end : ℕ} → Opens (nth ts i) end → i < length ts
opener_in ts i o = stands_in ts i (opens-shape (nth ts i) o) (λ n. n)

pub end_in : (ts : List Token) (i : ℕ) {opener : ℕ} → nth ts i ≡ end_of opener → i < length ts
end_in ts i e = stands_in ts i (ends-shape (nth ts i) e) (λ n. n)

pub view_in : (ts : List Token) (i : ℕ) {offset size : ℕ} → Views (nth ts i) offset size → i < length ts
view_in ts i v = stands_in ts i (views-shape (nth ts i) v) (λ n. n)

-- ---- what each shape owes
module _ (L : ℕ) (ts : List Token) (i : ℕ) where
  held-opener : {end : ℕ} → shape_of (nth ts i) ≡ Some (Opener end) → (i ≡ 0 → ⊥) → (i < end) × (nth ts end ≡ end_of i) → Held L ts i
  held-opener {end} e n c =
      record {
        form = container end (shape-made (nth ts i) e);
        closed = λ other o.
            subst (λ (k : ℕ). (i < k) × (k < length ts) × (nth ts k ≡ end_of i)) (one_end (nth ts i) (shape-made (nth ts i) e) o)
            (c.0, end_in ts end c.1, c.1);
        opened = λ opener q. absurd (ends_not (nth ts i) e tt q);
        within = λ offset size v. absurd (views_not (nth ts i) e tt v);
        filled = λ kind offset q. absurd (views_not (nth ts i) e tt (kind, q));
        top = λ z. absurd (n z);
        headed = λ offset size q. absurd (views_not (nth ts i) e tt (Header, q));
      }

  held-end : {opener : ℕ} → shape_of (nth ts i) ≡ Some (End opener) → (opener < i) × Opens (nth ts opener) i → Held L ts i
  held-end {opener} e c =
      record {
        form = closing opener (shape-made (nth ts i) e);
        closed = λ end o. absurd (opens_not (nth ts i) e tt o);
        opened = λ other q. subst (λ (k : ℕ). (k < i) × Opens (nth ts k) i) (same-opener (sym e ∙ ends-shape (nth ts i) q)) c;
        within = λ offset size v. absurd (views_not (nth ts i) e tt v);
        filled = λ kind offset q. absurd (views_not (nth ts i) e tt (kind, q));
        top = λ z end o. opens_not (nth ts i) e tt o;
        headed = λ offset size q. absurd (views_not (nth ts i) e tt (Header, q));
      }
    where
      same-opener : {a b : ℕ} → Some (End a) ≡ Some (End b) → a ≡ b
      same-opener q = cc

  held-scalar : {kind : ScalarKind} {offset size : ℕ} → shape_of (nth ts i) ≡ Some (Scalar kind offset size) → Suited L ts (i + 1) kind offset size
      → Held L ts i
  held-scalar {kind} {offset} {size} e c =
      record {
        form = scalar offset size (kind, shape-made (nth ts i) e);
        closed = λ end o. absurd (opens_not (nth ts i) e tt o);
        opened = λ opener q. absurd (ends_not (nth ts i) e tt q);
        within = λ other more v. same-within (sym e ∙ views-shape (nth ts i) v);
        filled = λ other more q. same-filled (sym e ∙ views-shape (nth ts i) (other, q));
        top = λ z end o. opens_not (nth ts i) e tt o;
        headed = λ other more q. c.headed (ap is_header (same_kind (sym e ∙ views-shape (nth ts i) (Header, q))));
      }
    where
      same_kind : {k : ScalarKind} {a b : ℕ} → Some (Scalar kind offset size) ≡ Some (Scalar k a b) → kind ≡ k
      same_kind q = cc

      same-offset : {k : ScalarKind} {a b : ℕ} → Some (Scalar kind offset size) ≡ Some (Scalar k a b) → offset ≡ a
      same-offset q = cc

      same_size : {k : ScalarKind} {a b : ℕ} → Some (Scalar kind offset size) ≡ Some (Scalar k a b) → size ≡ b
      same_size q = cc

      same-within : {k : ScalarKind} {a b : ℕ} → Some (Scalar kind offset size) ≡ Some (Scalar k a b) → InText L a b
      same-within q = omega (arith, c.within, same-offset q, same_size q)

      same-filled : {k : ScalarKind} {a : ℕ} → Some (Scalar kind offset size) ≡ Some (Scalar k a 0) → may_be_empty k ≡ true
      same-filled q = sym (ap may_be_empty (same_kind q)) ∙ c.filled (same_size q)

  held_plain : {s : Option Shape} → shape_of (nth ts i) ≡ s → Form (nth ts i) → NotOpener s → NotEnd s → NotScalar s → Held L ts i
  held_plain e f o d v =
      record {
        form = f;
        closed = λ end p. absurd (opens_not (nth ts i) e o p);
        opened = λ opener q. absurd (ends_not (nth ts i) e d q);
        within = λ offset size w. absurd (views_not (nth ts i) e v w);
        filled = λ kind offset q. absurd (views_not (nth ts i) e v (kind, q));
        top = λ z end p. opens_not (nth ts i) e o p;
        headed = λ offset size q. absurd (views_not (nth ts i) e v (Header, q));
      }

  -- ---- the answer for each shape tells whether the token holds
  pub first_opens : {end : ℕ} → shape_of (nth ts i) ≡ Some (Opener end) → i ≡ 0 → (false ≡ true) ↔ Held L ts i
  first_opens {end} e z = told-no (λ h. h.top z end (shape-made (nth ts i) e))

  pub opener_held : {r : Bool} {end : ℕ} → shape_of (nth ts i) ≡ Some (Opener end) → (i ≡ 0 → ⊥)
      → (r ≡ true) ↔ ((i < end) × (nth ts end ≡ end_of i)) → (r ≡ true) ↔ Held L ts i
  opener_held {r} {end} e n c =
      told_through c
      (held-opener e n)
      (λ h. let links = h.closed end (shape-made (nth ts i) e) in (links.0, links.2))

  pub mixed_container_held : shape_of (nth ts i) ≡ (Some MixedContainer) → (true ≡ true) ↔ Held L ts i
  mixed_container_held e = told-yes (held_plain e (mixed_container (shape-made (nth ts i) e)) tt tt tt)

  pub operator_held : {number : ℕ} → shape_of (nth ts i) ≡ Some (Operator number) → (true ≡ true) ↔ Held L ts i
  operator_held {number} e =
      let m = shape-made (nth ts i) e in
      told-yes (held_plain e (operator number m.0 m.1 m.2) tt tt tt)

  pub end_held : {r : Bool} {opener : ℕ} → shape_of (nth ts i) ≡ Some (End opener) → (r ≡ true) ↔ ((opener < i) × Opens (nth ts opener) i)
      → (r ≡ true) ↔ Held L ts i
  end_held {r} {opener} e c = told_through c (held-end e) (λ h. h.opened opener (shape-made (nth ts i) e))

  pub scalar_held : {r : Bool} {kind : ScalarKind} {offset size : ℕ} → shape_of (nth ts i) ≡ Some (Scalar kind offset size)
      → (r ≡ true) ↔ Suited L ts (i + 1) kind offset size → (r ≡ true) ↔ Held L ts i
  scalar_held {r} {kind} {offset} {size} e c =
      told_through c
      (held-scalar e)
      (λ h.
      let made : nth ts i ≡ scalar_of kind offset size = shape-made (nth ts i) e in
      record {
        within = h.within offset size (kind, made);
        filled = λ z. h.filled kind offset (made ∙ ap (λ (k : ℕ). scalar_of kind offset k) z);
        headed = λ q. h.headed offset size (made ∙ ap (λ (k : ScalarKind). scalar_of k offset size) (header-told kind q));
      })

  pub nothing_held : shape_of (nth ts i) ≡ None → (false ≡ true) ↔ Held L ts i
  nothing_held e = told-no (λ h. formless (nth ts i) e h.form)
