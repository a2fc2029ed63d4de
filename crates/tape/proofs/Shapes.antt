-- A token's shape is its form: what each maker makes has its shape, and what has a shape was made so.
-- Assumes nothing.
use Rattle.std.specs.Prelude.{Option, Some, None}
use mathlib.Core.Path.{◌≡◌, refl, sym, ◌∙◌, ap, subst}
use mathlib.Core.List.{List, [], ◌∷◌}
use mathlib.Core.Bool.{Bool, true, false}
use mathlib.Core.Logic.{◌⊎◌, inl, inr}
use Prim.Native.Nat.{ℕ, ◌≤◌}
use native.Mathlib.Omega.{arith}
use borrow.Author.Tests.{eq-eqb, ne_eqb, eqb-true, eqb-false, le-ltb, ltb-false}
use lib.Dec.{eqb, ltb}
use Rattle.data.proofs.Cases.{by_bool}
use Rattle.tape.specs.declared.token.Token.{Token}
use Rattle.tape.specs.declared.token.ContainerKind.{ContainerKind}
use Rattle.tape.specs.declared.token.ContainerKind.TheVariants.{Array, Object}
use Rattle.tape.specs.declared.token.ScalarKind.{ScalarKind}
use Rattle.tape.specs.declared.shape.Shape.{Shape}
use Rattle.tape.specs.declared.shape.Shape.TheVariants.{Opener, MixedContainer, Scalar, Operator, End}
use Rattle.tape.specs.declared.shape.Link.{Link}
use Rattle.tape.specs.declared.shape.Link.TheVariants.{ToEnd, ToOpener}
use Rattle.tape.specs.Token.{array_code, object_code, mixed_container_code, operator_code, end_code, least_operator, greatest_operator, opened}
use Rattle.tape.specs.Token.{container_code, scalar_code, scalar_kinds, named_among, scalar_named, flag_of, stores_flag}
use Rattle.tape.specs.Token.{opener_of, end_of, scalar_of, operator_of, mixed_container_token, no_token, container_of}
use Rattle.tape.specs.Shape.{bare_shape, shape_of, linked, link_of, Opens}
use Rattle.tape.proofs.Makers.{code-names, scalar-container}

-- ---- the shape, by the tests that lead to it
pub shape-opened : (t : Token) {kind : ContainerKind} {link : ℕ} {mixed : Bool} → container_of t ≡ opened kind link mixed → stores_flag t.b ≡ true
    → Some (Opener link) ≡ shape_of t
unfolding shape_of
shape-opened t e f = rw (shape_of, e, f)

pub shape_misflagged : (t : Token) {kind : ContainerKind} {link : ℕ} {mixed : Bool} → container_of t ≡ opened kind link mixed
    → stores_flag t.b ≡ false → None ≡ shape_of t
unfolding shape_of
shape_misflagged t e f = rw (shape_of, e, f)

pub shape-named : (t : Token) {kind : ScalarKind} → container_of t ≡ None → scalar_named t.code ≡ Some kind
    → Some (Scalar kind t.a t.b) ≡ shape_of t
unfolding shape_of
shape-named t e f = rw (shape_of, e, f)

pub shape-bare : (t : Token) → container_of t ≡ None → scalar_named t.code ≡ None → t.b ≡ 0
    → bare_shape t.code t.a ≡ shape_of t
unfolding shape_of
shape-bare t e f z = rw (shape_of, e, f, eq-eqb t.b 0 z)

pub shape-over : (t : Token) → container_of t ≡ None → scalar_named t.code ≡ None → (t.b ≡ 0 → ⊥)
    → None ≡ shape_of t
unfolding shape_of
shape-over t e f z = rw (shape_of, e, f, ne_eqb t.b 0 z)

-- ---- what each maker makes has its shape
pub opener-shape : (kind : ContainerKind) (end : ℕ) (mixed : Bool) → shape_of (opener_of kind end mixed) ≡ Some (Opener end)
unfolding shape_of container_of
opener-shape Array end true = refl
opener-shape Array end false = refl
opener-shape Object end true = refl
opener-shape Object end false = refl

pub mixed_container-shape : shape_of mixed_container_token ≡ (Some MixedContainer)
unfolding shape_of container_of scalar_named bare_shape
mixed_container-shape = refl

pub scalar-shape : (kind : ScalarKind) (offset size : ℕ) → shape_of (scalar_of kind offset size) ≡ Some (Scalar kind offset size)
scalar-shape kind offset size = sym (shape-named (scalar_of kind offset size) (scalar-container kind offset size) (code-names kind))

pub operator-shape : (number : ℕ) → least_operator ≤ number → number ≤ greatest_operator → shape_of (operator_of number) ≡ Some (Operator number)
unfolding shape_of container_of scalar_named bare_shape
operator-shape number low high = rw (shape_of, bare_shape, le-ltb number least_operator low, le-ltb greatest_operator number high)

pub end-shape : (opener : ℕ) → shape_of (end_of opener) ≡ Some (End opener)
unfolding shape_of container_of scalar_named bare_shape
end-shape opener = refl

pub no-shape : shape_of no_token ≡ None
unfolding shape_of container_of scalar_named bare_shape
no-shape = refl

-- a container's opener has the shape of one
pub opens-shape : (t : Token) {end : ℕ} → Opens t end → shape_of t ≡ Some (Opener end)
opens-shape t {end} o = ap shape_of o.2 ∙ opener-shape o.0 end o.1

-- ---- and what has a shape was made so
-- how a token of a shape was made
abbrev pub Made : Token → Option Shape → Type 0
Made t (Some (Opener end)) = Opens t end
Made t (Some MixedContainer) = t ≡ mixed_container_token
Made t (Some (Scalar kind offset size)) = t ≡ scalar_of kind offset size
Made t (Some (Operator number)) = (least_operator ≤ number) × (number ≤ greatest_operator) × (t ≡ operator_of number)
Made t (Some (End opener)) = t ≡ end_of opener
Made t None = Unit

same_token : (t : Token) {c a b : ℕ} → t.code ≡ c → t.a ≡ a → t.b ≡ b → t ≡ record { code = c; a = a; b = b }
same_token t e f g = rw (← e, ← f, ← g)

bare-made : (t : Token) → t.b ≡ 0 → Made t (bare_shape t.code t.a)
unfolding bare_shape
bare-made t z =
    by_bool (eqb t.code end_code)
    (λ e. rw (bare_shape, e) (same_token t (eqb-true _ _ e) refl z))
    (λ e. by_bool (eqb t.code operator_code)
    (λ f. by_bool (ltb t.a least_operator)
    (λ g. rw (bare_shape, e, f, g) tt)
    (λ g. by_bool (ltb greatest_operator t.a)
    (λ h. rw (bare_shape, e, f, g, h) tt)
    (λ h. rw (bare_shape, e, f, g, h) (ltb-false _ _ g, ltb-false _ _ h, same_token t (eqb-true _ _ f) refl z))))
    (λ f. by_bool (eqb t.code mixed_container_code)
    (λ g. by_bool (eqb t.a 0)
    (λ h. rw (bare_shape, e, f, g, h) (same_token t (eqb-true _ _ g) (eqb-true _ _ h) z))
    (λ h. rw (bare_shape, e, f, g, h) tt))
    (λ g. rw (bare_shape, e, f, g) tt)))

-- a code names a kind of container, or the token is none
abbrev ContainerTold : Token → Type 0
ContainerTold t =
    ((kind : ContainerKind) × (t.code ≡ container_code kind) × (container_of t ≡ opened kind t.a (flag_of t.b)))
    ⊎ (container_of t ≡ None)

container-told : (t : Token) → ContainerTold t
unfolding container_of
container-told t =
    by_bool (eqb t.code array_code)
    (λ e. inl (Array, eqb-true _ _ e, rw (container_of, e)))
    (λ e. by_bool (eqb t.code object_code)
    (λ f. inl (Object, eqb-true _ _ f, rw (container_of, e, f)))
    (λ f. inr (rw (container_of, e, f))))

-- a code names a kind of scalar, or none
abbrev ScalarTold : ℕ → Option ScalarKind → Type 0
ScalarTold code named = ((kind : ScalarKind) × (code ≡ scalar_code kind) × (named ≡ Some kind)) ⊎ (named ≡ None)

told-among : (kinds : List ScalarKind) (code : ℕ) → ScalarTold code (named_among kinds code)
told-among [] code = inr refl
told-among (kind ∷ kinds) code =
    by_bool (eqb code (scalar_code kind))
    (λ e. rw (named_among, e) (inl (kind, eqb-true _ _ e, refl)))
    (λ e. rw (named_among, e) (told-among kinds code))

scalar-told : (code : ℕ) → ScalarTold code (scalar_named code)
unfolding scalar_named
scalar-told code = told-among scalar_kinds code

-- a code that names a kind is that kind's
pub named-code : (code : ℕ) (kind : ScalarKind) → scalar_named code ≡ Some kind → code ≡ scalar_code kind
named-code code kind e = by-told (scalar-told code)
  where
    by-told : ScalarTold code (scalar_named code) → code ≡ scalar_code kind
    by-told (inl s) = let same : s.0 ≡ kind = cc in s.1 ∙ ap scalar_code same
    by-told (inr n) = let no : None ≡ Some kind = sym n ∙ e in cc

-- a token was made as its shape says
pub made : (t : Token) → Made t (shape_of t)
made t = by-container (container-told t)
  where
    by_flag : (kind : ContainerKind) → t.code ≡ container_code kind → container_of t ≡ opened kind t.a (flag_of t.b) → Made t (shape_of t)
    by_flag kind c e =
        by_bool (stores_flag t.b)
        (λ f. rw (← shape-opened t e f) (kind, flag_of t.b, same_token t c refl (eqb-true _ _ f)))
        (λ f. rw (← shape_misflagged t e f) tt)

    by_scalar : container_of t ≡ None → ScalarTold t.code (scalar_named t.code) → Made t (shape_of t)
    by_scalar e (inl s) = rw (← shape-named t e s.2) (same_token t s.1 refl refl)
    by_scalar e (inr f) =
        by_bool (eqb t.b 0)
        (λ z. rw (← shape-bare t e f (eqb-true _ _ z)) (bare-made t (eqb-true _ _ z)))
        (λ z. rw (← shape-over t e f (eqb-false _ _ z)) tt)

    by-container : ContainerTold t → Made t (shape_of t)
    by-container (inl o) = by_flag o.0 o.1 o.2
    by-container (inr e) = by_scalar e (scalar-told t.code)

-- of a shape that is known
pub shape-made : (t : Token) {s : Option Shape} → shape_of t ≡ s → Made t s
shape-made t {s} e = subst (λ (x : Option Shape). Made t x) e (made t)

-- ---- the links are those of openers and Ends
pub opens-link : (t : Token) {end : ℕ} → Opens t end → link_of t ≡ Some (ToEnd end)
opens-link t o = ap linked (opens-shape t o)

pub end-link : (t : Token) {opener : ℕ} → t ≡ end_of opener → link_of t ≡ Some (ToOpener opener)
end-link t {opener} e = ap link_of e ∙ ap linked (end-shape opener)

-- what a token that names another, or none, is
abbrev pub Linking : Token → Option Link → Type 0
Linking t (Some (ToEnd end)) = Opens t end
Linking t (Some (ToOpener opener)) = t ≡ end_of opener
Linking t None = Unit

linking : (t : Token) (s : Option Shape) → Made t s → Linking t (linked s)
linking t (Some (Opener end)) m = m
linking t (Some MixedContainer) m = tt
linking t (Some (Scalar kind offset size)) m = tt
linking t (Some (Operator number)) m = tt
linking t (Some (End opener)) m = m
linking t None m = tt

pub link-made : (t : Token) {l : Option Link} → link_of t ≡ l → Linking t l
link-made t e = subst (λ (x : Option Link). Linking t x) e (linking t (shape_of t) (made t))

-- a token that names none neither opens nor ends
pub unlinked-opens : (t : Token) {end : ℕ} → link_of t ≡ None → Opens t end → ⊥
unlinked-opens t e o = differ (opens-link t o) e
  where
    differ : {l : Option Link} {end : ℕ} → l ≡ Some (ToEnd end) → l ≡ None → ⊥
    differ f g = let z : ◌≡◌ {A = ℕ} 0 1 = cc in omega arith
