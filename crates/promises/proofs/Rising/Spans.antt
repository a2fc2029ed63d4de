-- The views of a list of tokens, in their order, and when they rise from a floor to an end.
-- Assumes nothing.
use Rattle.std.specs.Prelude.{Option, Some, None}
use mathlib.Core.Path.{◌≡◌, refl, sym, ◌∙◌, ap}
use mathlib.Core.Bool.{Bool, false}
use mathlib.Core.List.{List, [], ◌∷◌, ◌++◌, append_assoc, append-nil}
use Prim.Native.Nat.{ℕ, zero, suc, ◌+◌, ◌≤◌, ◌<◌}
use native.Mathlib.Omega.{arith}
use lib.ListN.{set}
use Rattle.tape.specs.declared.token.Token.{Token}
use Rattle.tape.specs.declared.token.ScalarKind.{ScalarKind}
use Rattle.tape.specs.declared.token.ContainerKind.{ContainerKind}
use Rattle.tape.specs.declared.token.ContainerKind.TheVariants.{Array, Object}
use Rattle.tape.specs.Token.{no_token, scalar_named, may_be_empty, mixed_container_token, opener_of, scalar_of, operator_of, end_of}
use Rattle.tape.specs.Shape.{Opens}
use Rattle.tape.specs.Tape.{before_last}
use Rattle.tape.proofs.Makers.{code-names}
use Rattle.sheet.specs.Sound.{nth}

-- a scalar's view, and whether it may be empty
pub record Span : Type 0 where
  pub empty_allowed : Bool
  pub offset : ℕ
  pub size : ℕ

abbrev pub span : ScalarKind → ℕ → ℕ → Span
span kind offset size = record { empty_allowed = may_be_empty kind; offset = offset; size = size }

abbrev pub spans_named : Option ScalarKind → ℕ → ℕ → List Span
spans_named (Some kind) offset size = span kind offset size ∷ []
spans_named None offset size = []

-- a token's view, if it is a scalar
unfoldable pub span_of : Token → List Span
span_of t = spans_named (scalar_named t.code) t.a t.b

-- the views of a list of tokens
unfoldable pub spans : List Token → List Span
spans [] = []
spans (t ∷ ts) = span_of t ++ spans ts

-- ---- which tokens have a view
pub opener-bare : (kind : ContainerKind) (link : ℕ) (mixed : Bool) → span_of (opener_of kind link mixed) ≡ []
unfolding span_of scalar_named
opener-bare Array link mixed = refl
opener-bare Object link mixed = refl

pub opens-bare : {t : Token} {link : ℕ} → Opens t link → span_of t ≡ []
opens-bare {link = link} o = ap span_of o.2 ∙ opener-bare o.0 link o.1

pub end-bare : (opener : ℕ) → span_of (end_of opener) ≡ []
unfolding span_of scalar_named
end-bare opener = refl

pub operator-bare : (number : ℕ) → span_of (operator_of number) ≡ []
unfolding span_of scalar_named
operator-bare number = refl

pub mixed-bare : span_of mixed_container_token ≡ []
unfolding span_of scalar_named
mixed-bare = refl

pub none_bare : span_of no_token ≡ []
unfolding span_of scalar_named
none_bare = refl

pub scalar-span : (kind : ScalarKind) (offset size : ℕ) → span_of (scalar_of kind offset size) ≡ span kind offset size ∷ []
unfolding span_of
scalar-span kind offset size = ap (λ (named : Option ScalarKind). spans_named named offset size) (code-names kind)

-- ---- what the changes of a tape do to its views
pub spans-add : (ts : List Token) (x : Token) → spans (ts ++ (x ∷ [])) ≡ spans ts ++ span_of x
unfolding spans
spans-add [] x = append-nil (span_of x)
spans-add (t ∷ ts) x = rw (spans-add ts x) (sym (append_assoc (span_of t) (spans ts) (span_of x)))

-- a token that is changed to one of the same view
pub spans-set : (ts : List Token) (i : ℕ) (x : Token) → span_of x ≡ span_of (nth ts i) → spans (set ts i x) ≡ spans ts
unfolding spans
spans-set [] i x e = refl
spans-set (t ∷ ts) zero x e = rw e
spans-set (t ∷ ts) (suc i) x e = rw (spans-set ts i x e)

pub spans-before_last : (ts : List Token) (x : Token) → span_of x ≡ [] → spans (before_last ts x) ≡ spans ts
unfolding spans
spans-before_last [] x e = rw e
spans-before_last (t ∷ []) x e = rw e
spans-before_last (t ∷ u ∷ ts) x e = rw (spans-before_last (u ∷ ts) x e)

-- ---- rising views
-- a view that starts at or after a floor, and starts before and ends at or before an end; one that has to be is not empty
pub record Follows (floor : ℕ) (s : Span) (end : ℕ) : Type 0 where
  pub from : floor ≤ s.offset
  pub starts : s.offset < end
  pub ends : s.offset + s.size ≤ end
  pub full : s.empty_allowed ≡ false → 0 < s.size

-- from a floor on each view starts after the one before it started and ended, up to an end
unfoldable pub Upto : ℕ → List Span → ℕ → Type 0
Upto floor [] end = floor ≤ end
Upto floor (s ∷ ss) end = (mid : ℕ) × Follows floor s mid × Upto mid ss end

pub upto-later : (floor : ℕ) (ss : List Span) (end later : ℕ) → end ≤ later → Upto floor ss end → Upto floor ss later
unfolding Upto
upto-later floor [] end later h u = omega arith
upto-later floor (s ∷ ss) end later h u = (u.0, u.1, upto-later u.0 ss end later h u.2)

pub upto_add : (floor : ℕ) (ss : List Span) (end : ℕ) (s : Span) (later : ℕ) → Follows end s later → Upto floor ss end
    → Upto floor (ss ++ (s ∷ [])) later
unfolding Upto
upto_add floor [] end s later f u =
    (later, record { from = omega (arith, f.from); starts = f.starts; ends = f.ends; full = f.full }, omega arith)
upto_add floor (r ∷ ss) end s later f u = (u.0, u.1, upto_add u.0 ss end s later f u.2)

-- ---- what rising views say of the tokens that they are of
-- an end that is at or after the floor
pub upto-room : (floor : ℕ) (ss : List Span) (end : ℕ) → Upto floor ss end → floor ≤ end
unfolding Upto
upto-room floor [] end u = u
upto-room floor (s ∷ ss) end u = omega (arith, u.1.from, u.1.starts, upto-room u.0 ss end u.2)

-- past some views the others rise from a later floor
upto-past : (rs ss : List Span) (floor end : ℕ) → Upto floor (rs ++ ss) end → (mid : ℕ) × (floor ≤ mid) × Upto mid ss end
unfolding Upto
upto-past [] ss floor end u = (floor, omega arith, u)
upto-past (r ∷ rs) ss floor end u =
    let later = upto-past rs ss u.0 end u.2 in
    (later.0, omega (arith, u.1.from, u.1.starts, later.1), later.2)

-- nothing has a view where there is no token
view-none : (kind : ScalarKind) (offset size : ℕ) → no_token ≡ scalar_of kind offset size → ⊥
view-none kind offset size e =
    let z : ◌≡◌ {A = List Span} [] (span kind offset size ∷ []) = cc (none_bare, scalar-span kind offset size) in
    let n : ◌≡◌ {A = ℕ} 0 1 = cc in
    omega arith

-- a first token's view follows the floor, and the others rise from its end
upto-first : (t : Token) (ts : List Token) (floor end : ℕ) (kind : ScalarKind) (offset size : ℕ) → Upto floor (spans (t ∷ ts)) end
    → t ≡ scalar_of kind offset size
    → (mid : ℕ) × Follows floor (span kind offset size) mid × Upto mid (spans ts) end
unfolding Upto spans
upto-first t ts floor end kind offset size u e =
    let s : span_of t ≡ span kind offset size ∷ [] = cc (scalar-span kind offset size) in
    let v : Upto floor (span_of t ++ spans ts) end = u in
    rw s at v

-- any view among the tokens follows the floor
pub upto-at : (ts : List Token) (floor end i : ℕ) (kind : ScalarKind) (offset size : ℕ) → Upto floor (spans ts) end
    → nth ts i ≡ scalar_of kind offset size
    → Follows floor (span kind offset size) end
unfolding spans
upto-at [] floor end i kind offset size u e = absurd (view-none kind offset size e)
upto-at (t ∷ ts) floor end zero kind offset size u e =
    let f = upto-first t ts floor end kind offset size u e in
    let r : f.0 ≤ end = upto-room f.0 (spans ts) end f.2 in
    record { from = f.1.from; starts = omega (arith, f.1.starts); ends = omega (arith, f.1.ends); full = f.1.full }
upto-at (t ∷ ts) floor end (suc i) kind offset size u e =
    let p = upto-past (span_of t) (spans ts) floor end u in
    let f = upto-at ts p.0 end i kind offset size p.2 e in
    record { from = omega (arith, p.1, f.from); starts = f.starts; ends = f.ends; full = f.full }

-- and a later one starts after an earlier one has started and ended
pub upto-spaced : (ts : List Token) (floor end i j : ℕ) (kind next : ScalarKind) (offset size later more : ℕ) → Upto floor (spans ts) end → i < j
    → nth ts i ≡ scalar_of kind offset size → nth ts j ≡ scalar_of next later more → (offset < later) × (offset + size ≤ later)
unfolding spans
upto-spaced [] floor end i j kind next offset size later more u h e f = absurd (view-none kind offset size e)
upto-spaced (t ∷ ts) floor end i zero kind next offset size later more u h e f = absurd (omega arith)
upto-spaced (t ∷ ts) floor end zero (suc j) kind next offset size later more u h e f =
    let a = upto-first t ts floor end kind offset size u e in
    let b = upto-at ts a.0 end j next later more a.2 f in
    (omega (arith, a.1.starts, b.from), omega (arith, a.1.ends, b.from))
upto-spaced (t ∷ ts) floor end (suc i) (suc j) kind next offset size later more u h e f =
    let p = upto-past (span_of t) (spans ts) floor end u in
    upto-spaced ts p.0 end i j kind next offset size later more p.2 (omega arith) e f
