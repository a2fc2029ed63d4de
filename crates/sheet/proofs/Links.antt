-- What reading a token's link tells of openers and Ends.
-- Assumes nothing.
use Rattle.std.specs.Prelude.{Option, Some, None}
use mathlib.Core.Path.{◌≡◌, refl, sym, ◌∙◌, subst}
use mathlib.Core.Bool.{Bool, true, false, false≢true}
use mathlib.Core.Logic.{◌↔◌}
use Prim.Native.Nat.{ℕ, ◌≤◌, ◌<◌}
use native.Mathlib.Omega.{arith}
use borrow.Author.Tests.{eq-eqb, eqb-true}
use lib.Dec.{eqb}
use Rattle.tape.specs.declared.token.Token.{Token}
use Rattle.tape.specs.declared.shape.Link.{Link}
use Rattle.tape.specs.declared.shape.Link.TheVariants.{ToEnd, ToOpener}
use Rattle.tape.specs.Token.{end_of}
use Rattle.tape.specs.Shape.{link_of, Opens}
use Rattle.tape.proofs.Shapes.{opens-link, end-link, link-made}

-- ---- an answer that tells
pub told-yes : {P : Type 0} → P → (true ≡ true) ↔ P
told-yes p = (λ e. p, λ q. refl)

pub told-no : {P : Type 0} → (P → ⊥) → (false ≡ true) ↔ P
told-no n = (λ e. absurd (false≢true e), λ p. absurd (n p))

pub told_not : {r : Bool} {P : Type 0} → (r ≡ true) ↔ P → r ≡ false → P → ⊥
told_not t f p = false≢true (sym f ∙ t.1 p)

pub told_through : {r : Bool} {P Q : Type 0} → (r ≡ true) ↔ P → (P → Q) → (Q → P) → (r ≡ true) ↔ Q
told_through t f g = (λ e. f (t.0 e), λ q. t.1 (g q))

pub told-equal : (a b : ℕ) {P : Type 0} → (a ≡ b → P) → (P → a ≡ b) → (eqb a b ≡ true) ↔ P
told-equal a b yes-case back = (λ e. yes-case (eqb-true a b e), λ p. eq-eqb a b (back p))

-- ---- the link that was read is that of the token
pub read_link : {x r l : Option Link} → r ≡ x → r ≡ l → x ≡ l
read_link e f = sym e ∙ f

-- ---- no token names in two ways
pub end_not_none : {l : Option Link} {end : ℕ} → l ≡ Some (ToEnd end) → l ≡ None → ⊥
end_not_none e f = let z : ◌≡◌ {A = ℕ} 0 1 = cc in omega arith

pub opener_not_none : {l : Option Link} {opener : ℕ} → l ≡ Some (ToOpener opener) → l ≡ None → ⊥
opener_not_none e f = let z : ◌≡◌ {A = ℕ} 0 1 = cc in omega arith

pub end_not_opener : {l : Option Link} {end opener : ℕ} → l ≡ Some (ToEnd end) → l ≡ Some (ToOpener opener) → ⊥
end_not_opener e f = let z : ◌≡◌ {A = ℕ} 0 1 = cc in omega arith

pub same_end : {l : Option Link} {a b : ℕ} → l ≡ Some (ToEnd a) → l ≡ Some (ToEnd b) → a ≡ b
same_end e f = cc

pub same-opener : {l : Option Link} {a b : ℕ} → l ≡ Some (ToOpener a) → l ≡ Some (ToOpener b) → a ≡ b
same-opener e f = cc

-- a container has one End
pub one_end : (t : Token) {a b : ℕ} → Opens t a → Opens t b → a ≡ b
one_end t o p = same_end (opens-link t o) (opens-link t p)

-- an End is no opener
pub end-opens_not : (t : Token) {end opener : ℕ} → Opens t end → t ≡ end_of opener → ⊥
end-opens_not t o e = end_not_opener (opens-link t o) (end-link t e)

-- ---- whether an End names an opener back
pub closes_late : (t : Token) (i end : ℕ) → end ≤ i → (false ≡ true) ↔ ((i < end) × (t ≡ end_of i))
closes_late t i end h = told-no (λ p. let (l, e) = p in omega arith)

pub closes_opener : (t : Token) (i end : ℕ) {other : ℕ} → link_of t ≡ Some (ToEnd other) → (false ≡ true) ↔ ((i < end) × (t ≡ end_of i))
closes_opener t i end l = told-no (λ p. end_not_opener l (end-link t p.1))

pub closes_none : (t : Token) (i end : ℕ) → link_of t ≡ None → (false ≡ true) ↔ ((i < end) × (t ≡ end_of i))
closes_none t i end l = told-no (λ p. opener_not_none (end-link t p.1) l)

pub closes_end : (t : Token) (i end opener : ℕ) → i < end → link_of t ≡ Some (ToOpener opener) → (eqb opener i ≡ true) ↔ ((i < end) × (t ≡ end_of i))
closes_end t i end opener h l =
    told-equal opener i
    (λ e. (h, subst (λ (k : ℕ). t ≡ end_of k) e (link-made t l)))
    (λ p. same-opener l (end-link t p.1))

-- ---- whether an opener names an End back
pub opened_late : (t : Token) (i opener : ℕ) → i ≤ opener → (false ≡ true) ↔ ((opener < i) × Opens t i)
opened_late t i opener h = told-no (λ p. let (l, e) = p in omega arith)

pub opened_opener : (t : Token) (i opener end : ℕ) → opener < i → link_of t ≡ Some (ToEnd end) → (eqb end i ≡ true) ↔ ((opener < i) × Opens t i)
opened_opener t i opener end h l =
    told-equal end i
    (λ e. (h, subst (λ (k : ℕ). Opens t k) e (link-made t l)))
    (λ p. same_end l (opens-link t p.1))

pub opened_end : (t : Token) (i opener : ℕ) {other : ℕ} → link_of t ≡ Some (ToOpener other) → (false ≡ true) ↔ ((opener < i) × Opens t i)
opened_end t i opener l = told-no (λ p. end_not_opener (opens-link t p.1) l)

pub opened_none : (t : Token) (i opener : ℕ) → link_of t ≡ None → (false ≡ true) ↔ ((opener < i) × Opens t i)
opened_none t i opener l = told-no (λ p. end_not_none (opens-link t p.1) l)

-- ---- whether a container opens
pub opens_opener : (t : Token) {end : ℕ} → link_of t ≡ Some (ToEnd end) → (true ≡ true) ↔ ((end : ℕ) × Opens t end)
opens_opener t {end} l = told-yes (end, link-made t l)

pub opens_end : (t : Token) {other : ℕ} → link_of t ≡ Some (ToOpener other) → (false ≡ true) ↔ ((end : ℕ) × Opens t end)
opens_end t l = told-no (λ p. end_not_opener (opens-link t p.1) l)

pub opens_none : (t : Token) → link_of t ≡ None → (false ≡ true) ↔ ((end : ℕ) × Opens t end)
opens_none t l = told-no (λ p. end_not_none (opens-link t p.1) l)
