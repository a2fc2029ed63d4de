-- A sheet is of the form where the direct tokens of each of its bodies are.
-- Assumes nothing.
use Rattle.std.specs.Prelude.{None}
use mathlib.Core.Path.{◌≡◌, refl, sym, ◌∙◌, ap, subst}
use mathlib.Core.Bool.{Bool, true, false, ◌&&◌, false≢true}
use mathlib.Core.List.{List}
use Prim.Native.Nat.{ℕ, zero, suc, ◌+◌, ◌≤◌, ◌<◌}
use native.Mathlib.Nat.{eq-or-lt_of_le}
use native.Mathlib.Omega.{arith}
use mathlib.Core.Logic.{⊎_elim}
use borrow.Author.Tests.{ltb-true, ltb-false}
use lib.Dec.{ltb}
use lib.ListN.{length}
use Rattle.data.proofs.Cases.{by_bool}
use Rattle.tape.specs.declared.token.Token.{Token}
use Rattle.tape.specs.Token.{nth, container_of, end_of}
use Rattle.tape.specs.Words.{tokens_in}
use Rattle.tape.proofs.Views.{tokens-counted}
use Rattle.tape.proofs.Makers.{scalar-container}
use Rattle.sheet.specs.Sound.{Sheet, Form, container, mixed_container, scalar, operator, closing}
use Rattle.writer.specs.declared.dues.Due.{Due}
use Rattle.writer.specs.declared.dues.Due.TheVariants.{Key}
use Rattle.writer.specs.declared.pieces.Piece.{Piece}
use Rattle.writer.specs.Forest.{Forest, no_more, leaf, box, stretch, forest_of}
use Rattle.writer.specs.Pieces.{piece_of}
use Rattle.writer.specs.Dues.{due_in, due_after, after_container}
use Rattle.writer.specs.Form.{takes, takes_entry, has_form}
use Rattle.writer.specs.Ranges.{Range, Whole, Inside, body_form, inside_form}
use Rattle.writer.specs.Write.{formed}
use Rattle.writer.proofs.Grown.{by_token, stretch-none, stretch-leaf, stretch-box, sheet-range, opener-range}
use Rattle.writer.proofs.Grown.{mixed_container-opens_not, operator-opens_not}
use Rattle.writer.proofs.Walks.{opener-piece, leaf-bare, bare-inside, bare-sound}

-- both of two tests hold, or one does not
pub both : {a b : Bool} → a ≡ true → b ≡ true → (a && b) ≡ true
both e f = rw (e, f)

pub first_of : (a b : Bool) → (a && b) ≡ true → a ≡ true
first_of true b e = refl
first_of false b e = absurd (false≢true e)

pub second_of : (a b : Bool) → (a && b) ≡ true → b ≡ true
second_of true b e = e
second_of false b e = absurd (false≢true e)

-- the bodies that open from i up to j are as they should be
abbrev pub Insides : List Token → ℕ → ℕ → Type 0
Insides ts i j = (k : ℕ) → i ≤ k → k < j → inside_form ts (k + 1) (piece_of (nth ts k)) ≡ true

end-opens-none : (opener : ℕ) → container_of (end_of opener) ≡ None
unfolding container_of
end-opens-none opener = refl

-- where nothing opens, nothing is wrong: at a token that is no container, and at an End
leaf-inside : (ts : List Token) (i : ℕ) → container_of (nth ts i) ≡ None → inside_form ts (i + 1) (piece_of (nth ts i)) ≡ true
leaf-inside ts i n = bare-sound (leaf-bare (nth ts i) n) ts (i + 1)

end-inside : (ts : List Token) (e i : ℕ) → nth ts e ≡ end_of i → inside_form ts (e + 1) (piece_of (nth ts e)) ≡ true
end-inside ts e i c = leaf-inside ts e (ap container_of c ∙ end-opens-none i)

module _ (ts : List Token) where
  -- a part whose own tokens and whose bodies are of the form is of the form
  pub form-whole : (n i j : ℕ) → j ≤ i + n → Range ts i j → (due : Due) → Insides ts i j → body_form (stretch ts i j) due ≡ true
      → has_form (stretch ts i j) due ≡ true
  unfolding has_form body_form inside_form
  form-whole zero i j few b due all e = rw (stretch-none ts i j (omega arith)) (rw (stretch-none ts i j (omega arith)) at e)
  form-whole (suc n) i j few b due all e =
      by_bool (ltb i j)
      (λ t.
      let h : i < j = ltb-true i j t in
      by_token ts i j b h
      (λ kind flag x o l m c inner rest.
      let f = rw (stretch-box ts i j kind x flag b h o) at e in
      let here : Bool = takes_entry due in
      let then : Bool = body_form (stretch ts (x + 1) j) (after_container due) in
      let g = rw (opener-piece (nth ts i) kind x flag o) at (all i (omega arith) h) in
      rw (stretch-box ts i j kind x flag b h o)
      (both (first_of here then f)
      (both (form-whole n (i + 1) x (omega arith) inner (due_in kind) (λ k u v. all k (omega arith) (omega arith)) g)
      (form-whole n (x + 1) j (omega arith) rest (after_container due) (λ k u v. all k (omega arith) v) (second_of here then f)))))
      (λ o rest.
      let f = rw (stretch-leaf ts i j h o) at e in
      let here : Bool = takes due (piece_of (nth ts i)) in
      let then : Bool = body_form (stretch ts (i + 1) j) (due_after due (piece_of (nth ts i))) in
      rw (stretch-leaf ts i j h o)
      (both (first_of here then f)
      (form-whole n (i + 1) j (omega arith) rest (due_after due (piece_of (nth ts i))) (λ k u v. all k (omega arith) v) (second_of here then f)))))
      (λ t.
      let h = ltb-false i j t in
      rw (stretch-none ts i j h) (rw (stretch-none ts i j h) at e))

  -- and where a part is of the form, so are its own tokens and its bodies
  pub form_own : (f : Forest) (due : Due) → has_form f due ≡ true → body_form f due ≡ true
  unfolding has_form body_form
  form_own no_more due e = e
  form_own (leaf x rest) due e =
      let here : Bool = takes due (piece_of x) in
      let then : Bool = has_form rest (due_after due (piece_of x)) in
      both (first_of here then e) (form_own rest (due_after due (piece_of x)) (second_of here then e))
  form_own (box kind flag inner rest) due e =
      let here : Bool = takes_entry due in
      let within : Bool = has_form inner (due_in kind) in
      let then : Bool = has_form rest (after_container due) in
      both (first_of here (within && then) e) (form_own rest (after_container due) (second_of within then (second_of here (within && then) e)))

  pub form_insides : (n i j : ℕ) → j ≤ i + n → Range ts i j → (due : Due) → has_form (stretch ts i j) due ≡ true → Insides ts i j
  unfolding has_form inside_form
  form_insides zero i j few b due e k u v = absurd (omega arith)
  form_insides (suc n) i j few b due e k u v =
      by_token ts i j b (omega arith)
      (λ kind flag x o l m c inner rest.
      let f = rw (stretch-box ts i j kind x flag b (omega arith) o) at e in
      let inner-form : Bool = has_form (stretch ts (i + 1) x) (due_in kind) in
      let then : Bool = has_form (stretch ts (x + 1) j) (after_container due) in
      let parts = second_of (takes_entry due) (inner-form && then) f in
      let within = first_of inner-form then parts in
      ⊎_elim
      (λ same.
      subst (λ (z : ℕ). inside_form ts (z + 1) (piece_of (nth ts z)) ≡ true) same
      (rw (opener-piece (nth ts i) kind x flag o) (form_own (stretch ts (i + 1) x) (due_in kind) within)))
      (λ later.
      by_bool (ltb k x)
      (λ t. form_insides n (i + 1) x (omega arith) inner (due_in kind) within k (omega arith) (ltb-true k x t))
      (λ t.
      ⊎_elim
      (λ same. subst (λ (z : ℕ). inside_form ts (z + 1) (piece_of (nth ts z)) ≡ true) same (end-inside ts x i c))
      (λ past. form_insides n (x + 1) j (omega arith) rest (after_container due) (second_of inner-form then parts) k (omega arith) v)
      (eq-or-lt_of_le (ltb-false k x t))))
      (eq-or-lt_of_le u))
      (λ o rest.
      let f = rw (stretch-leaf ts i j (omega arith) o) at e in
      let then : Bool = has_form (stretch ts (i + 1) j) (due_after due (piece_of (nth ts i))) in
      ⊎_elim
      (λ same. subst (λ (z : ℕ). inside_form ts (z + 1) (piece_of (nth ts z)) ≡ true) same (leaf-inside ts i o))
      (λ later. form_insides n (i + 1) j (omega arith) rest (due_after due (piece_of (nth ts i)))
      (second_of (takes due (piece_of (nth ts i))) then f) k (omega arith) v)
      (eq-or-lt_of_le u))

-- ---- the whole sheet
-- the words of a sound sheet hold its tokens, and these can be walked
pub whole-count : {words : List ℕ} {count : ℕ} → Whole words count → length (tokens_in words count) ≡ count
whole-count {words} {count} w = tokens-counted words count w.sound.fits

pub whole-range : {words : List ℕ} {count : ℕ} → Whole words count → Range (tokens_in words count) 0 count
whole-range {words} {count} w = subst (λ (n : ℕ). Range (tokens_in words count) 0 n) (whole-count w) (sheet-range w.sound.tokens)

-- what opens at some place of it, at whatever depth, can be walked
opened_inside : {n : ℕ} (ts : List Token) → Sheet n ts → (i : ℕ) → i < length ts → Inside ts (i + 1) (piece_of (nth ts i))
opened_inside ts s i h = go (s.forms i h)
  where
    bare : container_of (nth ts i) ≡ None → Inside ts (i + 1) (piece_of (nth ts i))
    bare n = bare-inside (leaf-bare (nth ts i) n) ts (i + 1)

    go : Form (nth ts i) → Inside ts (i + 1) (piece_of (nth ts i))
    go (container e o) = rw (opener-piece (nth ts i) o.0 e o.1 o.2) (opener-range s i e o, omega (arith, (s.closed i e o).0))
    go (mixed_container p) = bare (ap container_of p ∙ mixed_container-opens_not)
    go (scalar a m v) = bare (ap container_of v.1 ∙ scalar-container v.0 a m)
    go (operator k l m p) = bare (ap container_of p ∙ operator-opens_not k)
    go (closing o p) = bare (ap container_of p ∙ end-opens-none o)

pub whole-inside : {words : List ℕ} {count : ℕ} → Whole words count → (i : ℕ) (p : Piece) → i < count
    → p ≡ piece_of (nth (tokens_in words count) i)
    → Inside (tokens_in words count) (i + 1) p
whole-inside {words} {count} w i p h e =
    subst (Inside (tokens_in words count) (i + 1)) (sym e) (opened_inside (tokens_in words count) w.sound.tokens i (rw (whole-count w) h))

formed_as : {words : List ℕ} {count : ℕ} → Whole words count → formed (tokens_in words count) ≡ has_form (stretch (tokens_in words count) 0 count) Key
unfolding forest_of
formed_as {words} {count} w = ap (λ (n : ℕ). has_form (stretch (tokens_in words count) 0 n) Key) (whole-count w)

-- the root is not of the form, or a body is not, or all are
module _ {words : List ℕ} {count : ℕ} (w : Whole words count) where
  fails : (formed (tokens_in words count) ≡ true → ⊥) → false ≡ formed (tokens_in words count)
  fails h = by_bool (formed (tokens_in words count)) (λ t. absurd (h t)) (λ t. sym t)

  pub root_wrong : {r : Bool} → r ≡ body_form (stretch (tokens_in words count) 0 count) Key → r ≡ false → false ≡ formed (tokens_in words count)
  root_wrong e f =
      fails (λ t. false≢true (sym (sym e ∙ f)
      ∙ form_own (tokens_in words count) (stretch (tokens_in words count) 0 count) Key (sym (formed_as w) ∙ t)))

  pub inside_wrong : (i : ℕ) (p : Piece) {r : Bool} → i < count → p ≡ piece_of (nth (tokens_in words count) i)
      → r ≡ inside_form (tokens_in words count) (i + 1) p → r ≡ false → false ≡ formed (tokens_in words count)
  inside_wrong i p h is e f =
      fails
      (λ t.
      let all = form_insides (tokens_in words count) count 0 count (omega arith) (whole-range w) Key (sym (formed_as w) ∙ t) in
      let here = all i (omega arith) h in
      false≢true (sym (sym e ∙ f) ∙ ap (inside_form (tokens_in words count) (i + 1)) is ∙ here))

  pub all_right : Insides (tokens_in words count) 0 count → body_form (stretch (tokens_in words count) 0 count) Key ≡ true
      → true ≡ formed (tokens_in words count)
  all_right all e = sym (formed_as w ∙ form-whole (tokens_in words count) count 0 count (omega arith) (whole-range w) Key all e)

-- one body more
pub one_more : (ts : List Token) (i : ℕ) (p : Piece) {r : Bool} → Insides ts 0 i → p ≡ piece_of (nth ts i)
    → r ≡ inside_form ts (i + 1) p → r ≡ true
    → Insides ts 0 (i + 1)
one_more ts i p all is e f k u v =
    by_bool (ltb k i)
    (λ t. all k u (ltb-true k i t))
    (λ t.
    let same : i ≡ k = omega (arith, ltb-false k i t) in
    subst (λ (z : ℕ). inside_form ts (z + 1) (piece_of (nth ts z)) ≡ true) same (ap (inside_form ts (i + 1)) (sym is) ∙ sym e ∙ f))
