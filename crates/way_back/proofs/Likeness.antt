-- Two sheets that are the same tokens are of one form and one depth, and one text is written for them.
-- Assumes nothing.
use Rattle.std.specs.Prelude.{Option, Some, None}
use mathlib.Core.Path.{◌≡◌, refl, sym, ◌∙◌, ap}
use mathlib.Core.Bool.{Bool, true, false, ◌&&◌}
use mathlib.Core.List.{List, ◌++◌}
use Prim.Native.Nat.{ℕ, zero, suc, ◌+◌, ◌-◌, ◌<◌}
use native.Mathlib.Omega.{arith}
use borrow.Author.Tests.{ltb-true, ltb-false}
use lib.Dec.{ltb}
use lib.ListN.{length}
use Rattle.data.proofs.Cases.{by_bool}
use Rattle.tape.specs.declared.token.Token.{Token}
use Rattle.tape.specs.declared.token.ContainerKind.{ContainerKind}
use Rattle.tape.specs.declared.token.ScalarKind.{ScalarKind}
use Rattle.tape.specs.declared.token.ScalarKind.TheVariants.{Unquoted, Quoted, Parameter, UndefinedParameter, Header, QuotedEscape}
use Rattle.tape.specs.declared.token.Container.{Container}
use Rattle.tape.specs.declared.shape.Shape as Shape
use Rattle.tape.specs.Token.{nth, scalar_named, scalar_of, container_of, opened}
use Rattle.tape.specs.Shape.{shape_of}
use Rattle.tape.proofs.Makers.{code-names, scalar-container}
use Rattle.tape.proofs.Shapes.{scalar-shape, shape-made}
use Rattle.writer.specs.declared.dues.Due.{Due}
use Rattle.writer.specs.declared.dues.Due.TheVariants.{Key}
use Rattle.writer.specs.declared.pieces.Piece.{Piece}
use Rattle.writer.specs.declared.pieces.Piece.TheVariants.{Scalar, Heading, Sign, Mixed, Opener, Other}
use Rattle.writer.specs.Forest.{Forest, no_more, leaf, box, forest_in, stretch, forest_of}
use Rattle.put.specs.Parts.{view_of}
use Rattle.writer.specs.Pieces.{scalar_piece, bare_piece, piece_of, own_bytes}
use Rattle.writer.specs.Dues.{due_in, due_after, after_container}
use Rattle.writer.specs.Form.{takes, has_form}
use Rattle.writer.specs.Text.{still_first, piece_text, body_text}
use Rattle.writer.specs.Levels.{levels, most_levels}
use Rattle.alike.specs.Alike.{alike}
use Rattle.writer.specs.Write.{text_of, formed, too_deep}
use Rattle.writer.proofs.Grown.{none_left, takes-leaf, takes-box}
use Rattle.writer.proofs.Walks.{leaf-piece}
use Rattle.way_back.proofs.Same.{Same, same, viewed, alike-length, alike_at}

-- ---- pieces
-- two pieces for which the same is written, and behind which the same is due
pub record Agrees (text other : List ℕ) (p q : Piece) : Type 0 where
  pub written : (first : Bool) (due : Due) → piece_text text first due p ≡ piece_text other first due q
  pub first : (first : Bool) → still_first first p ≡ still_first first q
  pub due : (due : Due) → due_after due p ≡ due_after due q
  pub taken : (due : Due) → takes due p ≡ takes due q

module _ (text other : List ℕ) where
  agree_scalar : (quoted : Bool) (a b n : ℕ) → view_of text a n ≡ view_of other b n → Agrees text other (Scalar quoted a n) (Scalar quoted b n)
  unfolding piece_text own_bytes due_after takes
  agree_scalar quoted a b n v = record { written = λ first due. rw v; first = λ first. refl; due = λ due. refl; taken = λ due. refl }

  agree_heading : (a b n : ℕ) → view_of text a n ≡ view_of other b n → Agrees text other (Heading a n) (Heading b n)
  unfolding piece_text own_bytes due_after takes
  agree_heading a b n v = record { written = λ first due. rw v; first = λ first. refl; due = λ due. refl; taken = λ due. refl }

  agree_sign : (number : ℕ) → Agrees text other (Sign number) (Sign number)
  unfolding piece_text own_bytes
  agree_sign number = record { written = λ first due. refl; first = λ first. refl; due = λ due. refl; taken = λ due. refl }

  agree_mixed : Agrees text other Mixed Mixed
  unfolding piece_text
  agree_mixed = record { written = λ first due. refl; first = λ first. refl; due = λ due. refl; taken = λ due. refl }

  agree_opener : (kind : ContainerKind) (end : ℕ) → Agrees text other (Opener kind end) (Opener kind end)
  unfolding piece_text
  agree_opener kind end = record { written = λ first due. refl; first = λ first. refl; due = λ due. refl; taken = λ due. refl }

  agree_other : Agrees text other Other Other
  unfolding piece_text
  agree_other = record { written = λ first due. refl; first = λ first. refl; due = λ due. refl; taken = λ due. refl }

  -- ---- tokens
  agree_kind : (kind : ScalarKind) (a b n : ℕ) → view_of text a n ≡ view_of other b n
      → Agrees text other (scalar_piece kind a n) (scalar_piece kind b n)
  agree_kind Unquoted a b n v = agree_scalar false a b n v
  agree_kind Quoted a b n v = agree_scalar true a b n v
  agree_kind Parameter a b n v = agree_other
  agree_kind UndefinedParameter a b n v = agree_other
  agree_kind Header a b n v = agree_heading a b n v
  agree_kind QuotedEscape a b n v = agree_scalar true a b n v

  scalar_piece_of : (kind : ScalarKind) (a n : ℕ) → piece_of (scalar_of kind a n) ≡ scalar_piece kind a n
  unfolding piece_of
  scalar_piece_of kind a n = rw (piece_of, scalar-container kind a n, scalar-shape kind a n)

  -- a token that is no scalar, by its shape
  agree_shape : (x : Token) → scalar_named x.code ≡ None → (s : Option Shape.Shape) → shape_of x ≡ s
      → Agrees text other (bare_piece s) (bare_piece s)
  agree_shape x n (Some (Shape.TheVariants.Scalar kind a size)) e =
      let m : x ≡ scalar_of kind a size = shape-made x e in
      let c : scalar_named x.code ≡ Some kind = ap (λ (z : Token). scalar_named z.code) m ∙ code-names kind in
      let z : ◌≡◌ {A = ℕ} 0 1 = cc in absurd (omega arith)
  agree_shape x n (Some (Shape.TheVariants.Operator number)) e = agree_sign number
  agree_shape x n (Some Shape.TheVariants.MixedContainer) e = agree_mixed
  agree_shape x n (Some (Shape.TheVariants.Opener link)) e = agree_other
  agree_shape x n (Some (Shape.TheVariants.End opener)) e = agree_other
  agree_shape x n None e = agree_other

  piece-opened : (x : Token) (kind : ContainerKind) (end : ℕ) (flag : Bool) → container_of x ≡ opened kind end flag → piece_of x ≡ Opener kind end
  unfolding piece_of
  piece-opened x kind end flag e = rw (piece_of, e)

  agree_bare : (x : Token) → scalar_named x.code ≡ None → (c : Option Container) → container_of x ≡ c
      → Agrees text other (piece_of x) (piece_of x)
  agree_bare x n (Some container) e = rw (piece-opened x container.kind container.link container.mixed e) (agree_opener container.kind container.link)
  agree_bare x n None e = rw (leaf-piece x e) (agree_shape x n (shape_of x) refl)

  agree : (x y : Token) → Same text other x y → Agrees text other (piece_of x) (piece_of y)
  agree x y (same n e) = rw (← e) (agree_bare x n (container_of x) refl)
  agree x y (viewed kind a b n p q v) = rw (p, q, scalar_piece_of kind a n, scalar_piece_of kind b n) (agree_kind kind a b n v)

  one-container : (x y : Token) → Same text other x y → container_of y ≡ container_of x
  one-container x y (same n e) = ap container_of (sym e)
  one-container x y (viewed kind a b n p q v) =
      ap container_of q ∙ scalar-container kind b n ∙ sym (ap container_of p ∙ scalar-container kind a n)

-- ---- forests
-- two forests that differ in what their scalars view, each in its text
pub data Like (text other : List ℕ) : Forest → Forest → Type 0 where
  none : Like text other no_more no_more
  leaves : {x y : Token} {f g : Forest} → Agrees text other (piece_of x) (piece_of y) → Like text other f g → Like text other (leaf x f) (leaf y g)
  boxes : {kind : ContainerKind} {flag : Bool} {f g f' g' : Forest} → Like text other f g → Like text other f' g'
      → Like text other (box kind flag f f') (box kind flag g g')

module _ (text other : List ℕ) where
  pub like_text : {f g : Forest} → Like text other f g → (first : Bool) (due : Due) → body_text f text first due ≡ body_text g other first due
  unfolding body_text
  like_text none first due = refl
  like_text (leaves {y = y} {g = g} a l) first due =
      rw (a.written first due, a.first first, a.due due)
      (ap (λ (bytes : List ℕ). piece_text other first due (piece_of y) ++ bytes)
      (like_text l (still_first first (piece_of y)) (due_after due (piece_of y))))
  like_text (boxes {kind} l l') first due =
      rw (like_text l true (due_in kind), like_text l' false (after_container due))

  pub like_form : {f g : Forest} → Like text other f g → (due : Due) → has_form f due ≡ has_form g due
  unfolding has_form
  like_form none due = refl
  like_form (leaves {y = y} a l) due =
      rw (a.taken due, a.due due) (ap (λ (t : Bool). takes due (piece_of y) && t) (like_form l (due_after due (piece_of y))))
  like_form (boxes {kind} l l') due = rw (like_form l (due_in kind), like_form l' (after_container due))

  pub like_levels : {f g : Forest} → Like text other f g → levels f ≡ levels g
  unfolding levels
  like_levels none = refl
  like_levels (leaves a l) = like_levels l
  like_levels (boxes l l') = rw (like_levels l, like_levels l')

  -- ---- sheets
  module _ (ts us : List Token) (h : alike text other ts us ≡ true) where
    one_step : (n i j : ℕ) → i < j → ((i j : ℕ) → Like text other (forest_in n ts i j) (forest_in n us i j))
        → (c : Option Container) → container_of (nth ts i) ≡ c → Like text other (forest_in (suc n) ts i j) (forest_in (suc n) us i j)
    one_step n i j l ih (Some container) c =
        let d = one-container text other (nth ts i) (nth us i) (alike_at text other ts us h i) ∙ c in
        rw (takes-box ts n i j l c, takes-box us n i j l d) (boxes (ih (i + 1) container.link) (ih (container.link + 1) j))
    one_step n i j l ih None c =
        let s = alike_at text other ts us h i in
        let d = one-container text other (nth ts i) (nth us i) s ∙ c in
        rw (takes-leaf ts n i j l c, takes-leaf us n i j l d) (leaves (agree text other (nth ts i) (nth us i) s) (ih (i + 1) j))

    likely : (n i j : ℕ) → Like text other (forest_in n ts i j) (forest_in n us i j)
    unfolding forest_in
    likely zero i j = none
    likely (suc n) i j =
        by_bool (ltb i j)
        (λ t. one_step n i j (ltb-true i j t) (λ k l. likely n k l) (container_of (nth ts i)) refl)
        (λ t. let z = ltb-false i j t in rw (none_left ts n i j z, none_left us n i j z) none)

    pub like_forests : Like text other (forest_of ts) (forest_of us)
    unfolding forest_of stretch
    like_forests = rw (← alike-length text other ts us h) (likely (length ts - 0) 0 (length ts))

    pub alike-text : text_of other us ≡ text_of text ts
    unfolding text_of
    alike-text = sym (like_text like_forests true Key)

    pub alike-formed : formed us ≡ formed ts
    alike-formed = sym (like_form like_forests Key)

    pub alike_deep : too_deep us ≡ too_deep ts
    alike_deep = ap (ltb most_levels) (sym (like_levels like_forests))
