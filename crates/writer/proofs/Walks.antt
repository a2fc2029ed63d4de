-- A body taken a direct token at a time: what stands at i, and the rest behind it.
-- Assumes nothing.
use Rattle.std.specs.Prelude.{Some, None, Option}
use mathlib.Core.Path.{◌≡◌, refl, sym, ◌∙◌, ap, subst}
use mathlib.Core.Bool.{Bool, true, false, ◌&&◌}
use mathlib.Core.List.{List, [], ◌++◌, append_assoc, append-nil}
use Prim.Native.Nat.{ℕ, ◌+◌, ◌≤◌, ◌<◌}
use native.Mathlib.Omega.{arith}
use Rattle.tape.specs.declared.token.Token.{Token}
use Rattle.tape.specs.declared.token.ContainerKind.{ContainerKind}
use Rattle.tape.specs.declared.token.ScalarKind.{ScalarKind}
use Rattle.tape.specs.declared.token.ScalarKind.TheVariants.{Unquoted, Quoted, Parameter, UndefinedParameter, Header, QuotedEscape}
use Rattle.tape.specs.declared.shape.Shape as Shape
use Rattle.tape.specs.Token.{nth, container_of, opener_of}
use Rattle.tape.specs.Shape.{shape_of}
use Rattle.tape.specs.Words.{tokens_in, token_in}
use Rattle.tape.proofs.Makers.{opener-container}
use Rattle.writer.specs.declared.dues.Due.{Due}
use Rattle.writer.specs.declared.pieces.Piece.{Piece}
use Rattle.writer.specs.declared.pieces.Piece.TheVariants.{Scalar, Heading, Sign, Mixed, Opener, Other}
use Rattle.writer.specs.Forest.{stretch}
use Rattle.writer.specs.Pieces.{scalar_piece, bare_piece, piece_of}
use Rattle.writer.specs.Dues.{due_in, due_after}
use Rattle.writer.specs.Form.{takes}
use Rattle.writer.specs.Text.{lead, still_first, piece_text, braced, body_text}
use Rattle.writer.specs.Ranges.{Range, behind, body_form, Inside, inside_form, inside_text, token_text}
use Rattle.writer.proofs.Grown.{by_token, stretch-leaf, stretch-box}

-- ---- what a token is to the writer, by whether it opens something
pub opener-piece : (x : Token) (kind : ContainerKind) (e : ℕ) (flag : Bool) → x ≡ opener_of kind e flag → piece_of x ≡ Opener kind e
unfolding piece_of
opener-piece x kind e flag o = rw (piece_of, ap container_of o ∙ opener-container kind e flag)

pub leaf-piece : (x : Token) → container_of x ≡ None → piece_of x ≡ bare_piece (shape_of x)
unfolding piece_of
leaf-piece x n = rw (piece_of, n)

-- a piece that opens nothing
pub data Bare : Piece → Type 0 where
  scalar : (quoted : Bool) (offset size : ℕ) → Bare (Scalar quoted offset size)
  heading : (offset size : ℕ) → Bare (Heading offset size)
  sign : (number : ℕ) → Bare (Sign number)
  mixed : Bare Mixed
  other : Bare Other

scalar-bare : (kind : ScalarKind) (offset size : ℕ) → Bare (scalar_piece kind offset size)
scalar-bare Unquoted offset size = scalar _ offset size
scalar-bare Quoted offset size = scalar _ offset size
scalar-bare QuotedEscape offset size = scalar _ offset size
scalar-bare Header offset size = heading offset size
scalar-bare Parameter offset size = other
scalar-bare UndefinedParameter offset size = other

shape-bare : (s : Option Shape.Shape) → Bare (bare_piece s)
shape-bare (Some (Shape.TheVariants.Scalar kind offset size)) = scalar-bare kind offset size
shape-bare (Some (Shape.TheVariants.Operator number)) = sign number
shape-bare (Some Shape.TheVariants.MixedContainer) = mixed
shape-bare (Some (Shape.TheVariants.Opener link)) = other
shape-bare (Some (Shape.TheVariants.End opener)) = other
shape-bare None = other

pub leaf-bare : (x : Token) → container_of x ≡ None → Bare (piece_of x)
leaf-bare x n = subst Bare (sym (leaf-piece x n)) (shape-bare (shape_of x))

-- it has no inside, and what follows it is next
bare-behind : {p : Piece} → Bare p → (next : ℕ) → behind p next ≡ next
unfolding behind
bare-behind (scalar quoted offset size) next = refl
bare-behind (heading offset size) next = refl
bare-behind (sign number) next = refl
bare-behind mixed next = refl
bare-behind other next = refl

pub bare-inside : {p : Piece} → Bare p → (ts : List Token) (from : ℕ) → Inside ts from p
bare-inside (scalar quoted offset size) ts from = tt
bare-inside (heading offset size) ts from = tt
bare-inside (sign number) ts from = tt
bare-inside mixed ts from = tt
bare-inside other ts from = tt

pub bare-sound : {p : Piece} → Bare p → (ts : List Token) (from : ℕ) → inside_form ts from p ≡ true
unfolding inside_form
bare-sound (scalar quoted offset size) ts from = refl
bare-sound (heading offset size) ts from = refl
bare-sound (sign number) ts from = refl
bare-sound mixed ts from = refl
bare-sound other ts from = refl

pub bare-within : {p : Piece} → Bare p → (text : List ℕ) (ts : List Token) (from : ℕ) (first : Bool) (due : Due)
    → inside_text text ts from first due p ≡ []
unfolding inside_text
bare-within (scalar quoted offset size) text ts from first due = refl
bare-within (heading offset size) text ts from first due = refl
bare-within (sign number) text ts from first due = refl
bare-within mixed text ts from first due = refl
bare-within other text ts from first due = refl

pub bare-text : {p : Piece} → Bare p → (text : List ℕ) (ts : List Token) (from : ℕ) (first : Bool) (due : Due)
    → token_text text ts from first due p ≡ piece_text text first due p
unfolding token_text
bare-text {p} b text ts from first due = rw (token_text, bare-within b text ts from first due) (append-nil (piece_text text first due p))

-- ---- what stands at i of a part of a sheet
module _ (ts : List Token) (i j : ℕ) (b : Range ts i j) (h : i < j) where
  abbrev here : Piece
  here = piece_of (nth ts i)

  abbrev on : ℕ
  on = behind here (i + 1)

  -- the part behind it
  pub range-behind : Range ts on j
  unfolding behind
  range-behind =
      by_token ts i j b h
      (λ kind flag e o l m c inner rest. rw (opener-piece (nth ts i) kind e flag o) rest)
      (λ n rest. rw (bare-behind (leaf-bare (nth ts i) n) (i + 1)) rest)

  -- is shorter
  pub ahead : (i < on) × (on ≤ j)
  unfolding behind
  ahead =
      by_token ts i j b h
      (λ kind flag e o l m c inner rest. rw (opener-piece (nth ts i) kind e flag o) (omega (arith, l), omega (arith, m)))
      (λ n rest. rw (bare-behind (leaf-bare (nth ts i) n) (i + 1)) (omega arith, omega (arith, h)))

  -- and what stands inside can be walked
  pub range_inside : Inside ts (i + 1) here
  range_inside =
      by_token ts i j b h
      (λ kind flag e o l m c inner rest. rw (opener-piece (nth ts i) kind e flag o) (inner, omega (arith, l)))
      (λ n rest. bare-inside (leaf-bare (nth ts i) n) ts (i + 1))

  -- the text: the token's, and that of the rest
  pub text-on : (text : List ℕ) (first : Bool) (due : Due)
      → body_text (stretch ts i j) text first due
      ≡ token_text text ts (i + 1) first due here ++ body_text (stretch ts on j) text (still_first first here) (due_after due here)
  unfolding body_text behind token_text inside_text piece_text due_after
  text-on text first due =
      by_token ts i j b h
      (λ kind flag e o l m c inner rest.
      rw (stretch-box ts i j kind e flag b h o, opener-piece (nth ts i) kind e flag o)
      (sym (append_assoc (lead first due false) (braced (body_text (stretch ts (i + 1) e) text true (due_in kind))) _)))
      (λ n rest.
      let bare = leaf-bare (nth ts i) n in
      rw (stretch-leaf ts i j h n, bare-text bare text ts (i + 1) first due, bare-behind bare (i + 1)))

  -- the form likewise
  pub form-on : (due : Due) → body_form (stretch ts i j) due ≡ (takes due here && body_form (stretch ts on j) (due_after due here))
  unfolding body_form behind takes due_after
  form-on due =
      by_token ts i j b h
      (λ kind flag e o l m c inner rest. rw (stretch-box ts i j kind e flag b h o, opener-piece (nth ts i) kind e flag o))
      (λ n rest. rw (stretch-leaf ts i j h n, bare-behind (leaf-bare (nth ts i) n) (i + 1)))

-- ---- the same by what a step of a walk has in hand: the piece that it read, and where it goes on
pub read-piece : (words : List ℕ) (count i : ℕ) {p : Piece} → p ≡ piece_of (token_in words count i) → p ≡ piece_of (nth (tokens_in words count) i)
unfolding token_in
read-piece words count i e = e

-- a direct token of a part of a sheet that a walk has read: the part from it on, that this is not its end, and what the token is
pub record Met (ts : List Token) (i j : ℕ) (p : Piece) : Type 0 where
  pub range : Range ts i j
  pub early : i < j
  pub piece : p ≡ piece_of (nth ts i)

pub read_met : (words : List ℕ) (count i : ℕ) {j : ℕ} {p : Piece} → Range (tokens_in words count) i j → i < j
    → p ≡ piece_of (token_in words count i) → Met (tokens_in words count) i j p
read_met words count i b h e = record { range = b; early = h; piece = read-piece words count i e }

module _ {ts : List Token} {i j : ℕ} {p : Piece} (met : Met ts i j p) where
  pub step_inside : Inside ts (i + 1) p
  step_inside = subst (Inside ts (i + 1)) (sym met.piece) (range_inside ts i j met.range met.early)

  -- what is due is not there
  pub step_wrong : (due : Due) {t : Bool} → t ≡ takes due p → t ≡ false → false ≡ body_form (stretch ts i j) due
  step_wrong due e f = sym (form-on ts i j met.range met.early due ∙ rw (← met.piece) (rw (sym e ∙ f)))

  module _ (next : ℕ) (goes : next ≡ behind p (i + 1)) where
    there : next ≡ on ts i j met.range met.early
    there = goes ∙ ap (λ (q : Piece). behind q (i + 1)) met.piece

    pub step_range : Range ts next j
    step_range = subst (λ (n : ℕ). Range ts n j) (sym there) (range-behind ts i j met.range met.early)

    pub step_ahead : (i < next) × (next ≤ j)
    step_ahead = rw there (ahead ts i j met.range met.early)

    pub step_form : (due : Due) {t : Bool} {after : Due} → t ≡ takes due p → t ≡ true → after ≡ due_after due p
        → body_form (stretch ts i j) due ≡ body_form (stretch ts next j) after
    step_form due e f g = form-on ts i j met.range met.early due ∙ rw (g, there, ← met.piece) (rw (sym e ∙ f))

    pub step_text : (text : List ℕ) (first : Bool) (due : Due) {still : Bool} {after : Due} → still ≡ still_first first p → after ≡ due_after due p
        → body_text (stretch ts i j) text first due ≡ token_text text ts (i + 1) first due p ++ body_text (stretch ts next j) text still after
    step_text text first due e g = text-on ts i j met.range met.early text first due ∙ rw (e, g, there, met.piece)
