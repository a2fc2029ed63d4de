-- The text of a sound sheet is no longer than the text that its views lie in, with the bytes that each token adds.
-- Assumes nothing.
use mathlib.Core.Path.{◌≡◌, refl, sym, ◌∙◌, ap}
use mathlib.Core.Bool.{Bool, true, false}
use mathlib.Core.List.{List, ◌++◌}
use mathlib.Core.Logic.{inl, inr}
use Prim.Native.Nat.{ℕ, zero, suc, ◌+◌, ◌≤◌, ◌<◌}
use native.Mathlib.Omega.{arith}
use borrow.Author.Tests.{le-ltb}
use lib.Dec.{ltb}
use lib.ListN.{length, drop, length-append}
use Rattle.data.proofs.Cases.{by_bool}
use Rattle.std.specs.Prelude.{Option, Some, None}
use Rattle.operator.specs.declared.Operator.{Operator}
use Rattle.operator.specs.Operators.{numbered}
use Rattle.tape.specs.declared.token.Token.{Token}
use Rattle.tape.specs.declared.token.ScalarKind.TheVariants.{Unquoted, Quoted, Parameter, UndefinedParameter, Header, QuotedEscape}
use Rattle.tape.specs.declared.token.Container.{Container}
use Rattle.tape.specs.declared.shape.Shape as Shape
use Rattle.tape.specs.declared.shape.Link.{Link}
use Rattle.tape.specs.declared.shape.Link.TheVariants.{ToEnd, ToOpener}
use Rattle.tape.specs.Token.{nth, container_of}
use Rattle.tape.specs.Words.{words_for, capacity, tokens_in, padded}
use Rattle.tape.specs.Shape.{shape_of, link_of}
use Rattle.tape.proofs.Shapes.{shape-made}
use Rattle.tape.proofs.Views.{padded-tokens, tokens-counted}
use Rattle.parse.specs.Parse.{text_limit, parse_of}
use Rattle.sheet.specs.Sound.{Views, Sheet, Sound}
use Rattle.sheet.proofs.Scan.{ScalarOr, scalar_or}
use Rattle.sheet.proofs.Tokens.{NotScalar, view_in}
use Rattle.sheet.proofs.Whole.{sheet-standing}
use Rattle.sheet.proofs.Sheets.{padded-sound}
use Rattle.writer.specs.declared.dues.Due.TheVariants.{Entry}
use Rattle.writer.specs.declared.pieces.Piece.{Piece}
use Rattle.writer.specs.declared.pieces.Piece.TheVariants.{Scalar, Heading, Sign, Mixed, Opener, Other}
use Rattle.writer.specs.declared.Refusal.{Refusal}
use Rattle.writer.specs.declared.Refusal.TheVariants.{NotSound, TooDeep, TooLong, NoRoom, ReadsOtherwise, OtherForm}
use Rattle.std.specs.Prelude.{Result, Ok, Err, Option, Some, None}
use Rattle.put.specs.Parts.{view_of}
use Rattle.writer.specs.Pieces.{quote_if, numbered_bytes, sign_bytes, own_bytes, bare_piece, piece_of}
use Rattle.writer.specs.Text.{lead, piece_text}
use Rattle.writer.specs.Scans.{token_size, first_behind, text_size}
use Rattle.writer.specs.Ranges.{Whole}
use Rattle.writer.specs.Refusals.{number}
use Rattle.alike.specs.Alike.{comes_back}
use Rattle.data.specs.Reasons.{first_of}
use Rattle.writer.specs.Write.{text_of, formed, too_deep, weigh, read_back, write_of}
use Rattle.writer.proofs.Sizes.{lead_same, lead_short, symbol-short, quoted-size, view-short}
use Rattle.writer.proofs.Grown.{tokens-on}
use Rattle.writer.proofs.Scanned.{size-told, size_none}
use Rattle.way_back.specs.Accepted.{answer_of}
use Rattle.way_back.specs.Room.{most_added, bytes_for, EnoughRoom, WriteFindsRoom}

-- ---- a token's own bytes
sign-short : (number : ℕ) → length (sign_bytes number) ≤ 2
unfolding sign_bytes
sign-short number = go (numbered number)
  where
    go : (n : Option Operator) → length (numbered_bytes n) ≤ 2
    go (Some operator) = symbol-short operator
    go None = omega arith

scalar-short : (text : List ℕ) (quoted : Bool) (offset size : ℕ) → length (quote_if quoted (view_of text offset size)) ≤ size + 2
scalar-short text true offset size = omega (arith, quoted-size (view_of text offset size), view-short text offset size)
scalar-short text false offset size = omega (arith, view-short text offset size)

-- and the byte before them
led-short : (first sign : Bool) (own : List ℕ) (size : ℕ) → length own ≤ size + 2 → length (lead first Entry sign ++ own) ≤ size + most_added
led-short first sign own size h = omega (arith, length-append (lead first Entry sign) own, lead_same first Entry sign, lead_short first)

-- the bytes that a piece views
abbrev viewed_by : Piece → ℕ
viewed_by (Scalar quoted offset size) = size
viewed_by (Heading offset size) = size
viewed_by (Sign number) = 0
viewed_by Mixed = 0
viewed_by (Opener kind end) = 0
viewed_by Other = 0

piece-short : (text : List ℕ) (first : Bool) (p : Piece) → length (piece_text text first Entry p) ≤ viewed_by p + most_added
unfolding piece_text own_bytes
piece-short text first (Scalar quoted offset size) = led-short first false _ size (scalar-short text quoted offset size)
piece-short text first (Heading offset size) = led-short first false _ size (scalar-short text false offset size)
piece-short text first (Sign number) = led-short first true _ 0 (sign-short number)
piece-short text first Mixed = omega arith
piece-short text first (Opener kind end) = omega arith
piece-short text first Other = omega arith

-- a token by its link: an opening brace with what stands before it, a closing one, or a piece
token-short : (text : List ℕ) (first : Bool) (x : Token) (l : Option Link) → token_size text first x l ≤ viewed_by (piece_of x) + most_added
unfolding token_size
token-short text first x (Some (ToEnd end)) = omega (arith, lead_short first)
token-short text first x (Some (ToOpener opener)) = omega arith
token-short text first x None = piece-short text first (piece_of x)

-- the bytes that a token views, by its shape
abbrev view_size : Option Shape.Shape → ℕ
view_size (Some (Shape.TheVariants.Scalar kind offset size)) = size
view_size (Some (Shape.TheVariants.Opener end)) = 0
view_size (Some Shape.TheVariants.MixedContainer) = 0
view_size (Some (Shape.TheVariants.Operator number)) = 0
view_size (Some (Shape.TheVariants.End opener)) = 0
view_size None = 0

bare-views : (s : Option Shape.Shape) → viewed_by (bare_piece s) ≤ view_size s
bare-views (Some (Shape.TheVariants.Scalar Unquoted offset size)) = omega arith
bare-views (Some (Shape.TheVariants.Scalar Quoted offset size)) = omega arith
bare-views (Some (Shape.TheVariants.Scalar Parameter offset size)) = omega arith
bare-views (Some (Shape.TheVariants.Scalar UndefinedParameter offset size)) = omega arith
bare-views (Some (Shape.TheVariants.Scalar Header offset size)) = omega arith
bare-views (Some (Shape.TheVariants.Scalar QuotedEscape offset size)) = omega arith
bare-views (Some (Shape.TheVariants.Opener end)) = omega arith
bare-views (Some Shape.TheVariants.MixedContainer) = omega arith
bare-views (Some (Shape.TheVariants.Operator number)) = omega arith
bare-views (Some (Shape.TheVariants.End opener)) = omega arith
bare-views None = omega arith

piece-views : (x : Token) → viewed_by (piece_of x) ≤ view_size (shape_of x)
unfolding piece_of
piece-views x = go (container_of x) refl
  where
    go : (c : Option Container) → container_of x ≡ c → viewed_by (piece_of x) ≤ view_size (shape_of x)
    go (Some container) e = rw (piece_of, e) (omega arith)
    go None e = rw (piece_of, e) (bare-views (shape_of x))

-- ---- the views, in order
-- a token that is no scalar views nothing
no-view : (s : Option Shape.Shape) → NotScalar s → view_size s ≡ 0
no-view (Some (Shape.TheVariants.Scalar kind offset size)) n = absurd n
no-view (Some (Shape.TheVariants.Opener end)) n = refl
no-view (Some Shape.TheVariants.MixedContainer) n = refl
no-view (Some (Shape.TheVariants.Operator number)) n = refl
no-view (Some (Shape.TheVariants.End opener)) n = refl
no-view None n = refl

module _ (text : List ℕ) (ts : List Token) (s : Sheet (length text) ts) where
  -- the views from token i on start at a floor or past it
  abbrev From : ℕ → ℕ → Type 0
  From i floor = (j offset size : ℕ) → i ≤ j → Views (nth ts j) offset size → floor ≤ offset

  -- the bytes from token i on: its own, which are no more than its view's and what is added, and those behind it
  abbrev behind : ℕ → Bool → ℕ
  behind i first = text_size text (drop (i + 1) ts) (first_behind first (nth ts i) (link_of (nth ts i)))

  one_token : (i : ℕ) (first : Bool) → i < length ts
      → text_size text (drop i ts) first ≤ view_size (shape_of (nth ts i)) + most_added + behind i first
  unfolding text_size
  one_token i first h =
      let x : Token = nth ts i in
      let more : text_size text (drop i ts) first ≡ token_size text first x (link_of x) + behind i first = rw (tokens-on ts i h) in
      omega (arith, more, token-short text first x (link_of x), piece-views x)

  -- what is written for the tokens from i on finds room in the text from the floor on, with what each of them adds
  rest-short : (n i floor : ℕ) (first : Bool) → i + n ≡ length ts → floor ≤ length text → From i floor
      → floor + text_size text (drop i ts) first ≤ bytes_for (length text) n
  rest-short zero i floor first e l from = omega (arith, size_none text ts i first (omega arith))
  rest-short (suc n) i floor first e l from =
      go (scalar_or (shape_of (nth ts i)))
      (λ f k v. rest-short n (i + 1) f (first_behind first (nth ts i) (link_of (nth ts i))) (omega arith) k v)
    where
      own : text_size text (drop i ts) first ≤ view_size (shape_of (nth ts i)) + most_added + behind i first
      own = one_token i first (omega arith)

      go : ScalarOr (shape_of (nth ts i)) → ((f : ℕ) → f ≤ length text → From (i + 1) f → f + behind i first ≤ bytes_for (length text) n)
          → floor + text_size text (drop i ts) first ≤ bytes_for (length text) (suc n)
      go (inl (kind, a, m, is)) rest =
          let here : Views (nth ts i) a m = (kind, shape-made (nth ts i) is) in
          let past : From (i + 1) (a + m) =
          λ j b k h v. ((sheet-standing (length text) ts s).spaced j (view_in ts j v) i a m b k (omega arith) here v).1 in
          omega (arith, own, ap view_size is, from i a m (omega arith) here, rest (a + m) (s.within i a m here) past)
      go (inr none) rest = omega (arith, own, no-view (shape_of (nth ts i)) none, rest floor l (λ j b k h v. from j b k (omega arith) v))

-- ---- the whole sheet
pub enough-room : EnoughRoom
enough-room text ts s =
    let words : List ℕ = padded (words_for (length ts)) ts in
    let whole : Whole words (length ts) = record { text_length = length text; sound = padded-sound (length text) _ ts (omega arith) s } in
    let told : text_size text ts true ≡ length (text_of text ts) = rw (padded-tokens (words_for (length ts)) ts) at (size-told whole text) in
    omega (arith, told, rest-short text ts s (length ts) 0 0 true (omega arith) (omega arith) (λ j b k h v. omega arith))

-- ---- what is answered
-- no other refusal is 44, and no length
apart : (r : Refusal) → (number r ≡ 44 → ⊥) → ◌≡◌ {A = Result ℕ Refusal} (Err r) (Err NoRoom) → ⊥
apart r n e = let same : r ≡ NoRoom = cc in n (ap number same)

length-apart : (size : ℕ) → ◌≡◌ {A = Result ℕ Refusal} (Ok size) (Err NoRoom) → ⊥
length-apart size e = let z : ◌≡◌ {A = ℕ} 0 1 = cc in omega arith

module _ (text : List ℕ) (ts : List Token) (room scratch : ℕ) where
  -- a sheet that is not sound is refused by 41
  unsound-apart : answer_of (write_of text ts room scratch false) ≡ Err NoRoom → ⊥
  unfolding write_of weigh first_of
  unsound-apart e = apart NotSound (omega arith) e

  -- and a sound one for which there is room, by its form, its depth, its length or what it reads back as
  sound-apart : length (text_of text ts) ≤ room → length ts ≤ capacity scratch
      → answer_of (write_of text ts room scratch true) ≡ Err NoRoom → ⊥
  unfolding write_of weigh first_of read_back
  sound-apart fits tape e =
      let b = le-ltb room (length (text_of text ts)) fits in
      let t = le-ltb (capacity scratch) (length ts) tape in
      by_bool (formed ts)
      (λ f. by_bool (too_deep ts)
      (λ d. apart TooDeep (omega arith) (rw (f, d) at e))
      (λ d. by_bool (ltb text_limit (length (text_of text ts)))
      (λ l. apart TooLong (omega arith) (rw (f, d, l) at e))
      (λ l. by_bool (comes_back text (text_of text ts) ts (parse_of (text_of text ts) scratch))
      (λ c. length-apart _ (rw (f, d, l, b, t, read_back, c) at e))
      (λ c. apart ReadsOtherwise (omega arith) (rw (f, d, l, b, t, read_back, c) at e)))))
      (λ f. apart OtherForm (omega arith) (rw f at e))

pub write_finds_room : WriteFindsRoom
write_finds_room κs args r xs post fits tape e =
    let text : List ℕ = args.0.now in
    let words : List ℕ = args.1.0.now in
    let count : ℕ = args.1.1.0 in
    let ts : List Token = tokens_in words count in
    let room : ℕ = length args.1.1.1.0.now in
    let scratch : ℕ = length args.1.1.1.1.0.now in
    by_bool post.yes
    (λ y.
    let s : Sound (length text) words count = post.holds.0 y in
    let counted : length ts ≡ count = tokens-counted words count s.fits in
    let enough = enough-room text ts s.tokens in
    let told : r ≡ answer_of (write_of text ts room scratch true) = ap answer_of (post.gives ∙ ap (write_of text ts room scratch) y) in
    sound-apart text ts room scratch (omega (arith, counted, enough, fits)) (omega (arith, counted, tape)) (sym told ∙ e))
    (λ n.
    let told : r ≡ answer_of (write_of text ts room scratch false) = ap answer_of (post.gives ∙ ap (write_of text ts room scratch) n) in
    unsound-apart text ts room scratch (sym told ∙ e))
