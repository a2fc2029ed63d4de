-- What one pass over a sheet's tokens tells of its levels and of its text's length.
-- Assumes nothing.
use mathlib.Core.Path.{◌≡◌, refl, sym, ◌∙◌, ap}
use mathlib.Core.Bool.{Bool, true, false, ◌||◌}
use mathlib.Core.List.{List, [], ◌∷◌, ◌++◌}
use Prim.Native.Nat.{ℕ, zero, suc, ◌+◌, ◌-◌, ◌≤◌, ◌<◌, max}
use native.Mathlib.Nat.{add-zero, zero-add}
use native.Mathlib.Omega.{arith}
use borrow.Author.Tests.{ltb-true, ltb-false, lt-ltb, le-ltb}
use lib.Dec.{ltb}
use lib.ListN.{length, drop, length-append, drop_of_length-le}
use Rattle.data.proofs.Cases.{by_bool}
use Rattle.data.specs.Bytes.{brace_close}
use Rattle.tape.specs.declared.token.Token.{Token}
use Rattle.tape.specs.declared.shape.Link.{Link}
use Rattle.tape.specs.Token.{nth, container_of}
use Rattle.tape.specs.Words.{tokens_in, token_in}
use Rattle.parse.specs.Parse.{text_limit}
use Rattle.tape.specs.Shape.{link_of, linked, Opens}
use Rattle.tape.proofs.Shapes.{opens-link, end-link, mixed_container-shape, scalar-shape, operator-shape}
use Rattle.sheet.specs.Sound.{Form, container, mixed_container, scalar, operator, closing}
use Rattle.std.specs.Prelude.{Option, Some, None}
use Rattle.writer.specs.declared.dues.Due.{Due}
use Rattle.writer.specs.declared.dues.Due.TheVariants.{Entry, Key}
use Rattle.writer.specs.declared.pieces.Piece.{Piece}
use Rattle.writer.specs.declared.pieces.Piece.TheVariants.{Scalar, Heading, Sign, Mixed, Opener, Other}
use Rattle.writer.specs.Forest.{Forest, no_more, leaf, box, stretch, forest_of}
use Rattle.writer.specs.Pieces.{piece_of, own_bytes}
use Rattle.writer.specs.Dues.{due_in, due_after, after_container}
use Rattle.writer.specs.Levels.{levels, most_levels}
use Rattle.writer.specs.Text.{lead, still_first, piece_text, braced, body_text}
use Rattle.writer.specs.Scans.{sunk, sinks, token_size, first_behind, text_size, measured}
use Rattle.writer.specs.Ranges.{Range, Whole}
use Rattle.writer.specs.Write.{text_of, too_deep}
use Rattle.writer.proofs.Grown.{by_token, opens_not, tokens-on, stretch-none, stretch-leaf, stretch-box}
use Rattle.writer.proofs.Sizes.{lead_same}
use Rattle.writer.proofs.Forms.{whole-count, whole-range}

-- ---- links, by what stands there
module _ (ts : List Token) (i j : ℕ) (b : Range ts i j) (h : i < j) where
  -- a token that opens nothing closes nothing either
  pub leaf-link : container_of (nth ts i) ≡ None → link_of (nth ts i) ≡ None
  leaf-link n = go (b.sheet.forms i (omega (arith, b.within)))
    where
      go : Form (nth ts i) → link_of (nth ts i) ≡ None
      go (container e o) = absurd (opens_not (nth ts i) n o)
      go (mixed_container p) = ap link_of p ∙ ap linked mixed_container-shape
      go (scalar a m v) = ap link_of v.1 ∙ ap linked (scalar-shape v.0 a m)
      go (operator k l m p) = ap link_of p ∙ ap linked (operator-shape k l m)
      go (closing o p) = absurd (omega (arith, (b.sheet.opened i o p).0, b.opened i o (omega arith) h p))

-- ---- levels
-- a token that is no link leaves the levels, an opener goes down where it may, and an End up
module _ (ts : List Token) (i : ℕ) (h : i < length ts) (l : ℕ) where
  sinks-leaf : link_of (nth ts i) ≡ None → sinks (drop i ts) l ≡ sinks (drop (i + 1) ts) l
  unfolding sinks sunk
  sinks-leaf e = rw (tokens-on ts i h, sinks, sunk, e)

  sinks-opener : {e : ℕ} → link_of (nth ts i) ≡ Some (Link.ToEnd e) → l < most_levels → sinks (drop i ts) l ≡ sinks (drop (i + 1) ts) (l + 1)
  unfolding sinks sunk
  sinks-opener e f = rw (tokens-on ts i h, sinks, sunk, e, lt-ltb l most_levels f)

  sinks_deep : {e : ℕ} → link_of (nth ts i) ≡ Some (Link.ToEnd e) → most_levels ≤ l → sinks (drop i ts) l ≡ true
  unfolding sinks sunk
  sinks_deep e f = rw (tokens-on ts i h, sinks, sunk, e, le-ltb l most_levels f)

  sinks-end : {o : ℕ} → link_of (nth ts i) ≡ Some (Link.ToOpener o) → sinks (drop i ts) l ≡ sinks (drop (i + 1) ts) (l - 1)
  unfolding sinks sunk
  sinks-end e = rw (tokens-on ts i h, sinks, sunk, e)

-- the deeper of two
deeper : (l a b : ℕ) (c : Bool) → (ltb most_levels (l + 1 + a) || (ltb most_levels (l + b) || c)) ≡ (ltb most_levels (l + max (a + 1) b) || c)
deeper l a b c =
    by_bool (ltb most_levels (l + 1 + a))
    (λ e. let z : most_levels < l + 1 + a = ltb-true most_levels (l + 1 + a) e in rw (e, lt-ltb most_levels (l + max (a + 1) b) (omega arith)))
    (λ e. by_bool (ltb most_levels (l + b))
    (λ f. let z : most_levels < l + b = ltb-true most_levels (l + b) f in rw (e, f, lt-ltb most_levels (l + max (a + 1) b) (omega arith)))
    (λ f.
    let y : l + 1 + a ≤ most_levels = ltb-false most_levels (l + 1 + a) e in
    let z : l + b ≤ most_levels = ltb-false most_levels (l + b) f in
    rw (e, f, le-ltb most_levels (l + max (a + 1) b) (omega arith))))

module _ (ts : List Token) where
  -- a part sinks too deep, or what follows it does
  pub sinks-part : (n i j l : ℕ) → j ≤ i + n → i ≤ j → Range ts i j → l ≤ most_levels
      → sinks (drop i ts) l ≡ (ltb most_levels (l + levels (stretch ts i j)) || sinks (drop j ts) l)
  unfolding levels
  sinks-part zero i j l few up b m =
      let z : j ≡ i = omega arith in
      rw (stretch-none ts i j (omega arith), le-ltb most_levels (l + 0) (omega arith), z)
  sinks-part (suc n) i j l few up b m =
      by_bool (ltb i j)
      (λ t.
      let h : i < j = ltb-true i j t in
      let inside : i < length ts = omega (arith, b.within) in
      by_token ts i j b h
      (λ kind flag e o u v c inner rest.
      let opens : Opens (nth ts i) e = (kind, flag, o) in
      let link = opens-link (nth ts i) opens in
      by_bool (ltb l most_levels)
      (λ s.
      let less = ltb-true l most_levels s in
      let back : l + 1 - 1 ≡ l = omega arith in
      rw (stretch-box ts i j kind e flag b h o)
      (sinks-opener ts i inside l link less
      ∙ sinks-part n (i + 1) e (l + 1) (omega arith) (omega arith) inner (omega arith)
      ∙ ap (λ (x : Bool). ltb most_levels (l + 1 + levels (stretch ts (i + 1) e)) || x)
      (sinks-end ts e (omega (arith, b.within)) (l + 1) (end-link (nth ts e) c)
      ∙ ap (sinks (drop (e + 1) ts)) back
      ∙ sinks-part n (e + 1) j l (omega arith) (omega arith) rest m)
      ∙ deeper l (levels (stretch ts (i + 1) e)) (levels (stretch ts (e + 1) j)) (sinks (drop j ts) l)))
      (λ s.
      let most = ltb-false l most_levels s in
      let a = levels (stretch ts (i + 1) e) in
      let b' = levels (stretch ts (e + 1) j) in
      rw (stretch-box ts i j kind e flag b h o, lt-ltb most_levels (l + max (a + 1) b') (omega arith)) (sinks_deep ts i inside l link most)))
      (λ o rest.
      rw (stretch-leaf ts i j h o)
      (sinks-leaf ts i inside l (leaf-link ts i j b h o) ∙ sinks-part n (i + 1) j l (omega arith) (omega arith) rest m)))
      (λ t.
      let z : j ≡ i = omega (arith, ltb-false i j t) in
      rw (stretch-none ts i j (omega arith), le-ltb most_levels (l + 0) (omega arith), z))

-- ---- bytes
led-same : (first : Bool) (due : Due) (sign : Bool) (own : List ℕ) → length (lead first due sign ++ own) ≡ length (lead first Entry sign ++ own)
led-same first due sign own =
    omega (arith, length-append (lead first due sign) own, length-append (lead first Entry sign) own, lead_same first due sign, lead_same first Entry sign)

-- a piece has as many whatever is due
pub piece-same : (text : List ℕ) (first : Bool) (due : Due) (p : Piece) → length (piece_text text first due p) ≡ length (piece_text text first Entry p)
unfolding piece_text
piece-same text first due (Scalar quoted offset size) = led-same first due false (own_bytes text (Scalar quoted offset size))
piece-same text first due (Heading offset size) = led-same first due false (own_bytes text (Heading offset size))
piece-same text first due (Sign number) = led-same first due true (own_bytes text (Sign number))
piece-same text first due Mixed = refl
piece-same text first due (Opener kind end) = refl
piece-same text first due Other = refl

-- what is the first of its body behind a part
abbrev first_past : Forest → Bool → Bool
first_past no_more first = first
first_past (leaf x rest) first = first_past rest (still_first first (piece_of x))
first_past (box kind flag inner rest) first = first_past rest false

module _ (text : List ℕ) (ts : List Token) (i : ℕ) (h : i < length ts) (first : Bool) where
  size-leaf : link_of (nth ts i) ≡ None
      → text_size text (drop i ts) first
      ≡ length (piece_text text first Entry (piece_of (nth ts i))) + text_size text (drop (i + 1) ts) (still_first first (piece_of (nth ts i)))
  unfolding text_size token_size first_behind
  size-leaf e = rw (tokens-on ts i h, e)

  size-opener : {e : ℕ} → link_of (nth ts i) ≡ Some (Link.ToEnd e)
      → text_size text (drop i ts) first ≡ length (lead first Entry false) + 1 + text_size text (drop (i + 1) ts) true
  unfolding text_size token_size first_behind
  size-opener e = rw (tokens-on ts i h, e)

  size-end : {o : ℕ} → link_of (nth ts i) ≡ Some (Link.ToOpener o) → text_size text (drop i ts) first ≡ 1 + text_size text (drop (i + 1) ts) false
  unfolding text_size token_size first_behind
  size-end e = rw (tokens-on ts i h, e)

-- a container's bytes: those before it, its braces, and what stands in it and behind it
box-size : (led inner rest : List ℕ) → length (led ++ (braced inner ++ rest)) ≡ length led + 1 + (length inner + (1 + length rest))
box-size led inner rest =
    omega (arith, length-append led (braced inner ++ rest), length-append (braced inner) rest, length-append inner (brace_close ∷ []))

module _ (text : List ℕ) (ts : List Token) where
  -- the bytes of a part, and of what follows it
  pub size-part : (n i j : ℕ) (first : Bool) (due : Due) → j ≤ i + n → i ≤ j → Range ts i j
      → text_size text (drop i ts) first
      ≡ length (body_text (stretch ts i j) text first due) + text_size text (drop j ts) (first_past (stretch ts i j) first)
  unfolding body_text
  size-part zero i j first due few up b = let z : j ≡ i = omega arith in rw (stretch-none ts i j (omega arith), z) (omega arith)
  size-part (suc n) i j first due few up b =
      by_bool (ltb i j)
      (λ t.
      let h : i < j = ltb-true i j t in
      let inside : i < length ts = omega (arith, b.within) in
      by_token ts i j b h
      (λ kind flag e o u v c inner rest.
      let opens : Opens (nth ts i) e = (kind, flag, o) in
      let within = body_text (stretch ts (i + 1) e) text true (due_in kind) in
      let then = body_text (stretch ts (e + 1) j) text false (after_container due) in
      let a = size-opener text ts i inside first (opens-link (nth ts i) opens) in
      let d = size-part n (i + 1) e true (due_in kind) (omega arith) (omega arith) inner in
      let f = size-end text ts e (omega (arith, b.within)) (first_past (stretch ts (i + 1) e) true) (end-link (nth ts e) c) in
      let g = size-part n (e + 1) j false (after_container due) (omega arith) (omega arith) rest in
      let whole = box-size (lead first due false) within then in
      let led = lead_same first due false in
      rw (stretch-box ts i j kind e flag b h o) (omega (arith, a, d, f, g, whole, led)))
      (λ o rest.
      let p = piece_of (nth ts i) in
      let a = size-leaf text ts i inside first (leaf-link ts i j b h o) in
      let g = size-part n (i + 1) j (still_first first p) (due_after due p) (omega arith) (omega arith) rest in
      let whole = length-append (piece_text text first due p) (body_text (stretch ts (i + 1) j) text (still_first first p) (due_after due p)) in
      let same = piece-same text first due p in
      rw (stretch-leaf ts i j h o) (omega (arith, a, g, whole, same))))
      (λ t.
      let z : j ≡ i = omega (arith, ltb-false i j t) in
      rw (stretch-none ts i j (omega arith), z) (omega arith))

-- ---- the whole sheet
or_none : (a : Bool) → (a || false) ≡ a
or_none true = refl
or_none false = refl

module _ {words : List ℕ} {count : ℕ} (w : Whole words count) where
  pub deep_told : sinks (tokens_in words count) 0 ≡ too_deep (tokens_in words count)
  unfolding forest_of sinks
  deep_told =
      let ts : List Token = tokens_in words count in
      let none : drop count ts ≡ [] = drop_of_length-le ts {i = count} (omega (arith, whole-count w)) in
      sinks-part ts count 0 count 0 (omega arith) (omega arith) (whole-range w) (omega arith)
      ∙ rw (none, whole-count w, zero-add (levels (stretch ts 0 count))) (or_none _)

  pub size-told : (text : List ℕ) → text_size text (tokens_in words count) true ≡ length (text_of text (tokens_in words count))
  unfolding forest_of text_of text_size
  size-told text =
      let ts : List Token = tokens_in words count in
      let none : drop count ts ≡ [] = drop_of_length-le ts {i = count} (omega (arith, whole-count w)) in
      size-part text ts count 0 count true Key (omega arith) (omega arith) (whole-range w)
      ∙ rw (none, whole-count w) (add-zero _)

to_same : {a b : ℕ} → Some a ≡ Some b → a ≡ b
to_same e = cc

to_not : {a : ℕ} → None ≡ Some a → ⊥
to_not e = let z : ◌≡◌ {A = ℕ} 0 1 = cc in omega arith

-- a step of the pass for levels: it goes on, or what is left sinks too deep
module _ (ts : List Token) (i level : ℕ) (h : i < length ts) {s : Option ℕ} (told : s ≡ sunk level (link_of (nth ts i))) where
  pub sinks_on : {next : ℕ} → s ≡ Some next → sinks (drop i ts) level ≡ sinks (drop (i + 1) ts) next
  unfolding sinks
  sinks_on e = rw (tokens-on ts i h, sinks, sym told ∙ e)

  pub sinks-now : s ≡ None → sinks (drop i ts) level ≡ true
  unfolding sinks
  sinks-now e = rw (tokens-on ts i h, sinks, sym told ∙ e)

pub sunk-within : (level : ℕ) (link : Option Link) {next : ℕ} → level ≤ most_levels → sunk level link ≡ Some next → next ≤ most_levels
unfolding sunk
sunk-within level (Some (Link.ToEnd end)) h e =
    by_bool (ltb level most_levels)
    (λ t. let less = ltb-true level most_levels t in let same : level + 1 ≡ _ = to_same (rw (sunk, t) at e) in omega (arith, less, same))
    (λ t. absurd (to_not (rw (sunk, t) at e)))
sunk-within level (Some (Link.ToOpener opener)) h e = let same : level - 1 ≡ _ = to_same e in omega (arith, h, same)
sunk-within level None h e = let same : level ≡ _ = to_same e in omega (arith, h, same)

-- what a step of either pass has read
pub read-sunk : (words : List ℕ) (count i level : ℕ) {x : Token} {link : Option Link} {s : Option ℕ} → x ≡ token_in words count i → link ≡ link_of x
    → s ≡ sunk level link → s ≡ sunk level (link_of (nth (tokens_in words count) i))
unfolding token_in
read-sunk words count i level e f g = g ∙ ap (sunk level) (f ∙ ap link_of e)

pub size-on : (text words : List ℕ) (count i : ℕ) (first : Bool) {x : Token} {link : Option Link} → i < length (tokens_in words count)
    → x ≡ token_in words count i → link ≡ link_of x
    → text_size text (drop i (tokens_in words count)) first
    ≡ token_size text first x link + text_size text (drop (i + 1) (tokens_in words count)) (first_behind first x link)
unfolding text_size token_in
size-on text words count i first h e f = rw (f, e, tokens-on (tokens_in words count) i h)

-- a size that is over the limit, and one that is not
pub measured-over : (n : ℕ) → text_limit < n → None ≡ measured n
unfolding measured
measured-over n h = rw (measured, lt-ltb text_limit n h)

pub measured-size : (m n : ℕ) → m ≡ n → m ≤ text_limit → Some m ≡ measured n
unfolding measured
measured-size m n e h = ap Some e ∙ rw (measured, le-ltb text_limit n (omega (arith, e, h)))

-- where no token is left, nothing sinks and nothing is written
pub sinks-none : (ts : List Token) (i level : ℕ) → length ts ≤ i → sinks (drop i ts) level ≡ false
unfolding sinks
sinks-none ts i level h = rw (drop_of_length-le ts {i = i} h)

pub size_none : (text : List ℕ) (ts : List Token) (i : ℕ) (first : Bool) → length ts ≤ i → text_size text (drop i ts) first ≡ 0
unfolding text_size
size_none text ts i first h = rw (drop_of_length-le ts {i = i} h)
