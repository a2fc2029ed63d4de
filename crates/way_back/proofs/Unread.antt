-- Nothing is read past the first count tokens and their views.
-- Assumes nothing.
use Rattle.std.specs.Prelude.{Option, Some, None, Ok, Err}
use mathlib.Core.Path.{◌≡◌, refl, sym, ◌∙◌, ap}
use mathlib.Core.Bool.{Bool, true, false, ◌&&◌}
use mathlib.Core.List.{List, [], ◌∷◌}
use mathlib.Core.Logic.{◌↔◌}
use Prim.Native.Nat.{ℕ, suc, ◌≤◌}
use native.Mathlib.Omega.{arith}
use lib.Dec.{eqb, ltb}
use lib.ListN.{length}
use Rattle.data.specs.Pairs.{pairwise}
use Rattle.data.proofs.Cases.{by_bool}
use Rattle.tape.specs.declared.token.Token.{Token}
use Rattle.tape.specs.declared.token.ScalarKind.{ScalarKind}
use Rattle.tape.specs.Token.{scalar_named}
use Rattle.tape.specs.Words.{words_for, tokens_in, words_of}
use Rattle.tape.proofs.Shapes.{named-code}
use Rattle.tape.proofs.Views.{tokens-length, words-taken}
use Rattle.machine.specs.Finish.{Outcome, outcome}
use Rattle.parse.specs.Parse.{text_limit, parse_of}
use Rattle.sheet.specs.Decided.{Decided}
use Rattle.sheet.specs.Sound.{Views, Sound}
use Rattle.sheet.proofs.Sheets.{one_answer, later_ignored}
use Rattle.std.specs.Prelude.{Result}
use Rattle.writer.specs.declared.Refusal.{Refusal}
use Rattle.put.specs.Parts.{view_of}
use Rattle.alike.specs.Alike.{same_view, same_token, alike, found_alike, comes_back}
use Rattle.data.specs.Reasons.{first_of}
use Rattle.writer.specs.Write.{Left, left, text_of, formed, too_deep, no_room, weigh, read_back, write_of}
use Rattle.way_back.specs.Unread.{SameViews, ViewsAlone, SameRead, SameLeft, WriteIgnores}
use Rattle.way_back.proofs.Same.{Same, same, viewed, alike-none, alike-one}
use Rattle.way_back.proofs.Likeness.{alike-text}

-- ---- a token that views the same bytes in two texts
-- a token whose code names a kind views what its words say
named-views : (x : Token) (kind : ScalarKind) → scalar_named x.code ≡ Some kind → Views x x.a x.b
named-views x kind n = (kind, rw (← named-code x.code kind n) refl)

module _ (text other : List ℕ) where
  -- of one token
  abbrev Seen : Token → Type 0
  Seen x = (offset size : ℕ) → Views x offset size → view_of text offset size ≡ view_of other offset size

  same_seen : (x : Token) → Seen x → Same text other x x
  same_seen x v = go (scalar_named x.code) refl
    where
      go : (n : Option ScalarKind) → scalar_named x.code ≡ n → Same text other x x
      go None n = same n refl
      go (Some kind) n =
          let e = named-views x kind n in
          viewed e.0 x.a x.a x.b e.1 e.1 (v x.a x.b e)

  -- and of a sheet: the tokens over the one text are those over the other
  alike-views : (ts : List Token) → SameViews text other ts → alike text other ts ts ≡ true
  alike-views [] v = alike-none text other
  alike-views (x ∷ xs) v = alike-one text other (same_seen x (v 0)) xs xs (alike-views xs (λ i. v (suc i)))

  -- ---- what a parse left, held to the tokens over either text
  module _ (bytes : List ℕ) where
    token-read : (x y : Token) → Seen x → same_token text bytes x y ≡ same_token other bytes x y
    unfolding same_token same_view
    token-read x y v = go (scalar_named x.code) refl
      where
        go : (n : Option ScalarKind) → scalar_named x.code ≡ n → same_token text bytes x y ≡ same_token other bytes x y
        go None n = rw (same_token, same_token, n)
        go (Some kind) n = rw (same_token, same_token, n, v x.a x.b (named-views x kind n))

    alike_read : (ts us : List Token) → SameViews text other ts → alike text bytes ts us ≡ alike other bytes ts us
    unfolding pairwise
    alike_read [] [] v = refl
    alike_read [] (y ∷ us) v = refl
    alike_read (x ∷ ts) [] v = refl
    alike_read (x ∷ ts) (y ∷ us) v = rw (token-read x y (v 0), alike_read ts us (λ i. v (suc i)))

    back_read : (ts : List Token) (p : Outcome) → SameViews text other ts → comes_back text bytes ts p ≡ comes_back other bytes ts p
    unfolding found_alike
    back_read ts (outcome (Ok p) words) v = ap (λ (t : Bool). eqb p.count (length ts) && t) (alike_read ts (tokens_in words p.count) v)
    back_read ts (outcome (Err r) words) v = refl

-- ---- the answer, and what is left
module _ (text other : List ℕ) (ts : List Token) (v : SameViews text other ts) (room scratch : ℕ) where
  -- the same is written
  one : text_of other ts ≡ text_of text ts
  one = alike-text text other ts ts (alike-views text other ts v)

  -- and what is read back is held to the same
  same_back : (bytes : List ℕ) → read_back text ts room scratch bytes ≡ read_back other ts room scratch bytes
  unfolding read_back
  same_back bytes = rw (read_back, read_back, back_read text other bytes ts (parse_of bytes scratch) v)

  -- so a sound sheet is answered alike, a test at a time
  same-sound : write_of text ts room scratch true ≡ write_of other ts room scratch true
  unfolding write_of weigh first_of
  same-sound =
      by_bool (formed ts)
      (λ f. by_bool (too_deep ts)
      (λ d. rw (f, d))
      (λ d. by_bool (ltb text_limit (length (text_of text ts)))
      (λ l. rw (f, d, one, l))
      (λ l. by_bool (no_room room scratch ts (text_of text ts))
      (λ n. rw (f, d, one, l, n))
      (λ n. rw (f, d, one, l, n)
      (same_back (text_of text ts) ∙ ap (read_back other ts room scratch) (sym one))))))
      (λ f. rw f)

pub views-alone : ViewsAlone
unfolding write_of weigh first_of
views-alone text other ts v room scratch true = same-sound text other ts v room scratch
views-alone text other ts v room scratch false = refl

-- ---- whether the sheet is sound
-- two slices with the same tokens have room for the count together
room-told : (words others : List ℕ) (count : ℕ) → tokens_in words count ≡ tokens_in others count
    → words_for count ≤ length words → words_for count ≤ length others
room-told words others count e h =
    omega (arith, tokens-length words count, tokens-length others count, ap (λ (ts : List Token). length ts) e)

-- and then the same words up to it, and later words are ignored
sound-told : {n : ℕ} {words others : List ℕ} {count : ℕ} → tokens_in words count ≡ tokens_in others count
    → Sound n words count → Sound n others count
sound-told {n} {words} {others} {count} e s =
    let fits = room-told words others count e s.fits in
    later_ignored n words others count fits (sym (words-taken words count s.fits) ∙ ap words_of e ∙ words-taken others count fits) s

-- ---- two calls
-- what the contract tells of one, by what was given and lent, and of what it answers and leaves
abbrev Call : List ℕ → List ℕ → ℕ → ℕ → ℕ → Left → Type 0
Call text words count room scratch = Decided (Sound (length text) words count) (write_of text (tokens_in words count) room scratch)

module _ (text other words others : List ℕ) (count : ℕ) (read : SameRead text other words others count) (room scratch : ℕ) where
  calls_alike : {x y : Left} → Call text words count room scratch x → Call other others count room scratch y → x ≡ y
  calls_alike p q =
      let ts : List Token = tokens_in words count in
      let q' : (q.yes ≡ true) ↔ Sound (length text) words count = (
        λ e. rw read.lengths (sound-told (sym read.tokens) (q.holds.0 e)),
        λ s. q.holds.1 (sound-told read.tokens (rw read.lengths at s)),
      ) in
      p.gives
      ∙ views-alone text other ts read.views room scratch p.yes
      ∙ ap (write_of other ts room scratch) (one_answer p.yes q.yes p.holds q')
      ∙ ap (λ (us : List Token). write_of other us room scratch q.yes) read.tokens
      ∙ sym q.gives

-- an answer, a buffer and a scratch together, and each by itself
parts : {r s : Result ℕ Refusal} {out out' tape tape' : List ℕ} → left r out tape ≡ left s out' tape' → SameLeft r s out out' tape tape'
parts e = record { answers = cc; buffers = cc; scratches = cc }

pub write_ignores : WriteIgnores
write_ignores κs args r xs post ls asked s ys post' counts read rooms tapes =
    parts (calls_alike args.0.now asked.0.now args.1.0.now asked.1.0.now args.1.1.0 read
    (length args.1.1.1.0.now) (length args.1.1.1.1.0.now)
    post (rw (counts, rooms, tapes) post'))
