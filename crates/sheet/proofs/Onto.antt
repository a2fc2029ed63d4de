-- What a check that lays the tokens down asks of its parts, what it answers, and what it leaves of the words.
-- Assumes nothing.
use mathlib.Core.Path.{◌≡◌, refl, sym, ◌∙◌, ap, subst}
use mathlib.Core.Bool.{Bool, true, false}
use mathlib.Core.List.{List, []}
use mathlib.Core.Logic.{◌↔◌}
use Prim.Native.Nat.{ℕ, ◌≤◌, ◌<◌}
use native.Mathlib.Nat.{sub-zero}
use native.Mathlib.Omega.{arith}
use borrow.Author.Tests.{le-leb, lt-leb, leb-true, leb-false}
use lib.Dec.{leb}
use lib.ListN.{length, replicate}
use Rattle.data.proofs.Cases.{by_bool}
use Rattle.packed.specs.Packed.{words_packed, behind}
use Rattle.packed.proofs.Packing.{behind_none}
use Rattle.tape.specs.declared.token.Token.{Token}
use Rattle.tape.specs.Words.{words_for, greatest_word, room_of, tokens_in, words_of, padded, cleared}
use Rattle.tape.proofs.Views.{tokens-counted}
use Rattle.sheet.specs.Sound.{Nested, Sound}
use Rattle.sheet.specs.Steps.{AllStand, Layable}
use Rattle.sheet.specs.Onto.{kept, laid_onto}
use Rattle.sheet.proofs.Tokens.{opener_in}
use Rattle.sheet.proofs.Whole.{standing_linked, check_short, check_fallen, check_nested}
use Rattle.sheet.proofs.Chaining.{Ready}

-- ---- whether there is room
module _ (ws : List ℕ) (n : ℕ) where
  pub room_over : greatest_word < n → false ≡ leb n (room_of ws)
  unfolding room_of
  room_over h = sym (lt-leb n (room_of ws) (omega arith))

  pub room_held : {r : Bool} → n ≤ greatest_word → r ≡ leb (words_for n) (length ws) → r ≡ leb n (room_of ws)
  unfolding room_of
  room_held {r} h e =
      by_bool (leb n (room_of ws))
      (λ t. e ∙ le-leb (words_for n) (length ws) (omega (arith, leb-true n (room_of ws) t)) ∙ sym t)
      (λ t. e ∙ lt-leb (words_for n) (length ws) (omega (arith, leb-false n (room_of ws) t)) ∙ sym t)

  pub room_there : {r : Bool} → r ≡ leb n (room_of ws) → r ≡ true → n ≤ room_of ws
  room_there e t = leb-true n (room_of ws) (sym e ∙ t)

  pub room_most : n ≤ room_of ws → n ≤ greatest_word
  unfolding room_of
  room_most h = omega arith

-- ---- tokens that stand can be laid down
pub standing_layable : (L : ℕ) (ts : List Token) → AllStand L ts → Layable ts
standing_layable L ts s =
    record {
      linked = standing_linked L ts s;
      forms = λ i h. (s.held i h).form;
      top = λ end o. (s.held 0 (opener_in ts 0 o)).top refl end o;
    }

module _ (L : ℕ) (bytes ws : List ℕ) (n : ℕ) where
  -- without words the bytes are read
  from_bytes : (P : List ℕ → Type 0) → P (behind [] bytes) → P (words_packed bytes)
  from_bytes P p = subst P (behind_none bytes) p

  module _ (fits : words_for n ≤ length (behind [] bytes)) (stand : AllStand L (tokens_in (behind [] bytes) n)) where
    there : words_for n ≤ length (words_packed bytes)
    there = from_bytes (λ (bs : List ℕ). words_for n ≤ length bs) fits

    stood : AllStand L (tokens_in (words_packed bytes) n)
    stood = from_bytes (λ (bs : List ℕ). AllStand L (tokens_in bs n)) stand

    pub onto_ready : n ≤ room_of ws → Ready (tokens_in (words_packed bytes) n) (length ws) n
    unfolding room_of
    onto_ready room = (standing_layable L _ stood, tokens-counted (words_packed bytes) n there, omega arith, omega arith)

    pub onto_nested : {r : Bool} → (r ≡ true) ↔ ((i : ℕ) → Nested (tokens_in (words_packed bytes) n) i)
        → (r ≡ true) ↔ Sound L (words_packed bytes) n
    onto_nested t = check_nested L (words_packed bytes) n there stood t

  pub onto_fallen : {r : Bool} → (r ≡ true) ↔ AllStand L (tokens_in (behind [] bytes) n) → r ≡ false → (r ≡ true) ↔ Sound L (words_packed bytes) n
  onto_fallen {r} t f =
      rw f (from_bytes (λ (bs : List ℕ). (false ≡ true) ↔ Sound L bs n) (check_fallen L (behind [] bytes) n t f))

  pub onto_short : {r : Bool} → r ≡ leb (words_for n) (length (behind [] bytes)) → r ≡ false
      → (false ≡ true) ↔ Sound L (words_packed bytes) n
  onto_short e f = from_bytes (λ (bs : List ℕ). (false ≡ true) ↔ Sound L bs n) (check_short L (behind [] bytes) n e f)

-- ---- what is left of the words: they are cleared behind the tokens that are kept
pub onto-left : (sound : Bool) (ws vs : List ℕ) (n : ℕ) (ts : List Token) {after : List ℕ}
    → length vs ≡ length ws → tokens_in vs n ≡ kept sound ws ts → after ≡ cleared vs n → after ≡ laid_onto sound ws ts
unfolding laid_onto cleared
onto-left sound ws vs n ts size tokens e = e ∙ rw (cleared, laid_onto, size, tokens)

-- none where they are not sound
pub onto_unsound : (ws vs : List ℕ) (ts : List Token) {after : List ℕ} → length vs ≡ length ws → after ≡ cleared vs 0
    → after ≡ laid_onto false ws ts
unfolding tokens_in
onto_unsound ws vs ts size e = onto-left false ws vs 0 ts size refl e

module _ (L : ℕ) (bs ws : List ℕ) (n : ℕ) where
  counted : Sound L bs n → length (tokens_in bs n) ≡ n
  counted s = tokens-counted bs n s.fits

  -- none where they find no room
  pub onto_no_room : (sound : Bool) {r : Bool} {after : List ℕ} → r ≡ leb n (room_of ws) → r ≡ false → (sound ≡ true) ↔ Sound L bs n
      → after ≡ cleared ws 0 → after ≡ laid_onto sound ws (tokens_in bs n)
  unfolding tokens_in
  onto_no_room true e f t g =
      let over : leb (length (tokens_in bs n)) (room_of ws) ≡ false =
      ap (λ (k : ℕ). leb k (room_of ws)) (counted (t.0 refl)) ∙ sym e ∙ f in
      onto-left true ws ws 0 (tokens_in bs n) refl (rw (kept, over)) g
  onto_no_room false e f t g = onto_unsound ws ws (tokens_in bs n) refl g

  -- all else
  pub onto_laid : (vs : List ℕ) {after : List ℕ} → n ≤ room_of ws → Sound L bs n → tokens_in vs n ≡ tokens_in bs n → length vs ≡ length ws
      → after ≡ cleared vs n → after ≡ laid_onto true ws (tokens_in bs n)
  onto_laid vs room s tokens size g =
      let fit : leb (length (tokens_in bs n)) (room_of ws) ≡ true = le-leb (length (tokens_in bs n)) (room_of ws) (omega (arith, counted s)) in
      onto-left true ws vs n (tokens_in bs n) size (tokens ∙ rw (kept, fit)) g

-- ---- and what that is
no-tokens : (len : ℕ) → padded len [] ≡ replicate len 0
unfolding padded words_of
no-tokens len = rw (sub-zero len)

module _ (ws : List ℕ) (ts : List Token) where
  pub left-unsound : laid_onto false ws ts ≡ replicate (length ws) 0
  unfolding laid_onto
  left-unsound = no-tokens (length ws)

  pub left-no_room : (sound : Bool) → room_of ws < length ts → laid_onto sound ws ts ≡ replicate (length ws) 0
  unfolding laid_onto
  left-no_room true h = rw (laid_onto, kept, lt-leb (length ts) (room_of ws) h) (no-tokens (length ws))
  left-no_room false h = no-tokens (length ws)

  pub left_laid : length ts ≤ room_of ws → laid_onto true ws ts ≡ padded (length ws) ts
  unfolding laid_onto
  left_laid h = rw (laid_onto, kept, le-leb (length ts) (room_of ws) h)
