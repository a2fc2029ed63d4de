-- What the tokens of a file are, once its fields are known, and what is answered for them.
-- Assumes nothing.
use mathlib.Core.Path.{◌≡◌, sym, ◌∙◌, ap, subst}
use mathlib.Core.Bool.{Bool, true, false, not}
use mathlib.Core.List.{List}
use mathlib.Core.Logic.{◌↔◌}
use Prim.Native.Nat.{ℕ, ◌-◌, ◌≤◌, ◌<◌}
use native.Mathlib.Omega.{arith}
use borrow.Author.Tests.{lt-ltb, le-ltb, leb-true, leb-false}
use lib.Dec.{leb}
use lib.ListN.{length, take, drop, length-drop}
use lib.Seq.{take_all}
use Rattle.data.proofs.Reasons.{first-here, first-later, first-none}
use Rattle.tape.specs.Words.{words_for, greatest_word, room_of, tokens_in, padded}
use Rattle.tape.proofs.Views.{words-length}
use Rattle.sheet.specs.Decided.{Decided}
use Rattle.sheet.specs.Sound.{Sheet, Sound}
use Rattle.sheet.specs.Onto.{laid_onto}
use Rattle.sheet.proofs.Onto.{left-unsound, left-no_room, left_laid}
use Rattle.sheet.proofs.Decisions.{decided_as}
use Rattle.packed.specs.Packed.{unpacked, words_packed}
use Rattle.packed.proofs.Packing.{unpacked-length, words_hold}
use Rattle.file.specs.declared.layout.Version.{Version}
use Rattle.file.specs.declared.Refusal.{Refusal}
use Rattle.file.specs.declared.Refusal.TheVariants.{NotSound, NoRoom}
use Rattle.file.specs.declared.Found.{Found}
use Rattle.file.specs.Layout.{head_size, file_size}
use Rattle.file.specs.declared.layout.Head.{Head}
use Rattle.std.specs.Prelude.{Result, Ok, Err}
use Rattle.file.specs.Open.{tokens_of, open_file}
use Rattle.file.specs.Files.{zeros, Left, left, found_of, refuse_read, accept_read, read_of, ReadOpened, ReadsAs, Reads}

-- the tokens that stand in some bytes, as many as are asked for
pub held-tokens : (body : List ℕ) (count : ℕ) → length (unpacked body) ≡ count → tokens_in (words_packed body) count ≡ unpacked body
unfolding words_packed
held-tokens body count e = words_hold (unpacked body) count ∙ take_all count (unpacked body) (omega arith)

-- they are a sound sheet where their words are
pub sound-tokens : (text_length : ℕ) (body : List ℕ) (count : ℕ) → length (unpacked body) ≡ count
    → Sound text_length (words_packed body) count ↔ Sheet text_length (unpacked body)
unfolding words_packed
sound-tokens text_length body count e = (
  λ s. subst (Sheet text_length) (held-tokens body count e) s.tokens,
  λ s. record {
    fits = omega (arith, words-length (unpacked body));
    tokens = subst (Sheet text_length) (sym (held-tokens body count e)) s;
  },
)

-- as many as the file says
pub tokens-counted : (v : Version) (bytes : List ℕ) (count : ℕ) → length bytes ≡ file_size v count → length (tokens_of v bytes) ≡ count
unfolding tokens_of
tokens-counted v bytes count size = unpacked-length (drop (head_size v) bytes) ∙ omega (arith, length-drop (head_size v) bytes)

module _ (v : Version) (bytes words : List ℕ) (text_length count : ℕ) (size : length bytes ≡ file_size v count) where
  counted : length (tokens_of v bytes) ≡ count
  counted = tokens-counted v bytes count size

  -- a part of a slice to its end
  abbrev rest_from : ℕ → List ℕ
  rest_from from = take (length bytes - from) (drop from bytes)

  rest-taken : (from : ℕ) → rest_from from ≡ drop from bytes
  rest-taken from = take_all (length bytes - from) (drop from bytes) (omega (arith, length-drop from bytes))

  -- the check of what stands behind the fields tells of them, and what it leaves of the words is what is left for them
  module _ {from : ℕ} {body : List ℕ} (e : from ≡ head_size v) (f : body ≡ rest_from from) {sound : Bool}
      (checked : (sound ≡ true) ↔ Sound text_length (words_packed body) count) {after : List ℕ}
      (onto : after ≡ laid_onto sound words (tokens_in (words_packed body) count)) where
    is_body : body ≡ drop (head_size v) bytes
    is_body = f ∙ rest-taken _ ∙ ap (λ (k : ℕ). drop k bytes) e

    told : (sound ≡ true) ↔ Sheet text_length (tokens_of v bytes)
    unfolding tokens_of
    told =
        let tokens = sound-tokens text_length (drop (head_size v) bytes) count counted in
        let there = subst (λ (b : List ℕ). (sound ≡ true) ↔ Sound text_length (words_packed b) count) is_body checked in
        (λ g. tokens.0 (there.0 g), λ g. there.1 (tokens.1 g))

    rest : after ≡ laid_onto sound words (tokens_of v bytes)
    unfolding tokens_of
    rest =
        onto ∙ ap (λ (b : List ℕ). laid_onto sound words (tokens_in (words_packed b) count)) is_body
        ∙ ap (laid_onto sound words) (held-tokens (drop (head_size v) bytes) count counted)

    abbrev room : ℕ
    room = length words

    abbrev Answered : Result Found Refusal → Type 0
    Answered answer = Decided (Sheet text_length (tokens_of v bytes)) (read_of text_length (tokens_of v bytes) room) (left answer after)

    settle : {answer : Result Found Refusal} → left answer after ≡ read_of text_length (tokens_of v bytes) room sound → Answered answer
    settle e = record { yes = sound; holds = told; gives = e }

    pub read-unsound : sound ≡ false → Answered (Err NotSound)
    unfolding read_of
    read-unsound no-sound =
        let zero_left : after ≡ zeros room =
        rest ∙ ap (λ (s : Bool). laid_onto s words (tokens_of v bytes)) no-sound ∙ left-unsound words (tokens_of v bytes) in
        settle (ap (left (Err NotSound)) zero_left ∙ sym (first-here (refuse_read room) _ _ _ (ap not no-sound)))

    module _ (yes-sound : sound ≡ true) {holds : Bool} (held : holds ≡ leb (words_for count) room) where
      pub read-no_room : holds ≡ false → Answered (Err NoRoom)
      unfolding read_of room_of
      read-no_room none =
          let over : room < words_for count = leb-false (words_for count) room (sym held ∙ none) in
          let zero_left : after ≡ zeros room = rest ∙ left-no_room words (tokens_of v bytes) sound (omega (arith, counted)) in
          settle (ap (left (Err NoRoom)) zero_left ∙ sym (first-later (refuse_read room) _ _ _ (ap not yes-sound)
          ∙ first-here (refuse_read room) _ _ _ (lt-ltb room (words_for (length (tokens_of v bytes))) (omega (arith, counted)))))

      pub read_fits : count ≤ greatest_word → holds ≡ true → Answered (Ok (found_of text_length count))
      unfolding read_of room_of
      read_fits most there =
          let fit : words_for count ≤ room = leb-true (words_for count) room (sym held ∙ there) in
          let laid : after ≡ padded room (tokens_of v bytes) =
          rest ∙ ap (λ (s : Bool). laid_onto s words (tokens_of v bytes)) yes-sound
          ∙ left_laid words (tokens_of v bytes) (omega (arith, counted)) in
          let given : left (Ok (found_of text_length count)) after ≡ accept_read room text_length (tokens_of v bytes) = rw (laid, ← counted) in
          settle (given ∙ sym (first-later (refuse_read room) _ _ _ (ap not yes-sound)
          ∙ first-later (refuse_read room) _ _ _ (le-ltb room (words_for (length (tokens_of v bytes))) (omega (arith, counted)))
          ∙ first-none (refuse_read room) _))

-- what is told of an answer is told of what a file is read as
told-opened : {Told : Type 0} (tell : Left (Result Found Refusal) → Told) (bytes : List ℕ) (room : ℕ) (o : Result Head Refusal)
    → {given : Left (Result Found Refusal)} {told : Told} → ReadOpened (λ (answer : Left (Result Found Refusal)). answer) bytes room o given
    → told ≡ tell given → ReadOpened tell bytes room o told
told-opened tell bytes room (Ok head) d e = decided_as (read_of head.text_length (tokens_of head.version bytes) room) tell d e
told-opened tell bytes _ (Err r) d e = e ∙ ap tell d

pub reads-told : {Told : Type 0} (tell : Left (Result Found Refusal) → Told) (bytes : List ℕ) (room : ℕ)
    → {given : Left (Result Found Refusal)} {told : Told} → Reads bytes room given → told ≡ tell given → ReadsAs tell bytes room told
reads-told tell bytes room d e = told-opened tell bytes room (open_file bytes) d e
