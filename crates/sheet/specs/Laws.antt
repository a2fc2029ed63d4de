-- What follows from when a sheet is sound and from what a view is: document 01's sentences that are laws and no fields.
use Rattle.std.specs.Prelude.{ℕ, ◌≤◌, ◌≡◌, Bool, true, List, ◌↔◌, length, take, Option}
use Rattle.tape.specs.Words.{words_for}
use Rattle.sheet.specs.Sound.{Sound}
use Rattle.sheet.specs.Views.{refusal_of, refusal_place, viewed}
use Rattle.sheet.specs.declared.views.Viewed.{Viewed}

-- Count 0 is sound.
abbrev pub NoneSound : Type 0
NoneSound = (text_length : ℕ) (words : List ℕ) → Sound text_length words 0

-- Later words are ignored: of two sheets with the same words up to the count, both are sound or neither
abbrev pub LaterIgnored : Type 0
LaterIgnored =
    (text_length : ℕ) (words others : List ℕ) (count : ℕ) → words_for count ≤ length others
    → take (words_for count) words ≡ take (words_for count) others → Sound text_length words count → Sound text_length others count

-- whatever answers the contract of `check` allows for them, they are equal
abbrev pub CheckIgnores : Type 0
CheckIgnores =
    (text_length : ℕ) (words others : List ℕ) (count : ℕ) → words_for count ≤ length words → words_for count ≤ length others
    → take (words_for count) words ≡ take (words_for count) others
    → (a b : Bool) → (a ≡ true) ↔ Sound text_length words count → (b ≡ true) ↔ Sound text_length others count → a ≡ b

-- and so are the views of their tokens
abbrev pub ViewIgnores : Type 0
ViewIgnores =
    (text_length : ℕ) (words others : List ℕ) (count i : ℕ) → words_for count ≤ length words → words_for count ≤ length others
    → take (words_for count) words ≡ take (words_for count) others
    → viewed text_length words count i ≡ viewed text_length others count i

-- 12 NoScalar: its place is 0
abbrev pub RefusedPlace : Type 0
RefusedPlace = (r : Option Viewed) → refusal_of r ≡ 12 → refusal_place r ≡ 0
