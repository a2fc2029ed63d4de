-- What is said of a sheet before it is written, and what the file's parts come to, put one behind the other.
-- Assumes nothing.
use mathlib.Core.Path.{◌≡◌, sym, ◌∙◌, ap}
use mathlib.Core.Bool.{Bool, true, false, not}
use mathlib.Core.List.{List, ◌∷◌, ◌++◌}
use mathlib.Core.Logic.{◌↔◌}
use Prim.Native.Nat.{ℕ, ◌+◌, ◌-◌, ◌/◌, ◌≤◌, ◌<◌}
use native.Mathlib.Omega.{arith}
use borrow.Author.Tests.{lt-ltb, le-ltb, ltb-true, ltb-false}
use lib.Dec.{ltb}
use lib.ListN.{length, take, drop, length-append}
use lib.Seq.{sets, sets-eq, length-sets, take-append_seam}
use Rattle.data.specs.Reasons.{Reason, if_so, first_of}
use Rattle.data.proofs.Cases.{by_bool, neither}
use Rattle.data.proofs.Reasons.{first-here, first-later, first-none}
use Rattle.tape.specs.declared.token.Token.{Token}
use Rattle.tape.specs.Words.{tokens_in}
use Rattle.tape.proofs.Views.{tokens-counted}
use Rattle.put.specs.Append.{zeroed}
use Rattle.sheet.specs.Decided.{Decided}
use Rattle.sheet.specs.Sound.{Sound}
use Rattle.packed.specs.declared.numbers.Width.{Width}
use Rattle.packed.specs.Numbers.{width_of, greatest, spelled, store}
use Rattle.packed.specs.Packed.{bytes_per_token, packed}
use Rattle.packed.proofs.Spelling.{spelled-length, store-there, sets_more}
use Rattle.packed.proofs.Packing.{packed-length}
use Rattle.file.specs.declared.layout.Version.{Version}
use Rattle.file.specs.declared.Refusal.{Refusal}
use Rattle.file.specs.declared.Refusal.TheVariants.{NotSound, NoRoom, TooLarge}
use Rattle.std.specs.Prelude.{Result, Ok}
use Rattle.file.specs.Layout.{version_number, total_field, version_field, text_field, count_field, version_at}
use Rattle.file.specs.Layout.{text_at, count_at, head_size, file_size, total_of, head_of, file_of}
use Rattle.file.specs.Files.{Left, left, zeros, too_large, refuse_write, accept_write, write_of}

-- ---- 35
module _ (v : Version) (text_length count : ℕ) where
  pub text-too_large : {n : ℕ} → n ≡ greatest (width_of (text_field v)) → n < text_length → true ≡ too_large v text_length count
  text-too_large e h = rw (lt-ltb (greatest (width_of (text_field v))) text_length (omega (arith, e)))

  -- the tokens that the field for the total leaves room for
  pub total-told : {n most head : ℕ} → n ≡ greatest (width_of (text_field v)) → text_length ≤ n
      → most ≡ greatest (width_of total_field) → head ≡ head_size v → head ≤ most
      → ltb ((most - head) / bytes_per_token) count ≡ too_large v text_length count
  total-told {n} {most} {head} e h f g fits =
      let text : ltb (greatest (width_of (text_field v))) text_length ≡ false = le-ltb (greatest (width_of (text_field v))) text_length (omega (arith, e)) in
      rw text
      (by_bool (ltb ((most - head) / bytes_per_token) count)
      (λ t.
      let over : (most - head) / bytes_per_token < count = ltb-true ((most - head) / bytes_per_token) count t in
      t ∙ sym (lt-ltb (greatest (width_of total_field)) (file_size v count) (omega arith)))
      (λ t.
      let fit : count ≤ (most - head) / bytes_per_token = ltb-false ((most - head) / bytes_per_token) count t in
      t ∙ sym (le-ltb (greatest (width_of total_field)) (file_size v count) (omega arith))))

  -- what is not too large fits its field
  halves : too_large v text_length count ≡ false
      → (ltb (greatest (width_of (text_field v))) text_length ≡ false) × (ltb (greatest (width_of total_field)) (file_size v count) ≡ false)
  halves e = neither (ltb (greatest (width_of (text_field v))) text_length) (ltb (greatest (width_of total_field)) (file_size v count)) e

  pub small-text : too_large v text_length count ≡ false → text_length ≤ greatest (width_of (text_field v))
  small-text e = ltb-false (greatest (width_of (text_field v))) text_length (halves e).0

  pub small-total : too_large v text_length count ≡ false → file_size v count ≤ greatest (width_of total_field)
  small-total e = ltb-false (greatest (width_of total_field)) (file_size v count) (halves e).1

-- ---- the file, part by part
-- bytes stored behind others, where they find room
store-next : (out : List ℕ) (place : ℕ) (xs ys : List ℕ) {mid after : List ℕ} → length xs ≡ place → length xs + length ys ≤ length out
    → mid ≡ sets out 0 xs → after ≡ store mid place ys → after ≡ sets out 0 (xs ++ ys)
store-next out place xs ys {mid} e h f g =
    let size : length (sets out 0 xs) ≡ length out = length-sets out 0 xs in
    let at : place ≡ 0 + length xs = omega arith in
    g ∙ ap (λ (k : ℕ). store mid k ys) at ∙ ap (λ (x : List ℕ). store x (0 + length xs) ys) f
    ∙ sym (store-there (sets out 0 xs) (0 + length xs) ys (omega (arith, size)))
    ∙ sets_more out 0 xs ys

module _ (v : Version) (text_length count : ℕ) where
  abbrev total_part : List ℕ
  total_part = spelled (width_of total_field) (total_of v count)

  abbrev version_part : List ℕ
  version_part = spelled (width_of version_field) (version_number v)

  abbrev text_part : List ℕ
  text_part = spelled (width_of (text_field v)) text_length

  abbrev count_part : List ℕ
  count_part = spelled (width_of count_field) count

  -- the head to the end of each field
  to-version : length (total_part ++ version_part) ≡ text_at
  to-version =
      length-append total_part version_part
      ∙ omega (arith, spelled-length (width_of total_field) (total_of v count), spelled-length (width_of version_field) (version_number v))

  to-text : length (total_part ++ version_part ++ text_part) ≡ count_at v
  to-text = length-append (total_part ++ version_part) text_part ∙ omega (arith, to-version, spelled-length (width_of (text_field v)) text_length)

  to-count : length (total_part ++ version_part ++ text_part ++ count_part) ≡ head_size v
  to-count = length-append (total_part ++ version_part ++ text_part) count_part ∙ omega (arith, to-text, spelled-length (width_of count_field) count)

  pub head_length : length (head_of v text_length count) ≡ head_size v
  unfolding head_of
  head_length = to-count

pub file-length : (v : Version) (text_length : ℕ) (ts : List Token) → length (file_of v text_length ts) ≡ file_size v (length ts)
unfolding file_of
file-length v text_length ts =
    length-append (head_of v text_length (length ts)) (packed ts)
    ∙ omega (arith, head_length v text_length (length ts), packed-length ts)

-- the four fields, stored one behind the other
pub head_put : (v : Version) (text_length count : ℕ) (out : List ℕ) {size number place : ℕ} {width : Width} {one two three four : List ℕ}
    → head_size v ≤ length out
    → size ≡ total_of v count → one ≡ store out 0 (spelled (width_of total_field) size)
    → number ≡ version_number v → two ≡ store one version_at (spelled (width_of version_field) number)
    → width ≡ text_field v → three ≡ store two text_at (spelled (width_of width) text_length)
    → place ≡ count_at v → four ≡ store three place (spelled (width_of count_field) count)
    → four ≡ sets out 0 (head_of v text_length count)
unfolding head_of
head_put v text_length count out {one = one} {two = two} {three = three} {four = four} room whole e named f wide g placed h =
    let total : List ℕ = total_part v text_length count in
    let version : List ℕ = version_part v text_length count in
    let text : List ℕ = text_part v text_length count in
    let counted : List ℕ = count_part v text_length count in
    let long : length total ≡ version_at = spelled-length (width_of total_field) (total_of v count) in
    let first : one ≡ sets out 0 total =
    e ∙ ap (λ (k : ℕ). store out 0 (spelled (width_of total_field) k)) whole ∙ sym (store-there out 0 total (omega (arith, long, room))) in
    let second : two ≡ sets out 0 (total ++ version) =
    store-next out version_at total version long (omega (arith, long, spelled-length (width_of version_field) (version_number v), room)) first
    (f ∙ ap (λ (k : ℕ). store one version_at (spelled (width_of version_field) k)) named) in
    let third : three ≡ sets out 0 (total ++ version ++ text) =
    store-next out text_at (total ++ version) text (to-version v text_length count)
    (omega (arith, to-version v text_length count, spelled-length (width_of (text_field v)) text_length, room)) second
    (g ∙ ap (λ (w : Width). store two text_at (spelled (width_of w) text_length)) wide) in
    store-next out (count_at v) (total ++ version ++ text) counted (to-text v text_length count)
    (omega (arith, to-text v text_length count, spelled-length (width_of count_field) count, room)) third
    (h ∙ ap (λ (k : ℕ). store three k (spelled (width_of count_field) count)) placed)

-- and the tokens behind them
module _ (v : Version) (text_length : ℕ) (ts : List Token) (out : List ℕ) (room : file_size v (length ts) ≤ length out)
    {size count : ℕ} (whole : size ≡ file_size v count) (counted : length ts ≡ count) where
  pub file-put : {head : ℕ} {first second : List ℕ} → first ≡ sets out 0 (head_of v text_length count) → head ≡ head_size v
      → second ≡ store first head (packed ts) → second ≡ sets out 0 (file_of v text_length ts)
  unfolding file_of
  file-put {first = first} e headed f =
      store-next out (head_size v) (head_of v text_length (length ts)) (packed ts) (head_length v text_length (length ts))
      (omega (arith, head_length v text_length (length ts), packed-length ts, room))
      (e ∙ ap (λ (k : ℕ). sets out 0 (head_of v text_length k)) (sym counted))
      (f ∙ ap (λ (k : ℕ). store first k (packed ts)) headed)

  -- and zeros behind them
  pub file-left : {after cleared : List ℕ} → after ≡ sets out 0 (file_of v text_length ts) → cleared ≡ zeroed after size
      → left (Ok size) cleared ≡ accept_write (length out) (file_of v text_length ts)
  file-left {after} {cleared} e f =
      let file : List ℕ = file_of v text_length ts in
      let long : length file ≡ file_size v (length ts) = file-length v text_length ts in
      let sized : size ≡ length file = whole ∙ ap (file_size v) (sym counted) ∙ sym long in
      let laid : after ≡ file ++ drop (0 + length file) out = e ∙ sets-eq file out 0 (omega (arith, long, room)) in
      let same : length after ≡ length out = ap length e ∙ length-sets out 0 file in
      let left_over : cleared ≡ file ++ zeros (length out - length file) =
      f ∙ ap (λ (k : ℕ). zeroed after k) sized ∙ ap (λ (k : ℕ). take (length file) after ++ zeros (k - length file)) same
      ∙ ap (λ (x : List ℕ). take (length file) x ++ zeros (length out - length file)) laid
      ∙ ap (λ (x : List ℕ). x ++ zeros (length out - length file)) (take-append_seam file (drop (0 + length file) out)) in
      rw (sized, left_over)

-- ---- the whole answer
module _ (v : Version) (text_length : ℕ) (words : List ℕ) (count room : ℕ) {sound : Bool}
    (told : (sound ≡ true) ↔ Sound text_length words count) where
  abbrev ts : List Token
  ts = tokens_in words count

  settle : {given : Left (Result ℕ Refusal)} → given ≡ write_of v text_length ts room sound
      → Decided (Sound text_length words count) (write_of v text_length ts room) given
  settle e = record { yes = sound; holds = told; gives = e }

  pub write-unsound : {given : Left (Result ℕ Refusal)} → sound ≡ false → given ≡ refuse_write room NotSound
      → Decided (Sound text_length words count) (write_of v text_length ts room) given
  unfolding write_of
  write-unsound e f = settle (f ∙ sym (first-here (refuse_write room) _ _ _ (ap not e)))

  module _ (yes : sound ≡ true) where
    pub sound-counted : length ts ≡ count
    sound-counted = tokens-counted words count (told.0 yes).fits

    module _ {large : Bool} (measured : large ≡ too_large v text_length count) where
      large_told : large ≡ too_large v text_length (length ts)
      large_told = measured ∙ ap (too_large v text_length) (sym sound-counted)

      pub write_large : {given : Left (Result ℕ Refusal)} → large ≡ true → given ≡ refuse_write room TooLarge
          → Decided (Sound text_length words count) (write_of v text_length ts room) given
      unfolding write_of
      write_large e f =
          settle (f ∙ sym (first-later (refuse_write room) _ _ _ (ap not yes) ∙ first-here (refuse_write room) _ _ _ (sym large_told ∙ e)))

      module _ (small : large ≡ false) where
        later : (accept : Left (Result ℕ Refusal)) (rest : List (Reason Refusal))
            → first_of (refuse_write room) accept (if_so (not sound) NotSound ∷ if_so (too_large v text_length (length ts)) TooLarge ∷ rest)
            ≡ first_of (refuse_write room) accept rest
        later accept rest = first-later (refuse_write room) _ _ _ (ap not yes) ∙ first-later (refuse_write room) _ _ _ (sym large_told ∙ small)

        pub write-no_room : {size : ℕ} {given : Left (Result ℕ Refusal)} → size ≡ file_size v count → room < size → given ≡ refuse_write room NoRoom
            → Decided (Sound text_length words count) (write_of v text_length ts room) given
        unfolding write_of
        write-no_room e h f =
            settle (f ∙ sym (later _ _ ∙ first-here (refuse_write room) _ _ _
            (lt-ltb room (file_size v (length ts)) (omega (arith, h, e, sound-counted)))))

        pub write-fits : {size : ℕ} {given : Left (Result ℕ Refusal)} → size ≡ file_size v count → size ≤ room
            → given ≡ accept_write room (file_of v text_length ts)
            → Decided (Sound text_length words count) (write_of v text_length ts room) given
        unfolding write_of
        write-fits e h f =
            settle (f ∙ sym (later _ _ ∙ first-later (refuse_write room) _ _ _
            (le-ltb room (file_size v (length ts)) (omega (arith, h, e, sound-counted))) ∙ first-none (refuse_write room) _))
