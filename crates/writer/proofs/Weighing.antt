-- What is said before a byte is written, and what is left when all are: by the tests that lead there.
-- Assumes nothing.
use mathlib.Core.Path.{◌≡◌, sym, ◌∙◌, ap}
use mathlib.Core.Bool.{Bool, true, false, not}
use mathlib.Core.List.{List, ◌∷◌, ◌++◌}
use mathlib.Core.Logic.{◌↔◌}
use Prim.Native.Nat.{ℕ, ◌-◌, ◌≤◌, ◌<◌}
use native.Mathlib.Nat.{zero-add}
use native.Mathlib.Omega.{arith}
use borrow.Author.Tests.{not-false, ltb-false, lt-ltb, le-ltb}
use lib.Dec.{ltb}
use lib.ListN.{length, take, drop, length-append, length-drop}
use lib.Seq.{take-append_seam}
use Rattle.data.specs.Reasons.{Reason, if_so}
use Rattle.data.proofs.Cases.{by_bool, neither}
use Rattle.data.proofs.Reasons.{first-here, first-later, first-none}
use Rattle.put.specs.Append.{Wrote, wrote, place_of, append, zeroed}
use Rattle.put.proofs.Append.{append-fits}
use Rattle.tape.specs.declared.token.Token.{Token}
use Rattle.tape.specs.Words.{capacity, tokens_in}
use Rattle.parse.specs.Parse.{text_limit, parse_of}
use Rattle.sheet.specs.Sound.{Sound}
use Rattle.sheet.specs.Decided.{Decided}
use Rattle.writer.specs.declared.Refusal.{Refusal}
use Rattle.writer.specs.declared.Refusal.TheVariants.{NotSound, TooDeep, TooLong, NoRoom, ReadsOtherwise, OtherForm}
use Rattle.std.specs.Prelude.{Option, Some, None, Result, Ok, Err}
use Rattle.writer.specs.declared.dues.Due.TheVariants.{Key}
use Rattle.writer.specs.Forest.{stretch, forest_of}
use Rattle.writer.specs.Text.{body_text}
use Rattle.alike.specs.Alike.{comes_back}
use Rattle.writer.specs.Scans.{measured}
use Rattle.writer.specs.Ranges.{Whole}
use Rattle.writer.specs.Write.{Left, left, zeros, text_of, formed, too_deep}
use Rattle.writer.specs.Write.{first_there, weigh_text, weigh, read_back, carry_out, write_of}
use Rattle.writer.proofs.Forms.{whole-count}

-- ---- a length that was measured
size_same : {a b : ℕ} → Some a ≡ Some b → a ≡ b
size_same e = cc

over_not : {a : ℕ} → None ≡ Some a → ⊥
over_not e = let z : ◌≡◌ {A = ℕ} 0 1 = cc in omega arith

module _ (n : ℕ) {m : Option ℕ} (told : m ≡ measured n) where
  size-known : {s : ℕ} → m ≡ Some s → (s ≡ n) × (ltb text_limit n ≡ false)
  unfolding measured
  size-known e =
      by_bool (ltb text_limit n)
      (λ t. absurd (over_not (rw (measured, t) at (sym told ∙ e))))
      (λ t. (sym (size_same (rw (measured, t) at (sym told ∙ e))), t))

  over-known : m ≡ None → ltb text_limit n ≡ true
  unfolding measured
  over-known e =
      by_bool (ltb text_limit n)
      (λ t. t)
      (λ t. absurd (over_not (sym (rw (measured, t) at (sym told ∙ e)))))

-- ---- reasons, one after the other
fits_not : {why : Refusal} → ◌≡◌ {A = Result (Unit {0}) Refusal} (Err why) (Ok tt) → ⊥
fits_not e = let z : ◌≡◌ {A = ℕ} 0 1 = cc in omega arith

-- where the text fits, none of them is there
fits-later : (there : Bool) (why : Refusal) (rs : List (Reason Refusal)) → first_there (if_so there why ∷ rs) ≡ Ok tt
    → (there ≡ false) × (first_there rs ≡ Ok tt)
fits-later there why rs e =
    by_bool there
    (λ t. absurd (fits_not (sym (first-here Err (Ok tt) why rs t) ∙ e)))
    (λ t. (t, sym (first-later Err (Ok tt) why rs t) ∙ e))

-- ---- 43 and 44
module _ (room scratch : ℕ) (ts : List Token) (bytes : List ℕ) {m : Option ℕ} (told : m ≡ measured (length bytes)) where
  pub text-over : m ≡ None → Err TooLong ≡ weigh_text room scratch ts bytes
  unfolding weigh_text
  text-over e = sym (first-here Err (Ok tt) _ _ (over-known (length bytes) told e))

  module _ {s : ℕ} (size : m ≡ Some s) where
    pub text-no_room : room < s → Err NoRoom ≡ weigh_text room scratch ts bytes
    unfolding weigh_text
    text-no_room h =
        let known = size-known (length bytes) told size in
        sym (first-later Err (Ok tt) _ _ known.1 ∙ first-here Err (Ok tt) _ _ (rw (lt-ltb room (length bytes) (omega (arith, known.0, h)))))

    module _ (fits : s ≤ room) {count k : ℕ} (counted : length ts ≡ count) (tokens : k ≡ capacity scratch) where
      pub scratch-no_room : k < count → Err NoRoom ≡ weigh_text room scratch ts bytes
      unfolding weigh_text
      scratch-no_room h =
          let known = size-known (length bytes) told size in
          let few : capacity scratch < length ts = omega (arith, counted, tokens, h) in
          sym (first-later Err (Ok tt) _ _ known.1
          ∙ first-here Err (Ok tt) _ _ (rw (le-ltb room (length bytes) (omega (arith, known.0, fits)), lt-ltb (capacity scratch) (length ts) few)))

      pub text-fits : count ≤ k → Ok tt ≡ weigh_text room scratch ts bytes
      unfolding weigh_text
      text-fits h =
          let known = size-known (length bytes) told size in
          let all : length ts ≤ capacity scratch = omega (arith, counted, tokens, h) in
          sym (first-later Err (Ok tt) _ _ known.1
          ∙ first-later Err (Ok tt) _ _ (rw (le-ltb room (length bytes) (omega (arith, known.0, fits)), le-ltb (capacity scratch) (length ts) all))
          ∙ first-none Err (Ok tt))

-- ---- 41, 46, 42, and then the text
module _ (text : List ℕ) (ts : List Token) (room scratch : ℕ) {sound : Bool} where
  pub weigh-unsound : sound ≡ false → Err NotSound ≡ weigh text ts room scratch sound
  unfolding weigh
  weigh-unsound e = sym (first-here Err (Ok tt) _ _ (ap not e))

  module _ (yes : sound ≡ true) {f : Bool} (form : f ≡ formed ts) where
    pub weigh-other : f ≡ false → Err OtherForm ≡ weigh text ts room scratch sound
    unfolding weigh
    weigh-other e = sym (first-later Err (Ok tt) _ _ (ap not yes) ∙ first-here Err (Ok tt) _ _ (ap not (sym form ∙ e)))

    module _ (is : f ≡ true) {d : Bool} (deep : d ≡ too_deep ts) where
      pub weigh_deep : d ≡ true → Err TooDeep ≡ weigh text ts room scratch sound
      unfolding weigh
      weigh_deep e =
          sym (first-later Err (Ok tt) _ _ (ap not yes) ∙ first-later Err (Ok tt) _ _ (ap not (sym form ∙ is))
          ∙ first-here Err (Ok tt) _ _ (sym deep ∙ e))

      pub weigh-on : {r : Result (Unit {0}) Refusal} → d ≡ false → r ≡ weigh_text room scratch ts (text_of text ts) → r ≡ weigh text ts room scratch sound
      unfolding weigh weigh_text
      weigh-on e g =
          g ∙ sym (first-later Err (Ok tt) _ _ (ap not yes) ∙ first-later Err (Ok tt) _ _ (ap not (sym form ∙ is))
          ∙ first-later Err (Ok tt) _ _ (sym deep ∙ e))

-- the words of a sheet that is found sound
pub found-whole : {n count : ℕ} {words : List ℕ} {r : Bool} → (r ≡ true) ↔ Sound n words count → r ≡ true → Whole words count
found-whole {n} told e = record { text_length = n; sound = told.0 e }

-- what fits is sound, and no longer than the buffer
pub fits-known : (text : List ℕ) (ts : List Token) (room scratch : ℕ) (sound : Bool) → weigh text ts room scratch sound ≡ Ok tt
    → (sound ≡ true) × (length (text_of text ts) ≤ room)
unfolding weigh
fits-known text ts room scratch sound e =
    let on = fits-later _ _ _ e in
    let room-there = fits-later _ _ _ (fits-later _ _ _ (fits-later _ _ _ (fits-later _ _ _ on.1).1).1).1 in
    (not-false sound on.0, ltb-false room (length (text_of text ts)) (neither _ _ room-there.0).0)

-- ---- the text of a whole sheet is that of its root's body
pub whole-text : {words : List ℕ} {count : ℕ} → Whole words count → (text : List ℕ)
    → body_text (stretch (tokens_in words count) 0 count) text true Key ≡ text_of text (tokens_in words count)
unfolding text_of forest_of
whole-text {words} {count} w text = ap (λ (n : ℕ). body_text (stretch (tokens_in words count) 0 n) text true Key) (sym (whole-count w))

-- ---- what is written where there is room
abbrev bytes_of : Wrote → List ℕ
bytes_of (wrote at out) = out

module _ (out bytes : List ℕ) (fits : length bytes ≤ length out) {size : ℕ} {o : List ℕ} (put : wrote size o ≡ append out 0 bytes) where
  whole : wrote size o ≡ wrote (length bytes) (bytes ++ drop (length bytes) out)
  whole = put ∙ append-fits out 0 bytes (omega (arith, fits)) ∙ ap (λ (n : ℕ). wrote n (bytes ++ drop n out)) (zero-add (length bytes))

  pub put-size : size ≡ length bytes
  put-size = ap place_of whole

  -- the text, with zeros behind it
  pub put-cleared : {c : List ℕ} → c ≡ zeroed o size → c ≡ bytes ++ zeros (length out - length bytes)
  put-cleared e =
      let rest : List ℕ = drop (length bytes) out in
      let laid : o ≡ bytes ++ rest = ap bytes_of whole in
      let long : length (bytes ++ rest) - length bytes ≡ length out - length bytes =
      omega (arith, length-append bytes rest, length-drop (length bytes) out, fits)
      in
      e ∙ rw (put-size, laid, long, take-append_seam bytes rest)

  pub put_front : {c f : List ℕ} → c ≡ zeroed o size → f ≡ take size c → f ≡ bytes
  put_front e g = g ∙ rw (put-size, put-cleared e) (take-append_seam bytes (zeros (length out - length bytes)))

-- and it reads back, or it does not
module _ (text : List ℕ) (ts : List Token) (room scratch : ℕ) (bytes : List ℕ) {front tape : List ℕ} {r : Bool}
    (is : front ≡ bytes) (told : r ≡ comes_back text front ts (parse_of front scratch)) (clear : tape ≡ zeros scratch) where
  pub reads-back : {size : ℕ} {out : List ℕ} → r ≡ true → size ≡ length bytes → out ≡ bytes ++ zeros (room - length bytes)
      → left (Ok size) out tape ≡ read_back text ts room scratch bytes
  unfolding read_back
  reads-back e f g = rw (f, g, clear, read_back, ap (λ (b : List ℕ). comes_back text b ts (parse_of b scratch)) (sym is) ∙ sym told ∙ e)

  pub reads-otherwise : {out : List ℕ} → r ≡ false → out ≡ zeros room
      → left (Err ReadsOtherwise) out tape ≡ read_back text ts room scratch bytes
  unfolding read_back
  reads-otherwise e g = rw (g, clear, read_back, ap (λ (b : List ℕ). comes_back text b ts (parse_of b scratch)) (sym is) ∙ sym told ∙ e)

-- ---- the whole answer, from what was said before
module _ {Holds : Type 0} (text : List ℕ) (ts : List Token) (room scratch : ℕ) {w : Result (Unit {0}) Refusal} (d : Decided Holds (weigh text ts room scratch) w) where
  pub settled : {l : Left} {is : Result (Unit {0}) Refusal} → w ≡ is → l ≡ carry_out text ts room scratch is → Decided Holds (write_of text ts room scratch) l
  unfolding write_of
  settled told e =
      record { yes = d.yes; holds = d.holds; gives = e ∙ ap (carry_out text ts room scratch) (sym told ∙ d.gives) }

  pub settled-fits : w ≡ Ok tt → Holds × (length (text_of text ts) ≤ room)
  settled-fits told =
      let known = fits-known text ts room scratch d.yes (sym d.gives ∙ told) in
      (d.holds.0 known.0, known.1)
