-- What is answered, a test at a time.
-- Assumes nothing.
use mathlib.Core.Path.{◌≡◌, refl, sym, ◌∙◌, ap}
use mathlib.Core.Bool.{Bool, true, false}
use mathlib.Core.List.{List}
use Prim.Native.Nat.{ℕ, ◌≤◌, ◌<◌}
use native.Mathlib.Omega.{arith}
use borrow.Author.Tests.{ltb-false, le-ltb}
use lib.Dec.{ltb}
use lib.ListN.{length}
use Rattle.data.proofs.Cases.{by_bool, neither}
use Rattle.tape.specs.declared.token.Token.{Token}
use Rattle.tape.specs.Words.{capacity}
use Rattle.parse.specs.Parse.{text_limit, parse_of}
use Rattle.writer.specs.declared.Refusal.{Refusal}
use Rattle.writer.specs.declared.Refusal.TheVariants.{NotSound, TooDeep, TooLong, NoRoom, ReadsOtherwise, OtherForm}
use Rattle.std.specs.Prelude.{Result, Ok, Err}
use Rattle.writer.specs.Refusals.{number}
use Rattle.alike.specs.Alike.{comes_back}
use Rattle.data.specs.Reasons.{first_of}
use Rattle.writer.specs.Write.{Left, refuse, text_of, formed, too_deep, no_room, weigh, read_back, write_of}
use Rattle.way_back.specs.Accepted.{Given, Accepted, ReadsBack, answer_of, AnswersLength, Promised}

length-apart : {P : Type 0} (answer : Result ℕ Refusal) (size : ℕ) (r : Refusal) → answer ≡ Ok size → answer ≡ Err r → P
length-apart answer size r e f = let z : ◌≡◌ {A = ℕ} 0 1 = cc in absurd (omega arith)

module _ (text : List ℕ) (ts : List Token) (room scratch : ℕ) where
  abbrev answered : Left
  answered = write_of text ts room scratch true

  -- 46, 42, 43, 44, in that order
  other-form : formed ts ≡ false → answered ≡ refuse room scratch OtherForm
  unfolding write_of weigh first_of
  other-form e = rw e

  module _ (f : formed ts ≡ true) where
    deep : too_deep ts ≡ true → answered ≡ refuse room scratch TooDeep
    unfolding write_of weigh first_of
    deep e = rw (f, e)

    long : too_deep ts ≡ false → ltb text_limit (length (text_of text ts)) ≡ true → answered ≡ refuse room scratch TooLong
    unfolding write_of weigh first_of
    long d e = rw (f, d, e)

    full : too_deep ts ≡ false → ltb text_limit (length (text_of text ts)) ≡ false → no_room room scratch ts (text_of text ts) ≡ true
        → answered ≡ refuse room scratch NoRoom
    unfolding write_of weigh first_of
    full d l e = rw (f, d, l, e)

    -- and else it is read back
    module _ (g : Given text ts room scratch) where
      fits : answered ≡ read_back text ts room scratch (text_of text ts)
      unfolding write_of weigh first_of
      fits =
          let l = le-ltb text_limit (length (text_of text ts)) g.limit in
          let b = le-ltb room (length (text_of text ts)) g.buffer in
          let t = le-ltb (capacity scratch) (length ts) g.tape in
          rw (f, g.depth, l, b, t)

      pub given_accepts : ReadsBack text ts scratch → Accepted text ts room scratch
      unfolding read_back
      given_accepts e = fits ∙ rw (read_back, e)

      given-refuses : comes_back text (text_of text ts) ts (parse_of (text_of text ts) scratch) ≡ false
          → answered ≡ refuse room scratch ReadsOtherwise
      unfolding read_back
      given-refuses e = fits ∙ rw (read_back, e)

  -- ---- by what is answered: a refusal that comes before 45, or else all was given
  by_tests : {P : Type 0} → (formed ts ≡ false → P)
      → (formed ts ≡ true → (r : Refusal) → number r < number ReadsOtherwise → answered ≡ refuse room scratch r → P)
      → (formed ts ≡ true → Given text ts room scratch → P) → P
  by_tests {P} none early given =
      by_bool (formed ts)
      (λ f. by_bool (too_deep ts)
      (λ d. early f TooDeep (omega arith) (deep f d))
      (λ d. by_bool (ltb text_limit (length (text_of text ts)))
      (λ l. early f TooLong (omega arith) (long f d l))
      (λ l. by_bool (no_room room scratch ts (text_of text ts))
      (λ n. early f NoRoom (omega arith) (full f d l n))
      (λ n.
      let r = neither (ltb room (length (text_of text ts))) (ltb (capacity scratch) (length ts)) n in
      given f record {
        depth = d;
        limit = ltb-false _ _ l;
        buffer = ltb-false _ _ r.0;
        tape = ltb-false _ _ r.1;
      }))))
      none

  -- a length is answered where all was given, and the text reads back
  pub record Settled : Type 0 where
    pub form : formed ts ≡ true
    pub given : Given text ts room scratch
    pub back : ReadsBack text ts scratch

  pub settled : AnswersLength answered → Settled
  settled (size, e) =
      by_tests
      (λ f. length-apart _ size OtherForm e (ap answer_of (other-form f)))
      (λ f r n a. length-apart _ size r e (ap answer_of a))
      (λ f g. by_bool (comes_back text (text_of text ts) ts (parse_of (text_of text ts) scratch))
      (λ b. record { form = f; given = g; back = b })
      (λ b. length-apart _ size ReadsOtherwise e (ap answer_of (given-refuses f g b))))

  -- and to a sound sheet alone
  not_sound : write_of text ts room scratch false ≡ refuse room scratch NotSound
  unfolding write_of weigh first_of
  not_sound = refl

  pub length-sound : (yes : Bool) → AnswersLength (write_of text ts room scratch yes) → yes ≡ true
  length-sound true a = refl
  length-sound false (size, e) = length-apart _ size NotSound e (ap answer_of not_sound)

  -- a sheet of the form whose text reads back wherever there is room is refused for depth, length and room alone
  pub promised : formed ts ≡ true → (Given text ts room scratch → ReadsBack text ts scratch) → Promised (answer_of answered)
  promised f back =
      by_tests
      (λ n. let z : ◌≡◌ {A = ℕ} 0 1 = cc in absurd (omega arith))
      (λ _ r n a. record {
        not_45 = λ e. later r ReadsOtherwise n (omega arith) a e;
        not_46 = λ e. later r OtherForm n (omega arith) a e;
      })
      (λ _ g.
      let a = ap answer_of (given_accepts f g (back g)) in
      record { not_45 = λ e. length-apart _ _ ReadsOtherwise a e; not_46 = λ e. length-apart _ _ OtherForm a e })
    where
      later : (r s : Refusal) → number r < number ReadsOtherwise → number ReadsOtherwise ≤ number s → answered ≡ refuse room scratch r
          → answer_of answered ≡ Err s → ⊥
      later r s n m a e =
          let same : ◌≡◌ {A = Result ℕ Refusal} (Err r) (Err s) = sym (ap answer_of a) ∙ e in
          let one : r ≡ s = cc in
          omega (arith, n, m, ap number one)
