-- What the Rust makes of the bytes after a point: their digits, and at most a closing `f`, as we have it.
-- Assumes nothing.
use mathlib.Core.Path.{◌≡◌, refl, sym, ◌∙◌, ap}
use mathlib.Core.Bool.{true, false}
use mathlib.Core.List.{List, [], ◌∷◌}
use mathlib.Core.Option.{some}
use Prim.Native.Nat.{ℕ, suc, ◌-◌, ◌%◌, ◌^◌, ◌≤◌, ◌<◌}
use native.Mathlib.Nat.{mod-eq_of_lt}
use native.Mathlib.Omega.{arith}
use borrow.Author.Tests.{le-leb, eqb-true}
use lib.Dec.{eqb}
use lib.ListN.{length, take}
use Rattle.data.proofs.Cases.{by_bool}
use Rattle.data.specs.Bytes.{point, letter_f}
use Rattle.scalar.specs.Digits.{is_digit, digit_run, carry, value}
use Rattle.scalar.specs.Float.{rest, tail_of}
use Rattle.scalar.specs.declared.float.Tail.TheVariants.{End, Point, Other}
use Rattle.scalar.specs.declared.float.Tail.{Tail}
use Rattle.scalar.proofs.Runs.{value_wraps}
use Rattle.rust_scalar.specs.RustReadings.{Outcome, Ok, Err, Panic, AllDigits, ◌>>=◌, less, part_to, split_last, all_digits, last_byte, fraction}
use Rattle.rust_scalar.proofs.RustReadings.Digits.{digit-same, one_more-is, wrapped}

-- a difference and a part that are in range
pub less-is : (a b : ℕ) → b ≤ a → less a b ≡ Ok (a - b)
less-is a b h = rw (less, le-leb b a h)

pub part_to-is : (d : List ℕ) (n : ℕ) → n ≤ length d → part_to d n ≡ Ok (take n d)
part_to-is d n h = rw (part_to, le-leb n (length d) h)

-- what the last byte does
last-digit : (last total : ℕ) (s : List ℕ) → is_digit last ≡ true → last_byte last s total ≡ Ok (carry total last % 2 ^ 64, s)
unfolding last_byte
last-digit last total s e = rw (last_byte, digit-same last ∙ e, one_more-is total last e)

last_f : (last total b : ℕ) (s : List ℕ) → is_digit last ≡ false → eqb last letter_f ≡ true
    → last_byte last (b ∷ s) total ≡ Ok (total, take (length s) (b ∷ s))
unfolding last_byte
last_f last total b s e f =
    let shorter : less (suc (length s)) 1 ≡ Ok (length s) = less-is (suc (length s)) 1 (omega arith) ∙ ap Ok (omega arith) in
    rw (last_byte, digit-same last ∙ e, f, shorter, part_to-is (b ∷ s) (length s) (omega arith))

last_none : (last total : ℕ) (s : List ℕ) → is_digit last ≡ false → eqb last letter_f ≡ false → last_byte last s total ≡ Err AllDigits
unfolding last_byte
last_none last total s e f = rw (last_byte, digit-same last ∙ e, f)

-- a byte in front of what it is read of
abbrev fronted : ℕ → ℕ × List ℕ → Outcome (ℕ × List ℕ)
fronted b split = Ok (split.0, b ∷ split.1)

last_on : (last total b c : ℕ) (s : List ℕ) → last_byte last (b ∷ c ∷ s) total ≡ (last_byte last (c ∷ s) total >>= fronted b)
last_on last total b c s =
    by_bool (is_digit last)
    (λ t. rw (last-digit last total (b ∷ c ∷ s) t, last-digit last total (c ∷ s) t))
    (λ n. by_bool (eqb last letter_f)
    (λ f. rw (last_f last total b (c ∷ s) n f, last_f last total c s n f))
    (λ f. rw (last_none last total (b ∷ c ∷ s) n f, last_none last total (c ∷ s) n f)))

-- bytes with a first have a last
split-some : (b : ℕ) (s : List ℕ) → (p : ℕ × List ℕ) × (split_last (b ∷ s) ≡ some p)
unfolding split_last
split-some b [] = ((b, []), refl)
split-some b (c ∷ s) =
    let split = split-some c s in
    ((split.0.0, b ∷ split.0.1), rw split.1)

-- of more bytes than one, the first is a digit, and the others are read as they would be without it
fraction-on : (b c acc : ℕ) (s : List ℕ) → is_digit b ≡ true
    → fraction (b ∷ c ∷ s) acc ≡ (fraction (c ∷ s) (carry acc b % 2 ^ 64) >>= fronted b)
unfolding fraction split_last all_digits
fraction-on b c acc s e =
    let last = (split-some c s).0.0 in
    let front = (split-some c s).0.1 in
    rw (fraction, (split-some c s).1, all_digits, digit-same b ∙ e, one_more-is acc b e)
    (go last (all_digits front (carry acc b % 2 ^ 64)))
  where
    go : (last : ℕ) (gathered : Outcome ℕ)
        → (gathered >>= last_byte last (b ∷ c ∷ s)) ≡ ((gathered >>= last_byte last (c ∷ s)) >>= fronted b)
    go last (Ok total) = last_on last total b c s
    go last (Err e) = refl
    go last Panic = refl

fraction_off : (b c acc : ℕ) (s : List ℕ) → is_digit b ≡ false → fraction (b ∷ c ∷ s) acc ≡ Err AllDigits
unfolding fraction split_last all_digits
fraction_off b c acc s e = rw (fraction, (split-some c s).1, all_digits, digit-same b ∙ e)

-- an answer where bytes end as a number may
abbrev pub if_end : {A : Type 0} → Tail → Outcome A → Outcome A
if_end End answer = answer
if_end Point answer = Err AllDigits
if_end Other answer = Err AllDigits

if_end-fronted : (b total : ℕ) (s : List ℕ) (t : Tail) → (if_end t (Ok (total, s)) >>= fronted b) ≡ if_end t (Ok (total, b ∷ s))
if_end-fronted b total s End = refl
if_end-fronted b total s Point = refl
if_end-fronted b total s Other = refl

-- one byte alone
fraction-one : (b acc : ℕ) → acc < 2 ^ 64
    → fraction (b ∷ []) acc ≡ if_end (tail_of (rest (b ∷ []))) (Ok (value acc (digit_run (b ∷ [])) % 2 ^ 64, digit_run (b ∷ [])))
unfolding fraction split_last all_digits digit_run value tail_of
fraction-one b acc h =
    by_bool (is_digit b)
    (λ t. rw (last-digit b acc (b ∷ []) t, digit_run, t))
    (λ n. by_bool (eqb b point)
    (λ p. rw (last_none b acc (b ∷ []) n (no-f b p), digit_run, n, tail_of, p))
    (λ p. by_bool (eqb b letter_f)
    (λ f. rw (last_f b acc b [] n f, digit_run, n, tail_of, p, f) (λ j. Ok (sym (mod-eq_of_lt h) j, [])))
    (λ f. rw (last_none b acc (b ∷ []) n f, digit_run, n, tail_of, p, f))))
  where
    no-f : (b : ℕ) → eqb b point ≡ true → eqb b letter_f ≡ false
    no-f b p = ap (λ (x : ℕ). eqb x letter_f) (eqb-true b point p)

-- a first byte of more that is no digit
no_end : (b c : ℕ) (s : List ℕ) (answer : Outcome (ℕ × List ℕ)) → if_end (tail_of (b ∷ c ∷ s)) answer ≡ Err AllDigits
unfolding tail_of
no_end b c s answer =
    by_bool (eqb b point)
    (λ p. rw (tail_of, p))
    (λ p. by_bool (eqb b letter_f) (λ f. rw (tail_of, p, f)) (λ f. rw (tail_of, p, f)))

pub fraction-is : (s : List ℕ) (acc : ℕ) → acc < 2 ^ 64
    → fraction s acc ≡ if_end (tail_of (rest s)) (Ok (value acc (digit_run s) % 2 ^ 64, digit_run s))
unfolding fraction split_last digit_run value tail_of
fraction-is [] acc h = λ j. Ok (sym (mod-eq_of_lt h) j, [])
fraction-is (b ∷ []) acc h = fraction-one b acc h
fraction-is (b ∷ c ∷ s) acc h =
    by_bool (is_digit b)
    (λ t. rw (fraction-on b c acc s t, fraction-is (c ∷ s) (carry acc b % 2 ^ 64) (wrapped (carry acc b)))
    (if_end-fronted b (value (carry acc b % 2 ^ 64) (digit_run (c ∷ s)) % 2 ^ 64) (digit_run (c ∷ s)) (tail_of (rest (c ∷ s)))
    ∙ ap (λ (n : ℕ). if_end (tail_of (rest (c ∷ s))) (Ok (n, b ∷ digit_run (c ∷ s)))) (value_wraps (digit_run (c ∷ s)) (carry acc b))
    ∙ sym (rw (digit_run, t))))
    (λ n. rw (fraction_off b c acc s n, digit_run, n) (sym (no_end b c s (Ok (acc % 2 ^ 64, [])))))
