-- Laws of the Rust's loops over digits: what each gathers is our number modulo 2^64, and what it checks is whether our number is past 64 bits.
-- Assumes nothing.
use mathlib.Core.Path.{◌≡◌, refl, sym, ◌∙◌, ap}
use mathlib.Core.Bool.{Bool, true, false}
use mathlib.Core.List.{List, [], ◌∷◌}
use Prim.Native.Nat.{ℕ, suc, ◌-◌, ◌*◌, ◌%◌, ◌^◌, ◌≤◌, ◌<◌}
use native.Mathlib.Nat.{mod-eq_of_lt, mod-lt, mod-add-mod, lt_of_lt_of_le}
use native.Mathlib.Omega.{arith}
use borrow.Author.Tests.{lt-ltb, le-ltb, le-leb, ltb-true, ltb-false, leb-false}
use lib.Dec.{ltb, leb}
use lib.ListN.{length}
use Rattle.data.proofs.Cases.{by_bool}
use Rattle.scalar.specs.Digits.{is_digit, digit_run, carry, value, most_u64}
use Rattle.scalar.specs.Float.{rest}
use Rattle.scalar.specs.Whole.{has_tail}
use Rattle.scalar.proofs.Gathers.{tail_on, tail_here}
use Rattle.scalar.proofs.Runs.{digit_bounds, value_wraps, value_grows}
use Rattle.rust_scalar.specs.RustReadings.{Outcome, Ok, Err, AllDigits, Overflow, ◌>>=◌, checked_mul, checked_add, from_length, less, index, part_from}
use Rattle.rust_scalar.specs.RustReadings.{is_ascii_digit, digit_of, one_more, to_u64_partial, one_more_checked, check_overflow_init, is_sign}
use Rattle.rust_scalar.specs.RustReadings.{check_overflow, all_digits}

-- ---- one digit

pub digit-same : (b : ℕ) → is_ascii_digit b ≡ is_digit b
unfolding is_ascii_digit is_digit
digit-same b = refl

pub digit-is : (b : ℕ) → is_digit b ≡ true → digit_of b ≡ Ok (b - 48)
digit-is b e = rw (less, le-leb 48 b (digit_bounds b e).0)

pub one_more-is : (total b : ℕ) → is_digit b ≡ true → one_more total b ≡ Ok (carry total b % 2 ^ 64)
unfolding one_more
one_more-is total b e = rw (digit-is b e) (ap Ok (mod-add-mod (total * 10) (2 ^ 64) (b - 48)))

pub wrapped : (n : ℕ) → n % 2 ^ 64 < 2 ^ 64
wrapped n = mod-lt n (omega arith)

-- ---- the loops that gather

pub partial_is : (s : List ℕ) (acc : ℕ) → acc < 2 ^ 64 → to_u64_partial s acc ≡ Ok (value acc (digit_run s) % 2 ^ 64, rest s)
unfolding to_u64_partial digit_run value
partial_is [] acc h = λ j. Ok (sym (mod-eq_of_lt h) j, [])
partial_is (b ∷ s) acc h =
    by_bool (is_digit b)
    (λ t. rw (to_u64_partial, digit-same b ∙ t, one_more-is acc b t, digit_run, t)
    (partial_is s (carry acc b % 2 ^ 64) (wrapped (carry acc b)) ∙ (λ j. Ok (value_wraps (digit_run s) (carry acc b) j, rest s))))
    (λ f. rw (to_u64_partial, digit-same b ∙ f, digit_run, f) (λ j. Ok (sym (mod-eq_of_lt h) j, b ∷ s)))

-- an answer where bytes are all digits, and their refusal
abbrev pub unless_tail : Bool → ℕ → Outcome ℕ
unless_tail true total = Err AllDigits
unless_tail false total = Ok total

pub value_on : (b : ℕ) (s : List ℕ) (acc : ℕ) → is_digit b ≡ true → value acc (digit_run (b ∷ s)) ≡ value (carry acc b) (digit_run s)
unfolding digit_run value
value_on b s acc e = rw (digit_run, e)

pub value-stops : (b : ℕ) (s : List ℕ) (acc : ℕ) → is_digit b ≡ false → value acc (digit_run (b ∷ s)) ≡ acc
unfolding digit_run value
value-stops b s acc e = rw (digit_run, e)

pub all_digits-is : (s : List ℕ) (acc : ℕ) → acc < 2 ^ 64 → all_digits s acc ≡ unless_tail (has_tail s) (value acc (digit_run s) % 2 ^ 64)
unfolding all_digits digit_run value
all_digits-is [] acc h = ap Ok (sym (mod-eq_of_lt h))
all_digits-is (b ∷ s) acc h =
    by_bool (is_digit b)
    (λ t. rw (all_digits, digit-same b ∙ t, one_more-is acc b t)
    (all_digits-is s (carry acc b % 2 ^ 64) (wrapped (carry acc b))
    ∙ (λ j. unless_tail (sym (tail_on b s t) j) (value_wraps (digit_run s) (carry acc b) j))
    ∙ ap (unless_tail (has_tail (b ∷ s))) (ap (λ (n : ℕ). n % 2 ^ 64) (sym (value_on b s acc t)))))
    (λ f. rw (all_digits, digit-same b ∙ f) (ap (λ (tailed : Bool). unless_tail tailed (value acc (digit_run (b ∷ s)) % 2 ^ 64)) (sym (tail_here b s f))))

-- ---- the loops that check

-- a number that 64 bits hold, and the refusal of one that they do not
abbrev pub unless_past : Bool → ℕ → Outcome ℕ
unless_past true n = Err Overflow
unless_past false n = Ok n

abbrev pub checked : ℕ → Outcome ℕ
checked n = unless_past (ltb most_u64 n) n

checked-past : (n : ℕ) → most_u64 < n → checked n ≡ Err Overflow
checked-past n h = rw (lt-ltb most_u64 n h)

checked-is : (n : ℕ) → n ≤ most_u64 → checked n ≡ Ok n
checked-is n h = rw (le-ltb most_u64 n h)

one_more_checked-is : (acc b : ℕ) → is_digit b ≡ true → one_more_checked acc b ≡ checked (carry acc b)
unfolding one_more_checked
one_more_checked-is acc b e =
    by_bool (ltb (acc * 10) (2 ^ 64))
    (λ t. by_bool (ltb next (2 ^ 64))
    (λ u. rw (one_more_checked, checked_mul, t, digit-is b e, checked_add, u) (sym (checked-is next (omega (arith, ltb-true next (2 ^ 64) u)))))
    (λ u. rw (one_more_checked, checked_mul, t, digit-is b e, checked_add, u) (sym (checked-past next (omega (arith, ltb-false next (2 ^ 64) u))))))
    (λ f. rw (one_more_checked, checked_mul, f) (sym (checked-past next (omega (arith, ltb-false (acc * 10) (2 ^ 64) f)))))
  where
    next : ℕ
    next = carry acc b

pub check_init_is : (s : List ℕ) (acc : ℕ) → acc < 2 ^ 64 → check_overflow_init s acc ≡ checked (value acc (digit_run s))
unfolding check_overflow_init digit_run value
check_init_is [] acc h = sym (checked-is acc (omega arith))
check_init_is (b ∷ s) acc h =
    by_bool (is_digit b)
    (λ t. by_bool (ltb most_u64 (carry acc b))
    (λ u. let past = ltb-true most_u64 (carry acc b) u in
    rw (check_overflow_init, digit-same b ∙ t, one_more_checked-is acc b t ∙ checked-past (carry acc b) past, value_on b s acc t)
    (sym (checked-past (value (carry acc b) (digit_run s)) (lt_of_lt_of_le past (value_grows (digit_run s) (carry acc b))))))
    (λ u. let held = ltb-false most_u64 (carry acc b) u in
    rw (check_overflow_init, digit-same b ∙ t, one_more_checked-is acc b t ∙ checked-is (carry acc b) held, value_on b s acc t)
    (check_init_is s (carry acc b) (omega (arith, held)))))
    (λ f. rw (check_overflow_init, digit-same b ∙ f, value-stops b s acc f) (sym (checked-is acc (omega arith))))

-- a sign is passed over
pub check-signed : (b : ℕ) (s : List ℕ) → is_sign b ≡ true → check_overflow (b ∷ s) ≡ checked (value 0 (digit_run s))
unfolding check_overflow
check-signed b s e =
    let inside = lt-ltb 0 (suc (length s)) (omega arith) in
    rw (index, inside, e, part_from, inside) (check_init_is s 0 (omega arith))

pub check-bare : (b : ℕ) (s : List ℕ) → is_sign b ≡ false → check_overflow (b ∷ s) ≡ checked (value 0 (digit_run (b ∷ s)))
unfolding check_overflow
check-bare b s e = rw (index, lt-ltb 0 (suc (length s)) (omega arith), e) (check_init_is (b ∷ s) 0 (omega arith))

-- what goes on while a number is within 64 bits
abbrev pub within : {A : Type 0} → ℕ → Outcome A → Outcome A
within n next = elim (ltb most_u64 n) [ true ↦ Err Overflow | false ↦ next ]

-- a check that is spared where no number can be past 64 bits spares nothing
pub spared : {A : Type 0} (cutoff len n : ℕ) (next : Outcome A) → (len < cutoff → n ≤ most_u64)
    → (from_length cutoff len (checked n) >>= λ _. next) ≡ within n next
spared cutoff len n next short =
    by_bool (leb cutoff len)
    (λ t. by_bool (ltb most_u64 n) (λ u. rw (from_length, t, within, u)) (λ u. rw (from_length, t, within, u)))
    (λ f. rw (from_length, f, within, le-ltb most_u64 n (short (leb-false cutoff len f))))
