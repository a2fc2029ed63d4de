-- Document 01's sentences on an f64 are our definition: its lengths spare a check, and move no answer.
-- Assumes nothing.
use mathlib.Core.Path.{◌≡◌, refl, sym, ◌∙◌, ap}
use mathlib.Core.Bool.{Bool, true, false}
use mathlib.Core.List.{List, [], ◌∷◌}
use Prim.Native.Nat.{ℕ, ◌-◌, ◌%◌, ◌^◌, ◌≤◌, ◌<◌}
use native.Mathlib.Nat.{mod-eq_of_lt}
use native.Mathlib.Omega.{arith}
use borrow.Author.Tests.{ltb-true, ltb-false, leb-false}
use lib.Dec.{eqb, leb, ltb}
use lib.ListN.{length, drop, length-drop}
use Rattle.data.proofs.Cases.{by_bool}
use Rattle.data.specs.Bytes.{plus, minus, point}
use Rattle.scalar.specs.Digits.{is_digit, digit_run, value, most_u64}
use Rattle.scalar.specs.Float.{most_safe, most_places, rest, tail_of, lossy, unpointed, factor, divided, quotient, pointed, after_point, f64_digits, begins}
use Rattle.scalar.specs.Float.{f64_read}
use Rattle.scalar.specs.Whole.{most_i64}
use Rattle.std.specs.Prelude.{Ok}
use Rattle.scalar.specs.declared.float.Tail.TheVariants.{End, Point, Other}
use Rattle.scalar.specs.declared.float.Tail.{Tail}
use Rattle.scalar.proofs.Floats.{unpointed-past, unpointed-lossy, unpointed-is, pointed-past, pointed-is, point-within}
use Rattle.scalar.proofs.Runs.{number-below, run_length}
use Rattle.rust_scalar.specs.PaperF64.{few_digits, many_bytes, paper_lossy, paper_exact, paper_unpointed, paper_answer, paper_quotient, paper_pointed}
use Rattle.rust_scalar.specs.PaperF64.{paper_fraction, paper_digits, paper_f64, PaperAlike}
use Rattle.rust_scalar.proofs.RustReadings.Floats.{run-again, few-pointed}

-- ---- without a point

exact_same : (negative : Bool) (n : ℕ) → n ≤ most_u64 → paper_exact negative n ≡ unpointed negative n
unfolding paper_exact paper_lossy lossy
exact_same negative n h =
    by_bool (ltb most_safe n)
    (λ l. rw (paper_exact, l) (lossy-same negative ∙ sym (unpointed-lossy negative n h (ltb-true most_safe n l))))
    (λ s. rw (paper_exact, s) (sym (unpointed-is negative n (ltb-false most_safe n s))))
  where
    lossy-same : (negative : Bool) → paper_lossy negative n ≡ lossy negative n
    lossy-same true = by_bool (ltb most_i64 n) (λ p. rw (paper_lossy, lossy, p)) (λ f. rw (paper_lossy, lossy, f))
    lossy-same false = refl

unpointed-same : (negative : Bool) (s : List ℕ) → digit_run s ≡ s → paper_unpointed negative s ≡ unpointed negative (value 0 s)
unfolding paper_unpointed
unpointed-same negative s e =
    by_bool (ltb (length s) few_digits)
    (λ t. let small : value 0 s ≤ most_safe = omega (arith, rw e at (number-below s 15 (omega (arith, ltb-true (length s) few_digits t)))) in
    rw (paper_unpointed, t, mod-eq_of_lt {n = value 0 s} {m = 2 ^ 64} (omega arith)) (sym (unpointed-is negative (value 0 s) small)))
    (λ f. by_bool (ltb most_u64 (value 0 s))
    (λ p. rw (paper_unpointed, f, p) (sym (unpointed-past negative (value 0 s) (ltb-true most_u64 (value 0 s) p))))
    (λ w. let fits : value 0 s ≤ most_u64 = ltb-false most_u64 (value 0 s) w in
    rw (paper_unpointed, f, w, mod-eq_of_lt {n = value 0 s} {m = 2 ^ 64} (omega arith)) (exact_same negative (value 0 s) fits)))

-- ---- with a point

answer-same : (negative : Bool) (total places : ℕ) → paper_answer negative total places ≡ divided negative total places
unfolding paper_answer divided factor
answer-same true total places = refl
answer-same false total places = refl

quotient-same : (negative : Bool) (total places : ℕ) → paper_quotient negative total places ≡ quotient negative total places
unfolding paper_quotient quotient
quotient-same negative total places =
    by_bool (ltb most_places places)
    (λ p. rw (paper_quotient, quotient, p))
    (λ f. rw (paper_quotient, quotient, f) (ap Ok (answer-same negative total places)))

pointed-same : (negative : Bool) (all whole : ℕ) (fraction : List ℕ) → (all < many_bytes → value whole fraction ≤ most_u64)
    → paper_pointed negative all whole fraction ≡ pointed negative whole fraction
unfolding paper_pointed
pointed-same negative all whole fraction few =
    by_bool (ltb most_u64 number)
    (λ p. by_bool (leb many_bytes all)
    (λ t. rw (paper_pointed, t, p) (sym (pointed-past negative whole fraction p)))
    (λ f. absurd (omega (arith, few (leb-false many_bytes all f), ltb-true most_u64 number p))))
    (λ w. by_bool (leb many_bytes all)
    (λ t. rw (paper_pointed, t, w) (held w))
    (λ f. rw (paper_pointed, f) (held w)))
  where
    number : ℕ
    number = value whole fraction

    held : ltb most_u64 number ≡ false → paper_quotient negative (number % 2 ^ 64) (length fraction) ≡ pointed negative whole fraction
    held w =
        rw (mod-eq_of_lt {n = number} {m = 2 ^ 64} (omega (arith, ltb-false most_u64 number w)))
        (quotient-same negative number (length fraction) ∙ sym (pointed-is negative whole fraction w))

fraction-same : (negative : Bool) (all whole : ℕ) (s : List ℕ) → (all < many_bytes → value whole (digit_run s) ≤ most_u64)
    → paper_fraction negative all whole s ≡ after_point negative whole s
unfolding paper_fraction after_point
fraction-same negative all whole s few = go (tail_of (rest s)) refl
  where
    go : (t : Tail) → tail_of (rest s) ≡ t → paper_fraction negative all whole s ≡ after_point negative whole s
    go End e = rw (paper_fraction, after_point, e) (pointed-same negative all whole (digit_run s) few)
    go Point e = rw (paper_fraction, after_point, e)
    go Other e = rw (paper_fraction, after_point, e)

-- ---- the whole

digits_same : (negative : Bool) (s : List ℕ) → paper_digits negative s ≡ f64_digits negative s
unfolding paper_digits f64_digits
digits_same negative s = go (tail_of (rest s)) refl
  where
    after : List ℕ
    after = drop 1 (rest s)

    go : (t : Tail) → tail_of (rest s) ≡ t → paper_digits negative s ≡ f64_digits negative s
    go End e = rw (paper_digits, f64_digits, e) (unpointed-same negative (digit_run s) (run-again s))
    go Point e =
        rw (paper_digits, f64_digits, e)
        (fraction-same negative (length s - 1) (value 0 (digit_run s) % 2 ^ 64) after
        (λ few. few-pointed s after
        (omega (arith, point-within s (length (digit_run s)) e, run_length after, length-drop 1 (rest s), length-drop (length (digit_run s)) s))))
    go Other e = rw (paper_digits, f64_digits, e)

pub paper_alike : (d : List ℕ) → PaperAlike d
unfolding paper_f64 f64_read begins
paper_alike [] = refl
paper_alike (b ∷ d) =
    by_bool (eqb b minus)
    (λ m. rw (paper_f64, f64_read, m) (digits_same true d))
    (λ m. by_bool (eqb b plus)
    (λ p. rw (paper_f64, f64_read, m, p) (digits_same false d))
    (λ p. by_bool (is_digit b)
    (λ t. rw (paper_f64, f64_read, m, p, begins, t) (digits_same false (b ∷ d)))
    (λ n. by_bool (eqb b point)
    (λ q. rw (paper_f64, f64_read, m, p, begins, n, q) (digits_same false (b ∷ d)))
    (λ q. rw (paper_f64, f64_read, m, p, begins, n, q)))))
