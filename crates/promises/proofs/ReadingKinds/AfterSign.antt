-- The two kinds after a sign, tail by tail: they are one, but where there is no digit, or an `f` closes the digits without a point.
-- Assumes nothing.
use mathlib.Core.Path.{◌≡◌, refl, sym, ◌∙◌, ap}
use mathlib.Core.Bool.{Bool, true, false, not, ◌||◌, false≢true}
use mathlib.Core.List.{List, [], ◌∷◌}
use Prim.Native.Nat.{ℕ, ◌+◌, ◌%◌, ◌^◌, ◌≤◌, ◌<◌}
use native.Mathlib.Omega.{arith}
use borrow.Author.Tests.{ltb-true, ltb-false}
use lib.Dec.{ltb}
use lib.ListN.{length, drop}
use Rattle.data.proofs.Cases.{by_bool}
use Rattle.scalar.specs.Digits.{digit_run, value, most_u64}
use Rattle.scalar.specs.Float.{most_places, rest, tail_of, lossy, unpointed, quotient, pointed, after_point as after-point-of, f64_digits}
use Rattle.scalar.specs.Kind.{kind_by_size, some_digit, kind_pointed, kind_after_sign}
use Rattle.scalar.specs.Whole.{signed, most_i64, has_tail, i64_digits, i64_part, i64_read}
use Rattle.scalar.specs.declared.float.Tail.TheVariants.{End, Point, Other}
use Rattle.scalar.specs.declared.kinds.ReadingKind.TheVariants as Kind
use Rattle.scalar.specs.declared.kinds.ReadingKind.{ReadingKind}
use Rattle.std.specs.Prelude.{ℤ, Result, Ok, Err}
use Rattle.scalar.specs.declared.errors.WholeError.TheVariants.{AllDigits, Overflow}
use Rattle.scalar.specs.declared.errors.WholeError.{WholeError}
use Rattle.scalar.proofs.Floats.{unpointed-past, unpointed-lossy, lossy-plain, lossy-past, quotient-past, quotient_is}
use Rattle.scalar.proofs.Floats.{pointed-past as f64-past, pointed-is as f64-is}
use Rattle.scalar.proofs.Floats.{after_point-end, after_point-point, after_point-other, digits_end, digits-point, digits-other}
use Rattle.scalar.proofs.Forms.{size-whole, size-negative, size-decimal, size-past, digits-none, digits-some, unpointed_tail, unpointed-digits}
use Rattle.scalar.proofs.Forms.{pointed-none, pointed_long, pointed-past, pointed-is, point-end, point-point, point-other, sign-end, sign-point, sign-other}
use Rattle.scalar.proofs.Wholes.{i64-past, i64-is, read_tail, read_is, read_refused}
use Rattle.promises.specs.ReadingKinds.{kind_by_f64, kind_by_i64, has_digit, bare_f}
use Rattle.promises.proofs.ReadingKinds.Tails.{by_tail, tail_number, untailed_end, tailed, plain, closed, pointed-bare, ended-digit, pointed-digit}

-- ---- the i64 reading, after a sign

abbrev pub i64_after : Bool → List ℕ → Result ℤ WholeError
i64_after negative s =
    elim (ltb most_i64 (value 0 (digit_run s))) [
      | true ↦ Err Overflow
      | false ↦ elim (has_tail s) [ true ↦ Err AllDigits | false ↦ Ok (signed negative (value 0 (digit_run s))) ]
    ]

pub past_is : (negative : Bool) (s : List ℕ) → ltb most_i64 (value 0 (digit_run s)) ≡ true → i64_after negative s ≡ Err Overflow
past_is negative s e = rw (i64_after, e)

pub tail_is : (negative : Bool) (s : List ℕ) → ltb most_i64 (value 0 (digit_run s)) ≡ false → has_tail s ≡ true
    → i64_after negative s ≡ Err AllDigits
tail_is negative s e f = rw (i64_after, e, f)

number_is : (negative : Bool) (s : List ℕ) → ltb most_i64 (value 0 (digit_run s)) ≡ false → has_tail s ≡ false
    → i64_after negative s ≡ Ok (signed negative (value 0 (digit_run s)))
number_is negative s e f = rw (i64_after, e, f)

-- the digits of a scalar after a sign of so many bytes decide its i64 reading
pub i64-is-after : (d s : List ℕ) (negative : Bool) (sign : ℕ) → i64_part d ≡ i64_digits negative sign s → length d ≡ sign + length s
    → i64_read d ≡ i64_after negative s
i64-is-after d s negative sign e long =
    by_bool (ltb most_i64 (value 0 (digit_run s)))
    (λ t. read_refused d _ (e ∙ i64-past negative sign s (ltb-true _ _ t)) ∙ sym (past_is negative s t))
    (λ f. let part = e ∙ i64-is negative sign s (ltb-false _ _ f) in
    by_bool (has_tail s)
    (λ t. read_tail d _ _ part (omega (arith, long, ltb-true (length (digit_run s)) (length s) t)) ∙ sym (tail_is negative s f t))
    (λ g. read_is d _ _ part (omega (arith, long, ltb-false (length (digit_run s)) (length s) g)) ∙ sym (number_is negative s f g)))

-- ---- the kind before, after a sign

abbrev old_after : Bool → List ℕ → ReadingKind
old_after negative s = kind_by_i64 (f64_digits negative s) (i64_after negative s)

old_tail : (negative : Bool) (s : List ℕ) → has_tail s ≡ true → old_after negative s ≡ kind_by_f64 (f64_digits negative s)
old_tail negative s e =
    by_bool (ltb most_i64 (value 0 (digit_run s)))
    (λ t. ap (kind_by_i64 (f64_digits negative s)) (past_is negative s t))
    (λ f. ap (kind_by_i64 (f64_digits negative s)) (tail_is negative s f e))

-- above 2^63 - 1 the f64 decides, and by the size
f64_by-size : (negative : Bool) (n : ℕ) → most_i64 < n → kind_by_f64 (unpointed negative n) ≡ kind_by_size negative n
f64_by-size negative n h =
    by_bool (ltb most_u64 n)
    (λ t. ap kind_by_f64 (unpointed-past negative n (ltb-true _ _ t)) ∙ sym (size-past negative n (ltb-true _ _ t)))
    (λ f. ap kind_by_f64 (unpointed-lossy negative n (ltb-false _ _ f) (omega arith)) ∙ by_sign negative (ltb-false _ _ f))
  where
    by_sign : (negative : Bool) → n ≤ most_u64 → kind_by_f64 (lossy negative n) ≡ kind_by_size negative n
    by_sign true k = ap kind_by_f64 (lossy-past true n refl h) ∙ sym (size-negative true n h refl)
    by_sign false k = ap kind_by_f64 (lossy-plain false n refl) ∙ sym (size-decimal false n h k refl)

old_size : (negative : Bool) (s : List ℕ) → has_tail s ≡ false → old_after negative s ≡ kind_by_size negative (value 0 (digit_run s))
old_size negative s e =
    by_bool (ltb most_i64 (value 0 (digit_run s)))
    (λ t. ap (kind_by_i64 (f64_digits negative s)) (past_is negative s t)
    ∙ ap kind_by_f64 (digits_end negative s (untailed_end s e))
    ∙ f64_by-size negative _ (ltb-true _ _ t))
    (λ f. ap (kind_by_i64 (f64_digits negative s)) (number_is negative s f e) ∙ sym (size-whole negative _ (ltb-false _ _ f)))

-- with a point and a digit about it, both ask the same of the digits
old_pointed : (negative : Bool) (whole fraction : List ℕ) → some_digit whole fraction ≡ true
    → kind_pointed whole fraction ≡ kind_by_f64 (pointed negative (value 0 whole % 2 ^ 64) fraction)
old_pointed negative whole fraction e =
    by_bool (ltb most_u64 total)
    (λ t. past (ltb-true _ _ t) ∙ sym (ap kind_by_f64 (f64-past negative _ _ t)))
    (λ f. within (ltb-false _ _ f) ∙ sym (ap kind_by_f64 (f64-is negative _ _ f)))
  where
    total : ℕ
    total = value (value 0 whole % 2 ^ 64) fraction

    past : most_u64 < total → kind_pointed whole fraction ≡ Kind.Name
    past h =
        by_bool (ltb most_places (length fraction))
        (λ t. pointed_long whole fraction e (ltb-true _ _ t))
        (λ f. pointed-past whole fraction e (ltb-false _ _ f) h)

    within : total ≤ most_u64 → kind_pointed whole fraction ≡ kind_by_f64 (quotient negative total (length fraction))
    within h =
        by_bool (ltb most_places (length fraction))
        (λ t. pointed_long whole fraction e (ltb-true _ _ t) ∙ sym (ap kind_by_f64 (quotient-past negative total _ (ltb-true _ _ t))))
        (λ f. pointed-is whole fraction e (ltb-false _ _ f) h ∙ sym (ap kind_by_f64 (quotient_is negative total _ (ltb-false _ _ f))))

-- ---- the kind now: what holds no digit, or ends in `f` without a point, is a name

abbrev pub no_number : List ℕ → Bool
no_number d = not (has_digit d) || bare_f d

-- a kind, or a name in its place
abbrev pub unless : Bool → ReadingKind → ReadingKind
unless true k = Kind.Name
unless false k = k

unless-name : (t : Bool) → Kind.Name ≡ unless t Kind.Name
unless-name true = refl
unless-name false = refl

pub unless-both : (t : Bool) (k l : ReadingKind) → k ≡ Kind.Name → l ≡ Kind.Name → k ≡ unless t l
unless-both t k l e f = e ∙ unless-name t ∙ ap (unless t) (sym f)

unless_so : (t : Bool) (k l : ReadingKind) → t ≡ true → k ≡ Kind.Name → k ≡ unless t l
unless_so t k l e f = f ∙ ap (λ (u : Bool). unless u l) (sym e)

unless_not : (t : Bool) (k l : ReadingKind) → t ≡ false → k ≡ l → k ≡ unless t l
unless_not t k l e f = f ∙ ap (λ (u : Bool). unless u l) (sym e)

digitless : (s : List ℕ) → has_digit s ≡ false → no_number s ≡ true
digitless s e = ap (λ (t : Bool). not t || bare_f s) e

barely : (s : List ℕ) → bare_f s ≡ true → no_number s ≡ true
barely s e = ap (λ (t : Bool). not (has_digit s) || t) e ∙ always (not (has_digit s))
  where
    always : (t : Bool) → (t || true) ≡ true
    always true = refl
    always false = refl

numbered : (s : List ℕ) → has_digit s ≡ true → bare_f s ≡ false → no_number s ≡ false
numbered s e f = λ j. not (e j) || f j

run_none : (r : List ℕ) → some_digit r [] ≡ false → length r ≡ 0
unfolding some_digit
run_none [] e = refl
run_none (b ∷ r) e = absurd (false≢true (sym e))

run-some : (r : List ℕ) → some_digit r [] ≡ true → length r ≡ 0 → ⊥
unfolding some_digit
run-some [] e h = false≢true e
run-some (b ∷ r) e h = omega arith

-- the digits end, and no point follows
after_end : (negative : Bool) (s : List ℕ) → tail_of (rest s) ≡ End → kind_after_sign negative s ≡ unless (no_number s) (old_after negative s)
after_end negative s e =
    by_bool (has_tail s)
    (λ t. unless_so _ _ _ (barely s (closed s e t)) (sign-end negative s e ∙ unpointed_tail negative s t))
    (λ f. let digits = sign-end negative s e ∙ unpointed-digits negative s f in
    by_bool (has_digit s)
    (λ t. unless_not _ _ _ (numbered s t (plain s f))
    (digits ∙ digits-some negative _ (run-some _ (sym (ended-digit s e) ∙ t)) ∙ sym (old_size negative s f)))
    (λ g. unless_so _ _ _ (digitless s g) (digits ∙ digits-none negative _ (run_none _ (sym (ended-digit s e) ∙ g)))))

-- a point follows
after_point : (negative : Bool) (s : List ℕ) → tail_of (rest s) ≡ Point → kind_after_sign negative s ≡ unless (no_number s) (old_after negative s)
after_point negative s e =
    by_tail (tail_of (rest t))
    (λ h. let now-is = sign-point negative s e ∙ point-end (digit_run s) t h in
    by_bool (has_digit s)
    (λ g. unless_not _ _ _ (numbered s g (pointed-bare s e))
    (now-is ∙ old_pointed negative _ _ (sym (pointed-digit s e h) ∙ g) ∙ sym (before ∙ ap kind_by_f64 (after_point-end negative _ t h))))
    (λ g. unless_so _ _ _ (digitless s g) (now-is ∙ pointed-none _ _ (sym (pointed-digit s e h) ∙ g))))
    (λ h. unless-both (no_number s) _ _ (sign-point negative s e ∙ point-point (digit_run s) t h)
    (before ∙ ap kind_by_f64 (after_point-point negative _ t h)))
    (λ h. unless-both (no_number s) _ _ (sign-point negative s e ∙ point-other (digit_run s) t h)
    (before ∙ ap kind_by_f64 (after_point-other negative _ t h)))
  where
    t : List ℕ
    t = drop 1 (rest s)

    before : old_after negative s ≡ kind_by_f64 (after-point-of negative (value 0 (digit_run s) % 2 ^ 64) t)
    before = old_tail negative s (tailed s (λ h. omega (arith, ap tail_number (sym h ∙ e)))) ∙ ap kind_by_f64 (digits-point negative s e)

-- anything else follows
after-other : (negative : Bool) (s : List ℕ) → tail_of (rest s) ≡ Other → kind_after_sign negative s ≡ unless (no_number s) (old_after negative s)
after-other negative s e =
    unless-both (no_number s) _ _ (sign-other negative s e)
    (old_tail negative s (tailed s (λ h. omega (arith, ap tail_number (sym h ∙ e)))) ∙ ap kind_by_f64 (digits-other negative s e))

pub after_sign : (negative : Bool) (s : List ℕ) → kind_after_sign negative s ≡ unless (no_number s) (old_after negative s)
after_sign negative s = by_tail (tail_of (rest s)) (after_end negative s) (after_point negative s) (after-other negative s)
