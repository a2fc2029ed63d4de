-- `scalar::kinds::pointed` meets its contract: the digits are those about the point, and the two bounds are the definition's.
-- Assumes nothing.
use Rattle.std.proofs.Common.{rules, ◌≡◌, ℕ, ◌+◌, ◌-◌, ◌%◌, ◌^◌, ◌<◌, ◌≤◌, true, List, length, drop, sym, ap, ◌∙◌, le_trans, le_of_eq, lt_of_lt_of_le, lt_of_le_of_lt, arith, length-drop, ltb-false, ltb-true}
use Rattle.scalar.specs.Digits.{digit_run, value, gathered}
use Rattle.scalar.specs.Kind.{some_digit}
use Rattle.scalar.specs.declared.digits.Gathered.{Gathered}
use Rattle.scalar.proofs.Forms.{no_digit, one-digit, pointed-none, pointed_long, pointed-past, pointed-is}
use Rattle.scalar.proofs.Gathers.{place_is}
use Rattle.scalar.proofs.Runs.{run_length}
use Rattle.scalar.proofs.kinds.pointed.Goals as goal

-- what is asked: the whole part, the point behind it, and how many digits follow that
abbrev Asked : List ℕ → ℕ → Gathered → ℕ → Type 0
Asked d sign whole places = (whole ≡ gathered d sign 0) × (whole.at < length d) × (places ≡ length (digit_run (drop (whole.at + 1) d)))

-- the digits on both sides, counted by the places
counted : (d : List ℕ) (sign : ℕ) (whole : Gathered) (places : ℕ) → Asked d sign whole places
    → whole.at - sign + places ≡ length (digit_run (drop sign d)) + length (digit_run (drop (whole.at + 1) d))
counted d sign whole places h = omega (arith, place_is d sign 0 whole h.0, h.2)

-- they are no more than the bytes
few : (d : List ℕ) (sign : ℕ) (whole : Gathered) (places : ℕ) → Asked d sign whole places → whole.at - sign + places ≤ length d
few d sign whole places h =
    let after = drop (whole.at + 1) d in
    omega (arith, h.1, h.2, run_length after, length-drop (whole.at + 1) d)

-- what is carried on is the whole part, gathered
carried : (d : List ℕ) (sign : ℕ) (whole : Gathered) (places : ℕ) → Asked d sign whole places
    → value whole.total (digit_run (drop (whole.at + 1) d)) ≡ value (value 0 (digit_run (drop sign d)) % 2 ^ 64) (digit_run (drop (whole.at + 1) d))
carried d sign whole places h = ap (λ (w : Gathered). value w.total (digit_run (drop (whole.at + 1) d))) h.0

pub overflow_sub-whole : goal.overflow_sub-whole
overflow_sub-whole c = omega (arith, place_is _ _ 0 _ c.requires.0)

pub overflow_add-whole : goal.overflow_add-whole
overflow_add-whole c = record { fits = lt_of_le_of_lt (few _ _ _ _ c.requires) (search rules) }

pub returns-then-whole-sign-eq0 : goal.returns-then-whole-sign-eq0
returns-then-whole-sign-eq0 c = sym (pointed-none _ _ (no_digit _ _ (sym (counted _ _ _ _ c.requires) ∙ c.if-whole-sign-eq0.true)))

-- at least one digit stands about the point
one : (d : List ℕ) (sign : ℕ) (whole : Gathered) (places : ℕ) → Asked d sign whole places → (whole.at - sign + places ≡ 0 → ⊥)
    → some_digit (digit_run (drop sign d)) (digit_run (drop (whole.at + 1) d)) ≡ true
one d sign whole places h some = one-digit _ _ (λ none. some (counted d sign whole places h ∙ none))

pub returns-then-places-gt-MOST_PLACES : goal.returns-then-places-gt-MOST_PLACES
returns-then-places-gt-MOST_PLACES c =
    sym (pointed_long _ _ (one _ _ _ _ c.requires c.if-whole-sign-eq0.false)
    (lt_of_lt_of_le c.if-places-gt-MOST_PLACES.true (le_of_eq c.requires.2)))

pub returns-then-carries_past : goal.returns-then-carries_past
returns-then-carries_past c =
    let short = le_trans (le_of_eq (sym c.requires.2)) c.if-places-gt-MOST_PLACES.false in
    let past = ltb-true _ _ (sym c.carries_past.ensures ∙ c.if-carries_past.true) in
    sym (pointed-past _ _ (one _ _ _ _ c.requires c.if-whole-sign-eq0.false) short
    (lt_of_lt_of_le past (le_of_eq (carried _ _ _ _ c.requires))))

pub returns-else-carries_past : goal.returns-else-carries_past
returns-else-carries_past c =
    let short = le_trans (le_of_eq (sym c.requires.2)) c.if-places-gt-MOST_PLACES.false in
    let within = ltb-false _ _ (sym c.carries_past.ensures ∙ c.if-carries_past.false) in
    sym (pointed-is _ _ (one _ _ _ _ c.requires c.if-whole-sign-eq0.false) short
    (le_trans (le_of_eq (sym (carried _ _ _ _ c.requires))) within))
