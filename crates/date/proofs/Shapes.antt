-- The parts of a scalar, read one after another from its front.
-- Assumes nothing.
use mathlib.Core.Path.{◌≡◌, refl, sym, ◌∙◌, ap}
use mathlib.Core.Bool.{Bool, true, false, ◌&&◌, false≢true, and-false, and_self_left}
use mathlib.Core.List.{List, [], ◌∷◌, ◌++◌, append_assoc, append-nil}
use Prim.Native.Nat.{ℕ, suc, ◌+◌, ◌≤◌, ◌<◌, min}
use native.Mathlib.Omega.{arith}
use borrow.Author.Tests.{eq-eqb, ne_eqb, leb-true, leb-false}
use lib.Dec.{eqb, leb}
use lib.ListN.{length, get_or, drop, length-append, length-drop, drop_of_length-le}
use lib.Seq.{drop-cons, drop-drop}
use Rattle.data.proofs.Cases.{by_bool, both}
use Rattle.data.specs.Bytes.{point}
use Rattle.scalar.specs.Digits.{is_digit, digits_alone, digit_first, digit_run, value}
use Rattle.scalar.specs.Float.{rest}
use Rattle.scalar.proofs.Rests.{rest-digit, rest-other, run_alone, rest_plain}
use Rattle.scalar.proofs.Runs.{digit_bounds, run-digit, run-other}
use Rattle.date.specs.Reading.{onto, parts, is_part, all_parts, day_parts, hour_parts, right_number, shaped, past_all, part_at, point_first}
use Rattle.date.specs.Reading.{pointed_part}
use Rattle.std.specs.Prelude.{Option, Some, None}

-- ---- the first part begins with the digits in front

-- bytes in front of bytes
onto-onto : (b : ℕ) (p : List ℕ) (ps : List (List ℕ)) → onto (b ∷ []) (onto p ps) ≡ onto (b ∷ p) ps
onto-onto b p [] = refl
onto-onto b p (q ∷ qs) = refl

-- there is always a part
onto-some : (p : List ℕ) (ps : List (List ℕ)) → 0 < length (onto p ps)
onto-some p [] = omega arith
onto-some p (q ∷ qs) = omega arith

pub parts-some : (s : List ℕ) → 0 < length (parts s)
unfolding parts
parts-some [] = omega arith
parts-some (b ∷ s) =
    by_bool (eqb b point)
    (λ t. rw (parts, t) (omega arith))
    (λ f. rw (parts, f) (onto-some (b ∷ []) (parts s)))

onto-nothing : (ps : List (List ℕ)) → 0 < length ps → onto [] ps ≡ ps
onto-nothing [] h = absurd (omega arith)
onto-nothing (p ∷ ps) h = refl

-- a point ends a part, and any other byte belongs to one
pub parts-point : (b : ℕ) (s : List ℕ) → eqb b point ≡ true → parts (b ∷ s) ≡ [] ∷ parts s
unfolding parts
parts-point b s e = rw (parts, e)

pub parts-other : (b : ℕ) (s : List ℕ) → eqb b point ≡ false → parts (b ∷ s) ≡ onto (b ∷ []) (parts s)
unfolding parts
parts-other b s e = rw (parts, e)

pub digit-no-point : (b : ℕ) → is_digit b ≡ true → eqb b point ≡ false
digit-no-point b e = ne_eqb b point (λ p. omega (arith, digit_bounds b e))

parts-run : (s : List ℕ) → parts s ≡ onto (digit_run s) (parts (rest s))
unfolding parts digit_run
parts-run [] = refl
parts-run (b ∷ s) =
    by_bool (is_digit b)
    (λ t. parts-other b s (digit-no-point b t) ∙ ap (onto (b ∷ [])) (parts-run s) ∙ onto-onto b (digit_run s) (parts (rest s))
    ∙ sym (λ j. onto (run-digit b s t j) (parts (rest-digit b s t j))))
    (λ f. sym (onto-nothing (parts (b ∷ s)) (parts-some (b ∷ s))) ∙ sym (λ j. onto (run-other b s f j) (parts (rest-other b s f j))))

-- ---- what stands after them decides whether they are a part

-- a part with a byte in it is digits alone
pub part-digits : (b : ℕ) (p : List ℕ) → is_part (b ∷ p) ≡ digits_alone (b ∷ p)
unfolding is_part digit_first digits_alone
part-digits b p = and_self_left (is_digit b) (digits_alone p)

run-part : (s : List ℕ) → digit_first s ≡ true → is_part (digit_run s) ≡ true
unfolding digit_first
run-part [] e = absurd (false≢true e)
run-part (b ∷ s) e =
    ap is_part (run-digit b s e) ∙ part-digits b (digit_run s) ∙ ap digits_alone (sym (run-digit b s e)) ∙ run_alone (b ∷ s)

-- the end: they are the last part
ended : (r t : List ℕ) → t ≡ [] → onto r (parts t) ≡ r ∷ []
unfolding parts
ended r t e = ap (λ (u : List ℕ). onto r (parts u)) e ∙ ap (λ (p : List ℕ). p ∷ []) (append-nil r)

-- a point: others follow
pointed : (r t : List ℕ) → point_first t ≡ true → onto r (parts t) ≡ r ∷ parts (drop 1 t)
unfolding point_first
pointed r [] e = absurd (false≢true e)
pointed r (b ∷ u) e = ap (onto r) (parts-point b u e) ∙ ap (λ (p : List ℕ). p ∷ parts u) (append-nil r)

-- any other byte: they are none
stained : (r : List ℕ) (b : ℕ) (p : List ℕ) → is_digit b ≡ false → digits_alone (r ++ b ∷ p) ≡ false
unfolding digits_alone
stained [] b p e = rw (digits_alone, e)
stained (x ∷ r) b p e = ap (λ (a : Bool). is_digit x && a) (stained r b p e) ∙ and-false (is_digit x)

stained_part : (r : List ℕ) (b : ℕ) (p : List ℕ) → is_digit b ≡ false → is_part (r ++ b ∷ p) ≡ false
stained_part [] b p e = part-digits b p ∙ stained [] b p e
stained_part (x ∷ r) b p e = part-digits x (r ++ b ∷ p) ∙ stained (x ∷ r) b p e

stained_parts : (r : List ℕ) (b : ℕ) (ps : List (List ℕ)) → is_digit b ≡ false → all_parts (onto r (onto (b ∷ []) ps)) ≡ false
unfolding all_parts
stained_parts r b [] e = ap (λ (a : Bool). a && true) (stained_part r b [] e)
stained_parts r b (p ∷ ps) e = ap (λ (a : Bool). a && all_parts ps) (stained_part r b p e)

other : (r t : List ℕ) → digit_first t ≡ false → point_first t ≡ false → 0 < length t → all_parts (onto r (parts t)) ≡ false
unfolding digit_first point_first
other r [] e f h = absurd (omega arith)
other r (b ∷ u) e f h = ap (λ (ps : List (List ℕ)). all_parts (onto r ps)) (parts-other b u f) ∙ stained_parts r b (parts u) e

-- bytes that begin with no digit have no first part
no_part : (s : List ℕ) → digit_first s ≡ false → all_parts (parts s) ≡ false
unfolding digit_first digits_alone parts all_parts is_part
no_part [] e = refl
no_part (b ∷ s) e =
    by_bool (eqb b point)
    (λ t. ap all_parts (parts-point b s t))
    (λ f. ap all_parts (parts-other b s f ∙ sym (onto-nothing (onto (b ∷ []) (parts s)) (onto-some (b ∷ []) (parts s))))
    ∙ stained_parts [] b (parts s) e)

-- parts before others do not matter
after-parts : (ps qs : List (List ℕ)) → all_parts ps ≡ true → all_parts (ps ++ qs) ≡ all_parts qs
unfolding all_parts
after-parts [] qs e = refl
after-parts (p ∷ ps) qs e =
    let tests = both (is_part p) (all_parts ps) e in
    ap (λ (a : Bool). a && all_parts (ps ++ qs)) tests.0 ∙ after-parts ps qs tests.1

-- ---- so many parts from the front

-- the digits at a place
abbrev pub run : List ℕ → ℕ → List ℕ
run d at = digit_run (drop at d)

-- the bytes begin with these parts, and the next stands at a place
pub record Front (d : List ℕ) (ps : List (List ℕ)) (at : ℕ) : Type 0 where
  pub so_far : parts d ≡ ps ++ parts (drop at d)
  pub each : all_parts ps ≡ true

-- the next one is read too: its number, or the one that stands for it, and the place after it
pub record Taken (d : List ℕ) (ps : List (List ℕ)) (at number end : ℕ) : Type 0 where
  pub front : Front d ps at
  pub digit : digit_first (drop at d) ≡ true
  pub number_is : number ≡ min (value 0 (run d at)) past_all
  pub end_is : end ≡ at + length (run d at)

-- a part that stands there, and the place after it, or none
abbrev pub Part : Type 0
Part = Option (ℕ × ℕ)

-- what a part tells, by numbers
abbrev stands : Part → ℕ
stands (Some (number, end)) = 1
stands None = 0

abbrev number_in : Part → ℕ
number_in (Some (number, end)) = number
number_in None = 0

abbrev end_in : Part → ℕ
end_in (Some (number, end)) = end
end_in None = 0

part-here : (d : List ℕ) (at : ℕ) → digit_first (drop at d) ≡ true
    → part_at d at ≡ Some (min (value 0 (run d at)) past_all, at + length (run d at))
unfolding part_at
part-here d at e = rw (part_at, e)

part_none : (d : List ℕ) (at : ℕ) → digit_first (drop at d) ≡ false → part_at d at ≡ None
unfolding part_at
part_none d at e = rw (part_at, e)

-- digits in front, or none
first_some : (s : List ℕ) → digit_first s ≡ true → 0 < length (digit_run s)
unfolding digit_first
first_some [] e = absurd (false≢true e)
first_some (b ∷ s) e = rw (run-digit b s e) (omega arith)

first-none : (s : List ℕ) → digit_first s ≡ false → length (digit_run s) ≡ 0
unfolding digit_first digit_run
first-none [] e = refl
first-none (b ∷ s) e = ap length (run-other b s e)

-- so a run tells whether a part stands there
pub part_told : (d : List ℕ) (at number end : ℕ) → at < end → number ≡ min (value 0 (run d at)) past_all → end ≡ at + length (run d at)
    → Some (number, end) ≡ part_at d at
part_told d at number end h e f =
    by_bool (digit_first (drop at d))
    (λ t. (λ j. Some (e j, f j)) ∙ sym (part-here d at t))
    (λ n. absurd (omega (arith, h, f, first-none (drop at d) n)))

pub part_untold : (d : List ℕ) (at end : ℕ) → end ≤ at → end ≡ at + length (run d at) → None ≡ part_at d at
part_untold d at end h f =
    by_bool (digit_first (drop at d))
    (λ t. absurd (omega (arith, h, f, first_some (drop at d) t)))
    (λ n. sym (part_none d at n))

-- a part that is told was taken
taken : (d : List ℕ) (ps : List (List ℕ)) (at number end : ℕ) → Front d ps at → part_at d at ≡ Some (number, end) → Taken d ps at number end
taken d ps at number end front e =
    by_bool (digit_first (drop at d))
    (λ t. let is = sym e ∙ part-here d at t in record { front = front; digit = t; number_is = ap number_in is; end_is = ap end_in is })
    (λ f. absurd (omega (arith, ap stands (sym e ∙ part_none d at f))))

untaken : (d : List ℕ) (at : ℕ) → part_at d at ≡ None → digit_first (drop at d) ≡ false
untaken d at e = by_bool (digit_first (drop at d)) (λ t. absurd (omega (arith, ap stands (sym e ∙ part-here d at t)))) (λ f. f)

pub pointed-here : (d : List ℕ) (at : ℕ) → point_first (drop at d) ≡ true → pointed_part d at ≡ part_at d (at + 1)
unfolding pointed_part
pointed-here d at e = rw (pointed_part, e)

pub pointed-none : (d : List ℕ) (at : ℕ) → point_first (drop at d) ≡ false → pointed_part d at ≡ None
unfolding pointed_part
pointed-none d at e = rw (pointed_part, e)

-- whether a point stands at a place, by the byte there
pub point_at : (d : List ℕ) (at : ℕ) → at < length d → point_first (drop at d) ≡ eqb (get_or d at 0) point
unfolding point_first
point_at d at h = ap point_first (drop-cons d at 0 h)

pub no-point : (d : List ℕ) (at : ℕ) → length d ≤ at → point_first (drop at d) ≡ false
unfolding point_first
no-point d at h = ap point_first (drop_of_length-le d h)

-- so by what stands at the place
pub pointed_here : (d : List ℕ) (at : ℕ) → at < length d → get_or d at 0 ≡ point → pointed_part d at ≡ part_at d (at + 1)
pointed_here d at h e = pointed-here d at (point_at d at h ∙ eq-eqb _ _ e)

pub pointed_other : (d : List ℕ) (at : ℕ) → (at < length d → get_or d at 0 ≡ point → ⊥) → pointed_part d at ≡ None
pointed_other d at h =
    by_bool (leb (length d) at)
    (λ over. pointed-none d at (no-point d at (leb-true _ _ over)))
    (λ under. pointed-none d at (point_at d at (leb-false _ _ under) ∙ ne_eqb _ _ (h (leb-false _ _ under))))

-- bytes that are not all parts have not the shape
unshaped : (d : List ℕ) → all_parts (parts d) ≡ false → shaped d ≡ false
unfolding shaped
unshaped d e = ap (λ (a : Bool). right_number (length (parts d)) && a) e ∙ and-false (right_number (length (parts d)))

-- nor have those with another number of them
uncounted : (d : List ℕ) → right_number (length (parts d)) ≡ false → shaped d ≡ false
unfolding shaped
uncounted d e = ap (λ (a : Bool). a && all_parts (parts d)) e

-- as more than there are with an hour
pub many_parts : (n : ℕ) → hour_parts < n → right_number n ≡ false
unfolding right_number
many_parts n h = rw (right_number, ne_eqb n day_parts (λ e. omega (arith, e)), ne_eqb n hour_parts (λ e. omega (arith, e)))

-- ---- the first

pub first : (d : List ℕ) {number end : ℕ} → part_at d 0 ≡ Some (number, end) → Taken d [] 0 number end
unfolding all_parts
first d e = taken d [] 0 _ _ (record { so_far = refl; each = refl }) e

pub no-first : (d : List ℕ) → part_at d 0 ≡ None → shaped d ≡ false
no-first d e = unshaped d (no_part d (untaken d 0 e))

-- ---- and the next

module _ (d : List ℕ) (ps : List (List ℕ)) (at number end : ℕ) (t : Taken d ps at number end) where
  -- the part that was taken
  abbrev part : List ℕ
  part = run d at

  after_run : rest (drop at d) ≡ drop end d
  after_run = drop-drop (length part) at d ∙ ap (λ (k : ℕ). drop k d) (sym t.end_is)

  all-so_far : parts d ≡ ps ++ onto part (parts (drop end d))
  all-so_far = t.front.so_far ∙ ap (λ (qs : List (List ℕ)). ps ++ qs) (parts-run (drop at d) ∙ ap (λ (s : List ℕ). onto part (parts s)) after_run)

  plain : digit_first (drop end d) ≡ false
  plain = ap digit_first (sym after_run) ∙ rest_plain (drop at d)

  each-so_far : all_parts (ps ++ (part ∷ [])) ≡ true
  unfolding all_parts
  each-so_far = after-parts ps (part ∷ []) t.front.each ∙ ap (λ (a : Bool). a && true) (run-part (drop at d) t.digit)

  one_more : length (ps ++ (part ∷ [])) ≡ suc (length ps)
  one_more = rw length-append (omega arith)

  further : point_first (drop end d) ≡ true → Front d (ps ++ (part ∷ [])) (end + 1)
  further e =
      record {
        so_far =
            all-so_far
            ∙ ap (λ (qs : List (List ℕ)). ps ++ qs) (pointed part (drop end d) e ∙ ap (λ (s : List ℕ). part ∷ parts s) (drop-drop 1 end d))
            ∙ sym (append_assoc ps (part ∷ []) (parts (drop (end + 1) d)));
        each = each-so_far;
      }

  -- bytes after the part that are no point
  stuck : point_first (drop end d) ≡ false → end < length d → shaped d ≡ false
  stuck e h =
      unshaped d
      (ap all_parts all-so_far
      ∙ after-parts ps (onto part (parts (drop end d))) t.front.each
      ∙ other part (drop end d) plain e (rw (length-drop end d) (omega arith)))

  -- all parts are taken
  pub closed : length d ≤ end → parts d ≡ ps ++ (part ∷ [])
  closed h = all-so_far ∙ ap (λ (qs : List (List ℕ)). ps ++ qs) (ended part (drop end d) (drop_of_length-le d h))

  pub closed_parts : length d ≤ end → right_number (suc (length ps)) ≡ true → shaped d ≡ true
  unfolding shaped
  closed_parts h e =
      ap (λ (qs : List (List ℕ)). right_number (length qs) && all_parts qs) (closed h)
      ∙ (λ j. right_number (one_more j) && each-so_far j)
      ∙ ap (λ (a : Bool). a && true) e

  -- the next part is taken
  pub next : {m f : ℕ} → pointed_part d end ≡ Some (m, f) → Taken d (ps ++ (part ∷ [])) (end + 1) m f
  next e =
      by_bool (point_first (drop end d))
      (λ p. taken d (ps ++ (part ∷ [])) (end + 1) _ _ (further p) (sym (pointed-here d end p) ∙ e))
      (λ n. absurd (omega (arith, ap stands (sym e ∙ pointed-none d end n))))

  -- or there is none, where one must be
  pub lost : pointed_part d end ≡ None → (length d ≤ end → right_number (suc (length ps)) ≡ false) → shaped d ≡ false
  lost e few =
      by_bool (point_first (drop end d))
      (λ p. let front = further p in
      unshaped d
      (ap all_parts front.so_far
      ∙ after-parts (ps ++ (part ∷ [])) (parts (drop (end + 1) d)) front.each
      ∙ no_part (drop (end + 1) d) (untaken d (end + 1) (sym (pointed-here d end p) ∙ e))))
      (λ n. by_bool (leb (length d) end)
      (λ over. let all = leb-true (length d) end over in
      uncounted d (ap (λ (qs : List (List ℕ)). right_number (length qs)) (closed all) ∙ ap right_number one_more ∙ few all))
      (λ under. stuck n (leb-false (length d) end under)))

  -- or something follows, where nothing may
  pub over : length ps ≡ day_parts → end < length d → shaped d ≡ false
  over three h =
      by_bool (point_first (drop end d))
      (λ p. let front = further p in
      let qs = parts (drop (end + 1) d) in
      let many : length (parts d) ≡ hour_parts + length qs = ap length front.so_far ∙ rw (length-append, length-append) (omega (arith, three)) in
      uncounted d (many_parts (length (parts d)) (omega (arith, many, parts-some (drop (end + 1) d)))))
      (λ n. stuck n h)
