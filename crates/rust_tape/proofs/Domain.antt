-- Demand 2, the domain: where the Rust's own cuts on x86-64 are ours. The quoted cut is everywhere, and the unquoted one on every part whose run has
-- one byte or holds none of the three bytes on which its two tables disagree.
-- Assumes nothing.
use Prim.Native.Nat.{ℕ, zero, suc, ◌+◌, ◌-◌, ◌*◌, ◌/◌, ◌≤◌, ◌<◌, min, max}
use mathlib.Core.Path.{◌≡◌, refl, sym, ◌∙◌, ap, subst, fun_ext}
use mathlib.Core.Bool.{Bool, true, false, ◌||◌, xor, beq, false≢true, or-false, or-true}
use mathlib.Core.List.{List, [], ◌∷◌, ◌++◌, append-nil}
use mathlib.Core.Logic.{inl, inr, ⊎_elim}
use mathlib.Core.Option
use mathlib.Core.Option.{Option, none, some}
use native.Mathlib.Nat.{zero-add, add-zero, suc-add}
use native.Mathlib.Numerals.{add-one}
use native.Mathlib.Omega.{arith}
use borrow.Author.Tests.{eqb-true, eqb-false, ltb-true, ltb-false, lt-ltb, le-ltb}
use lib.Dec.{eqb, ltb}
use lib.ListN.{length, get_or, take, drop, length-take, length-drop, take-append-drop, drop_of_length-le, get_or-eq_default}
use lib.Seq.{drop-drop}
use Rattle.data.proofs.Cases.{by_bool}
use Rattle.data.specs.Bytes.{quote, backslash}
use Rattle.data.specs.Classes.{among, is_boundary, boundary_bytes}
use Rattle.cut.specs.Runs.{stop_from, run_of, run_end_of, unquoted_run}
use Rattle.cut.specs.Quotes.{quoted_from, quoted_run, closed}
use Rattle.std.specs.Prelude.{Some, None}
use Rattle.std.specs.Prelude as Ours
use Rattle.cut.specs.declared.QuotedRun.{QuotedRun}
use Rattle.cut.proofs.Places.{drop_here, by_place}
use Rattle.cut.proofs.Runs.{Run, run_of-run, run_only, unquoted_run-run}
use Rattle.cut.proofs.Quotes.{quoted-past, quoted-closes, quoted_escapes, quoted-goes_on}
use Rattle.rust_tape.specs.RustCuts.{stride_bytes, stride_stops, table_bytes, character_class, has_class, forward_search, Look, loop_size, stride}
use Rattle.rust_tape.specs.RustCuts.{strides_from, strides, scalar_look, scalar_strides, split_at_scalar_fallback, split_at_scalar}
use Rattle.rust_tape.specs.RustCuts.{quote_look, quote_strides, quote_from, parse_quote_scalar_fallback, parse_quote_scalar}
use Rattle.rust_tape.specs.RustCuts.Look.{ends, next, leave}
use Rattle.rust_tape.specs.RustDomain.{doubted_bytes, Undoubted, InDomain, CutAlike}

-- The tables

-- whether a test holds of every number of a list
every : (ℕ → Bool) → List ℕ → Bool
every test [] = true
every test (x ∷ xs) = elim (test x) [ true ↦ every test xs | false ↦ false ]

-- then it holds of each number that is among them
of_every : (test : ℕ → Bool) (xs : List ℕ) (b : ℕ) → every test xs ≡ true → among b xs ≡ true → test b ≡ true
unfolding every
of_every test [] b all in-it = absurd (false≢true in-it)
of_every test (x ∷ xs) b all in-it =
    by_bool (test x)
    (λ here. by_bool (eqb b x)
    (λ same. rw (eqb-true b x same) here)
    (λ other. of_every test xs b (rw (every, here) at all) (rw (among, other) at in-it)))
    (λ fails. absurd (false≢true (rw (every, fails) at all)))

-- the numbers below one
numbers : ℕ → List ℕ
numbers zero = []
numbers (suc n) = n ∷ numbers n

among-numbers : (n b : ℕ) → b < n → among b (numbers n) ≡ true
unfolding numbers
among-numbers zero b h = absurd (omega arith)
among-numbers (suc n) b h =
    by_bool (eqb b n)
    (λ last. rw (numbers, among, last))
    (λ other. rw (numbers, among, other) (among-numbers n b (omega (arith, eqb-false b n other))))

-- a number that is no byte is none of a list of bytes
no_byte : (xs : List ℕ) (b : ℕ) → every (λ x. ltb x 256) xs ≡ true → 256 ≤ b → among b xs ≡ false
no_byte xs b all h =
    by_bool (among b xs) (λ t. absurd (false≢true (sym (le-ltb b 256 h) ∙ of_every (λ x. ltb x 256) xs b all t))) (λ f. f)

-- two answers that compare as equal are equal
same : (p q : Bool) → beq p q ≡ true → p ≡ q
same true true e = refl
same true false e = absurd (false≢true e)
same false true e = absurd (false≢true e)
same false false e = refl

-- two tests that agree at the 256 bytes, by one computation, and fail past them are one test
byte_rule : (p q : ℕ → Bool) → every (λ b. beq (p b) (q b)) (numbers 256) ≡ true → ((b : ℕ) → 256 ≤ b → p b ≡ false)
    → ((b : ℕ) → 256 ≤ b → q b ≡ false)
    → (b : ℕ) → p b ≡ q b
byte_rule p q all past-p past-q b =
    by_bool (ltb b 256)
    (λ t. same (p b) (q b) (of_every (λ b. beq (p b) (q b)) (numbers 256) b all (among-numbers 256 b (ltb-true b 256 t))))
    (λ f. let h = ltb-false b 256 f in past-p b h ∙ sym (past-q b h))

past_boundary : (b : ℕ) → 256 ≤ b → is_boundary b ≡ false
unfolding is_boundary every
past_boundary b h = no_byte boundary_bytes b refl h

past-table : (b : ℕ) → 256 ≤ b → has_class b ≡ false
unfolding has_class character_class
past-table b h = rw (has_class, get_or-eq_default character_class 0 {n = b} h)

-- a stride is compared with the thirteen boundary bytes
pub stride_thirteen : (b : ℕ) → stride_stops b ≡ is_boundary b
unfolding stride_stops is_boundary every numbers
stride_thirteen = byte_rule stride_stops is_boundary refl (λ b h. no_byte stride_bytes b refl h) past_boundary

-- the table has sixteen classes
pub table_sixteen : (b : ℕ) → has_class b ≡ among b table_bytes
unfolding has_class character_class every numbers
table_sixteen = byte_rule has_class (λ b. among b table_bytes) refl past-table (λ b h. no_byte table_bytes b refl h)

-- they are the thirteen boundary bytes and the three that the Rust's comment doubts
pub table_adds : (b : ℕ) → has_class b ≡ (is_boundary b || among b doubted_bytes)
unfolding has_class character_class is_boundary every numbers
table_adds =
    byte_rule has_class (λ b. is_boundary b || among b doubted_bytes) refl past-table
    (λ b h. rw (past_boundary b h) (no_byte doubted_bytes b refl h))

-- so it disagrees with the thirteen exactly at those three
pub table_differs : (b : ℕ) → xor (has_class b) (is_boundary b) ≡ among b doubted_bytes
unfolding has_class character_class is_boundary every numbers xor
table_differs =
    byte_rule (λ b. xor (has_class b) (is_boundary b)) (λ b. among b doubted_bytes) refl
    (λ b h. rw (past-table b h, past_boundary b h)) (λ b h. no_byte doubted_bytes b refl h)

agrees : (b : ℕ) → among b doubted_bytes ≡ false → has_class b ≡ is_boundary b
agrees b e = table_adds b ∙ rw e (or-false (is_boundary b))

wider : (b : ℕ) → is_boundary b ≡ true → has_class b ≡ true
wider b e = table_adds b ∙ rw e

doubted : (b : ℕ) → among b doubted_bytes ≡ true → has_class b ≡ true
doubted b e = table_adds b ∙ rw e (or-true (is_boundary b))

-- Searches and strides

-- by what a search has found, and by what a look says, with the equation
by-option {ℓ} : {P : Type ℓ} (o : Option ℕ) → ((at : ℕ) → o ≡ some at → P) → (o ≡ none → P) → P
by-option none found missed = missed refl
by-option (some at) found missed = found at refl

by-look {ℓ} : {P : Type ℓ} (l : Look) → ((at : ℕ) → l ≡ ends at → P) → (l ≡ next → P) → (l ≡ leave → P) → P
by-look (ends at) found passed left = found at refl
by-look next found passed left = passed refl
by-look leave found passed left = left refl

-- a loop that has passed its end has ended
strides-rest : (look : List ℕ → ℕ → Look) (d : List ℕ) (end-ptr turns ptr : ℕ) → end-ptr ≤ ptr
    → strides_from look d end-ptr turns ptr ≡ none
unfolding strides_from
strides-rest look d end-ptr zero ptr h = refl
strides-rest look d end-ptr (suc turns) ptr h = rw (strides_from, le-ltb ptr end-ptr h)

strides-enough : (look : List ℕ → ℕ → Look) (d : List ℕ) (end-ptr more turns ptr : ℕ) → end-ptr ≤ ptr + turns
    → strides_from look d end-ptr (turns + more) ptr ≡ strides_from look d end-ptr turns ptr
unfolding strides_from
strides-enough look d end-ptr more zero ptr enough = rw zero-add (strides-rest look d end-ptr more ptr (omega arith))
strides-enough look d end-ptr more (suc turns) ptr enough =
    rw suc-add
    (by_bool (ltb ptr end-ptr)
    (λ t. rw (strides_from, t)
    (by-look (look (stride d ptr) ptr)
    (λ at e. rw e)
    (λ e. rw e (strides-enough look d end-ptr more turns (ptr + loop_size) (omega arith)))
    (λ e. rw e)))
    (λ f. rw (strides_from, f)))

-- more turns than a loop of strides is given leave its answer
pub strides-settle : (look : List ℕ → ℕ → Look) (d : List ℕ) (end-ptr more : ℕ)
    → strides_from look d end-ptr (end-ptr + more) 0 ≡ strides look d end-ptr
unfolding strides
strides-settle look d end-ptr more = strides-enough look d end-ptr more end-ptr 0 (omega arith)

-- a look is right about a scan where it ends the run at the scan's answer, or passes on to a place from which the scan answers the same
abbrev Right : {A : Type 0} (scan closed : ℕ → A) → ℕ → Look → Type 0
Right scan closed ptr (ends at) = scan ptr ≡ closed at
Right scan closed ptr next = scan ptr ≡ scan (ptr + loop_size)
Right scan closed ptr leave = Unit {0}

-- and a loop of such looks finds the scan's answer, if any
strides-right : {A : Type 0} (scan closed : ℕ → A) (look : List ℕ → ℕ → Look) (d : List ℕ) (end-ptr : ℕ)
    → ((ptr : ℕ) → ptr < end-ptr → Right scan closed ptr (look (stride d ptr) ptr))
    → (turns ptr at : ℕ) → strides_from look d end-ptr turns ptr ≡ some at → scan ptr ≡ closed at
unfolding strides_from
strides-right scan closed look d end-ptr right zero ptr at e = cc
strides-right scan closed look d end-ptr right (suc turns) ptr at e =
    by_bool (ltb ptr end-ptr)
    (λ t. let here = right ptr (ltb-true ptr end-ptr t) in
    by-look (look (stride d ptr) ptr)
    (λ k l. let it = rw (strides_from, t, l) at e in (rw l at here) ∙ ap closed (cc))
    (λ l. (rw l at here) ∙ strides-right scan closed look d end-ptr right turns (ptr + loop_size) at (rw (strides_from, t, l) at e))
    (λ l. let it = rw (strides_from, t, l) at e in cc))
    (λ f. let it = rw (strides_from, f) at e in cc)

-- a part from a place on is the stride there, and the part from the next one on
part-stride : (d : List ℕ) (ptr : ℕ) → drop ptr d ≡ stride d ptr ++ drop (ptr + loop_size) d
unfolding stride
part-stride d ptr = sym (take-append-drop loop_size (drop ptr d)) ∙ ap (λ (bs : List ℕ). take loop_size (drop ptr d) ++ bs) (drop-drop loop_size ptr d)

length-stride : (d : List ℕ) (ptr : ℕ) → length (stride d ptr) ≡ min loop_size (length d - ptr)
unfolding stride
length-stride d ptr = length-take loop_size (drop ptr d) ∙ rw length-drop

-- so each load of sixteen bytes stays within the part: in `split_at_scalar`, and in `parse_quote_scalar`, whose strides begin at whole sixteens
pub scalar_loads : (d : List ℕ) (ptr : ℕ) → ptr < length d - min loop_size (length d) → length (stride d ptr) ≡ loop_size
scalar_loads d ptr h = length-stride d ptr ∙ omega arith

pub quote_loads : (haystack : List ℕ) (k : ℕ) → k * loop_size < length haystack / loop_size * loop_size
    → length (stride haystack (k * loop_size)) ≡ loop_size
quote_loads haystack k h = length-stride haystack (k * loop_size) ∙ omega arith

-- a scan of some bytes and more ends where a search of the first finds a byte, and else where the scan of the others ends
scan_search : (wanted : ℕ → Bool) (xs ys : List ℕ) (at : ℕ)
    → stop_from wanted (xs ++ ys) at ≡ Option.get_or (forward_search wanted xs at) (stop_from wanted ys (at + length xs))
unfolding stop_from forward_search
scan_search wanted [] ys at = ap (stop_from wanted ys) (sym (add-zero at))
scan_search wanted (x ∷ xs) ys at =
    by_bool (wanted x)
    (λ t. rw (stop_from, forward_search, t))
    (λ f. rw (stop_from, forward_search, f)
    (scan_search wanted xs ys (at + 1) ∙ ap (λ (k : ℕ). Option.get_or (forward_search wanted xs (at + 1)) (stop_from wanted ys k)) (omega arith)))

-- so the search of a whole part is the scan
search_scan : (wanted : ℕ → Bool) (d : List ℕ) → Option.get_or (forward_search wanted d 0) (length d) ≡ stop_from wanted d 0
unfolding stop_from
search_scan wanted d = sym (rw (append-nil, zero-add) at (scan_search wanted d [] 0))

-- and the run is at least one byte of it
scan-from : (stops : ℕ → Bool) (bytes : List ℕ) (at : ℕ) → at ≤ stop_from stops bytes at
unfolding stop_from
scan-from stops [] at = omega arith
scan-from stops (b ∷ bs) at = by_bool (stops b) (λ t. rw (stop_from, t) (omega arith)) (λ f. rw (stop_from, f) (omega (arith, scan-from stops bs (at + 1))))

scan-run : (stops : ℕ → Bool) (d : List ℕ) → 0 < length d → max (stop_from stops d 0) 1 ≡ run_of stops d
unfolding stop_from run_of
scan-run stops [] h = absurd (omega arith)
scan-run stops (b ∷ bs) h =
    by_bool (stops b)
    (λ t. rw (stop_from, run_of, t))
    (λ f. rw (stop_from, run_of, f) (omega (arith, scan-from stops bs 1)))

fallback_run : (d : List ℕ) → 0 < length d → split_at_scalar_fallback d ≡ run_of has_class d
unfolding split_at_scalar_fallback
fallback_run d h = rw (search_scan has_class d) (scan-run has_class d h)

-- where a stride finds the run's end, the scan by the thirteen ends
scan-stride : (d : List ℕ) (ptr : ℕ) → stop_from stride_stops (drop ptr d) ptr
    ≡ Option.get_or (forward_search stride_stops (stride d ptr) ptr) (stop_from stride_stops (drop (ptr + loop_size) d) (ptr + length (stride d ptr)))
scan-stride d ptr =
    ap (λ (bs : List ℕ). stop_from stride_stops bs ptr) (part-stride d ptr)
    ∙ scan_search stride_stops (stride d ptr) (drop (ptr + loop_size) d) ptr

found_stop : (d : List ℕ) (at : ℕ) → scalar_strides d ≡ some at → stop_from stride_stops d 0 ≡ at
unfolding scalar_strides strides scalar_look
found_stop d at e =
    strides-right (λ (ptr : ℕ). stop_from stride_stops (drop ptr d) ptr) (λ (k : ℕ). k) scalar_look d (length d - min loop_size (length d))
    (λ ptr h. by-option (forward_search stride_stops (stride d ptr) ptr)
    (λ k f. rw (scalar_look, f) (scan-stride d ptr ∙ rw f))
    (λ f. rw (scalar_look, f) (scan-stride d ptr ∙ rw (f, length-stride d ptr)
    (ap (λ (k : ℕ). stop_from stride_stops (drop (ptr + loop_size) d) (ptr + k)) (omega arith)))))
    (length d - min loop_size (length d)) 0 at e

-- what a stride finds is our run
found-run : (d : List ℕ) (at : ℕ) → 0 < length d → scalar_strides d ≡ some at → split_at_scalar d ≡ unquoted_run d
unfolding split_at_scalar unquoted_run
found-run d at h e =
    rw (split_at_scalar, e)
    (ap (λ (k : ℕ). max k 1) (sym (found_stop d at e)) ∙ scan-run stride_stops d h
    ∙ ap (λ (stops : ℕ → Bool). run_of stops d) (fun_ext stride_thirteen))

-- and where none finds one, the cut is the run by the table
missed_run : (d : List ℕ) → 0 < length d → scalar_strides d ≡ none → split_at_scalar d ≡ run_of has_class d
unfolding split_at_scalar
missed_run d h e = rw (split_at_scalar, e) (fallback_run d h)

-- The unquoted cut

-- an end that makes a run by the table at the head of a part is the table's run
table-run_only : (d : List ℕ) (n : ℕ) → 0 < length d → Run has_class d 0 n → n ≡ run_of has_class d
unfolding run_end_of
table-run_only d n h r = run_only has_class d 0 n h r ∙ zero-add (run_of has_class d)

table-run : (d : List ℕ) → 0 < length d → Run has_class d 0 (run_of has_class d)
unfolding run_end_of
table-run d h = subst (λ (e : ℕ). Run has_class d 0 e) (zero-add (run_of has_class d)) (run_of-run has_class d 0 h)

-- our run is one by the table, where it is undoubted
by-table : (d : List ℕ) → 0 < length d → Undoubted d (unquoted_run d) → Run has_class d 0 (unquoted_run d)
by-table d h u =
    let o = unquoted_run-run d h in
    record {
      moves = o.moves;
      within = o.within;
      alone = λ e. ⊎_elim (λ one. one) (λ clear. o.alone (sym (agrees (get_or d 0 0) (clear 0 o.moves)) ∙ e)) u;
      inside = λ k f l. ⊎_elim (λ one. absurd (omega arith)) (λ clear. agrees (get_or d k 0) (clear k l) ∙ o.inside k f l) u;
      halted = λ e l. by_bool (is_boundary (get_or d 0 0))
          (λ t. absurd (false≢true (sym e ∙ wider (get_or d 0 0) t)))
          (λ f. wider (get_or d (unquoted_run d) 0) (o.halted f l));
    }

-- the Rust cuts as we do wherever the run that we cut has one byte or holds none of the three: on every part in the domain
pub unquoted-alike : (d : List ℕ) → 0 < length d → Undoubted d (unquoted_run d) → split_at_scalar d ≡ unquoted_run d
unquoted-alike d h u =
    by-option (scalar_strides d)
    (λ at e. found-run d at h e)
    (λ e. missed_run d h e ∙ sym (table-run_only d (unquoted_run d) h (by-table d h u)))

-- there the Rust's run is so too: the domain is told by our cut alone
pub undoubted_both : (d : List ℕ) → 0 < length d → Undoubted d (unquoted_run d) → Undoubted d (split_at_scalar d)
undoubted_both d h u = subst (λ (n : ℕ). Undoubted d n) (sym (unquoted-alike d h u)) u

-- so its cut is ours at each place of a text whose run is in the domain
pub in_domain-alike : (text : List ℕ) (at : ℕ) → InDomain text at → CutAlike split_at_scalar text at
in_domain-alike text at i h = unquoted-alike (drop at text) (rw length-drop (omega arith)) i

-- the domain is no narrower than it must be: where no stride decides, the two cut alike only in it
pub alike_undoubted : (d : List ℕ) → 0 < length d → scalar_strides d ≡ none → split_at_scalar d ≡ unquoted_run d → Undoubted d (unquoted_run d)
alike_undoubted d h e alike =
    let r = subst (λ (n : ℕ). Run has_class d 0 n) (sym (missed_run d h e) ∙ alike) (table-run d h) in
    by_bool (eqb (unquoted_run d) 1)
    (λ one. inl (eqb-true (unquoted_run d) 1 one))
    (λ more. inr (λ k l. by_bool (among (get_or d k 0) doubted_bytes)
    (λ t. by_bool (eqb k 0)
    (λ head. absurd (eqb-false (unquoted_run d) 1 more
    (r.alone (ap (λ (j : ℕ). has_class (get_or d j 0)) (sym (eqb-true k 0 head)) ∙ doubted (get_or d k 0) t))))
    (λ later. absurd (false≢true (sym (r.inside k (omega (arith, eqb-false k 0 later)) l) ∙ doubted (get_or d k 0) t))))
    (λ f. f)))

-- The quoted cut

-- how many bytes our cut finds between the quotes, if one closes: what the Rust answers
abbrev pub as_found : Ours.Option QuotedRun → Option ℕ
as_found (Some run) = some run.length
as_found None = none

-- the fallback's loop, at a position one past a place of the part after the quote, goes by bytes as our cut does
quote_bytewise : (q : ℕ) (bytes : List ℕ) (turns n : ℕ) (e : Bool) → length bytes ≤ n + turns
    → quote_from (q ∷ bytes) turns (n + 1) ≡ as_found (quoted_from (drop n bytes) n e)
unfolding quote_from
quote_bytewise q bytes zero n e enough = sym (ap as_found (quoted-past bytes n e (omega arith)))
quote_bytewise q bytes (suc turns) n e enough =
    let test : (b : ℕ) → eqb (get_or (q ∷ bytes) (n + 1) 0) b ≡ eqb (get_or bytes n 0) b = λ b. rw add-one in
    by_place bytes n
    (λ inside. let more = lt-ltb (n + 1) (length (q ∷ bytes)) (omega arith) in
    by_bool (eqb (get_or bytes n 0) backslash)
    (λ b. rw (quote_from, more, test backslash ∙ b)
    (ap (quote_from (q ∷ bytes) turns) {x = n + 1 + 2} {y = n + 2 + 1} (omega arith)
    ∙ quote_bytewise q bytes turns (n + 2) true (omega arith)
    ∙ sym (ap as_found (quoted_escapes bytes n e inside (eqb-true _ _ b)))))
    (λ other. by_bool (eqb (get_or bytes n 0) quote)
    (λ t. rw (quote_from, more, test backslash ∙ other, test quote ∙ t)
    (ap some {x = n + 1 - 1} {y = n} (omega arith) ∙ sym (ap as_found (quoted-closes bytes n e inside (eqb-true _ _ t)))))
    (λ f. rw (quote_from, more, test backslash ∙ other, test quote ∙ f)
    (quote_bytewise q bytes turns (n + 1) e (omega arith)
    ∙ sym (ap as_found (quoted-goes_on bytes n e inside (eqb-false _ _ f) (eqb-false _ _ other)))))))
    (λ past. rw (quote_from, le-ltb (n + 1) (length (q ∷ bytes)) (omega arith)) (sym (ap as_found (quoted-past bytes n e past))))

-- a quoted run over some bytes with no backslash, and more: closed where a search of the first finds a quote, and else on through the others
abbrev closed_or : Option ℕ → Ours.Option QuotedRun → Ours.Option QuotedRun
closed_or (some at) later = closed at false
closed_or none later = later

quote_search : (xs ys : List ℕ) (n : ℕ) → forward_search (λ b. eqb b backslash) xs n ≡ none
    → quoted_from (xs ++ ys) n false ≡ closed_or (forward_search (λ b. eqb b quote) xs n) (quoted_from ys (n + length xs) false)
unfolding quoted_from forward_search
quote_search [] ys n e = ap (λ (k : ℕ). quoted_from ys k false) (sym (add-zero n))
quote_search (x ∷ xs) ys n e =
    by_bool (eqb x backslash)
    (λ b. let it = rw (forward_search, b) at e in cc)
    (λ other. by_bool (eqb x quote)
    (λ t. rw (quoted_from, forward_search, t))
    (λ f. rw (quoted_from, forward_search, f, other)
    (quote_search xs ys (n + 1) (rw (forward_search, other) at e)
    ∙ ap (λ (k : ℕ). closed_or (forward_search (λ b. eqb b quote) xs (n + 1)) (quoted_from ys k false)) (omega arith))))

quote-stride : (d : List ℕ) (ptr : ℕ) → forward_search (λ b. eqb b backslash) (stride d ptr) ptr ≡ none
    → quoted_from (drop ptr d) ptr false
    ≡ closed_or (forward_search (λ b. eqb b quote) (stride d ptr) ptr) (quoted_from (drop (ptr + loop_size) d) (ptr + length (stride d ptr)) false)
quote-stride d ptr e = ap (λ (bs : List ℕ). quoted_from bs ptr false) (part-stride d ptr) ∙ quote_search (stride d ptr) (drop (ptr + loop_size) d) ptr e

-- a stride that reaches past the end leaves nothing, wherever the count goes on
stride-past : (d : List ℕ) (ptr : ℕ)
    → quoted_from (drop (ptr + loop_size) d) (ptr + length (stride d ptr)) false ≡ quoted_from (drop (ptr + loop_size) d) (ptr + loop_size) false
unfolding quoted_from
stride-past d ptr =
    by_place d (ptr + loop_size)
    (λ inside. rw (length-stride d ptr) (ap (λ (k : ℕ). quoted_from (drop (ptr + loop_size) d) (ptr + k) false) (omega arith)))
    (λ past. rw (drop_of_length-le d past))

-- strides that find a quote have passed no backslash
found-quote : (haystack : List ℕ) (at : ℕ) → quote_strides haystack ≡ some at → quoted_run haystack ≡ closed at false
unfolding quote_strides strides quote_look quoted_run
found-quote d at e =
    strides-right (λ (ptr : ℕ). quoted_from (drop ptr d) ptr false) (λ (k : ℕ). closed k false) quote_look d (length d / loop_size * loop_size)
    (λ ptr h. by-option (forward_search (λ b. eqb b backslash) (stride d ptr) ptr)
    (λ k b. rw (quote_look, b) tt)
    (λ b. by-option (forward_search (λ b. eqb b quote) (stride d ptr) ptr)
    (λ k t. rw (quote_look, b, t) (quote-stride d ptr b ∙ rw t))
    (λ f. rw (quote_look, b, f) (quote-stride d ptr b ∙ rw f (stride-past d ptr)))))
    (length d / loop_size * loop_size) 0 at e

fallback_quote : (q : ℕ) (bytes : List ℕ) → parse_quote_scalar_fallback (q ∷ bytes) ≡ as_found (quoted_run bytes)
unfolding parse_quote_scalar_fallback quoted_run
fallback_quote q bytes = quote_bytewise q bytes (length (q ∷ bytes)) 0 false (omega arith)

-- more turns than its loop is given leave its answer
pub quote-settles : (q : ℕ) (bytes : List ℕ) (more : ℕ)
    → quote_from (q ∷ bytes) (length (q ∷ bytes) + more) 1 ≡ parse_quote_scalar_fallback (q ∷ bytes)
unfolding quoted_run
quote-settles q bytes more = quote_bytewise q bytes (length (q ∷ bytes) + more) 0 false (omega arith) ∙ sym (fallback_quote q bytes)

-- the Rust cuts a quoted run as we do, whatever its bytes
pub quoted-alike : (q : ℕ) (bytes : List ℕ) → parse_quote_scalar (q ∷ bytes) ≡ as_found (quoted_run bytes)
unfolding parse_quote_scalar
quoted-alike q bytes =
    by-option (quote_strides bytes)
    (λ at e. rw (parse_quote_scalar, e) (sym (ap as_found (found-quote bytes at e))))
    (λ e. rw (parse_quote_scalar, e) (fallback_quote q bytes))

-- so it does at every place of a text
pub quoted-end-alike : (text : List ℕ) (at : ℕ) → at < length text → parse_quote_scalar (drop at text) ≡ as_found (quoted_run (drop (at + 1) text))
quoted-end-alike text at h = rw (drop_here text at h) (quoted-alike (get_or text at 0) (drop (at + 1) text))
