-- Puts compose: what one call leaves is where the next goes on, and together they put the bytes of both.
-- Assumes nothing.
use mathlib.Core.Path.{◌≡◌, refl, sym, ap, ◌∙◌}
use mathlib.Core.Bool.{false}
use mathlib.Core.List.{List, [], ◌∷◌, ◌++◌, append_assoc}
use Prim.Native.Nat.{ℕ, ◌+◌, ◌-◌, ◌≤◌, ◌<◌}
use native.Mathlib.Numerals.{add-one}
use native.Mathlib.Omega.{arith}
use borrow.Author.Tests.{lt-ltb, le-ltb, ltb-true, ltb-false}
use borrow.Rule.Slice.PartMut.{put_mid}
use lib.Dec.{ltb}
use lib.ListN.{length, set, take, drop, length-set}
use lib.Seq.{sets, sets-eq, length-take-le, take_all, drop-drop}
use Rattle.std.proofs.Common.{take-append-drop}
use Rattle.std.proofs.lemmas.Slice.{overwrites}
use borrow.Author.Rules.{rules}
use Rattle.data.proofs.Cases.{by_bool}
use Rattle.put.specs.Append.{Wrote, wrote, append, and_then}

-- where there is room for none, none is put
pub append-stops : (out : List ℕ) (at : ℕ) (bs : List ℕ) → ltb at (length out) ≡ false → append out at bs ≡ wrote at out
unfolding append
append-stops out at [] e = refl
append-stops out at (b ∷ bs) e = rw (append, e)

-- bytes behind others are put behind them
pub append-more : (out : List ℕ) (at : ℕ) (xs bs : List ℕ) → append out at (xs ++ bs) ≡ and_then (append out at xs) bs
unfolding append
append-more out at [] bs = refl
append-more out at (a ∷ xs) bs =
    by_bool (ltb at (length out))
    (λ room. rw (append, room) (append-more (set out at a) (at + 1) xs bs))
    (λ none. rw (append, none) (sym (append-stops out at bs none)))

-- two puts in a row
pub chain : (out : List ℕ) (at : ℕ) (xs bs : List ℕ) {r r' : ℕ} {o o' : List ℕ}
    → wrote r o ≡ append out at xs → wrote r' o' ≡ append o r bs
    → wrote r' o' ≡ append out at (xs ++ bs)
chain out at xs bs e f = f ∙ ap (λ (w : Wrote). and_then w bs) e ∙ sym (append-more out at xs bs)

-- where all fits, each is stored at its place
stored : (bs out : List ℕ) (at : ℕ) → at + length bs ≤ length out → append out at bs ≡ wrote (at + length bs) (sets out at bs)
unfolding append
stored [] out at h = ap (λ (k : ℕ). wrote k out) {x = at} {y = at + 0} (omega arith)
stored (b ∷ bs) out at h =
    rw (append, lt-ltb at (length out) (omega arith))
    (stored bs (set out at b) (at + 1) (rw length-set (omega arith))
    ∙ ap (λ (k : ℕ). wrote k (sets (set out at b) (at + 1) bs)) {x = at + 1 + length bs} {y = at + length (b ∷ bs)} (omega arith)
    ∙ ap (λ (k : ℕ). wrote (at + length (b ∷ bs)) (sets (set out at b) k bs)) (add-one at))

-- so that the buffer has the bytes at the place and is otherwise as it was, and the place is past them
pub append-fits : (out : List ℕ) (at : ℕ) (bs : List ℕ) → at + length bs ≤ length out
    → append out at bs ≡ wrote (at + length bs) (take at out ++ bs ++ drop (at + length bs) out)
append-fits out at bs h = stored bs out at h ∙ ap (wrote (at + length bs)) (sets-eq bs out at h)

-- a byte that is put, one that finds no room, and none
pub put_one : (out : List ℕ) (at b : ℕ) → at < length out → wrote (at + 1) (set out at b) ≡ append out at (b ∷ [])
unfolding append
put_one out at b h = rw (append, lt-ltb at (length out) h)

pub put-none : (out : List ℕ) (at : ℕ) (bs : List ℕ) → length out ≤ at → wrote at out ≡ append out at bs
put-none out at bs h = sym (append-stops out at bs (le-ltb at (length out) h))

pub put-empty : (out : List ℕ) (at : ℕ) → wrote at out ≡ append out at []
unfolding append
put-empty out at = refl

-- after the first part of some bytes is put, what is left of them is put from there
pub put_on : (out : List ℕ) (at : ℕ) (all xs bs : List ℕ) {r : ℕ} {o : List ℕ} → all ≡ xs ++ bs → wrote r o ≡ append out at xs
    → append out at all ≡ append o r bs
put_on out at all xs bs parts e =
    ap (append out at) parts ∙ append-more out at xs bs ∙ ap (λ (w : Wrote). and_then w bs) (sym e)

-- the same bytes by another name
pub same_bytes : (out : List ℕ) (at : ℕ) (xs ys : List ℕ) {r : ℕ} {o : List ℕ} → wrote r o ≡ append out at xs → xs ≡ ys
    → wrote r o ≡ append out at ys
same_bytes out at xs ys e f = e ∙ ap (append out at) f

-- a part of the buffer that is copied over has its bytes stored there
pub part-set : (out part : List ℕ) (at : ℕ) {n : ℕ} → length part ≡ n → at + n ≤ length out → put_mid at (at + n - at) out part ≡ sets out at part
part-set out part at {n} size room =
    let all : at + n - at ≡ length part = omega arith in
    rw (all, drop-drop (length part) at out, ← append_assoc (take at out) part (drop (at + length part) out))
    (sym (sets-eq part out at (omega arith)))

-- as many bytes as there is room for are put, or all
module _ (out : List ℕ) (at : ℕ) (bytes : List ℕ) (n : ℕ) (room : at + n ≤ length out) where
  put_first : n ≤ length bytes → wrote (at + n) (put_mid at (at + n - at) out (take n bytes)) ≡ append out at (take n bytes)
  put_first some =
      let size : length (take n bytes) ≡ n = length-take-le n bytes some in
      ap (wrote (at + n)) (part-set out (take n bytes) at size room)
      ∙ ap (λ (k : ℕ). wrote (at + k) (sets out at (take n bytes))) (sym size)
      ∙ sym (stored (take n bytes) out at (omega arith))

  pub put-room : n ≤ length bytes → (at + n < length out → length bytes ≤ n) → {part : List ℕ} → part ≡ take n bytes
      → wrote (at + n) (put_mid at (at + n - at) out part) ≡ append out at bytes
  put-room some most {part} e =
      let after : List ℕ = put_mid at (at + n - at) out (take n bytes) in
      let size : length after ≡ length out = same_size in
      rw e
      (by_bool (ltb (at + n) (length out))
      (λ l. put_first some ∙ ap (append out at) (take_all n bytes (most (ltb-true (at + n) (length out) l))))
      (λ f.
      let full : length after ≤ at + n = omega (arith, size, ltb-false (at + n) (length out) f) in
      put-none after (at + n) (drop n bytes) full
      ∙ sym (put_on out at bytes (take n bytes) (drop n bytes) (sym (take-append-drop n bytes)) (put_first some))))
    where
      same_size : length (put_mid at (at + n - at) out (take n bytes)) ≡ length out
      same_size = search (rules, overwrites)
