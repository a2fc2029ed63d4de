-- A mask that marks every wanted byte finds the bytes before the first wanted one: once over the set of wanted bytes, and its two uses.
-- Assumes nothing.
use mathlib.Core.Path.{◌≡◌, refl, sym, ◌∙◌, ap, ap₂}
use mathlib.Core.Bool.{Bool, true, false, not, false≢true, ◌&&◌}
use mathlib.Core.List.{List, [], ◌∷◌, ◌++◌}
use Prim.Native.Nat.{ℕ, zero, suc, ◌+◌, ◌-◌, ◌*◌, ◌/◌, ◌^◌, ◌≤◌, ◌<◌}
use native.Mathlib.Omega.{arith}
use borrow.Author.Tests.{eq-eqb, eqb-true, eqb-false, leb-true}
use lib.Bits.{bit_and, bit_or, or_add_and, and_le_l, and_le_r}
use lib.Count.{count_trailing_zeros, trailing_le, trailing_of_zero}
use lib.Dec.{eqb, leb}
use lib.ListN.{length, get_or, take, drop, length-drop}
use lib.Pow.{pow_pos}
use lib.Seq.{take-add, drop-drop, get_or-take, get_or-drop, length-take-le}
use Rattle.data.proofs.Below.{all_below, below}
use Rattle.data.proofs.Cases as cases
use Rattle.data.specs.Bytes.{quote, backslash}
use Rattle.data.specs.Classes.{is_boundary, byte_count}
use Rattle.cut.specs.Lanes.{Bytes, Lane, word, spread, value, on, over, stays}
use Rattle.cut.specs.Marks.{may_end, may_close, top, turns_quote, word_size, stride, tops, all_unmarked}
use Rattle.cut.specs.Marks.{word_mark, first_mark, Marks, Calm, marks_at, Finds}
use Rattle.cut.proofs.Lanes.{keeps, over-each, over_below}
use Rattle.cut.proofs.Words.{each, each_append, bytes, length-bytes, bytes-bytes, word_bytes}
use Rattle.cut.proofs.Zeros.{zero_bytes, zeros-above, zeros-below}

-- that a mask marks a set, as a test of a byte
unfoldable pub marks : (ℕ → Bool) → Lane → ℕ → Bool
unfolding stays on
marks wanted e b = stays (top e) b && not (wanted b && eqb (on (top e) b) 0)

not_both : (a b : Bool) → not (a && b) ≡ true → b ≡ true → a ≡ false
not_both false b e t = refl
not_both true true e t = absurd (false≢true e)
not_both true false e t = absurd (false≢true t)

-- computed over the 256 bytes
pub tested : (wanted : ℕ → Bool) (e : Lane) → all_below (marks wanted e) byte_count ≡ true → Marks wanted e
unfolding marks
tested wanted e t =
    let at : (b : ℕ) → b < 2 ^ 8 → (stays (top e) b ≡ true) × (not (wanted b && eqb (on (top e) b) 0) ≡ true) =
    λ b h. cases.both (stays (top e) b) (not (wanted b && eqb (on (top e) b) 0)) (below (marks wanted e) byte_count t b h) in
    record {
      stay = λ b h. (at b h).0;
      unmarked = λ b h z. not_both (wanted b) (eqb (on (top e) b) 0) (at b h).1 (eq-eqb (on (top e) b) 0 z);
    }

-- bytes of a part are bytes
bytes_take : (n : ℕ) (bs : List ℕ) → Bytes bs → Bytes (take n bs)
bytes_take zero bs h k = pow_pos 8
bytes_take (suc n) [] h k = pow_pos 8
bytes_take (suc n) (b ∷ bs) h zero = h 0
bytes_take (suc n) (b ∷ bs) h (suc k) = bytes_take n bs (λ j. h (suc j)) k

bytes_drop : (n : ℕ) (bs : List ℕ) → Bytes bs → Bytes (drop n bs)
bytes_drop n bs h k = rw (get_or-drop n bs k 0) (h (n + k))

-- no more than the eight bytes of a word stand before its first mark
pub mark_few : (x : ℕ) → word_mark x ≤ word_size
unfolding word_mark
mark_few x = omega (arith, trailing_le 64 (bit_and x tops))

-- the first mark of two words is the first word's, where that has one, and else the second's
pub mark_first : (x y : ℕ) → (bit_and x tops ≡ 0 → ⊥) → word_mark x ≡ first_mark x y
unfolding word_mark first_mark
mark_first x y some =
    ap (λ (n : ℕ). n / 8) (sym (zeros-below 64 64 (bit_and y tops) (bit_and x tops) (omega (arith, and_le_r x tops)) some))

pub mark_second : (x y : ℕ) → bit_and x tops ≡ 0 → word_size + word_mark y ≡ first_mark x y
unfolding word_mark first_mark
mark_second x y none = rw (first_mark, none) (omega (arith, zeros-above 64 64 (bit_and y tops)))

-- two words without a mark have all their bytes before it
pub first_of-none : (x y : ℕ) → all_unmarked x y ≡ true → first_mark x y ≡ stride
unfolding all_unmarked first_mark
first_of-none x y e =
    let a : ℕ = bit_and x tops in
    let b : ℕ = bit_and y tops in
    let none = eqb-true (bit_or a b) 0 e in
    let zero_a : a ≡ 0 = omega (arith, or_add_and a b, and_le_r a b) in
    let zero-b : b ≡ 0 = omega (arith, or_add_and a b, and_le_l a b) in
    ap₂ (λ (p q : ℕ). count_trailing_zeros 128 (q * 2 ^ 64 + p) / 8) zero_a zero-b ∙ ap (λ (n : ℕ). n / 8) (trailing_of_zero 128)

module _ (wanted : ℕ → Bool) (e : Lane) (m : Marks wanted e) where
  -- the law: none of the bytes before the first mark is wanted
  unwanted : (bs : List ℕ) → Bytes bs → (k : ℕ) → k < count_trailing_zeros (length bs * 8) (each (on (top e)) bs) / 8 → wanted (get_or bs k 0) ≡ false
  unwanted bs h k l = m.unmarked (get_or bs k 0) (h k) (zero_bytes (on (top e)) (keeps (top e) m.stay) bs h k l)

  module _ (d : List ℕ) (bytes : Bytes d) where
    -- the eight bytes from a place on
    abbrev part : ℕ → List ℕ
    part i = take word_size (drop i d)

    long : (i n : ℕ) → i + n ≤ length d → length (take n (drop i d)) ≡ n
    long i n h = length-take-le n (drop i d) (rw length-drop (omega arith))

    -- a word's marks by its bytes
    marked : (i x : ℕ) → i + word_size ≤ length d → x ≡ marks_at e d i → bit_and x tops ≡ each (on (top e)) (part i)
    unfolding over
    marked i x h q =
        ap (λ (n : ℕ). bit_and n tops) q
        ∙ ap (λ (n : ℕ). over (top e) n (word (part i))) (sym (long i word_size h))
        ∙ over-each (top e) m.stay (part i) (bytes_take word_size (drop i d) (bytes_drop i d bytes))

    module _ (i x y : ℕ) (within : i + stride ≤ length d) (first : x ≡ marks_at e d i) (second : y ≡ marks_at e d (i + word_size)) where
      sixteen : each (on (top e)) (take stride (drop i d)) ≡ bit_and y tops * 2 ^ 64 + bit_and x tops
      sixteen =
          let f = on (top e) in
          ap (each f) (take-add word_size word_size (drop i d) ∙ ap (λ (l : List ℕ). part i ++ take word_size l) (drop-drop word_size i d))
          ∙ each_append f (part i) (part (i + word_size))
          ∙ ap (λ (k : ℕ). each f (part (i + word_size)) * 2 ^ (k * 8) + each f (part i)) (long i word_size (omega arith))
          ∙ ap₂ (λ (q p : ℕ). q * 2 ^ 64 + p)
          (sym (marked (i + word_size) y (omega arith) second))
          (sym (marked i x (omega arith) first))

      calm : (n : ℕ) → n ≡ first_mark x y → Calm wanted d i n
      unfolding first_mark
      calm n q =
          let bs : List ℕ = take stride (drop i d) in
          let same : n ≡ count_trailing_zeros (length bs * 8) (each (on (top e)) bs) / 8 =
          q ∙ ap₂ (λ (k s : ℕ). count_trailing_zeros (k * 8) s / 8) (sym (long i stride within)) (sym sixteen) in
          let few : n ≤ stride = omega (arith, trailing_le (length bs * 8) (each (on (top e)) bs), long i stride within) in
          record {
            few = few;
            none = λ k l.
                ap wanted (sym (get_or-take stride (drop i d) k 0 (omega arith) ∙ get_or-drop i d k 0))
                ∙ unwanted bs (bytes_take stride (drop i d) (bytes_drop i d bytes)) k (rw same at l);
          }

-- the law, once over the set of wanted bytes: a mask that marks them finds the bytes before the first
pub finds : (wanted : ℕ → Bool) (e : Lane) → Marks wanted e → Finds wanted e
finds wanted e m d bytes i x y n within first second q = calm wanted e m d bytes i x y within first second n q

-- a stride as the code looks at it, with a byte more behind it: without a mark it is calm, and else what stands before the first mark is, and the
-- marked byte stands in the part
pub record Looked (wanted : ℕ → Bool) (d : List ℕ) (i x y : ℕ) : Type 0 where
  pub within : i + stride < length d
  pub whole : all_unmarked x y ≡ true → Calm wanted d i stride
  pub marked : (n : ℕ) → n ≡ first_mark x y → Calm wanted d i n × (i + n < length d)

pub looked : (wanted : ℕ → Bool) (e : Lane) → Finds wanted e → (d : List ℕ) → Bytes d → (i last : ℕ) → last ≡ length d - stride → i < last
    → (w v x y : ℕ) → w ≡ word (take word_size (drop i d)) → x ≡ over e word_size w
    → v ≡ word (take word_size (drop (i + word_size) d)) → y ≡ over e word_size v → Looked wanted d i x y
looked wanted e find d bytes i last reach here w v x y first marked-first second marked-second =
    let within : i + stride < length d = omega arith in
    let calm : (n : ℕ) → n ≡ first_mark x y → Calm wanted d i n =
    λ n. find d bytes i x y n (omega arith) (marked-first ∙ ap (over e word_size) first) (marked-second ∙ ap (over e word_size) second) in
    record {
      within = within;
      whole = λ u. calm stride (sym (first_of-none x y u));
      marked = λ n q. (calm n q, omega (arith, (calm n q).few));
    }

-- fewer bytes of calm ones are calm
calm_less : (wanted : ℕ → Bool) (d : List ℕ) (i m n : ℕ) → m ≤ n → Calm wanted d i n → Calm wanted d i m
calm_less wanted d i m n le c = record { few = omega (arith, c.few); none = λ k l. c.none k (omega arith) }

-- a word as the code looks at it by itself, where there is a stride: without a mark it is calm, and else what stands before its first mark is, and
-- the marked byte stands in the part
pub record Peeked (wanted : ℕ → Bool) (d : List ℕ) (i x : ℕ) : Type 0 where
  pub whole : bit_and x tops ≡ 0 → Calm wanted d i word_size
  pub marked : (bit_and x tops ≡ 0 → ⊥) → (n : ℕ) → n ≡ word_mark x → Calm wanted d i n × (i + n < length d)

-- it is the first of two words, whose second is not computed
pub peeked : (wanted : ℕ → Bool) (e : Lane) → Finds wanted e → (d : List ℕ) → Bytes d → (i : ℕ) → i + stride ≤ length d
    → (w x : ℕ) → w ≡ word (take word_size (drop i d)) → x ≡ over e word_size w → Peeked wanted d i x
peeked wanted e find d bytes i within w x first marked-first =
    let y : ℕ = marks_at e d (i + word_size) in
    let calm : (n : ℕ) → n ≡ first_mark x y → Calm wanted d i n =
    λ n. find d bytes i x y n within (marked-first ∙ ap (over e word_size) first) refl in
    record {
      whole = λ none. calm_less wanted d i word_size (first_mark x y) (omega (arith, mark_second x y none)) (calm (first_mark x y) refl);
      marked = λ some n q. (calm n (q ∙ mark_first x y some), omega (arith, mark_few x));
    }

-- the two uses, each computed over the 256 bytes: the thirteen, and quote and backslash
ends-marked : Marks is_boundary may_end
unfolding marks all_below stays on value is_boundary
ends-marked = tested is_boundary may_end refl

closes-marked : Marks turns_quote may_close
unfolding marks all_below stays on value turns_quote
closes-marked = tested turns_quote may_close refl

pub finds_ends : Finds is_boundary may_end
finds_ends = finds is_boundary may_end ends-marked

pub finds_closes : Finds turns_quote may_close
finds_closes = finds turns_quote may_close closes-marked

-- so a stride that the loop of either cut looks at shows this
module _ {d : List ℕ} {i last w v x y : ℕ} (bytes : Bytes d) (reach : last ≡ length d - stride) (here : i < last)
    (first : w ≡ word (take word_size (drop i d))) where
  pub looked_ends : x ≡ over may_end word_size w → v ≡ word (take word_size (drop (i + word_size) d)) → y ≡ over may_end word_size v
      → Looked is_boundary d i x y
  looked_ends e second f = looked is_boundary may_end finds_ends d bytes i last reach here w v x y first e second f

  pub looked_closes : x ≡ over may_close word_size w → v ≡ word (take word_size (drop (i + word_size) d)) → y ≡ over may_close word_size v
      → Looked turns_quote d i x y
  looked_closes e second f = looked turns_quote may_close finds_closes d bytes i last reach here w v x y first e second f

-- and the word at the head of a part, looked at by itself
pub peeked_ends : {d : List ℕ} {w x : ℕ} → Bytes d → word_size + stride < length d → w ≡ word (take word_size (drop 0 d))
    → x ≡ over may_end word_size w → Peeked is_boundary d 0 x
peeked_ends {d} {w} {x} bytes room first e = peeked is_boundary may_end finds_ends d bytes 0 (omega arith) w x first e

-- a byte that is neither a quote nor a backslash
pub no-turn : (b : ℕ) → turns_quote b ≡ false → (b ≡ quote → ⊥) × (b ≡ backslash → ⊥)
unfolding turns_quote
no-turn b e =
    cases.by_bool (eqb b quote)
    (λ t. absurd (false≢true (sym e ∙ rw (turns_quote, t))))
    (λ f. (eqb-false b quote f, eqb-false b backslash (rw (turns_quote, f) at e)))

-- whether a computation stays within a byte and is at most c there
unfoldable pub at_most : Lane → ℕ → ℕ → Bool
unfolding stays on
at_most e c b = stays e b && leb (on e b) c

-- then it is at most c in every byte of a word, so that no difference from there goes below 0
pub word_at-most : (e : Lane) (c x : ℕ) → x < 2 ^ 64 → all_below (at_most e c) byte_count ≡ true → over e word_size x ≤ spread word_size c
unfolding at_most
word_at-most e c x h t =
    let at : (b : ℕ) → b < 2 ^ 8 → (stays e b ≡ true) × (leb (on e b) c ≡ true) =
    λ b l. cases.both (stays e b) (leb (on e b) c) (below (at_most e c) byte_count t b l) in
    let w = over_below e (λ b l. (at b l).0) c (λ b l. leb-true _ _ (at b l).1) (bytes word_size x) (bytes-bytes word_size x) in
    rw (length-bytes word_size x, word_bytes word_size x h) at w
