-- How long the lines of a dump are: room for the longest of them is room for all.
-- Assumes nothing.
use Rattle.std.specs.Prelude.{Result, Err}
use mathlib.Core.Path.{◌≡◌, refl, sym, subst, ◌∙◌}
use mathlib.Core.Bool.{Bool, true, false, false≢true}
use mathlib.Core.List.{List, [], ◌∷◌, ◌++◌}
use Prim.Native.Nat.{ℕ, zero, suc, ◌+◌, ◌*◌, ◌/◌, ◌^◌, ◌≤◌, ◌<◌}
use native.Mathlib.Nat.{div-lt_iff_lt-mul, pow-suc}
use native.Mathlib.Omega.{arith}
use borrow.Author.Tests.{ltb-true, ltb-false}
use lib.Dec.{eqb, ltb}
use lib.ListN.{length, get_or, length-append}
use Rattle.data.proofs.Cases.{by_bool}
use Rattle.data.specs.Bytes.{line_feed}
use Rattle.tape.specs.declared.token.Token.{Token}
use Rattle.tape.specs.Words.{words_for, tokens_in, a_word, b_word, last_word}
use Rattle.tape.specs.Token.{no_token}
use Rattle.sheet.specs.Sound.{nth}
use Rattle.tape.proofs.Views.{tokens-length, tokens-at, tokens_none, tokens-past}
use Rattle.machine.specs.declared.Parsed.{Parsed}
use Rattle.machine.specs.declared.Refusal.{Refusal}
use Rattle.machine.specs.Finish.{outcome, with_tokens}
use Rattle.parse.specs.Parse.{parse_of}
use Rattle.machine.specs.Refusals.{number, place}
use Rattle.put.proofs.Append.{append-fits}
use Rattle.report.proofs.Digits.{decimal-one, decimal-more}
use Rattle.report.proofs.Lines.{dump-tokens, dump-refused}
use Rattle.put.specs.Append.{wrote, append, whole}
use Rattle.report.specs.Digits.{decimal}
use Rattle.parse.specs.Told.{bit}
use Rattle.report.specs.Dump.{Named, names, named, name_of, line_of, lines_from, header_of, refused_of, dump_of, save_of}
use Rattle.report.specs.Room.{most_input, most_tokens, longest_line, longest_other, dump_bytes, Held}
use Rattle.report.specs.Words as words

quotient-below : (n m : ℕ) → n < m * 10 → n / 10 < m
quotient-below n m h = (div-lt_iff_lt-mul {k = 10} {x = n} {y = m} (omega arith)).1 h

-- a number below a power of ten has at most as many digits
pub decimal-short : (k n : ℕ) → n < 10 ^ suc k → length (decimal n) ≤ suc k
decimal-short zero n h = rw (decimal-one n h) (omega arith)
decimal-short (suc k) n h =
    by_bool (ltb n 10)
    (λ t. rw (decimal-one n (ltb-true n 10 t)) (omega arith))
    (λ f. let below = decimal-short k (n / 10) (quotient-below n (10 ^ suc k) (rw (pow-suc 10 (suc k)) at h)) in
    rw (decimal-more n (ltb-false n 10 f), length-append) (omega arith))

-- a name has at most eighteen letters
all_short : List Named → Bool
all_short [] = true
all_short (n ∷ ns) = elim (ltb (length n.name) 19) [ true ↦ all_short ns | false ↦ false ]

named-short : (ns : List Named) (code : ℕ) → all_short ns ≡ true → length (named ns code) ≤ 18
unfolding named all_short
named-short [] code e = omega arith
named-short (n ∷ ns) code e =
    by_bool (ltb (length n.name) 19)
    (λ t. by_bool (eqb code n.code)
    (λ here. rw (named, here) (omega (arith, ltb-true (length n.name) 19 t)))
    (λ later. rw (named, later) (named-short ns code (rw (all_short, t) at e))))
    (λ f. absurd (false≢true (rw (all_short, f) at e)))

name-short : (code : ℕ) → length (name_of code) ≤ 18
unfolding name_of all_short
name-short code = named-short names code refl

-- ---- words that fit their type
abbrev pub Fit : List ℕ → Type 0
Fit ws = (j : ℕ) → get_or ws j 0 < 2 ^ 32

pub record Short (t : Token) : Type 0 where
  pub a_short : t.a < 2 ^ 32
  pub b_short : t.b < 2 ^ 32

no_token-short : Short no_token
no_token-short = record { a_short = omega arith; b_short = omega arith }

pub tokens-short : (ws : List ℕ) (n i : ℕ) → Fit ws → Short (nth (tokens_in ws n) i)
tokens-short ws n i h =
    by_bool (ltb i n)
    (λ here. by_bool (ltb (last_word i) (length ws))
    (λ stands. subst Short (sym (tokens-at ws n i (ltb-true _ _ here) (ltb-true _ _ stands))) (record { a_short = h (a_word i); b_short = h (b_word i) }))
    (λ cut. subst Short (sym (tokens_none ws n i (ltb-false _ _ cut))) no_token-short))
    (λ past. subst Short (sym (tokens-past ws n i (ltb-false _ _ past))) no_token-short)

-- a word has at most ten digits, and a number of 64 bits at most twenty
pub word-short : (n : ℕ) → n < 2 ^ 32 → length (decimal n) ≤ 10
word-short n h = decimal-short 9 n (omega arith)

pub number_short : (n : ℕ) → n < 2 ^ 64 → length (decimal n) ≤ 20
number_short n h = decimal-short 19 n (omega arith)

-- ---- a line, all lines, and what stands without them
line-short : (i : ℕ) (t : Token) → i < 2 ^ 32 → Short t → length (line_of i t) ≤ longest_line
unfolding line_of
line-short i t h s =
    simp length-append
    (omega (
      arith,
      word-short i h,
      name-short t.code,
      word-short t.a s.a_short,
      word-short t.b s.b_short,
    ))

pub lines-short : (ts : List Token) (i : ℕ) → ((j : ℕ) → Short (nth ts j)) → i + length ts ≤ 2 ^ 32
    → length (lines_from i ts) ≤ longest_line * length ts
unfolding lines_from
lines-short [] i h fit = omega arith
lines-short (t ∷ ts) i h fit =
    rw (lines_from, length-append)
    (omega (arith, line-short i t (omega arith) (h 0), lines-short ts (i + 1) (λ j. h (suc j)) (omega arith)))

pub bit-short : (b : Bool) → length (decimal (bit b)) ≤ 1
bit-short true = decimal-short 0 1 (omega arith)
bit-short false = decimal-short 0 0 (omega arith)

header-short : (n : ℕ) (bom : Bool) → n < 2 ^ 32 → length (header_of n (bit bom)) ≤ longest_other
unfolding header_of
header-short n bom h = simp length-append (omega (arith, word-short n h, bit-short bom))

refused-short : (number place : ℕ) → number < 2 ^ 64 → place < 2 ^ 64 → length (refused_of number place) ≤ longest_other
unfolding refused_of
refused-short number place h k = simp length-append (omega (arith, number_short number h, number_short place k))

-- ---- so that the dump of any text is held, and with it what the program prints
pub dump-held : (text ws : List ℕ) (len count : ℕ) (bom : Bool) (p : Result Parsed Refusal) → outcome p ws ≡ parse_of text len → p ≡ with_tokens count bom
    → Fit ws → length ws ≡ len → count < 2 ^ 32 → Held (dump_of text len) len
dump-held text ws len count bom p e told fit kept small tokens room =
    let most = tokens-length ws count in
    rw (← dump-tokens text ws len count bom p e told, length-append)
    (omega (
      arith,
      header-short count bom small,
      lines-short (tokens_in ws count) 0 (λ j. tokens-short ws count j fit) (omega arith),
    ))

pub refusal-held : (text ws : List ℕ) (len n at : ℕ) (r : Refusal) (p : Result Parsed Refusal) → outcome p ws ≡ parse_of text len → p ≡ Err r
    → n ≡ number r → at ≡ place r → n < 2 ^ 64 → at < 2 ^ 64 → Held (dump_of text len) len
refusal-held text ws len n at r p e told numbered placed small near tokens room =
    rw (← dump-refused text ws len n at r p e told numbered placed) (omega (arith, refused-short n at small near))

over-short : length (words.input_over ++ decimal most_input ++ (line_feed ∷ [])) ≤ longest_other
over-short = simp length-append (omega (arith, number_short most_input (omega arith)))

pub over-held : (input : List ℕ) (len : ℕ) → ltb most_input (length input) ≡ true → Held (save_of input len) len
unfolding save_of
over-held input len longer tokens room = rw (save_of, longer) (omega (arith, over-short))

pub save_held : (input : List ℕ) (len : ℕ) → ltb most_input (length input) ≡ false → Held (dump_of input len) len → Held (save_of input len) len
unfolding save_of
save_held input len within held tokens room = rw (save_of, within) (held tokens room)

-- and what is held by fewer bytes than a buffer has is put whole
pub put_whole : (out bs : List ℕ) (at : ℕ) {r : ℕ} {o : List ℕ} → wrote r o ≡ append out at bs → at + length bs ≤ length out
    → wrote r o ≡ whole out at bs
put_whole out bs at put fits = put ∙ append-fits out at bs fits

-- the program's own: on its tape, into a buffer that holds so many tokens' lines
pub save_whole : (lines input : List ℕ) (len : ℕ) {r : ℕ} {o : List ℕ} → wrote r o ≡ append lines 0 (save_of input len)
    → Held (save_of input len) len → len ≡ words_for most_tokens → dump_bytes most_tokens ≤ length lines
    → wrote r o ≡ whole lines 0 (save_of input (words_for most_tokens))
save_whole lines input len {r = r} {o = o} put held sized room =
    let fits : length (save_of input len) ≤ dump_bytes most_tokens = held most_tokens (omega arith) in
    subst (λ (k : ℕ). wrote r o ≡ whole lines 0 (save_of input k)) sized (put_whole lines (save_of input len) 0 put (omega arith))
