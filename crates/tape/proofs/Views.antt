-- What the words of a tape hold, seen as tokens: how many there are, which words each has, and what writing and clearing words does to them.
-- Assumes nothing.
use mathlib.Core.Path.{◌≡◌, refl, sym, ◌∙◌, ap}
use mathlib.Core.List.{List, [], ◌∷◌, ◌++◌}
use Prim.Native.Nat.{ℕ, zero, suc, ◌+◌, ◌-◌, ◌≤◌, ◌<◌, min}
use native.Mathlib.Omega.{arith}
use borrow.Author.Tests.{lt-ltb, le-ltb, ltb-true, ltb-false, le-leb, lt-leb, leb-true, leb-false}
use native.Mathlib.Numerals.{add-one}
use lib.Dec.{leb, ltb}
use lib.ListN.{length, get_or, set, replicate, take, length-append, length-replicate, length-set, get_or-eq_default}
use lib.Seq.{set_out, ext_get_or, length-take-le}
use Rattle.data.proofs.Cases.{by_bool}
use Rattle.tape.specs.declared.token.Token.{Token}
use Rattle.tape.specs.Token.{no_token, nth}
use Rattle.tape.specs.Words.{words_for, capacity, code_word, a_word, b_word, last_word, room_of, tokens_in, words_of, put_words, padded, cleared}
use Rattle.tape.specs.Tape.{before_last}

-- ---- the words of a token, one token further on
next : (i : ℕ) → words_for (suc i) ≡ suc (suc (suc (words_for i)))
next i = omega arith

next_with : (i k : ℕ) → words_for (suc i) + k ≡ suc (suc (suc (words_for i + k)))
next_with i k = omega arith

-- equal lists behind a token are equal
behind : (t : Token) {ts us : List Token} → ts ≡ us → ◌≡◌ {A = List Token} (t ∷ ts) (t ∷ us)
behind t e = ap {B = List Token} (λ (x : List Token). t ∷ x) e

-- the token that the words at an index spell
abbrev pub token_from : List ℕ → ℕ → Token
token_from ws i = record { code = get_or ws (code_word i) 0; a = get_or ws (a_word i) 0; b = get_or ws (b_word i) 0 }

-- ---- reading
-- the words of n tokens are all there where n is at most the capacity
pub held : (n : ℕ) (ws : List ℕ) → leb n (capacity (length ws)) ≡ leb (words_for n) (length ws)
held n ws =
    by_bool (leb n (capacity (length ws)))
    (λ e.
    let within : n ≤ capacity (length ws) = leb-true _ _ e in
    e ∙ sym (le-leb (words_for n) (length ws) (omega arith)))
    (λ e.
    let over : capacity (length ws) < n = leb-false _ _ e in
    e ∙ sym (lt-leb (words_for n) (length ws) (omega arith)))

-- as many tokens as are asked for, or as stand there whole
pub tokens-length : (ws : List ℕ) (n : ℕ) → length (tokens_in ws n) ≡ min n (capacity (length ws))
unfolding tokens_in
tokens-length ws zero = omega arith
tokens-length [] (suc n) = omega arith
tokens-length (c ∷ []) (suc n) = omega arith
tokens-length (c ∷ a ∷ []) (suc n) = omega arith
tokens-length (c ∷ a ∷ b ∷ ws) (suc n) = omega (arith, tokens-length ws n)

-- as many as are asked for, where their words are all there
pub tokens-counted : (ws : List ℕ) (n : ℕ) → words_for n ≤ length ws → length (tokens_in ws n) ≡ n
tokens-counted ws n h = omega (arith, tokens-length ws n)

-- a token is what its words spell
pub tokens-at : (ws : List ℕ) (n i : ℕ) → i < n → last_word i < length ws → nth (tokens_in ws n) i ≡ token_from ws i
unfolding tokens_in
tokens-at ws zero i h k = absurd (omega arith)
tokens-at [] (suc n) i h k = absurd (omega arith)
tokens-at (c ∷ []) (suc n) i h k = absurd (omega arith)
tokens-at (c ∷ a ∷ []) (suc n) i h k = absurd (omega arith)
tokens-at (c ∷ a ∷ b ∷ ws) (suc n) zero h k = refl
tokens-at (c ∷ a ∷ b ∷ ws) (suc n) (suc i) h k =
    rw (next_with i 1, next_with i 2, next i) (tokens-at ws n i (omega arith) (omega arith))

-- where there is no whole token there is none
pub tokens_none : (ws : List ℕ) (n i : ℕ) → length ws ≤ last_word i → nth (tokens_in ws n) i ≡ no_token
tokens_none ws n i h = get_or-eq_default (tokens_in ws n) no_token {n = i} (omega (arith, tokens-length ws n))

-- nor past those that were asked for
pub tokens-past : (ws : List ℕ) (n i : ℕ) → n ≤ i → nth (tokens_in ws n) i ≡ no_token
tokens-past ws n i h = get_or-eq_default (tokens_in ws n) no_token {n = i} (omega (arith, tokens-length ws n))

-- ---- writing
abbrev written_at : List ℕ → ℕ → Token → List ℕ
written_at ws i t = set (set (set ws (code_word i) t.code) (a_word i) t.a) (b_word i) t.b

-- a token that fits is written
pub put-fits : (ws : List ℕ) (i : ℕ) (t : Token) → last_word i < length ws → put_words ws i t ≡ written_at ws i t
unfolding put_words
put-fits ws i t h = rw (put_words, lt-ltb (last_word i) (length ws) h)

-- one that does not fit changes nothing
pub put_out : (ws : List ℕ) (i : ℕ) (t : Token) → length ws ≤ last_word i → put_words ws i t ≡ ws
unfolding put_words
put_out ws i t h = rw (put_words, le-ltb (last_word i) (length ws) h)

-- writing keeps the length
pub put-length : (ws : List ℕ) (i : ℕ) (t : Token) → length (put_words ws i t) ≡ length ws
unfolding put_words
put-length ws i t =
    by_bool (ltb (last_word i) (length ws))
    (λ e. rw (put_words, e) (simp length-set))
    (λ e. rw (put_words, e))

-- and the room
pub put-room : (ws : List ℕ) (i : ℕ) (t : Token) → room_of (put_words ws i t) ≡ room_of ws
unfolding room_of
put-room ws i t = rw (room_of, room_of, put-length ws i t)

written_next : (c a b : ℕ) (ws : List ℕ) (i : ℕ) (t : Token) → written_at (c ∷ a ∷ b ∷ ws) (suc i) t ≡ c ∷ a ∷ b ∷ written_at ws i t
written_next c a b ws i t = rw (next_with i 1, next_with i 2, next i)

written_changed : (ws : List ℕ) (n i : ℕ) (t : Token) → last_word i < length ws
    → tokens_in (written_at ws i t) n ≡ set (tokens_in ws n) i t
unfolding tokens_in
written_changed ws zero i t h = refl
written_changed [] (suc n) i t h = absurd (omega arith)
written_changed (c ∷ []) (suc n) i t h = absurd (omega arith)
written_changed (c ∷ a ∷ []) (suc n) i t h = absurd (omega arith)
written_changed (c ∷ a ∷ b ∷ ws) (suc n) zero t h = refl
written_changed (c ∷ a ∷ b ∷ ws) (suc n) (suc i) t h =
    rw (written_next c a b ws i t) (behind (record { code = c; a = a; b = b }) (written_changed ws n i t (omega arith)))

-- token i written is token i changed, where there is one
pub put_changed : (ws : List ℕ) (n i : ℕ) (t : Token) → tokens_in (put_words ws i t) n ≡ set (tokens_in ws n) i t
put_changed ws n i t =
    by_bool (ltb (last_word i) (length ws))
    (λ e. rw (put-fits ws i t (ltb-true _ _ e)) (written_changed ws n i t (ltb-true _ _ e)))
    (λ e.
    let none : length ws ≤ last_word i = ltb-false _ _ e in
    rw (put_out ws i t none) (sym (set_out (tokens_in ws n) i t (omega (arith, tokens-length ws n)))))

added : (ws : List ℕ) (n : ℕ) (t : Token) → last_word n < length ws → tokens_in (written_at ws n t) (suc n) ≡ tokens_in ws n ++ (t ∷ [])
unfolding tokens_in
added [] n t h = absurd (omega arith)
added (c ∷ []) n t h = absurd (omega arith)
added (c ∷ a ∷ []) n t h = absurd (omega arith)
added (c ∷ a ∷ b ∷ ws) zero t h = refl
added (c ∷ a ∷ b ∷ ws) (suc n) t h =
    rw (written_next c a b ws n t) (behind (record { code = c; a = a; b = b }) (added ws n t (omega arith)))

-- the token after n others, written where there is room, is one token more
pub put_added : (ws : List ℕ) (n : ℕ) (t : Token) → n < room_of ws → tokens_in (put_words ws n t) (n + 1) ≡ tokens_in ws n ++ (t ∷ [])
unfolding room_of
put_added ws n t h =
    let fits : last_word n < length ws = omega arith in
    rw (put-fits ws n t fits, add-one n) (added ws n t fits)

-- ---- a token put in before the last
-- the last token moved up, and its place changed
pub before_last-moved : (ts : List Token) (n : ℕ) (x : Token) → length ts ≡ suc n → set (ts ++ (nth ts n ∷ [])) n x ≡ before_last ts x
before_last-moved [] n x h = absurd (omega arith)
before_last-moved (t ∷ []) zero x h = refl
before_last-moved (t ∷ []) (suc n) x h = absurd (omega arith)
before_last-moved (t ∷ u ∷ ts) zero x h = absurd (omega arith)
before_last-moved (t ∷ u ∷ ts) (suc n) x h = behind t (before_last-moved (u ∷ ts) n x (omega arith))

-- ---- the words of some tokens
pub words-length : (ts : List Token) → length (words_of ts) ≡ words_for (length ts)
unfolding words_of
words-length [] = refl
words-length (t ∷ ts) = omega (arith, words-length ts)

-- the words of a tape's tokens are its first words
pub words-taken : (ws : List ℕ) (n : ℕ) → words_for n ≤ length ws → words_of (tokens_in ws n) ≡ take (words_for n) ws
unfolding words_of tokens_in
words-taken ws zero h = refl
words-taken [] (suc n) h = absurd (omega arith)
words-taken (c ∷ []) (suc n) h = absurd (omega arith)
words-taken (c ∷ a ∷ []) (suc n) h = absurd (omega arith)
words-taken (c ∷ a ∷ b ∷ ws) (suc n) h =
    rw (next n) (ap {B = List ℕ} (λ (us : List ℕ). c ∷ a ∷ b ∷ us) (words-taken ws n (omega arith)))

-- the words past the tokens do not matter to them
pub tokens-first : (ws : List ℕ) (n : ℕ) → tokens_in (take (words_for n) ws) n ≡ tokens_in ws n
unfolding tokens_in
tokens-first ws zero = refl
tokens-first [] (suc n) = rw (next n)
tokens-first (c ∷ []) (suc n) = rw (next n)
tokens-first (c ∷ a ∷ []) (suc n) = rw (next n)
tokens-first (c ∷ a ∷ b ∷ ws) (suc n) = rw (next n) (behind (record { code = c; a = a; b = b }) (tokens-first ws n))

-- tokens that were laid down are read back, whatever stands behind them
pub tokens-back : (ts : List Token) (rest : List ℕ) → tokens_in (words_of ts ++ rest) (length ts) ≡ ts
unfolding words_of tokens_in
tokens-back [] rest = refl
tokens-back (t ∷ ts) rest = behind t (tokens-back ts rest)

-- to ask for more than stand there whole is to ask for those
pub tokens-whole : (ws : List ℕ) (n : ℕ) → capacity (length ws) ≤ n → tokens_in ws n ≡ tokens_in ws (capacity (length ws))
tokens-whole ws n h =
    ext_get_or no_token (tokens_in ws n) (tokens_in ws (capacity (length ws))) (omega (arith, tokens-length ws n, tokens-length ws (capacity (length ws))))
    (λ i below.
    let at : i < capacity (length ws) = omega (arith, tokens-length ws n, below) in
    tokens-at ws n i (omega arith) (omega arith) ∙ sym (tokens-at ws (capacity (length ws)) i at (omega arith)))

-- ---- tokens with zeros behind them
-- the words are as many as were asked for
pub padded-length : (len : ℕ) (ts : List Token) → words_for (length ts) ≤ len → length (padded len ts) ≡ len
unfolding padded
padded-length len ts h = simp (length-append, length-replicate) (omega (arith, words-length ts))

-- and hold those tokens
pub padded-tokens : (len : ℕ) (ts : List Token) → tokens_in (padded len ts) (length ts) ≡ ts
unfolding padded
padded-tokens len ts = tokens-back ts _

-- clearing leaves the words of the first n tokens, and zeros
pub cleared-taken : (ws : List ℕ) (n : ℕ) → words_for n ≤ length ws → cleared ws n ≡ take (words_for n) ws ++ replicate (length ws - words_for n) 0
unfolding cleared padded
cleared-taken ws n h =
    rw (cleared, padded, words-taken ws n h, length-take-le (words_for n) ws h)
