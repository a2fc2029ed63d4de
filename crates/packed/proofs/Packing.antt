-- Tokens as bytes: how many there are, which bytes each has, and what reading and putting them one by one comes to.
-- Assumes nothing.
use mathlib.Core.Path.{◌≡◌, refl, sym, ◌∙◌, ap}
use mathlib.Core.List.{List, [], ◌∷◌, ◌++◌, append-nil, append_assoc}
use Prim.Native.Nat.{ℕ, zero, suc, ◌+◌, ◌/◌, ◌≤◌, ◌<◌}
use native.Mathlib.Omega.{arith}
use native.Mathlib.Numerals.{add-one}
use borrow.Author.Tests.{eq-eqb, ne_eqb, eqb-true, eqb-false, le-leb, lt-leb, leb-true, leb-false}
use lib.Dec.{leb, eqb}
use lib.ListN.{length, take, length-append, length-take, get_or-eq_default}
use lib.Seq.{sets, get_or-take, length-take-le, take-suc}
use Rattle.data.proofs.Cases.{by_bool}
use Rattle.tape.specs.declared.token.Token.{Token}
use Rattle.tape.specs.Token.{no_token, nth}
use Rattle.tape.specs.Words.{words_for, tokens_in, token_in, words_of}
use Rattle.tape.proofs.Views.{words-length}
use Rattle.packed.specs.Numbers.{spelled, spelt, store}
use Rattle.packed.specs.Packed.{code_bytes, word_bytes, bytes_per_token, bytes_for, token_bytes, packed}
use Rattle.packed.specs.Packed.{token_spelled, spelled_from, unpacked, words_packed, behind}
use Rattle.packed.proofs.Spelling.{spelled-length, store-there, store-none, sets_more}

-- ---- from bytes to tokens
-- as many tokens as are asked for
tokens-counted : (bytes : List ℕ) (at n : ℕ) → length (spelled_from bytes at n) ≡ n
unfolding spelled_from
tokens-counted bytes at zero = refl
tokens-counted bytes at (suc n) = ap suc (tokens-counted bytes (at + bytes_per_token) n)

pub unpacked-length : (bytes : List ℕ) → length (unpacked bytes) ≡ length bytes / bytes_per_token
unfolding unpacked
unpacked-length bytes = tokens-counted bytes 0 (length bytes / bytes_per_token)

-- each at its place
spelled_at : (bytes : List ℕ) (at n i : ℕ) → i < n → nth (spelled_from bytes at n) i ≡ token_spelled bytes (at + bytes_for i)
unfolding spelled_from
spelled_at bytes at zero i h = absurd (omega arith)
spelled_at bytes at (suc n) zero h = ap (token_spelled bytes) {x = at} {y = at + bytes_for 0} (omega arith)
spelled_at bytes at (suc n) (suc i) h =
    spelled_at bytes (at + bytes_per_token) n i (omega arith)
    ∙ ap (token_spelled bytes) {x = at + bytes_per_token + bytes_for i} {y = at + bytes_for (suc i)} (omega arith)

pub unpacked-at : (bytes : List ℕ) (i : ℕ) → i < length bytes / bytes_per_token → nth (unpacked bytes) i ≡ token_spelled bytes (bytes_for i)
unfolding unpacked
unpacked-at bytes i h =
    spelled_at bytes 0 (length bytes / bytes_per_token) i h
    ∙ ap (token_spelled bytes) {x = 0 + bytes_for i} {y = bytes_for i} (omega arith)

-- the tokens that the words of some tokens hold are their first
pub words_hold : (ts : List Token) (n : ℕ) → tokens_in (words_of ts) n ≡ take n ts
unfolding words_of tokens_in
words_hold ts zero = refl
words_hold [] (suc n) = refl
words_hold (t ∷ ts) (suc n) = ap {B = List Token} (λ (x : List Token). t ∷ x) (words_hold ts n)

-- a token by its three numbers
pub token-read : (bytes : List ℕ) (at : ℕ) {code a b : ℕ}
    → code ≡ spelt bytes at code_bytes → a ≡ spelt bytes (at + code_bytes) word_bytes → b ≡ spelt bytes (at + (code_bytes + word_bytes)) word_bytes
    → ◌≡◌ {A = Token} (record { code = code; a = a; b = b }) (token_spelled bytes at)
unfolding token_spelled
token-read bytes at e f g = rw (e, f, g)

-- token i of n, by the tests that lead to it
module _ (bytes : List ℕ) (n i : ℕ) where
  pub packed_there : {t : Token} → i < n → i < length bytes / bytes_per_token → t ≡ token_spelled bytes (bytes_for i)
      → t ≡ token_in (words_packed bytes) n i
  unfolding token_in words_packed
  packed_there h k e =
      e ∙ sym (unpacked-at bytes i k)
      ∙ sym (get_or-take n (unpacked bytes) i no_token h)
      ∙ ap (λ (ts : List Token). nth ts i) (sym (words_hold (unpacked bytes) n))

  pub packed_none : length bytes / bytes_per_token ≤ i → no_token ≡ token_in (words_packed bytes) n i
  unfolding token_in words_packed
  packed_none h =
      sym (ap (λ (ts : List Token). nth ts i) (words_hold (unpacked bytes) n)
      ∙ get_or-eq_default (take n (unpacked bytes)) no_token {n = i} (omega (arith, length-take n (unpacked bytes), unpacked-length bytes)))

  pub packed_past : n ≤ i → no_token ≡ token_in (words_packed bytes) n i
  unfolding token_in words_packed
  packed_past h =
      sym (ap (λ (ts : List Token). nth ts i) (words_hold (unpacked bytes) n)
      ∙ get_or-eq_default (take n (unpacked bytes)) no_token {n = i} (omega (arith, length-take n (unpacked bytes))))

-- ---- the words behind a sheet, by whether there are bytes
module _ (words bytes : List ℕ) where
  pub behind_words : length bytes ≡ 0 → behind words bytes ≡ words
  unfolding behind
  behind_words e = rw (behind, eq-eqb (length bytes) 0 e)

  pub behind_bytes : (length bytes ≡ 0 → ⊥) → behind words bytes ≡ words_packed bytes
  unfolding behind
  behind_bytes n = rw (behind, ne_eqb (length bytes) 0 n)

-- without words the bytes are read, none of them too
pub behind_none : (bytes : List ℕ) → behind [] bytes ≡ words_packed bytes
unfolding words_packed unpacked spelled_from words_of
behind_none bytes =
    by_bool (eqb (length bytes) 0)
    (λ e.
    let none : length bytes / bytes_per_token ≡ 0 = omega (arith, eqb-true (length bytes) 0 e) in
    behind_words [] bytes (eqb-true (length bytes) 0 e) ∙ sym (rw (words_packed, unpacked, none)))
    (λ e. behind_bytes [] bytes (eqb-false (length bytes) 0 e))

-- so many tokens stand in some bytes whole where their words do
pub packed_holds : (bytes : List ℕ) (n : ℕ) → leb n (length bytes / bytes_per_token) ≡ leb (words_for n) (length (words_packed bytes))
unfolding words_packed
packed_holds bytes n =
    let size : length (words_of (unpacked bytes)) ≡ words_for (length bytes / bytes_per_token) =
    words-length (unpacked bytes) ∙ ap words_for (unpacked-length bytes) in
    by_bool (leb n (length bytes / bytes_per_token))
    (λ e. e ∙ sym (le-leb (words_for n) (length (words_of (unpacked bytes))) (omega (arith, size, leb-true n _ e))))
    (λ e. e ∙ sym (lt-leb (words_for n) (length (words_of (unpacked bytes))) (omega (arith, size, leb-false n _ e))))

-- ---- from tokens to bytes
pub token-length : (t : Token) → length (token_bytes t) ≡ bytes_per_token
token-length t =
    length-append (spelled code_bytes t.code ++ spelled word_bytes t.a) (spelled word_bytes t.b)
    ∙ omega (
      arith,
      length-append (spelled code_bytes t.code) (spelled word_bytes t.a),
      spelled-length code_bytes t.code,
      spelled-length word_bytes t.a,
      spelled-length word_bytes t.b,
    )

pub packed-length : (ts : List Token) → length (packed ts) ≡ bytes_for (length ts)
unfolding packed
packed-length [] = refl
packed-length (t ∷ ts) = length-append (token_bytes t) (packed ts) ∙ omega (arith, token-length t, packed-length ts)

-- tokens behind others
pub packed-append : (ts us : List Token) → packed (ts ++ us) ≡ packed ts ++ packed us
unfolding packed
packed-append [] us = refl
packed-append (t ∷ ts) us = ap (λ (x : List ℕ). token_bytes t ++ x) (packed-append ts us) ∙ sym (append_assoc (token_bytes t) (packed ts) (packed us))

-- one by one
pub token-put : (out : List ℕ) (at : ℕ) (t : Token) {first second third : List ℕ}
    → first ≡ sets out at (spelled code_bytes t.code)
    → second ≡ sets first (at + code_bytes) (spelled word_bytes t.a)
    → third ≡ sets second (at + (code_bytes + word_bytes)) (spelled word_bytes t.b)
    → third ≡ sets out at (token_bytes t)
token-put out at t {first} {second} e f g =
    let code : List ℕ = spelled code_bytes t.code in
    let a : List ℕ = spelled word_bytes t.a in
    let two : second ≡ sets out at (code ++ a) =
    f ∙ ap (λ (x : List ℕ). sets x (at + code_bytes) a) e
    ∙ ap (λ (k : ℕ). sets (sets out at code) (at + k) a) (sym (spelled-length code_bytes t.code))
    ∙ sets_more out at code a in
    let size : length (code ++ a) ≡ code_bytes + word_bytes =
    length-append code a ∙ omega (arith, spelled-length code_bytes t.code, spelled-length word_bytes t.a) in
    g ∙ ap (λ (x : List ℕ). sets x (at + (code_bytes + word_bytes)) (spelled word_bytes t.b)) two
    ∙ ap (λ (k : ℕ). sets (sets out at (code ++ a)) (at + k) (spelled word_bytes t.b)) (sym size)
    ∙ sets_more out at (code ++ a) (spelled word_bytes t.b)

pub packed_more : (out : List ℕ) (at : ℕ) (ts : List Token) (i : ℕ) {t : Token} {before after : List ℕ} → i < length ts → t ≡ nth ts i
    → before ≡ sets out at (packed (take i ts)) → after ≡ sets before (at + bytes_for i) (token_bytes t)
    → after ≡ sets out at (packed (take (i + 1) ts))
unfolding packed
packed_more out at ts i {t} h e f g =
    let size : length (packed (take i ts)) ≡ bytes_for i = packed-length (take i ts) ∙ ap bytes_for (length-take-le i ts (omega arith)) in
    let next : packed (take (i + 1) ts) ≡ packed (take i ts) ++ token_bytes t =
    ap packed (ap (λ (k : ℕ). take k ts) (add-one i) ∙ take-suc ts i no_token h ∙ ap (λ (x : Token). take i ts ++ (x ∷ [])) (sym e))
    ∙ packed-append (take i ts) (t ∷ []) ∙ ap (λ (x : List ℕ). packed (take i ts) ++ x) (append-nil (token_bytes t)) in
    g ∙ ap (λ (x : List ℕ). sets x (at + bytes_for i) (token_bytes t)) f
    ∙ ap (λ (k : ℕ). sets (sets out at (packed (take i ts))) (at + k) (token_bytes t)) (sym size)
    ∙ sets_more out at (packed (take i ts)) (token_bytes t)
    ∙ ap (sets out at) (sym next)

-- all of them where they find room, else none
pub pack_none : (out : List ℕ) (at : ℕ) (ts : List Token) → length out < at + bytes_for (length ts) → out ≡ store out at (packed ts)
pack_none out at ts h = store-none out at (packed ts) (omega (arith, packed-length ts))

pub pack_there : (out : List ℕ) (at : ℕ) (ts : List Token) {after : List ℕ} → at + bytes_for (length ts) ≤ length out
    → after ≡ sets out at (packed ts) → after ≡ store out at (packed ts)
pack_there out at ts h e = e ∙ store-there out at (packed ts) (omega (arith, packed-length ts))
