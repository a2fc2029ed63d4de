-- Bytes and tokens there and back: what is spelled is read, and what is read is spelled.
-- Assumes nothing.
use mathlib.Core.Path.{◌≡◌, refl, sym, ◌∙◌, ap, subst}
use mathlib.Core.List.{List, [], ◌∷◌, ◌++◌, append-nil, append_assoc}
use Prim.Native.Nat.{ℕ, zero, suc, ◌+◌, ◌*◌, ◌/◌, ◌%◌, ◌^◌, ◌≤◌, ◌<◌}
use native.Mathlib.Omega.{arith}
use borrow.Author.Tests.{ltb-true, ltb-false}
use lib.Dec.{ltb}
use lib.ListN.{length, take, drop, length-take, length-drop, length-append, get_or-eq_default}
use lib.Seq.{get_or-take, get_or-drop, length-take-le, take_all, take-add, drop-drop, take-append-le, drop-append-le, drop_at, append_snoc}
use Rattle.data.proofs.Cases.{by_bool}
use Rattle.tape.specs.declared.token.Token.{Token}
use Rattle.tape.specs.Token.{nth}
use Rattle.packed.specs.Numbers.{byte_values, spelled, number_on, number_of, spelt}
use Rattle.packed.specs.Packed.{code_bytes, word_bytes, bytes_per_token, bytes_for, token_bytes, packed, token_spelled, spelled_from, unpacked}
use Rattle.packed.proofs.Spelling.{spelled-length, read_back}
use Rattle.packed.proofs.Packing.{packed-length, token-length}
use Rattle.file_promises.specs.Calls.{Bytes}

-- ---- from bytes to numbers and back
-- bytes on from a number
spelled-on : (bytes : List ℕ) (k n : ℕ) → Bytes bytes → spelled (k + length bytes) (number_on n bytes) ≡ spelled k n ++ bytes
unfolding spelled number_on
spelled-on [] k n h = ap (λ (j : ℕ). spelled j n) {x = k + 0} {y = k} (omega arith) ∙ sym (append-nil (spelled k n))
spelled-on (b ∷ bytes) k n h =
    let m : ℕ = n * byte_values + b in
    let small : b < byte_values = h 0 in
    let front : m / byte_values ≡ n = omega arith in
    let last : m % byte_values ≡ b = omega arith in
    let step : spelled (suc k) m ≡ spelled k n ++ (b ∷ []) = rw (front, last) in
    ap (λ (j : ℕ). spelled j (number_on m bytes)) {x = k + length (b ∷ bytes)} {y = suc k + length bytes} (omega arith)
    ∙ spelled-on bytes (suc k) m (λ i. h (suc i))
    ∙ ap (λ (x : List ℕ). x ++ bytes) step
    ∙ append_snoc (spelled k n) b bytes

spelled-again : (bytes : List ℕ) → Bytes bytes → spelled (length bytes) (number_of bytes) ≡ bytes
unfolding spelled
spelled-again bytes h = ap (λ (j : ℕ). spelled j (number_of bytes)) {x = length bytes} {y = 0 + length bytes} (omega arith) ∙ spelled-on bytes 0 0 h

-- a part of some bytes
pub part_bytes : (bytes : List ℕ) (at width : ℕ) → Bytes bytes → Bytes (take width (drop at bytes))
part_bytes bytes at width h i =
    by_bool (ltb i width)
    (λ t. rw (get_or-take width (drop at bytes) i 0 (ltb-true i width t), get_or-drop at bytes i 0) (h (at + i)))
    (λ t.
    let past : length (take width (drop at bytes)) ≤ i = omega (arith, length-take width (drop at bytes), ltb-false i width t) in
    rw (get_or-eq_default (take width (drop at bytes)) 0 {n = i} past) (omega arith))

pub spelt-again : (bytes : List ℕ) (at width : ℕ) → Bytes bytes → at + width ≤ length bytes
    → spelled width (spelt bytes at width) ≡ take width (drop at bytes)
unfolding spelt
spelt-again bytes at width h fits =
    let long : length (take width (drop at bytes)) ≡ width = length-take-le width (drop at bytes) (omega (arith, length-drop at bytes)) in
    ap (λ (j : ℕ). spelled j (number_of (take width (drop at bytes)))) (sym long)
    ∙ spelled-again (take width (drop at bytes)) (part_bytes bytes at width h)

-- two parts side by side
pub joined : (bytes : List ℕ) (at i j : ℕ) → take i (drop at bytes) ++ take j (drop (at + i) bytes) ≡ take (i + j) (drop at bytes)
joined bytes at i j = ap (λ (x : List ℕ). take i (drop at bytes) ++ take j x) (sym (drop-drop i at bytes)) ∙ sym (take-add i j (drop at bytes))

-- ---- from bytes to tokens and back
token-again : (bytes : List ℕ) (at : ℕ) → Bytes bytes → at + bytes_per_token ≤ length bytes
    → token_bytes (token_spelled bytes at) ≡ take bytes_per_token (drop at bytes)
unfolding token_spelled
token-again bytes at h fits =
    rw (
      spelt-again bytes at code_bytes h (omega arith),
      spelt-again bytes (at + code_bytes) word_bytes h (omega arith),
      spelt-again bytes (at + (code_bytes + word_bytes)) word_bytes h (omega arith),
    )
    (ap (λ (x : List ℕ). x ++ take word_bytes (drop (at + (code_bytes + word_bytes)) bytes)) (joined bytes at code_bytes word_bytes)
    ∙ joined bytes at (code_bytes + word_bytes) word_bytes)

packed-again : (bytes : List ℕ) (at n : ℕ) → Bytes bytes → at + bytes_for n ≤ length bytes
    → packed (spelled_from bytes at n) ≡ take (bytes_for n) (drop at bytes)
unfolding packed spelled_from
packed-again bytes at zero h fits = refl
packed-again bytes at (suc n) h fits =
    let next : bytes_for (suc n) ≡ bytes_per_token + bytes_for n = omega arith in
    rw (token-again bytes at h (omega arith), packed-again bytes (at + bytes_per_token) n h (omega arith), next)
    (joined bytes at bytes_per_token (bytes_for n))

pub unpacked-again : (body : List ℕ) (n : ℕ) → Bytes body → length body ≡ bytes_for n → packed (unpacked body) ≡ body
unfolding unpacked
unpacked-again body n h size =
    let whole : length body / bytes_per_token ≡ n = omega arith in
    rw whole (packed-again body 0 n h (omega arith)) ∙ take_all (bytes_for n) body (omega arith)

-- ---- from tokens to bytes and back
-- a token whose numbers fit their bytes
pub record Small (t : Token) : Type 0 where
  pub code : t.code < byte_values ^ code_bytes
  pub a : t.a < byte_values ^ word_bytes
  pub b : t.b < byte_values ^ word_bytes

-- bytes in the front of others, and those at their end
pub spelt-within : (xs ys : List ℕ) (at width : ℕ) → at + width ≤ length xs → spelt (xs ++ ys) at width ≡ spelt xs at width
unfolding spelt
spelt-within xs ys at width h =
    ap number_of (ap (take width) (drop-append-le at xs ys (omega arith)) ∙ take-append-le width (drop at xs) ys (omega (arith, length-drop at xs)))

pub spelt-last : (xs ys : List ℕ) (at width : ℕ) → length xs ≡ at → length ys ≡ width → spelt (xs ++ ys) at width ≡ number_of ys
unfolding spelt
spelt-last xs ys at width e f = ap number_of (ap (take width) (drop_at xs ys at e) ∙ take_all width ys (omega arith))

token_back : (xs zs : List ℕ) (t : Token) → Small t → token_spelled (xs ++ token_bytes t ++ zs) (length xs) ≡ t
unfolding token_spelled
token_back xs zs t s =
    let c : List ℕ = spelled code_bytes t.code in
    let a : List ℕ = spelled word_bytes t.a in
    let b : List ℕ = spelled word_bytes t.b in
    let cl : length c ≡ code_bytes = spelled-length code_bytes t.code in
    let al : length a ≡ word_bytes = spelled-length word_bytes t.a in
    let bl : length b ≡ word_bytes = spelled-length word_bytes t.b in
    let parts : xs ++ token_bytes t ++ zs ≡ xs ++ c ++ a ++ b ++ zs =
    ap (λ (x : List ℕ). x ++ zs) (sym (append_assoc xs (c ++ a) b) ∙ ap (λ (x : List ℕ). x ++ b) (sym (append_assoc xs c a))) in
    let xc : length (xs ++ c) ≡ length xs + code_bytes = length-append xs c ∙ omega (arith, cl) in
    let xa : length (xs ++ c ++ a) ≡ length xs + (code_bytes + word_bytes) = length-append (xs ++ c) a ∙ omega (arith, xc, al) in
    let xb : length (xs ++ c ++ a ++ b) ≡ length xs + bytes_per_token = length-append (xs ++ c ++ a) b ∙ omega (arith, xa, bl) in
    let first : spelt (xs ++ c ++ a ++ b ++ zs) (length xs) code_bytes ≡ t.code =
    spelt-within (xs ++ c ++ a ++ b) zs (length xs) code_bytes (omega (arith, xb))
    ∙ spelt-within (xs ++ c ++ a) b (length xs) code_bytes (omega (arith, xa))
    ∙ spelt-within (xs ++ c) a (length xs) code_bytes (omega (arith, xc))
    ∙ spelt-last xs c (length xs) code_bytes refl cl ∙ read_back code_bytes t.code s.code in
    let second : spelt (xs ++ c ++ a ++ b ++ zs) (length xs + code_bytes) word_bytes ≡ t.a =
    spelt-within (xs ++ c ++ a ++ b) zs (length xs + code_bytes) word_bytes (omega (arith, xb))
    ∙ spelt-within (xs ++ c ++ a) b (length xs + code_bytes) word_bytes (omega (arith, xa))
    ∙ spelt-last (xs ++ c) a (length xs + code_bytes) word_bytes xc al ∙ read_back word_bytes t.a s.a in
    let third : spelt (xs ++ c ++ a ++ b ++ zs) (length xs + (code_bytes + word_bytes)) word_bytes ≡ t.b =
    spelt-within (xs ++ c ++ a ++ b) zs (length xs + (code_bytes + word_bytes)) word_bytes (omega (arith, xb))
    ∙ spelt-last (xs ++ c ++ a) b (length xs + (code_bytes + word_bytes)) word_bytes xa bl ∙ read_back word_bytes t.b s.b in
    rw (parts, first, second, third)

tokens-back : (ts : List Token) (xs : List ℕ) → ((i : ℕ) → i < length ts → Small (nth ts i))
    → spelled_from (xs ++ packed ts) (length xs) (length ts) ≡ ts
unfolding packed spelled_from
tokens-back [] xs s = refl
tokens-back (t ∷ ts) xs s =
    let parts : xs ++ (token_bytes t ++ packed ts) ≡ xs ++ token_bytes t ++ packed ts = sym (append_assoc xs (token_bytes t) (packed ts)) in
    let on : length (xs ++ token_bytes t) ≡ length xs + bytes_per_token = length-append xs (token_bytes t) ∙ omega (arith, token-length t) in
    subst (λ (bytes : List ℕ). spelled_from bytes (length xs) (suc (length ts)) ≡ t ∷ ts) (sym parts)
    (rw (token_back xs (packed ts) t (s 0 (omega arith)), ← on)
    (ap {B = List Token} (λ (us : List Token). t ∷ us) (tokens-back ts (xs ++ token_bytes t) (λ i h. s (suc i) (omega arith)))))

pub packed-back : (ts : List Token) → ((i : ℕ) → i < length ts → Small (nth ts i)) → unpacked (packed ts) ≡ ts
unfolding unpacked
packed-back ts s =
    let whole : length (packed ts) / bytes_per_token ≡ length ts = omega (arith, packed-length ts) in
    rw whole (tokens-back ts [] s)
