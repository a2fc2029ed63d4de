-- What the calls on the words leave, seen as a tape: the equation on the words says the equation on the tokens.
-- Assumes nothing.
use Rattle.std.specs.Prelude.{Option, Some, None}
use mathlib.Core.Path.{◌≡◌, refl, sym, ◌∙◌, ap, subst}
use mathlib.Core.Bool.{Bool, true, false, false≢true}
use mathlib.Core.List.{List, ◌++◌, append-nil}
use Prim.Native.Nat.{ℕ, zero, suc, ◌+◌, ◌-◌, ◌^◌, ◌≤◌, ◌<◌, min}
use Rattle.std.proofs.Math.Nat.{min-le_right}
use native.Mathlib.Omega.{arith}
use borrow.Author.Tests.{lt-ltb, le-ltb, ltb-true, ltb-false}
use lib.Dec.{ltb}
use lib.ListN.{length, set, take, replicate}
use lib.Seq.{set_out, drop-length}
use borrow.Rule.Slice.PartMut.{mid_of, put_mid, mid_len, Post-is}
use Rattle.data.proofs.Cases.{by_bool}
use Rattle.tape.specs.declared.token.Token.{Token}
use Rattle.tape.specs.Token.{mixed_container_token}
use Rattle.tape.specs.Words.{words_for, capacity, last_word, greatest_word, room_of}
use Rattle.tape.specs.Words.{tokens_in, token_in, put_words, put_in, Written, written, push_words, insert_words, padded, cleared}
use Rattle.tape.specs.Tape.{Tape, holds, view, replace, add, before_last, add_before_last, Laying, laid, full, lay, lay_mixed, after_push}
use Rattle.tape.proofs.Views.{tokens-length, put_changed, put_added, put-room, before_last-moved, tokens-whole, cleared-taken}

-- the test of the code for room, while a word can number one token more, is the room's
pub room_test : (ws : List ℕ) (n : ℕ) → n < greatest_word → ltb (last_word n) (length ws) ≡ ltb n (room_of ws)
unfolding room_of
room_test ws n h =
    by_bool (ltb (last_word n) (length ws))
    (λ e.
    let fits : last_word n < length ws = ltb-true _ _ e in
    e ∙ sym (lt-ltb n (room_of ws) (omega arith)))
    (λ e.
    let none : length ws ≤ last_word n = ltb-false _ _ e in
    e ∙ sym (le-ltb n (room_of ws) (omega arith)))

-- where there is room, a word can number one token more
pub one_more : (ws : List ℕ) (n : ℕ) → ltb n (room_of ws) ≡ true → n + 1 < 2 ^ 32
unfolding room_of
one_more ws n e =
    let room : n < room_of ws = ltb-true _ _ e in
    omega arith

-- zeros laid over all words from token n on clear them
pub zeros-over : (ws zs : List ℕ) (n : ℕ) → words_for n ≤ length ws
    → zs ≡ replicate (length (mid_of (words_for n) (length ws - words_for n) ws)) 0
    → put_mid (words_for n) (length ws - words_for n) ws zs ≡ cleared ws n
zeros-over ws zs n h e =
    rw (cleared-taken ws n h, e, mid_len (words_for n) (length ws) ws (omega arith), Post-is (words_for n) (length ws) ws h, drop-length ws)
    (ap (λ (us : List ℕ). take (words_for n) ws ++ us) (append-nil _))

-- and from the last whole token on, where more are asked for: m are laid
pub zeros-past : (ws zs : List ℕ) (n : ℕ) {m : ℕ} → m ≡ min n (capacity (length ws))
    → zs ≡ replicate (length (mid_of (words_for m) (length ws - words_for m) ws)) 0
    → put_mid (words_for m) (length ws - words_for m) ws zs ≡ cleared ws n
unfolding cleared
zeros-past ws zs n {m} least e =
    zeros-over ws zs m (omega (arith, least, min-le_right n (capacity (length ws)))) e
    ∙ by_bool (ltb n (capacity (length ws)))
    (λ t. ap (cleared ws) {x = m} {y = n} (omega (arith, least, ltb-true n (capacity (length ws)) t)))
    (λ f.
    let past : capacity (length ws) ≤ n = ltb-false n (capacity (length ws)) f in
    let whole : m ≡ capacity (length ws) = omega (arith, least) in
    rw whole (sym (ap (λ (ts : List Token). padded (length ws) ts) (tokens-whole ws n past))))

-- and from whatever number is that of their words
pub zeros_from : (ws zs : List ℕ) (n : ℕ) {m from : ℕ} → m ≡ min n (capacity (length ws)) → from ≡ words_for m
    → zs ≡ replicate (length (mid_of from (length ws - from) ws)) 0
    → put_mid from (length ws - from) ws zs ≡ cleared ws n
zeros_from ws zs n least same =
    subst
    (λ (k : ℕ). zs ≡ replicate (length (mid_of k (length ws - k) ws)) 0 → put_mid k (length ws - k) ws zs ≡ cleared ws n)
    (sym same)
    (zeros-past ws zs n least)

-- two tapes are equal by their room and their tokens
same-tape : {k l : ℕ} {ts us : List Token} → k ≡ l → ts ≡ us
    → ◌≡◌ {A = Tape} (record { room = holds k; tokens = ts }) (record { room = holds l; tokens = us })
same-tape e f = cc

-- a token of the words changed is that token of the tape changed
pub put-seen : (ws : List ℕ) (n i : ℕ) (t : Token) → view (put_in ws n i t) n ≡ replace (view ws n) i t
unfolding put_in replace
put-seen ws n i t =
    by_bool (ltb i n)
    (λ e. rw (put_in, replace, e) (same-tape (put-room ws i t) (put_changed ws n i t)))
    (λ e.
    let past : n ≤ i = ltb-false _ _ e in
    rw (put_in, replace, e) (same-tape refl (sym (set_out (tokens_in ws n) i t (omega (arith, tokens-length ws n))))))

-- what an answer and its words say, of the two together
abbrev pub seen_of : Written → Laying
seen_of (written r ws) = after_push r ws

-- a token laid down in the words is laid down on the tape
pub push-seen : (ws : List ℕ) (n : ℕ) (t : Token) → seen_of (push_words ws n t) ≡ lay (view ws n) n t
unfolding push_words lay add
push-seen ws n t =
    by_bool (ltb n (room_of ws))
    (λ e. rw (push_words, lay, add, e) (ap (λ (x : Tape). laid (n + 1) x) (same-tape (put-room ws n t) (put_added ws n t (ltb-true _ _ e)))))
    (λ e. rw (push_words, lay, e))

inserted : (ws : List ℕ) (n : ℕ) → suc n < room_of ws
    → tokens_in (put_words (put_words ws (suc n) (token_in ws (suc n) n)) n mixed_container_token) (suc n + 1)
    ≡ before_last (tokens_in ws (suc n)) mixed_container_token
unfolding token_in room_of
inserted ws n h =
    let whole : length (tokens_in ws (suc n)) ≡ suc n = omega (arith, tokens-length ws (suc n)) in
    put_changed (put_words ws (suc n) (token_in ws (suc n) n)) (suc n + 1) n mixed_container_token
    ∙ ap (λ (ts : List Token). set ts n mixed_container_token) (put_added ws (suc n) (token_in ws (suc n) n) h)
    ∙ before_last-moved (tokens_in ws (suc n)) n mixed_container_token whole

-- a MixedContainer laid down in the words before the last token is laid down there on the tape
pub insert-seen : (ws : List ℕ) (n : ℕ) → seen_of (insert_words ws n) ≡ lay_mixed (view ws n) n
unfolding insert_words lay lay_mixed add add_before_last tokens_in
insert-seen ws zero = push-seen ws 0 mixed_container_token
insert-seen ws (suc n) =
    by_bool (ltb (suc n) (room_of ws))
    (λ e.
    rw (insert_words, lay_mixed, add_before_last, e)
    (ap (λ (x : Tape). laid (suc n + 1) x)
    (same-tape (put-room _ n mixed_container_token ∙ put-room ws (suc n) _) (inserted ws n (ltb-true _ _ e)))))
    (λ e. rw (insert_words, lay_mixed, e))

-- ---- what the calls owe at each return: the equation on the words and the one on the tape, from the test that led there
pub put-here : (ws : List ℕ) (n i : ℕ) (t : Token) {us : List ℕ} → i < n → us ≡ put_words ws i t
    → (us ≡ put_in ws n i t) × (view us n ≡ replace (view ws n) i t)
unfolding put_in
put-here ws n i t {us} h e =
    let exact : us ≡ put_in ws n i t = rw (put_in, lt-ltb i n h) e in
    (exact, ap (λ (x : List ℕ). view x n) exact ∙ put-seen ws n i t)

pub put-past : (ws : List ℕ) (n i : ℕ) (t : Token) → n ≤ i → (ws ≡ put_in ws n i t) × (view ws n ≡ replace (view ws n) i t)
unfolding put_in
put-past ws n i t h =
    let exact : ws ≡ put_in ws n i t = rw (put_in, le-ltb i n h) in
    (exact, ap (λ (x : List ℕ). view x n) exact ∙ put-seen ws n i t)

pub push-full : (ws : List ℕ) (n : ℕ) (t : Token) → ltb n (room_of ws) ≡ false
    → (written None ws ≡ push_words ws n t) × (full ≡ lay (view ws n) n t)
unfolding push_words
push-full ws n t e =
    let exact : written None ws ≡ push_words ws n t = rw (push_words, e) in
    (exact, ap seen_of exact ∙ push-seen ws n t)

pub push-laid : (ws : List ℕ) (n : ℕ) (t : Token) {us : List ℕ} → ltb n (room_of ws) ≡ true → us ≡ put_words ws n t
    → (written (Some (n + 1)) us ≡ push_words ws n t) × (laid (n + 1) (view us (n + 1)) ≡ lay (view ws n) n t)
unfolding push_words
push-laid ws n t {us} e f =
    let exact : written (Some (n + 1)) us ≡ push_words ws n t = rw (push_words, e, f) in
    (exact, ap seen_of exact ∙ push-seen ws n t)

pub insert-first : (ws : List ℕ) (n : ℕ) (m : Token) {r : Option ℕ} {us : List ℕ} → n ≡ 0 → m ≡ mixed_container_token
    → written r us ≡ push_words ws 0 m
    → (written r us ≡ insert_words ws n) × (after_push r us ≡ lay_mixed (view ws n) n)
unfolding insert_words
insert-first ws n m {r} {us} z e f =
    let exact : written r us ≡ insert_words ws n = rw z (rw e at f) in
    (exact, ap seen_of exact ∙ insert-seen ws n)

insert-full : (ws : List ℕ) (n : ℕ) → (n ≡ 0 → ⊥) → ltb n (room_of ws) ≡ false
    → (written None ws ≡ insert_words ws n) × (full ≡ lay_mixed (view ws n) n)
unfolding insert_words
insert-full ws zero some e = absurd (some refl)
insert-full ws (suc n) some e =
    let exact : written None ws ≡ insert_words ws (suc n) = rw (insert_words, e) in
    (exact, ap seen_of exact ∙ insert-seen ws (suc n))

insert-laid : (ws : List ℕ) (n : ℕ) (m last : Token) {us vs : List ℕ} → (n ≡ 0 → ⊥) → ltb n (room_of ws) ≡ true
    → last ≡ token_in ws n (n - 1) → us ≡ put_words ws n last → m ≡ mixed_container_token → vs ≡ put_words us (n - 1) m
    → (written (Some (n + 1)) vs ≡ insert_words ws n) × (laid (n + 1) (view vs (n + 1)) ≡ lay_mixed (view ws n) n)
unfolding insert_words
insert-laid ws zero m last some e l f g h = absurd (some refl)
insert-laid ws (suc n) m last {us} {vs} some e l f g h =
    let before : suc n - 1 ≡ n = omega arith in
    let exact : written (Some (suc n + 1)) vs ≡ insert_words ws (suc n) = rw (insert_words, e, h, before, g, f, l, before) in
    (exact, ap seen_of exact ∙ insert-seen ws (suc n))

-- ---- what an answer of a push tells of it
abbrev laid_count : Written → ℕ
laid_count (written (Some k) ws) = k
laid_count (written None ws) = 0

abbrev left_words : Written → List ℕ
left_words (written r ws) = ws

abbrev is_laid : Written → Bool
is_laid (written (Some k) ws) = true
is_laid (written None ws) = false

module _ (ws : List ℕ) (n : ℕ) (t : Token) {r : Option ℕ} {us : List ℕ} (pushed : written r us ≡ push_words ws n t) where
  push_was_laid : (k : ℕ) → r ≡ Some k → (ltb n (room_of ws) ≡ true) × (k ≡ n + 1) × (us ≡ put_words ws n t)
  unfolding push_words
  push_was_laid k e =
      let same : written (Some k) us ≡ push_words ws n t = rw e at pushed in
      by_bool (ltb n (room_of ws))
      (λ h. let f = rw (push_words, h) at same in (h, ap laid_count f, ap left_words f))
      (λ h. let f = rw (push_words, h) at same in absurd (false≢true (sym (ap is_laid f))))

  push_was_full : r ≡ None → (ltb n (room_of ws) ≡ false) × (us ≡ ws)
  unfolding push_words
  push_was_full e =
      let same : written None us ≡ push_words ws n t = rw e at pushed in
      by_bool (ltb n (room_of ws))
      (λ h. let f = rw (push_words, h) at same in absurd (false≢true (ap is_laid f)))
      (λ h. let f = rw (push_words, h) at same in (h, ap left_words f))

module _ (ws : List ℕ) (n : ℕ) (last : Token) {r : Option ℕ} {us : List ℕ} (some : n ≡ 0 → ⊥) (l : last ≡ token_in ws n (n - 1))
    (pushed : written r us ≡ push_words ws n last) where
  pub insert_pushed : (k : ℕ) (m : Token) {vs : List ℕ} → r ≡ Some k → m ≡ mixed_container_token → vs ≡ put_words us (n - 1) m
      → (written (Some k) vs ≡ insert_words ws n) × (laid k (view vs k) ≡ lay_mixed (view ws n) n)
  insert_pushed k m e g h =
      let was = push_was_laid ws n last pushed k e in
      rw was.1 (insert-laid ws n m last some was.0 l was.2 g h)

  pub insert-none : r ≡ None → (written None us ≡ insert_words ws n) × (full ≡ lay_mixed (view ws n) n)
  insert-none e =
      let was = push_was_full ws n last pushed e in
      rw was.1 (insert-full ws n some was.0)
