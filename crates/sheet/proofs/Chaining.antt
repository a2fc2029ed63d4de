-- What laying a token down and giving it another link do to the tokens on some words.
-- Assumes nothing.
use mathlib.Core.Path.{◌≡◌, refl, sym, ◌∙◌, ap, subst}
use mathlib.Core.Bool.{true, false, false≢true}
use mathlib.Core.List.{List}
use mathlib.Core.Logic.{◌↔◌}
use Prim.Native.Nat.{ℕ, ◌+◌, ◌≤◌, ◌<◌}
use native.Mathlib.Omega.{arith}
use lib.ListN.{length, get_or, set, length-set}
use lib.Seq.{set-get_or, set-set, get_or-set_same, get_or-set_other}
use Rattle.tape.specs.declared.token.Token.{Token}
use Rattle.tape.specs.Token.{end_of, no_token}
use Rattle.tape.specs.Shape.{Opens}
use Rattle.tape.specs.Words.{words_for, code_word, a_word, b_word, last_word, greatest_word, tokens_in, token_in, put_words}
use Rattle.tape.proofs.Views.{token_from, tokens-at, tokens-counted, put-fits, put-length, put_changed}
use Rattle.sheet.specs.Sound.{nth, Nested, Form}
use Rattle.sheet.proofs.Links.{told-no}
use Rattle.sheet.specs.Steps.{Layable}
use Rattle.sheet.proofs.Chain.{with_link, Chain, chain-none, chain-opener, chain-other, innermost, chain_crossed, chain-end, chain-laid, chain-nested}

-- ---- the words
-- a word of a token's changed is the token changed
module _ (ws : List ℕ) (n i : ℕ) (below : i < n) (fits : last_word i < length ws) where
  pub link_had : get_or ws (a_word i) 0 ≡ (nth (tokens_in ws n) i).a
  link_had = sym (ap (λ (t : Token). t.a) (tokens-at ws n i below fits))

  pub link-has : (link : ℕ) → tokens_in (set ws (a_word i) link) n ≡ set (tokens_in ws n) i (with_link (nth (tokens_in ws n) i) link)
  link-has link =
      let t : Token = token_from ws i in
      let put : put_words ws i (with_link t link) ≡ set ws (a_word i) link =
      put-fits ws i (with_link t link) fits
      ∙ ap (λ (us : List ℕ). set (set us (a_word i) link) (b_word i) t.b) (set-get_or ws (code_word i) 0)
      ∙ ap (set (set ws (a_word i) link) (b_word i)) (sym (get_or-set_other ws (a_word i) (b_word i) link 0 (λ e. omega arith)))
      ∙ set-get_or (set ws (a_word i) link) (b_word i) 0 in
      ap (λ (us : List ℕ). tokens_in us n) (sym put) ∙ put_changed ws n i (with_link t link)
      ∙ ap (λ (x : Token). set (tokens_in ws n) i (with_link x link)) (sym (tokens-at ws n i below fits))

-- ---- a token laid down on words, from the chain before it to the one behind it
-- what holds of the words before token i, which are as many as at first
abbrev pub Running : List Token → ℕ → ℕ → List ℕ → ℕ → ℕ → Type 0
Running ts len n ws i inner = Chain ts (tokens_in ws n) i inner × (length ws ≡ len)

-- what is asked of the tokens and of the words
abbrev pub Ready : List Token → ℕ → ℕ → Type 0
Ready ts len n = Layable ts × (length ts ≡ n) × (words_for n ≤ len) × (n ≤ greatest_word)

pub run_none : (ts : List Token) (ws : List ℕ) (n : ℕ) → Ready ts (length ws) n → Running ts (length ws) n ws 0 0
run_none ts ws n (ok, size, fits, most) = (chain-none ts (tokens_in ws n) (tokens-counted ws n fits ∙ sym size), refl)

pub run-done : (ts : List Token) (ws : List ℕ) (len n i inner : ℕ) → Ready ts len n → Running ts len n ws i inner → n ≤ i
    → ((true ≡ true) ↔ ((k : ℕ) → Nested ts k)) × (true ≡ true → tokens_in ws n ≡ ts) × (length ws ≡ len)
run-done ts ws len n i inner (ok, size, fits, most) (c, whole) last =
    let all : length ts ≤ i = omega arith in
    (chain-nested ts (tokens_in ws n) i inner ok c all, λ e. chain-laid ts (tokens_in ws n) i inner ok c all, whole)

module _ (bs ws : List ℕ) (len n i inner : ℕ) (asked : Ready (tokens_in bs n) len n) (run : Running (tokens_in bs n) len n ws i inner) (more : i < n) where
  run_fits : last_word i < length ws
  run_fits = let (ok, size, fits, most) = asked in omega (arith, run.1)

  module _ {t : Token} (there : t ≡ token_in bs n i) where
    here : t ≡ nth (tokens_in bs n) i
    unfolding token_in
    here = there

    pub run-form : Form t
    run-form =
        let (ok, size, fits, most) = asked in
        subst Form (sym here) (ok.forms i (omega arith))

    module _ (vs : List ℕ) (put : vs ≡ put_words ws i t) where
      size_vs : length vs ≡ length ws
      size_vs = ap length put ∙ put-length ws i t

      laid : tokens_in vs n ≡ set (tokens_in ws n) i t
      laid = ap (λ (us : List ℕ). tokens_in us n) put ∙ put_changed ws n i t

      run-fits_still : last_word i < length vs
      run-fits_still = omega (arith, run_fits, size_vs)

      counted : length (tokens_in ws n) ≡ n
      counted = let (ok, size, fits, most) = asked in run.0.size ∙ size

      pub run-other : (Opens t t.a → ⊥) → (t ≡ end_of t.a → ⊥) → Running (tokens_in bs n) len n vs (i + 1) inner
      run-other no-opener no_end =
          let (ok, size, fits, most) = asked in
          (chain-other _ _ _ _ ok run.0 (omega arith) here no-opener no_end (tokens_in vs n) laid, size_vs ∙ run.1)

      pub run-opener : Opens t t.a → (us : List ℕ) → us ≡ set vs (a_word i) inner → Running (tokens_in bs n) len n us (i + 1) i
      run-opener o us e =
          let (ok, size, fits, most) = asked in
          let linked : tokens_in us n ≡ set (tokens_in ws n) i (with_link t inner) =
          ap (λ (x : List ℕ). tokens_in x n) e ∙ link-has vs n i more run-fits_still inner
          ∙ ap (λ (x : List Token). set x i (with_link (nth x i) inner)) laid
          ∙ set-set (tokens_in ws n) i t _
          ∙ ap (λ (x : Token). set (tokens_in ws n) i (with_link x inner)) (get_or-set_same (tokens_in ws n) i t no_token (omega (arith, counted))) in (
            chain-opener _ _ _ _ ok run.0 (omega arith) here o (tokens_in us n) linked,
            ap length e ∙ length-set vs (a_word i) inner ∙ size_vs ∙ run.1,
          )

      module _ (end : t ≡ end_of t.a) where
        pub run_crossed : (t.a ≡ inner → ⊥)
            → ((false ≡ true) ↔ ((k : ℕ) → Nested (tokens_in bs n) k))
            × (false ≡ true → tokens_in vs n ≡ tokens_in bs n) × (length vs ≡ len)
        run_crossed other =
            let (ok, size, fits, most) = asked in
            (told-no (chain_crossed _ _ _ _ ok run.0 (omega arith) here end other), λ e. absurd (false≢true e), size_vs ∙ run.1)

        below : inner < i
        below = let (ok, size, fits, most) = asked in (innermost _ _ _ _ ok run.0 (omega arith) here end).below

        run-fits_inner : last_word inner < length vs
        run-fits_inner = omega (arith, below, run-fits_still)

        pub run_end : t.a ≡ inner → {r : ℕ} → r ≡ get_or vs (a_word inner) 0 → (us : List ℕ) → us ≡ set vs (a_word inner) i
            → Running (tokens_in bs n) len n us (i + 1) r
        run_end same {r} had us e =
            let (ok, size, fits, most) = asked in
            let h : inner < n = omega (arith, below) in
            let linked : tokens_in us n ≡ set (set (tokens_in ws n) i t) inner (with_link (nth (set (tokens_in ws n) i t) inner) i) =
            ap (λ (x : List ℕ). tokens_in x n) e ∙ link-has vs n inner h run-fits_inner i
            ∙ ap (λ (x : List Token). set x inner (with_link (nth x inner) i)) laid in
            let link : r ≡ (nth (set (tokens_in ws n) i t) inner).a =
            had ∙ link_had vs n inner h run-fits_inner ∙ ap (λ (x : List Token). (nth x inner).a) laid in (
              chain-end _ _ _ _ ok run.0 (omega arith) here end same (tokens_in us n) linked r link,
              ap length e ∙ length-set vs (a_word inner) i ∙ size_vs ∙ run.1,
            )
