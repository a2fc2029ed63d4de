-- What the cuts make of plain scalars: blanks before them, and the scalar where it stands.
-- Assumes nothing.
use mathlib.Core.Path.{◌≡◌, refl, sym, ◌∙◌, ap}
use mathlib.Core.Bool.{Bool, true, false, false≢true}
use mathlib.Core.List.{List, [], ◌∷◌, ◌++◌}
use Prim.Native.Nat.{ℕ, suc, ◌+◌}
use native.Mathlib.Nat.{add-zero, zero-add}
use native.Mathlib.Omega.{arith}
use borrow.Author.Tests.{lt-ltb, eqb-false, not-true}
use lib.Dec.{eqb}
use lib.ListN.{length, get_or, drop}
use Rattle.data.proofs.Cases.{by_bool}
use Rattle.data.specs.Bytes.{space, hash, quote, backslash, at_sign}
use Rattle.data.specs.Classes.{is_boundary}
use Rattle.std.specs.Prelude.{Some, None}
use Rattle.cut.specs.declared.Cut.{Cut}
use Rattle.cut.specs.declared.Cut as Cut
use Rattle.cut.specs.Blanks.{is_blank, blanks_from, comment_from, skip_ws}
use Rattle.cut.specs.Runs.{stop_from, run_of, run_end_of}
use Rattle.cut.specs.Quotes.{quoted_from, skipped_from, quoted_run, closed}
use Rattle.cut.specs.Scalars.{scalar_cut, cut_of}
use Rattle.cut.proofs.Scalars.{opens_not}
use Rattle.way_back.specs.Plain.{bare_byte, AllPlain, AllBare}
use Rattle.way_back.proofs.Stands.{first_byte, one_on, stands-within}
use Rattle.way_back.proofs.Bytes.{plain_runs, plain_unquoted, plain-no_variable}

-- ---- blanks
blanks_at : (b : ℕ) (bs : List ℕ) (at : ℕ)
    → blanks_from (b ∷ bs) at
    ≡ elim (is_blank b) [ true ↦ blanks_from bs (at + 1) | false ↦ elim (eqb b hash) [ true ↦ comment_from bs (at + 1) | false ↦ Some at ] ]
unfolding blanks_from
blanks_at b bs at = refl

module _ (text : List ℕ) (at : ℕ) where
  -- a byte that is no blank is where skipping lands
  pub skip-none : {b : ℕ} {bs : List ℕ} → drop at text ≡ b ∷ bs → is_blank b ≡ false → eqb b hash ≡ false → skip_ws text at ≡ Some at
  unfolding skip_ws blanks_from
  skip-none e n c = rw (skip_ws, e, blanks_at, n, c)

  -- one space is passed
  pub skip-space : {b : ℕ} {bs : List ℕ} → drop at text ≡ space ∷ b ∷ bs → is_blank b ≡ false → eqb b hash ≡ false
      → skip_ws text at ≡ Some (at + 1)
  unfolding skip_ws blanks_from is_blank
  skip-space {b} {bs} e n c = rw (skip_ws, e, blanks_at space, blanks_at b bs (at + 1), n, c)

  -- the end
  pub skip-end : drop at text ≡ [] → skip_ws text at ≡ None
  unfolding skip_ws blanks_from
  skip-end e = rw (skip_ws, e)

-- ---- runs
-- whether some bytes end a run that stands before them
abbrev pub ends : List ℕ → Bool
ends [] = true
ends (b ∷ bs) = is_boundary b

pub stop_run : (bs post : List ℕ) (at : ℕ) → AllPlain bs → ends post ≡ true → stop_from is_boundary (bs ++ post) at ≡ at + length bs
unfolding stop_from
stop_run [] [] at h e = sym (add-zero at)
stop_run [] (b ∷ post) at h e = rw (stop_from, e) (sym (add-zero at))
stop_run (b ∷ bs) post at h e = rw (stop_from, plain_runs b h.0) (stop_run bs post (at + 1) h.1 e ∙ omega arith)

pub cut-unquoted : (text : List ℕ) (at b : ℕ) (bs post : List ℕ) → drop at text ≡ (b ∷ bs) ++ post → AllPlain (b ∷ bs)
    → ends post ≡ true
    → scalar_cut text at ≡ Some (Cut.TheVariants.Unquoted at (at + length (b ∷ bs)) (at + length (b ∷ bs)))
unfolding scalar_cut cut_of run_end_of run_of
cut-unquoted text at b bs post e h n =
    let f : get_or text at 0 ≡ b = first_byte text at e in
    let v = opens_not text at (λ z. eqb-false b at_sign (plain-no_variable b h.0) (sym f ∙ z)) in
    let within = lt-ltb at (length text) (stands-within text at e) in
    rw (scalar_cut, cut_of, within, f, plain_unquoted b h.0, v, run_end_of, e, run_of, plain_runs b h.0, stop_run bs post 1 h.1 n)
    (ap (λ (k : ℕ). Some (Cut.TheVariants.Unquoted at k k)) {x = at + (1 + length bs)} {y = at + suc (length bs)} (omega arith))

-- ---- quotes
quoted-at : (b : ℕ) (bs : List ℕ) (n : ℕ)
    → quoted_from (b ∷ bs) n false
    ≡ elim (eqb b quote) [
      | true ↦ closed n false
      | false ↦ elim (eqb b backslash) [ true ↦ skipped_from bs (n + 1) | false ↦ quoted_from bs (n + 1) false ]
    ]
unfolding quoted_from
quoted-at b bs n = refl

quoted-all : (bs post : List ℕ) (n : ℕ) → AllBare bs → quoted_from (bs ++ (quote ∷ post)) n false ≡ closed (n + length bs) false
unfolding quoted_from bare_byte
quoted-all [] post n h = rw (add-zero n)
quoted-all (b ∷ bs) post n h =
    by_bool (eqb b quote)
    (λ t. absurd (false≢true (rw (bare_byte, t) at h.0)))
    (λ q. rw (quoted-at, q, not-true (eqb b backslash) (rw (bare_byte, q) at h.0))
    (quoted-all bs post (n + 1) h.1 ∙ ap (λ (k : ℕ). closed k false) {x = n + 1 + length bs} {y = n + suc (length bs)} (omega arith)))

pub cut-quoted : (text : List ℕ) (at : ℕ) (bs post : List ℕ) → drop at text ≡ quote ∷ (bs ++ (quote ∷ post)) → AllBare bs
    → scalar_cut text at ≡ Some (Cut.TheVariants.Quoted (at + 1) (at + 1 + length bs) (at + 1 + length bs + 1) false)
unfolding scalar_cut cut_of quoted_run
cut-quoted text at bs post e h =
    let within = lt-ltb at (length text) (stands-within text at e) in
    rw (scalar_cut, cut_of, within, first_byte text at e, one_on text at e, quoted_run, quoted-all bs post 0 h, zero-add (length bs))
