-- A quoted run ends at the first `"` not skipped by a backslash (which skips one byte); none is Eof (2), which the caller says.
-- The quoted cut also says whether a backslash took part in it: whether one stands in its view, whatever follows that.
use Rattle.std.specs.Prelude.{ℕ, ◌+◌, ◌≤◌, ◌<◌, ◌≡◌, Bool, true, false, not, ◌&&◌, List, [], ◌∷◌, Option, Some, None, ◌↔◌, eqb, get_or}
use Rattle.data.specs.Bytes.{quote, backslash}
use Rattle.cut.specs.Marks.{turns_quote}
use Rattle.cut.specs.declared.QuotedRun.{QuotedRun}

-- a run that is closed, with how many bytes stand before its closing quote and whether a backslash is among them
abbrev pub closed : ℕ → Bool → Option QuotedRun
closed n escaped = Some (record { length = n; escaped = escaped })

-- the run's end, of the bytes left after n of it, with a backslash among those or none: at a byte of the run, and at one that a backslash skips
unfoldable mutual
  pub quoted_from : List ℕ → ℕ → Bool → Option QuotedRun
  quoted_from [] n escaped = None
  quoted_from (b ∷ bs) n escaped =
      elim (eqb b quote) [
        | true ↦ closed n escaped
        | false ↦ elim (eqb b backslash) [ true ↦ skipped_from bs (n + 1) | false ↦ quoted_from bs (n + 1) escaped ]
      ]

  pub skipped_from : List ℕ → ℕ → Option QuotedRun
  skipped_from [] n = None
  skipped_from (b ∷ bs) n = quoted_from bs (n + 1) true

-- how many of the bytes after an opening quote stand before the one that closes it, and whether a backslash took part
unfoldable pub quoted_run : List ℕ → Option QuotedRun
quoted_run bytes = quoted_from bytes 0 false

-- whether the first of the bytes after an opening quote is all of its run: the second is a quote, and the first neither a quote nor a backslash
unfoldable pub closes_soon : List ℕ → Bool
closes_soon [] = false
closes_soon (b ∷ []) = false
closes_soon (b ∷ next ∷ bs) = eqb next quote && not (turns_quote b)

-- ---- what the flag says of a view
-- a backslash stands among the bytes from one place to before another
pub record Backslash (bytes : List ℕ) (start end : ℕ) : Type 0 where
  pub place : ℕ
  pub from : start ≤ place
  pub before : place < end
  pub stands : get_or bytes place 0 ≡ backslash

-- the flag is set exactly when one does
abbrev pub Tells : List ℕ → ℕ → ℕ → Bool → Type 0
Tells bytes start end escaped = (escaped ≡ true) ↔ Backslash bytes start end
