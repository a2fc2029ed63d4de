-- What the puts of a token's parts come to.
-- Assumes nothing.
use mathlib.Core.Path.{◌≡◌}
use mathlib.Core.Bool.{Bool, true, false}
use mathlib.Core.List.{List, [], ◌∷◌, ◌++◌}
use Prim.Native.Nat.{ℕ}
use Rattle.data.specs.Bytes.{quote}
use Rattle.put.specs.Append.{wrote, append}
use Rattle.put.proofs.Append.{chain, same_bytes, put-empty}
use Rattle.writer.specs.declared.dues.Due.{Due}
use Rattle.writer.specs.declared.pieces.Piece.{Piece}
use Rattle.writer.specs.declared.pieces.Piece.TheVariants.{Scalar, Heading, Sign}
use Rattle.put.specs.Parts.{view_of}
use Rattle.writer.specs.Pieces.{quote_if, sign_bytes, own_bytes}
use Rattle.writer.specs.Text.{lead, piece_text}
use Rattle.data.proofs.Told.{as_told}

-- nothing at all
pub put_none : (out : List ℕ) (at : ℕ) → wrote at out ≡ append out at []
put_none out at = put-empty out at

-- a scalar in quotes, and one without
pub put-quoted : (out : List ℕ) (at : ℕ) (view : List ℕ) {quoted : Bool} {bytes a b c : List ℕ} {r s t : ℕ} → quoted ≡ true → bytes ≡ view
    → wrote r a ≡ append out at (quote ∷ []) → wrote s b ≡ append a r bytes → wrote t c ≡ append b s (quote ∷ [])
    → wrote t c ≡ append out at (quote_if quoted view)
put-quoted out at view e f first middle last =
    same_bytes out at _ _
    (chain out at (quote ∷ []) (view ++ (quote ∷ [])) first (chain _ _ view (quote ∷ []) (same_bytes _ _ _ _ middle f) last))
    (rw e)

pub put-bare : (out : List ℕ) (at : ℕ) (view : List ℕ) {quoted : Bool} {bytes a : List ℕ} {r : ℕ} → quoted ≡ false → bytes ≡ view
    → wrote r a ≡ append out at bytes → wrote r a ≡ append out at (quote_if quoted view)
put-bare out at view e f p = same_bytes out at _ _ p (rw e f)

-- ---- what stands before a piece and its own bytes, by what it is
module _ (out : List ℕ) (at : ℕ) (text : List ℕ) (first : Bool) (due : Due) {p : Piece} where
  pub put-scalar : {quoted : Bool} {offset size q r : ℕ} {a b : List ℕ} → p ≡ Scalar quoted offset size
      → wrote q a ≡ append out at (lead first due false) → wrote r b ≡ append a q (quote_if quoted (view_of text offset size))
      → wrote r b ≡ append out at (piece_text text first due p)
  unfolding piece_text own_bytes
  put-scalar told before own =
      as_told (λ (x : Piece). append out at (piece_text text first due x)) (chain out at (lead first due false) _ before own) told

  pub put-heading : {offset size q r : ℕ} {a b : List ℕ} → p ≡ Heading offset size
      → wrote q a ≡ append out at (lead first due false) → wrote r b ≡ append a q (view_of text offset size)
      → wrote r b ≡ append out at (piece_text text first due p)
  unfolding piece_text own_bytes
  put-heading told before own =
      as_told (λ (x : Piece). append out at (piece_text text first due x)) (chain out at (lead first due false) _ before own) told

  pub put-number : {number q r : ℕ} {a b : List ℕ} → p ≡ Sign number
      → wrote q a ≡ append out at (lead first due true) → wrote r b ≡ append a q (sign_bytes number)
      → wrote r b ≡ append out at (piece_text text first due p)
  unfolding piece_text own_bytes
  put-number told before own =
      as_told (λ (x : Piece). append out at (piece_text text first due x)) (chain out at (lead first due true) _ before own) told
