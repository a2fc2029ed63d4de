-- What the routines for pairs and for entries come to, a token at a time, and that the tokens that are left grow fewer.
-- Assumes nothing.
use mathlib.Core.Path.{◌≡◌, refl, sym, ◌∙◌, ap, subst}
use mathlib.Core.Bool.{Bool, true, false, false≢true}
use mathlib.Core.List.{List, [], ◌∷◌, ◌++◌}
use Prim.Native.Nat.{ℕ, ◌+◌, ◌-◌, ◌*◌, ◌≤◌, ◌<◌}
use native.Mathlib.Omega.{arith}
use lib.ListN.{length}
use Rattle.data.specs.Bytes.{brace_open, brace_close}
use Rattle.put.specs.Append.{wrote, append}
use Rattle.put.proofs.Append.{chain, same_bytes, put-empty, put_on}
use Rattle.tape.specs.declared.token.Token.{Token}
use Rattle.tape.specs.declared.token.ContainerKind.{ContainerKind}
use Rattle.writer.specs.declared.dues.Due.{Due}
use Rattle.writer.specs.declared.dues.Due.TheVariants.{Entry}
use Rattle.writer.specs.declared.pieces.Piece.{Piece}
use Rattle.writer.specs.declared.pieces.Piece.TheVariants.{Scalar, Heading, Sign, Mixed, Opener, Other}
use Rattle.writer.specs.Forest.{Forest, stretch}
use Rattle.writer.specs.Pieces.{is_mixed, is_opener}
use Rattle.writer.specs.Dues.{due_after}
use Rattle.writer.specs.Text.{still_first, piece_text, braced, body_text}
use Rattle.writer.specs.Ranges.{Range, behind, Inside, inside_text, token_text}
use Rattle.writer.proofs.Grown.{stretch-none}
use Rattle.writer.proofs.Walks.{Bare, scalar, heading, sign, mixed, other, bare-text, Met, step_inside, step_range, step_ahead, step_text}

-- ---- a piece that is no opener's opens nothing
pub not_opener : (p : Piece) → ((kind : ContainerKind) (end : ℕ) → p ≡ Opener kind end → ⊥) → Bare p
not_opener (Scalar quoted offset size) h = scalar quoted offset size
not_opener (Heading offset size) h = heading offset size
not_opener (Sign number) h = sign number
not_opener Mixed h = mixed
not_opener (Opener kind end) h = absurd (h kind end refl)
not_opener Other h = other

-- ---- the measures: twice the tokens that are left, and for a container one more than for what stands in it
abbrev pub left_in : ℕ → ℕ → ℕ
left_in from end = 2 * (end - from)

abbrev pub span : Piece → ℕ → ℕ
span (Scalar quoted offset size) from = 0
span (Heading offset size) from = 0
span (Sign number) from = 0
span Mixed from = 0
span (Opener kind end) from = left_in from end + 1
span Other from = 0

-- into a container
pub enters : (p : Piece) (from : ℕ) {kind : ContainerKind} {e t : ℕ} → p ≡ Opener kind e → span p from ≡ t → left_in from e < t
enters p from {kind} {e} told m = let z : span p from ≡ left_in from e + 1 = rw told in omega (arith, z, m)

pub enters_range : (ts : List Token) (p : Piece) (from : ℕ) {kind : ContainerKind} {e : ℕ} → p ≡ Opener kind e → Inside ts from p → Range ts from e
enters_range ts p from told h = (subst (Inside ts from) told h).0

-- of a kind that is known
pub opened_as : {p : Piece} {kind is : ContainerKind} {e : ℕ} → p ≡ Opener kind e → kind ≡ is → p ≡ Opener is e
opened_as {p} {kind} {is} {e} told known = told ∙ ap (λ (k : ContainerKind). Opener k e) known

-- to a token of a body
span-short : (ts : List Token) (from j : ℕ) (p : Piece) → Inside ts from p → behind p from ≤ j → from ≤ j → span p from ≤ left_in from j
unfolding behind
span-short ts from j (Scalar quoted offset size) h g f = omega arith
span-short ts from j (Heading offset size) h g f = omega arith
span-short ts from j (Sign number) h g f = omega arith
span-short ts from j Mixed h g f = omega arith
span-short ts from j (Opener kind e) h g f = let u = h.1 in omega arith
span-short ts from j Other h g f = omega arith

module _ {ts : List Token} {i j : ℕ} {p : Piece} (met : Met ts i j p) where
  pub step_span : (from : ℕ) {t : ℕ} → from ≤ i → left_in from j ≡ t → span p (i + 1) < t
  step_span from u m =
      let on = step_ahead met _ refl in
      let h = met.early in
      let s = span-short ts (i + 1) j p (step_inside met) on.1 (omega arith) in
      omega arith

  -- a MixedContainer writes nothing and takes no space, and behind it entries follow as in an array
  mixed-is : is_mixed p ≡ true → p ≡ Mixed
  mixed-is e = go p e
    where
      go : (q : Piece) → is_mixed q ≡ true → q ≡ Mixed
      go (Scalar quoted offset size) t = absurd (false≢true t)
      go (Heading offset size) t = absurd (false≢true t)
      go (Sign number) t = absurd (false≢true t)
      go Mixed t = refl
      go (Opener kind end) t = absurd (false≢true t)
      go Other t = absurd (false≢true t)

  pub mixed-range : {r : Bool} → r ≡ is_mixed p → r ≡ true → Range ts (i + 1) j
  unfolding behind
  mixed-range e f =
      let m = mixed-is (sym e ∙ f) in
      step_range met (i + 1) (ap (λ (q : Piece). behind q (i + 1)) (sym m))

  pub mixed-text : (text : List ℕ) (first : Bool) (due : Due) {r : Bool} → r ≡ is_mixed p → r ≡ true
      → body_text (stretch ts i j) text first due ≡ body_text (stretch ts (i + 1) j) text first Entry
  unfolding behind token_text inside_text piece_text due_after
  mixed-text text first due e f =
      let m = mixed-is (sym e ∙ f) in
      step_text met (i + 1) (ap (λ (q : Piece). behind q (i + 1)) (sym m)) text first due (ap (still_first first) (sym m))
      (ap (due_after due) (sym m))
      ∙ ap (λ (q : Piece). token_text text ts (i + 1) first due q ++ body_text (stretch ts (i + 1) j) text first Entry) m

-- ---- entries stay entries
pub entry-stays : (p : Piece) → Entry ≡ due_after Entry p
unfolding due_after
entry-stays (Scalar quoted offset size) = refl
entry-stays (Heading offset size) = refl
entry-stays (Sign number) = refl
entry-stays Mixed = refl
entry-stays (Opener kind end) = refl
entry-stays Other = refl

-- ---- a container: what stands before it, and its braces round what stands in it
pub put-braced : (out : List ℕ) (at : ℕ) (lead body : List ℕ) {a b c d : List ℕ} {q r s t : ℕ} → wrote q a ≡ append out at lead
    → wrote r b ≡ append a q (brace_open ∷ []) → wrote s c ≡ append b r body → wrote t d ≡ append c s (brace_close ∷ [])
    → wrote t d ≡ append out at (lead ++ braced body)
put-braced out at lead body e f g h =
    chain out at lead (braced body) e
    (chain _ _ (brace_open ∷ []) (body ++ (brace_close ∷ [])) f (chain _ _ body (brace_close ∷ []) g h))

-- ---- a token of a body is laid down: what it opens, or else itself
pub record Laid (ts : List Token) (text out : List ℕ) (from next : ℕ) (first : Bool) (due : Due) (p : Piece) (o : List ℕ) (r : ℕ) : Type 0 where
  pub bytes : wrote r o ≡ append out next (token_text text ts from first due p)
  pub lent : length o ≡ length out

module _ {ts : List Token} {text out : List ℕ} {from next : ℕ} {first : Bool} {due : Due} {p : Piece} {opens : Bool} (e : opens ≡ is_opener p)
    {a o : List ℕ} {q r : ℕ} (kept : length a ≡ length out) (last : o ≡ a) (place : r ≡ q) where
  laid : {bytes : List ℕ} → wrote q a ≡ append out next bytes → bytes ≡ token_text text ts from first due p
      → Laid ts text out from next first due p o r
  laid put same = record { bytes = rw (last, place) (same_bytes out next _ _ put same); lent = rw last kept }

  pub laid-inside : opens ≡ true → wrote q a ≡ append out next (inside_text text ts from first due p) → Laid ts text out from next first due p o r
  unfolding token_text piece_text
  laid-inside t put = laid put (go p (sym e ∙ t))
    where
      go : (x : Piece) → is_opener x ≡ true → inside_text text ts from first due x ≡ token_text text ts from first due x
      go (Scalar quoted offset size) h = absurd (false≢true h)
      go (Heading offset size) h = absurd (false≢true h)
      go (Sign number) h = absurd (false≢true h)
      go Mixed h = absurd (false≢true h)
      go (Opener kind end) h = refl
      go Other h = absurd (false≢true h)

  pub laid_own : opens ≡ false → wrote q a ≡ append out next (piece_text text first due p) → Laid ts text out from next first due p o r
  laid_own t put = laid put (sym (bare-text (go p (sym e ∙ t)) text ts from first due))
    where
      go : (x : Piece) → is_opener x ≡ false → Bare x
      go (Scalar quoted offset size) h = scalar quoted offset size
      go (Heading offset size) h = heading offset size
      go (Sign number) h = sign number
      go Mixed h = mixed
      go (Opener kind end) h = absurd (false≢true (sym h))
      go Other h = other

-- ---- the walk over a body: what is left of it, put from here on, makes all that is to be put
pub record Putting (ts : List Token) (text out₀ : List ℕ) (at from end : ℕ) (whole : List ℕ)
    (out : List ℕ) (i next : ℕ) (first : Bool) (due : Due) : Type 0 where
  pub range : Range ts i end
  pub past : from ≤ i
  pub left : append out₀ at whole ≡ append out next (body_text (stretch ts i end) text first due)
  pub same : length out ≡ length out₀

module _ {ts : List Token} {text out₀ : List ℕ} {at from end : ℕ} {whole out : List ℕ} {i next : ℕ} {first : Bool} {due : Due}
    (w : Putting ts text out₀ at from end whole out i next first due) where
  -- one token is put
  pub put_step : {p : Piece} (met : Met ts i end p) (on : ℕ) → on ≡ behind p (i + 1) → {still : Bool} {after : Due}
      → still ≡ still_first first p → after ≡ due_after due p → {o : List ℕ} {r : ℕ} → Laid ts text out (i + 1) next first due p o r
      → Putting ts text out₀ at from end whole o on r still after
  put_step {p} met on goes e f laid =
      record {
        range = step_range met on goes;
        past = omega (arith, (step_ahead met on goes).0, w.past);
        left = w.left ∙ put_on out next _ (token_text text ts (i + 1) first due p) _ (step_text met on goes text first due e f) laid.bytes;
        same = laid.lent ∙ w.same;
      }

  -- none is left
  pub put-done : end ≤ i → wrote next out ≡ append out₀ at whole
  unfolding body_text
  put-done h = put-empty out next ∙ sym (w.left ∙ ap (λ (f : Forest). append out next (body_text f text first due)) (stretch-none ts i end h))

  -- the rest is put as entries
  pub put_rest : {p : Piece} → Met ts i end p → {m : Bool} → m ≡ is_mixed p → m ≡ true → {r : ℕ} {o : List ℕ}
      → wrote r o ≡ append out next (body_text (stretch ts (i + 1) end) text first Entry) → wrote r o ≡ append out₀ at whole
  put_rest met e f put = put ∙ sym (w.left ∙ ap (append out next) (mixed-text met text first due e f))

-- at the start all is left
pub put-start : (ts : List Token) (text out : List ℕ) (at from end : ℕ) (first : Bool) (due : Due) → Range ts from end
    → Putting ts text out at from end (body_text (stretch ts from end) text first due) out from at first due
put-start ts text out at from end first due b = record { range = b; past = omega arith; left = refl; same = refl }
