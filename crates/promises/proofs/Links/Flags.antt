-- The flags that openers store: around an open Object that an Equal stands before, the flag is set.
-- What each change of a tape does to this.
-- Assumes nothing.
use mathlib.Core.Path.{◌≡◌, sym, ◌∙◌, ap}
use mathlib.Core.Bool.{Bool, true, false}
use mathlib.Core.Logic.{inl, inr}
use mathlib.Core.List.{List, [], ◌∷◌, ◌++◌}
use Prim.Native.Nat.{ℕ, suc, ◌+◌, ◌-◌, ◌<◌}
use native.Mathlib.Omega.{arith}
use lib.ListN.{length, set, get_or-eq_default}
use lib.Seq.{get_or-set_same, get_or-set_other}
use Rattle.tape.specs.declared.token.Token.{Token}
use Rattle.tape.specs.declared.token.ContainerKind.TheVariants.{Array, Object}
use Rattle.tape.specs.Token.{no_token, mixed_container_token, opener_of}
use Rattle.tape.specs.Tape.{before_last}
use Rattle.tape.proofs.Makers.{operator_uncoded}
use Rattle.sheet.specs.Sound.{nth}
use Rattle.promises.specs.Mixed.{Scalar, equal_token, Flagged, Stored, Flags}
use Rattle.promises.proofs.Links.Nest.{by_equal, by-below}
use Rattle.promises.proofs.Links.Rows.{last, add-length, add_new, add_same, insert_new, insert-last, insert-same, not_scalar}

-- ---- what tells tokens apart
-- tokens of two codes differ
pub codes-differ : {t u : Token} {P : Type 0} → (t.code ≡ u.code → ⊥) → t ≡ u → P
codes-differ d e = absurd (d (ap (λ (x : Token). x.code) e))

-- an Array is no Object
pub array-no-object : {P : Type 0} → Array ≡ Object → P
array-no-object e = let z : ◌≡◌ {A = ℕ} 0 1 = cc in absurd (omega arith)

-- a flag is not both on and off
pub not_both : {flag : Bool} {P : Type 0} → flag ≡ true → flag ≡ false → P
not_both on off = let z : ◌≡◌ {A = ℕ} 0 1 = cc in absurd (omega arith)

-- a scalar is no operator
pub scalar-no-equal : {t : Token} {P : Type 0} → Scalar t → t ≡ equal_token → P
scalar-no-equal s e = absurd (not_scalar {t = equal_token} (operator_uncoded equal_token.a) (rw e at s))

-- where a token with a code is read, there is one
pub coded_below : (ts : List Token) (i : ℕ) {x : Token} → (no_token.code ≡ x.code → ⊥) → nth ts i ≡ x → i < length ts
coded_below ts i coded e =
    by-below i (length ts)
    (λ h. h)
    (λ h. codes-differ coded (sym (get_or-eq_default ts no_token {n = i} h) ∙ e))

stored_kept : (ts us : List Token) (c : ℕ) → nth us c ≡ nth ts c → Stored ts c → Stored us c
stored_kept ts us c e (inl z) = inl z
stored_kept ts us c e (inr f) = inr (rw e f)

-- ---- a token added: an Object behind an Equal only inside a container whose flag is set
pub flags-add : (ts : List Token) (x : Token) → Flags ts
    → ((c : ℕ) (mixed : Bool) → x ≡ opener_of Object c mixed → last ts ≡ equal_token → Stored ts c)
    → Flags (ts ++ (x ∷ []))
flags-add ts x f suits i c mixed e o h =
    let l : length (ts ++ (x ∷ [])) ≡ length ts + 1 = add-length ts x in
    let below : i + 1 < length (ts ++ (x ∷ [])) = coded_below (ts ++ (x ∷ [])) (i + 1) (λ z. omega arith) o in
    let here : nth ts i ≡ equal_token = rw (add_same ts x i (λ z. omega arith)) at e in
    let kept : Stored ts c → Stored (ts ++ (x ∷ [])) c = λ s. stored_kept ts (ts ++ (x ∷ [])) c (add_same ts x c (λ z. omega arith)) s in
    by_equal (i + 1) (length ts)
    (λ z. let k : i ≡ length ts - 1 = omega arith in kept (suits c mixed (rw (z, add_new ts x) at o) (rw k at here)))
    (λ d. kept (f i c mixed here (rw (add_same ts x (i + 1) d) at o) h))

-- ---- a token changed
pub flags-set : (ts : List Token) (k : ℕ) (x : Token) → k < length ts → Flags ts → (x ≡ equal_token → ⊥)
    → ((c : ℕ) (mixed : Bool) → x ≡ opener_of Object c mixed → c < k → (before : Bool) × (nth ts k ≡ opener_of Object c before))
    → ((j : ℕ) (mixed : Bool) → nth ts j ≡ opener_of Object k mixed → k < j → Flagged (nth ts k) → Flagged x) → Flags (set ts k x)
flags-set ts k x below f other object keeps i c mixed e o h =
    by_equal i k
    (λ z. absurd (other (rw (z, get_or-set_same ts k x no_token below) at e)))
    (λ d.
    let here : nth ts i ≡ equal_token = rw (get_or-set_other ts k i x no_token d) at e in
    by_equal (i + 1) k
    (λ z.
    let old = object c mixed (rw (z, get_or-set_same ts k x no_token below) at o) (omega arith) in
    stored_kept ts (set ts k x) c (get_or-set_other ts k c x no_token (λ y. omega arith)) (f i c old.0 here (rw z old.1) h))
    (λ d'.
    let old : nth ts (i + 1) ≡ opener_of Object c mixed = rw (get_or-set_other ts k (i + 1) x no_token d') at o in
    by_equal c k
    (λ z. held z (f i c mixed here old h) (λ g. keeps (i + 1) mixed (rw z at old) (omega arith) g))
    (λ d''. stored_kept ts (set ts k x) c (get_or-set_other ts k c x no_token d'') (f i c mixed here old h))))
  where
    held : {c : ℕ} → c ≡ k → Stored ts c → (Flagged (nth ts k) → Flagged x) → Stored (set ts k x) c
    held z (inl y) g = inl y
    held z (inr y) g = inr (rw (z, get_or-set_same ts k x no_token below) (g (rw z at y)))

-- ---- a MixedContainer put in before the last, a scalar
pub flags-insert : (ts : List Token) (k : ℕ) → length ts ≡ suc k → Flags ts → Scalar (nth ts k) → Flags (before_last ts mixed_container_token)
flags-insert ts k counted f one i c mixed e o h =
    let x : Token = mixed_container_token in
    by_equal i k
    (λ z. codes-differ (λ y. omega arith) (rw (z, insert_new ts x k counted) at e))
    (λ d. by_equal i (suc k)
    (λ z. scalar-no-equal one (rw (z, insert-last ts x k counted) at e))
    (λ d'.
    let here : nth ts i ≡ equal_token = rw (insert-same ts x k counted i d d') at e in
    by_equal (i + 1) k
    (λ z. codes-differ (λ y. omega arith) (rw (z, insert_new ts x k counted) at o))
    (λ d''.
    let old : nth ts (i + 1) ≡ opener_of Object c mixed = rw (insert-same ts x k counted (i + 1) d'' (λ z. omega arith)) at o in
    let below : i + 1 < length ts = coded_below ts (i + 1) (λ z. omega arith) old in
    stored_kept ts (before_last ts x) c (insert-same ts x k counted c (λ z. omega arith) (λ z. omega arith)) (f i c mixed here old h))))
