-- What each part of a plain sheet's forest is.
-- Assumes nothing.
use Rattle.std.specs.Prelude.{None}
use mathlib.Core.Path.{◌≡◌, refl, ◌∙◌, ap}
use mathlib.Core.Bool.{Bool, true, false}
use mathlib.Core.List.{List}
use Prim.Native.Nat.{ℕ, zero, suc, ◌+◌, ◌≤◌, ◌<◌}
use native.Mathlib.Omega.{arith}
use borrow.Author.Tests.{ltb-true, ltb-false}
use lib.Dec.{ltb}
use lib.ListN.{length}
use Rattle.data.proofs.Cases.{by_bool}
use Rattle.tape.specs.declared.token.Token.{Token}
use Rattle.tape.specs.declared.token.ContainerKind.{ContainerKind}
use Rattle.tape.specs.declared.token.ContainerKind.TheVariants.{Array, Object}
use Rattle.tape.specs.declared.token.ScalarKind.{ScalarKind}
use Rattle.tape.specs.declared.token.ScalarKind.TheVariants.{Unquoted, Quoted, Parameter, UndefinedParameter, Header, QuotedEscape}
use Rattle.tape.specs.Token.{nth, container_of, scalar_of, opener_of}
use Rattle.sheet.specs.Sound.{Form, container, mixed_container, scalar, operator, closing}
use Rattle.put.specs.Parts.{view_of}
use Rattle.writer.specs.Forest.{Forest, no_more, leaf, box, stretch, forest_of}
use Rattle.writer.specs.Ranges.{Range}
use Rattle.way_back.specs.Plain.{AllPlain, AllBare, Plain}
use Rattle.writer.proofs.Grown.{opens_not, sheet-range, by_token, stretch-none, stretch-leaf, stretch-box}

-- a plain scalar that lies within the text
pub data PlainToken (text : List ℕ) (x : Token) : Type 0 where
  plain_unquoted : (a n : ℕ) → x ≡ scalar_of Unquoted a n → a + n ≤ length text → 0 < n → AllPlain (view_of text a n)
      → PlainToken text x
  plain_quoted : (a n : ℕ) → x ≡ scalar_of Quoted a n → a + n ≤ length text → AllBare (view_of text a n) → PlainToken text x

-- a body that is not empty
abbrev pub NotEmpty : Forest → Type 0
NotEmpty no_more = ⊥
NotEmpty (leaf x rest) = Unit {0}
NotEmpty (box kind flag inner rest) = Unit {0}

-- a body whose first entry is no empty container
abbrev pub FirstFilled : Forest → Type 0
FirstFilled no_more = Unit {0}
FirstFilled (leaf x rest) = Unit {0}
FirstFilled (box kind flag inner rest) = NotEmpty inner

-- what a body of a kind begins with
abbrev pub WellBegun : ContainerKind → Forest → Type 0
WellBegun Array f = FirstFilled f
WellBegun Object f = NotEmpty f

-- tokens that open nothing are plain scalars, and containers are unflagged and well begun
abbrev pub Parts : Forest → List ℕ → Type 0
Parts no_more text = Unit {0}
Parts (leaf x rest) text = PlainToken text x × Parts rest text
Parts (box kind flag inner rest) text = (flag ≡ false) × WellBegun kind inner × Parts inner text × Parts rest text

module _ (text : List ℕ) (ts : List Token) (p : Plain text ts) where
  -- a token that opens nothing and is no End
  plain-scalar : (i a n : ℕ) (kind : ScalarKind) → nth ts i ≡ scalar_of kind a n → PlainToken text (nth ts i)
  plain-scalar i a n Unquoted e =
      plain_unquoted a n e (p.sound.within i a n (Unquoted, e)) (long n e) (p.unquoted_bytes i a n e)
    where
      long : (n : ℕ) → nth ts i ≡ scalar_of Unquoted a n → 0 < n
      long zero e = let z = p.sound.filled i Unquoted a e in let y : ◌≡◌ {A = ℕ} 0 1 = cc in omega arith
      long (suc n) e = omega arith
  plain-scalar i a n Quoted e = plain_quoted a n e (p.sound.within i a n (Quoted, e)) (p.quoted_bytes i a n e)
  plain-scalar i a n Parameter e = absurd (p.no_parameters i a n e)
  plain-scalar i a n UndefinedParameter e = absurd (p.no_undefined_parameters i a n e)
  plain-scalar i a n Header e = absurd (p.no_headers i a n e)
  plain-scalar i a n QuotedEscape e = absurd (p.no_escapes i a n e)

  plain-leaf : (i j : ℕ) → Range ts i j → i < j → container_of (nth ts i) ≡ None → PlainToken text (nth ts i)
  plain-leaf i j b h none = go (b.sheet.forms i (omega (arith, b.within)))
    where
      go : Form (nth ts i) → PlainToken text (nth ts i)
      go (container e o) = absurd (opens_not (nth ts i) none o)
      go (mixed_container e) = absurd (p.no_mixed_containers i e)
      go (scalar a n v) = plain-scalar i a n v.0 v.1
      go (operator k l m e) = absurd (p.no_operators i k e)
      go (closing o e) = absurd (omega (arith, (b.sheet.opened i o e).0, b.opened i o (omega arith) h e))

  unflagged : (i end : ℕ) (kind : ContainerKind) (flag : Bool) → nth ts i ≡ opener_of kind end flag → flag ≡ false
  unflagged i end kind true o = absurd (p.no_flags i end kind o)
  unflagged i end kind false o = refl

  -- where there is a token, there is one in the forest
  some-token : (i j : ℕ) → Range ts i j → i < j → NotEmpty (stretch ts i j)
  some-token i j b h =
      by_token ts i j b h
      (λ kind flag e o l l' c u v. rw (stretch-box ts i j kind e flag b h o) tt)
      (λ n u. rw (stretch-leaf ts i j h n) tt)

  -- from one place to another that is no nearer
  further_on : {P : Type 0} (i j : ℕ) → i ≤ j → (i < j → P) → (j ≡ i → P) → P
  further_on i j h f g = by_bool (ltb i j) (λ t. f (ltb-true i j t)) (λ t. g (omega (arith, ltb-false i j t)))

  well_begun : (i e : ℕ) (kind : ContainerKind) (flag : Bool) → nth ts i ≡ opener_of kind e flag → i < e → Range ts (i + 1) e
      → WellBegun kind (stretch ts (i + 1) e)
  well_begun i e Object flag o h b =
      further_on (i + 1) e (omega arith) (some-token (i + 1) e b)
      (λ z. absurd (p.objects_filled i flag (o ∙ ap (λ (m : ℕ). opener_of Object m flag) z)))
  well_begun i e Array flag o h b =
      further_on (i + 1) e (omega arith)
      (λ l. by_token ts (i + 1) e b l
      (λ kind first e' o' l' l'' c u v.
      rw (stretch-box ts (i + 1) e kind e' first b l o')
      (further_on (i + 1 + 1) e' (omega arith) (some-token (i + 1 + 1) e' u)
      (λ z. absurd (p.first_entries_filled i e kind flag first o
      (let y : e' ≡ i + 2 = omega (arith, z) in o' ∙ ap (λ (m : ℕ). opener_of kind m first) y)))))
      (λ n u. rw (stretch-leaf ts (i + 1) e l n) tt))
      (λ z. rw (stretch-none ts (i + 1) e (omega arith)) tt)

  parts : (turns i j : ℕ) → j ≤ i + turns → Range ts i j → Parts (stretch ts i j) text
  parts zero i j few b = rw (stretch-none ts i j (omega arith)) tt
  parts (suc turns) i j few b =
      by_bool (ltb i j)
      (λ t.
      let h : i < j = ltb-true i j t in
      by_token ts i j b h
      (λ kind flag e o l l' c u v.
      rw (stretch-box ts i j kind e flag b h o)
      (unflagged i e kind flag o, well_begun i e kind flag o l u, parts turns (i + 1) e (omega arith) u, parts turns (e + 1) j (omega arith) v))
      (λ n u. rw (stretch-leaf ts i j h n) (plain-leaf i j b h n, parts turns (i + 1) j (omega arith) u)))
      (λ t. rw (stretch-none ts i j (ltb-false i j t)) tt)

  pub plain-parts : Parts (forest_of ts) text
  unfolding forest_of
  plain-parts = parts (length ts) 0 (length ts) (omega arith) (sheet-range p.sound)
