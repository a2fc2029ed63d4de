-- What each maker makes is read back as what it was made of: its code, as a container, as what stands before another token; and
-- a token that was changed.
-- Assumes nothing.
use Rattle.std.specs.Prelude.{Option, Some, None}
use mathlib.Core.Path.{◌≡◌, refl, sym, ◌∙◌, ap}
use mathlib.Core.Bool.{Bool, true, false, false≢true}
use Prim.Native.Nat.{ℕ}
use borrow.Author.Tests.{eq-eqb, eqb-true}
use lib.Dec.{eqb}
use Rattle.data.proofs.Cases.{by_bool}
use Rattle.tape.specs.declared.token.Token.{Token}
use Rattle.tape.specs.declared.token.ContainerKind.{ContainerKind}
use Rattle.tape.specs.declared.token.ContainerKind.TheVariants.{Array, Object}
use Rattle.tape.specs.declared.token.ScalarKind.{ScalarKind}
use Rattle.tape.specs.declared.token.ScalarKind.TheVariants.{Unquoted, Quoted, Parameter, UndefinedParameter, Header, QuotedEscape}
use Rattle.tape.specs.declared.token.Standing as Standings
use Rattle.tape.specs.Token.{array_code, object_code, unquoted_code, end_code, header_code, opened}
use Rattle.tape.specs.Token.{scalar_code, scalar_named, names_scalar, is_scalar_code, is_header, may_be_empty, quoted_kind}
use Rattle.tape.specs.Token.{relinked, reflagged, rekinded}
use Rattle.tape.specs.Token.{opener_of, end_of, scalar_of, operator_of, mixed_container_token, no_token, container_of, standing_of}
use Rattle.tape.specs.declared.token.Container.{Container}

-- ---- the codes of scalars
-- a kind's code names it
pub code-names : (kind : ScalarKind) → scalar_named (scalar_code kind) ≡ Some kind
unfolding scalar_named
code-names Unquoted = refl
code-names Quoted = refl
code-names Parameter = refl
code-names UndefinedParameter = refl
code-names Header = refl
code-names QuotedEscape = refl

pub code-named : (code : ℕ) (kind : ScalarKind) → code ≡ scalar_code kind → Some kind ≡ scalar_named code
code-named code kind e = sym (ap scalar_named e ∙ code-names kind)

-- so it is a scalar's
pub scalar_coded : (kind : ScalarKind) → is_scalar_code (scalar_code kind) ≡ true
scalar_coded kind = ap names_scalar (code-names kind)

-- and no other token has such a code
pub mixed_container_uncoded : is_scalar_code mixed_container_token.code ≡ false
unfolding scalar_named
mixed_container_uncoded = refl

pub operator_uncoded : (number : ℕ) → is_scalar_code (operator_of number).code ≡ false
unfolding scalar_named
operator_uncoded number = refl

pub end_uncoded : (opener : ℕ) → is_scalar_code (end_of opener).code ≡ false
unfolding scalar_named
end_uncoded opener = refl

pub none_uncoded : is_scalar_code no_token.code ≡ false
unfolding scalar_named
none_uncoded = refl

-- a code that names no kind is none of theirs
pub unnamed : (code : ℕ) (kind : ScalarKind) → scalar_named code ≡ None → eqb code (scalar_code kind) ≡ false
unnamed code kind n =
    by_bool (eqb code (scalar_code kind))
    (λ e. let no : Some kind ≡ None = code-named code kind (eqb-true code (scalar_code kind) e) ∙ n in cc)
    (λ e. e)

-- a quoted run may be empty, with an escape or without, and is no Header
pub quoted-empty : (escaped : Bool) → may_be_empty (quoted_kind escaped) ≡ true
quoted-empty true = refl
quoted-empty false = refl

pub quoted_headless : (escaped : Bool) → is_header (quoted_kind escaped) ≡ false
quoted_headless true = refl
quoted_headless false = refl

-- a kind is a Header where it is told to be one
pub header-told : (kind : ScalarKind) → is_header kind ≡ true → kind ≡ Header
header-told kind h =
    let same : Some Header ≡ Some kind = code-named (scalar_code kind) Header (eqb-true (scalar_code kind) header_code h) ∙ code-names kind in cc

-- and its code is a Header's only then
pub header_coded : (kind : ScalarKind) → scalar_code kind ≡ header_code → is_header kind ≡ true
header_coded kind e = eq-eqb (scalar_code kind) header_code e

-- ---- as a container
-- what holds of an opener of each kind, link and flag, and of none, holds of whatever a token is as a container
pub by_opened {ℓ} : (P : Option Container → Type ℓ) → ((kind : ContainerKind) (link : ℕ) (mixed : Bool) → P (opened kind link mixed)) → P None
    → (c : Option Container) → P c
by_opened P f g (Some c) = f c.kind c.link c.mixed
by_opened P f g None = g

-- openers that are the same as containers are of one kind, link and flag
pub same_opened : {k k' : ContainerKind} {l l' : ℕ} {f f' : Bool} → opened k l f ≡ opened k' l' f' → (k ≡ k') × (l ≡ l') × (f ≡ f')
same_opened {k} {k'} {l} {l'} {f} {f'} e = (
  ap (elim [ Some c ↦ c.kind | None ↦ k ]) e,
  ap (elim [ Some c ↦ c.link | None ↦ l ]) e,
  ap (elim [ Some c ↦ c.mixed | None ↦ f ]) e,
)

pub opener-container : (kind : ContainerKind) (link : ℕ) (mixed : Bool) → container_of (opener_of kind link mixed) ≡ opened kind link mixed
unfolding container_of
opener-container Array link true = refl
opener-container Array link false = refl
opener-container Object link true = refl
opener-container Object link false = refl

-- a code of scalars is no container's
coded_container : (t : Token) → is_scalar_code t.code ≡ true → container_of t ≡ None
unfolding container_of scalar_named
coded_container t s =
    by_bool (eqb t.code array_code)
    (λ e. absurd (false≢true (sym (ap is_scalar_code (eqb-true t.code array_code e)) ∙ s)))
    (λ e. by_bool (eqb t.code object_code)
    (λ f. absurd (false≢true (sym (ap is_scalar_code (eqb-true t.code object_code f)) ∙ s)))
    (λ f. rw (container_of, e, f)))

pub scalar-container : (kind : ScalarKind) (offset size : ℕ) → container_of (scalar_of kind offset size) ≡ None
scalar-container kind offset size = coded_container (scalar_of kind offset size) (scalar_coded kind)

-- ---- as what stands before another token
pub opener-standing : (kind : ContainerKind) (link : ℕ) (mixed : Bool) → standing_of (opener_of kind link mixed) ≡ Standings.TheVariants.Nothing
unfolding standing_of scalar_named
opener-standing Array link mixed = refl
opener-standing Object link mixed = refl

pub mixed_container-standing : standing_of mixed_container_token ≡ Standings.TheVariants.Nothing
unfolding standing_of scalar_named
mixed_container-standing = refl

pub operator-standing : (number : ℕ) → standing_of (operator_of number) ≡ Standings.TheVariants.Nothing
unfolding standing_of scalar_named
operator-standing number = refl

pub end-standing : (opener : ℕ) → standing_of (end_of opener) ≡ Standings.TheVariants.End
unfolding standing_of scalar_named
end-standing opener = refl

pub none-standing : standing_of no_token ≡ Standings.TheVariants.Nothing
unfolding standing_of scalar_named
none-standing = refl

-- an Unquoted by its standing has its code
pub unquoted_coded : (t : Token) → standing_of t ≡ Standings.TheVariants.Unquoted → t.code ≡ unquoted_code
unfolding standing_of
unquoted_coded t e =
    by_bool (eqb t.code unquoted_code)
    (λ f. eqb-true t.code unquoted_code f)
    (λ f. by_bool (is_scalar_code t.code)
    (λ g. let no : Standings.TheVariants.OtherScalar ≡ Standings.TheVariants.Unquoted = rw (standing_of, f, g) at e in cc)
    (λ g. by_bool (eqb t.code end_code)
    (λ h. let no : Standings.TheVariants.End ≡ Standings.TheVariants.Unquoted = rw (standing_of, f, g, h) at e in cc)
    (λ h. let no : Standings.TheVariants.Nothing ≡ Standings.TheVariants.Unquoted = rw (standing_of, f, g, h) at e in cc)))

-- ---- the same opener with another link, flag or kind, of any token that is read as an opener
module _ (kind : ContainerKind) (link : ℕ) (mixed : Bool) (t : Token) (e : container_of t ≡ opened kind link mixed) where
  pub relinked-read : (other : ℕ) → relinked t other ≡ opener_of kind other mixed
  unfolding relinked
  relinked-read other = rw (relinked, e)

  pub reflagged-read : (other : Bool) → reflagged t other ≡ opener_of kind link other
  unfolding reflagged
  reflagged-read other = rw (reflagged, e)

  pub rekinded-read : (other : ContainerKind) → rekinded t other ≡ opener_of other link mixed
  unfolding rekinded
  rekinded-read other = rw (rekinded, e)
