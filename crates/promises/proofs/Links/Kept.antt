-- The tokens of a tape whose containers may be open: each by itself, and their links. What each change of a tape keeps.
-- Assumes nothing.
use Rattle.std.specs.Prelude.{Option, Some, None}
use mathlib.Core.Path.{◌≡◌, refl, sym, ◌∙◌, ap}
use mathlib.Core.Bool.{Bool, true, false}
use mathlib.Core.List.{List, [], ◌∷◌, ◌++◌}
use Prim.Native.Nat.{ℕ, suc, ◌+◌, ◌-◌, ◌≤◌, ◌<◌}
use native.Mathlib.Omega.{arith}
use lib.ListN.{length, set, length-set, get_or-eq_default}
use lib.Seq.{get_or-set_same, get_or-set_other}
use Rattle.operator.specs.declared.Operator.TheVariants.{Equal}
use Rattle.tape.specs.declared.token.Token.{Token}
use Rattle.tape.specs.declared.token.ContainerKind.{ContainerKind}
use Rattle.tape.specs.declared.token.ContainerKind.TheVariants.{Array, Object}
use Rattle.tape.specs.declared.token.ScalarKind.TheVariants.{Header}
use Rattle.tape.specs.declared.token.Container as Containers
use Rattle.tape.specs.declared.token.Standing as Standings
use Rattle.tape.specs.declared.shape.Link.{Link}
use Rattle.tape.specs.declared.shape.Link.TheVariants.{ToEnd}
use Rattle.tape.specs.Token.{no_token, mixed_container_token, opener_of, end_of, headed, container_of, standing_of, opened}
use Rattle.tape.specs.Shape.{linked, link_of, Opens}
use Rattle.tape.specs.Tape.{before_last}
use Rattle.tape.proofs.Makers.{same_opened, opener-container, scalar-container, opener-standing, mixed_container-standing, operator-standing, end-standing}
use Rattle.tape.proofs.Shapes.{scalar-shape, opens-link, end-link, link-made, unlinked-opens}
use Rattle.parse.proofs.Moves.{ScalarStands, closed_as}
use Rattle.sheet.specs.Sound.{nth, Form, container, mixed_container, scalar, operator, closing, Closed, Opened, Nested, Headed}
use Rattle.promises.specs.Mixed.{Flags, Marked, Scalar, Stored, equal_token}
use Rattle.promises.proofs.Links.Nest.{by_equal, by-below, Nest, opener-below, end_below, widen, nest_open, nest_close, all_closed}
use Rattle.promises.proofs.Links.Flags.{codes-differ, flags-add, flags-set, flags-insert}
use Rattle.promises.proofs.Links.Rows.{last, add-length, add_new, add_same, add-last, insert-length, insert_new, insert-last, insert-same, Unmarked}
use Rattle.promises.proofs.Links.Rows.{unmarked, scalar_made, plain-operator, scalar-unlinked, Unheaded, unheaded, Plain, mixed-unlinked, Row, Apart}
use Rattle.promises.proofs.Links.Rows.{row-add, row-set, row-insert}

-- the link at each index
abbrev pub link_at : List Token → ℕ → Option Link
link_at ts i = link_of (nth ts i)

pub record Kept (ts : List Token) (p : ℕ) : Type 0 where
  pub row : Row ts
  pub links : Nest (link_at ts) (length ts) p
  pub flags : Flags ts

-- and the last is no Header, so that any token may come
pub record Resting (ts : List Token) (p : ℕ) : Type 0 where
  pub kept : Kept ts p
  pub rests : Unheaded (last ts)

-- ---- openers and Ends
-- whatever its kind and flag, an opener is no token that names none: no Header, no MixedContainer, no Equal
module _ {x : Token} {link : ℕ} (o : Opens x link) where
  opens-apart : {t : Token} → link_of t ≡ None → x ≡ t → ⊥
  opens-apart none e = unlinked-opens x (ap link_of e ∙ none) o

  opens_unheaded : Unheaded x
  opens_unheaded offset size = opens-apart (scalar-unlinked (scalar_made Header offset size))

  opens-unmarked : Unmarked x
  opens-unmarked = opens-apart mixed-unlinked

  opens-no-equal : x ≡ equal_token → ⊥
  opens-no-equal = opens-apart (plain-operator Equal).unlinked

-- it names one token
opens-same : {x : Token} {link other : ℕ} → Opens x link → Opens x other → link ≡ other
opens-same {x} o q = let a = opens-link x o in let b = opens-link x q in cc

-- an opener is no scalar
opener-no-scalar : {t : Token} {link : ℕ} {P : Type 0} → link_of t ≡ Some (ToEnd link) → Scalar t → P
opener-no-scalar {t} e s = absurd (unlinked-opens t (scalar-unlinked s) (link-made t e))

-- a token of a form that is read as an opener names what it is read to name
pub container-link : {t : Token} {kind : ContainerKind} {link : ℕ} {mixed : Bool} → Form t
    → container_of t ≡ opened kind link mixed
    → link_of t ≡ Some (ToEnd link)
unfolding container_of
container-link {t} {kind} {link} {mixed} (container end o) e =
    let r : container_of t ≡ opened o.0 end o.1 = ap container_of o.2 ∙ opener-container o.0 end o.1 in
    let same : end ≡ link = (same_opened (sym r ∙ e)).1 in
    rw (← same) (opens-link t o)
container-link {t} (mixed_container q) e = let z : ◌≡◌ {A = ℕ} 0 1 = cc in absurd (omega arith)
container-link {t} (scalar offset size v) e =
    let r : container_of t ≡ None = ap container_of v.1 ∙ scalar-container v.0 offset size in
    let z : ◌≡◌ {A = ℕ} 0 1 = cc in absurd (omega arith)
container-link {t} (operator number low high q) e = let z : ◌≡◌ {A = ℕ} 0 1 = cc in absurd (omega arith)
container-link {t} (closing opener q) e = let z : ◌≡◌ {A = ℕ} 0 1 = cc in absurd (omega arith)

-- and one that names another token behind or before it is read so
pub link-container : (t : Token) {link : ℕ} → link_of t ≡ Some (ToEnd link)
    → (kind : ContainerKind) × (mixed : Bool) × (container_of t ≡ opened kind link mixed)
link-container t {link} e =
    let o = link-made t e in
    (o.0, o.1, ap container_of o.2 ∙ opener-container o.0 link o.1)

-- what is read as an opener was made as it is read
container-made : {t : Token} {kind : ContainerKind} {link : ℕ} {mixed : Bool} → Form t → container_of t ≡ opened kind link mixed
    → t ≡ opener_of kind link mixed
container-made {t} {kind} {link} {mixed} form e =
    let o = link-made t (container-link form e) in
    let r : container_of t ≡ opened o.0 link o.1 = ap container_of o.2 ∙ opener-container o.0 link o.1 in
    let same = same_opened (sym r ∙ e) in
    o.2 ∙ ap (λ (k : ContainerKind). opener_of k link o.1) same.0 ∙ ap (λ (b : Bool). opener_of kind link b) same.2

-- a token of a form that is read as a scalar is one
pub standing-scalar : {t : Token} → Form t → ScalarStands (standing_of t) → Scalar t
standing-scalar {t} (container end o) s = absurd (rw (o.2, opener-standing o.0 end o.1) at s)
standing-scalar {t} (mixed_container q) s = absurd (rw (q, mixed_container-standing) at s)
standing-scalar {t} (scalar offset size v) s = record { kind = v.0; offset = offset; size = size; made = v.1 }
standing-scalar {t} (operator number low high q) s = absurd (rw (q, operator-standing number) at s)
standing-scalar {t} (closing opener q) s = absurd (rw (q, end-standing opener) at s)

-- ---- a plain token added
pub kept-plain : (ts : List Token) (x : Token) {p : ℕ} → Resting ts p → Plain x → Resting (ts ++ (x ∷ [])) p
kept-plain ts x r plain = record {
  kept = record {
    row = row-add ts x r.kept.row plain.form plain.bare (λ offset size e. absurd (r.rests offset size e));
    links = widen r.kept.links
        (λ i. by_equal i (length ts)
        (λ z. rw z (ap link_of (add_new ts x) ∙ plain.unlinked ∙ sym (r.kept.links.past (length ts) (omega arith))))
        (λ d. ap link_of (add_same ts x i d)))
        (omega (arith, add-length ts x));
    flags = flags-add ts x r.kept.flags (λ c mixed e f. absurd (unlinked-opens x plain.unlinked (Object, mixed, e)));
  };
  rests = rw (add-last ts x) plain.other;
}

-- ---- an opener added, which names the parent: an Object behind an Equal only where the parent's flag is set
object-kind : (kind : ContainerKind) (p : ℕ) (a : Bool) (c : ℕ) (b : Bool) → opener_of kind p a ≡ opener_of Object c b
    → (kind ≡ Object) × (p ≡ c)
object-kind Array p a c b e = codes-differ (λ z. omega arith) e
object-kind Object p a c b e = (refl, ap (λ (x : Token). x.a) e)

pub kept-opener : (ts : List Token) (kind : ContainerKind) (p : ℕ) → Kept ts p → 1 ≤ length ts
    → (kind ≡ Object → last ts ≡ equal_token → Stored ts p)
    → Resting (ts ++ (opener_of kind p false ∷ [])) (length ts)
kept-opener ts kind p k some stored =
    let x : Token = opener_of kind p false in
    let names : Opens x p = (kind, false, refl) in
    record {
      kept = record {
        row = row-add ts x k.row (container p names) (opens-unmarked names) (λ offset size e. (p, names));
        links = rw (add-length ts x)
            (nest_open k.links some
            (λ i d. ap link_of (add_same ts x i d))
            (ap link_of (add_new ts x) ∙ opens-link x names));
        flags = flags-add ts x k.flags (λ c mixed e f. let o = object-kind kind p false c mixed e in rw (← o.1) (stored o.0 f));
      };
      rests = rw (add-last ts x) (opens_unheaded names);
    }

-- ---- a MixedContainer put in before the last, a scalar that has none before it
pub kept-insert : (ts : List Token) {p : ℕ} → Resting ts p → 1 ≤ length ts → Scalar (last ts) → Apart ts
    → Resting (before_last ts mixed_container_token) p
kept-insert ts {p} r some last_one apart = go (length ts - 1) (omega arith)
  where
    go : (k : ℕ) → length ts ≡ suc k → Resting (before_last ts mixed_container_token) p
    go k counted =
        let here : length ts - 1 ≡ k = omega arith in
        let x : Token = mixed_container_token in
        let l : length (before_last ts x) ≡ length ts + 1 = insert-length ts x k counted in
        let end : length (before_last ts x) - 1 ≡ suc k = omega arith in
        let one : Scalar (nth ts k) = rw here at last_one in
        let other : Unheaded (nth ts k) = rw here at r.rests in
        record {
          kept = record {
            row = row-insert ts k counted r.kept.row one other apart;
            links = widen r.kept.links
                (λ i. by_equal i k
                (λ z. rw z (ap link_of (insert_new ts x k counted) ∙ mixed-unlinked ∙ sym (scalar-unlinked one)))
                (λ d. by_equal i (suc k)
                (λ z. rw z (ap link_of (insert-last ts x k counted) ∙ scalar-unlinked one ∙ sym (r.kept.links.past (suc k) (omega arith))))
                (λ d'. ap link_of (insert-same ts x k counted i d d'))))
                (omega arith);
            flags = flags-insert ts k counted r.kept.flags one;
          };
          rests = rw (end, insert-last ts x k counted) other;
        }

-- ---- the container that the machine is in closed
pub kept-close : (ts : List Token) (p up : ℕ) (x : Token) → Opens x (length ts) → Resting ts p → link_at ts p ≡ Some (ToEnd up) → up < p
    → Resting (closed_as ts p x) up
kept-close ts p up x names r here inner =
    let n : ℕ = length ts in
    let us : List Token = set ts p x in
    let below : p < n = opener-below r.kept.links here in
    let l : length us ≡ n = length-set ts p x in
    let at : nth us p ≡ x = get_or-set_same ts p x no_token below in
    let row : Row us =
    row-set ts p x below r.kept.row (container n names) (opens-unmarked names) (λ o. (n, names)) (opener-no-scalar here) (λ h. opens_unheaded names)
    in
    let flags : Flags us =
    flags-set ts p x below r.kept.flags (opens-no-equal names)
    (λ c m e h. let o = opens-same names (Object, m, e) in absurd (omega arith))
    (λ j m e h f. let o = r.kept.links.open_one j p (opens-link (nth ts j) (Object, m, e)) (omega arith) in absurd (omega (arith, o.reached)))
    in
    let rests : Unheaded (last us) =
    by_equal (n - 1) p
    (λ z. rw (l, z, at) (opens_unheaded names))
    (λ d. rw (l, get_or-set_other ts p (n - 1) x no_token d) r.rests)
    in
    record {
      kept = record {
        row = row-add us (end_of p) row (closing p refl) (unmarked (end_of p) (λ z. omega arith)) (λ offset size e. absurd (rests offset size e));
        links = rw (add-length us (end_of p), l)
            (nest_close r.kept.links here inner
            (λ i d d'. ap link_of (add_same us (end_of p) i (λ z. d' (z ∙ l)) ∙ get_or-set_other ts p i x no_token d))
            (ap link_of (add_same us (end_of p) p (λ z. omega arith) ∙ at) ∙ opens-link x names)
            (ap link_of (ap (λ (i : ℕ). nth (us ++ (end_of p ∷ [])) i) (sym l) ∙ add_new us (end_of p)) ∙ end-link (end_of p) refl));
        flags = flags-add us (end_of p) flags (λ c m e f. codes-differ (λ z. omega arith) e);
      };
      rests = rw (add-last us (end_of p)) (unheaded (end_of p) (λ z. omega arith));
    }

-- ---- a token changed for one that names the same
pub kept-alike : (ts : List Token) (k : ℕ) (x : Token) {p : ℕ} → k < length ts → Kept ts p → Form x → Unmarked x
    → (Scalar (nth ts k) → Scalar x)
    → link_of x ≡ link_at ts k
    → (k + 1 < length ts → Unheaded x) → Flags (set ts k x) → Kept (set ts k x) p
kept-alike ts k x {p} below s form bare scalars same other flags =
    record {
      row = row-set ts k x below s.row form bare (λ o. (o.0, link-made x (same ∙ opens-link (nth ts k) o.1))) scalars other;
      links = widen s.links
          (λ i. by_equal i k
          (λ z. rw z (ap link_of (get_or-set_same ts k x no_token below) ∙ same))
          (λ d. ap link_of (get_or-set_other ts k i x no_token d)))
          (omega (arith, length-set ts k x));
      flags = flags;
    }

-- the last, an Unquoted, as a Header
pub kept-header : (ts : List Token) {p : ℕ} → Resting ts p → 1 ≤ length ts → standing_of (last ts) ≡ Standings.TheVariants.Unquoted
    → Kept (set ts (length ts - 1) (headed (last ts))) p
kept-header ts r some e =
    let t : Token = last ts in
    let one : Scalar t = standing-scalar (r.kept.row.forms (length ts - 1) (omega arith)) (rw e tt) in
    kept-alike ts (length ts - 1) (headed t) (omega arith) r.kept
    (scalar t.a t.b (Header, refl))
    (unmarked (headed t) (λ z. omega arith))
    (λ s. scalar_made Header t.a t.b)
    (ap linked (scalar-shape Header t.a t.b) ∙ sym (scalar-unlinked one))
    (λ h. absurd (omega arith))
    (flags-set ts (length ts - 1) (headed t) (omega arith) r.kept.flags
    (λ f. codes-differ (λ z. omega arith) f)
    (λ c mixed f h. codes-differ (λ z. omega arith) f)
    (λ j mixed f h g. opener-no-scalar (opens-link t (g.kind, true, g.made)) one))

-- the parent's flag set
pub kept-flag : (ts : List Token) (p : ℕ) (kind : ContainerKind) (link : ℕ) (mixed : Bool) → p < length ts → Kept ts p
    → container_of (nth ts p) ≡ opened kind link mixed → Kept (set ts p (opener_of kind link true)) p
kept-flag ts p kind link mixed below s e =
    let here : link_at ts p ≡ Some (ToEnd link) = container-link (s.row.forms p below) e in
    let x : Token = opener_of kind link true in
    let names : Opens x link = (kind, true, refl) in
    kept-alike ts p x below s (container link names) (opens-unmarked names) (opener-no-scalar here) (opens-link x names ∙ sym here)
    (λ h. opens_unheaded names)
    (flags-set ts p x below s.flags (opens-no-equal names)
    (λ c m f h. let o = object-kind kind link true c m f in (
      mixed,
      container-made (s.row.forms p below) e
          ∙ ap (λ (k : ContainerKind). opener_of k link mixed) o.0
          ∙ ap (λ (l : ℕ). opener_of Object l mixed) o.1,
    ))
    (λ j m f h g. record { kind = kind; link = link; made = refl }))

-- ---- nothing open: the sentences of a sound sheet that speak of forms, links and Headers; and MixedContainers
pub record Tied (ts : List Token) : Type 0 where
  pub forms : (i : ℕ) → i < length ts → Form (nth ts i)
  pub closed : (i : ℕ) → Closed ts i
  pub opened : (i : ℕ) → Opened ts i
  pub nested : (i : ℕ) → Nested ts i
  pub top : (end : ℕ) → Opens (nth ts 0) end → ⊥
  pub headed : (i : ℕ) → Headed ts i
  pub marked : Marked ts

pub tied : (ts : List Token) → Resting ts 0 → Tied ts
tied ts r =
    let s = r.kept.links in
    record {
      forms = r.kept.row.forms;
      closed = λ i end o.
          let e = opens-link (nth ts i) o in
          let h : i < end = all_closed s i end e in
          let c = s.closed i end e h in
          (h, end_below s c, link-made (nth ts end) c);
      opened = λ i opener e.
          let c = s.opened i opener (end-link (nth ts i) e) in
          (c.0, link-made (nth ts opener) c.1);
      nested = λ i end j inner o h k q. (s.nested i end j inner (opens-link (nth ts i) o) (opens-link (nth ts j) q) h k).1;
      top = λ end o. s.top end (opens-link (nth ts 0) o);
      headed = λ i offset size e.
          by-below (i + 1) (length ts)
          (λ h. r.kept.row.headed i offset size e h)
          (λ h. absurd (by-below i (length ts)
          (λ k. let z : i ≡ length ts - 1 = omega arith in r.rests offset size (rw z at e))
          (λ k. unheaded no_token (λ z. omega arith) offset size (sym (get_or-eq_default ts no_token {n = i} k) ∙ e))));
      marked = r.kept.row.marked;
    }
