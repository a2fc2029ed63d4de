-- The tokens of a plain sheet spell a plain tree.
-- Assumes nothing.
use mathlib.Core.Path.{◌≡◌, refl, sym, ap, subst}
use mathlib.Core.Bool.{Bool, true, false}
use mathlib.Core.List.{List, [], ◌∷◌, ◌++◌}
use Prim.Native.Nat.{ℕ, ◌+◌, ◌≤◌, ◌<◌}
use native.Mathlib.Omega.{arith}
use lib.Dec.{eqb}
use lib.ListN.{length, length-append, length-take, length-drop}
use Rattle.tape.specs.declared.token.Token.{Token}
use Rattle.tape.specs.declared.token.ContainerKind.{ContainerKind}
use Rattle.tape.specs.declared.token.ContainerKind.TheVariants.{Array, Object}
use Rattle.tape.specs.declared.token.ScalarKind.TheVariants.{Unquoted, Quoted}
use Rattle.tape.specs.Token.{quoted_code, scalar_of, end_of}
use Rattle.put.specs.Parts.{view_of}
use Rattle.writer.specs.Forest.{Forest, no_more, leaf, box, forest_of}
use Rattle.way_back.specs.Plain.{AllPlain, InTurn, Plain}
use Rattle.way_back.proofs.Tree.{Word, unquoted, quoted, Entry, scalar, empty, array, object, Entries, no_entries, more, Pairs, no_pairs, pair}
use Rattle.way_back.proofs.Tree.{Tree, nothing, pairs, enclosed, PlainWord, Filled, Plain-entry, Plain-entries, Plain-pairs, PlainTree}
use Rattle.way_back.proofs.Spells.{SpellsWord, Spells, Spells-entries, Spells-pairs, SpellsTree}
use Rattle.writer.proofs.Grown.{flat, sheet_grown}
use Rattle.way_back.proofs.Parts.{PlainToken, plain_unquoted, plain_quoted, FirstFilled, NotEmpty, Parts, plain-parts}

-- ---- words
abbrev pub word_of : List ℕ → Token → Word
word_of src x = elim (eqb x.code quoted_code) [ true ↦ quoted (view_of src x.a x.b) | false ↦ unquoted (view_of src x.a x.b) ]

view-length : (src : List ℕ) (a n : ℕ) → a + n ≤ length src → length (view_of src a n) ≡ n
view-length src a n h = rw (length-take, length-drop) (omega arith)

some-plain : (l : List ℕ) → 0 < length l → AllPlain l → PlainWord (unquoted l)
some-plain [] h e = absurd (omega arith)
some-plain (b ∷ bs) h e = e

record Worded (src : List ℕ) (x : Token) (w : Word) : Type 0 where
  plain : PlainWord w
  spells : SpellsWord src w x

worded : (src : List ℕ) (x : Token) → PlainToken src x → Worded src x (word_of src x)
worded src x (plain_unquoted a n p within long each) =
    let l : length (view_of src a n) ≡ n = view-length src a n within in
    rw p
    record {
      plain = some-plain (view_of src a n) (omega arith) each;
      spells = record { offset = a; token = ap (λ (m : ℕ). scalar_of Unquoted a m) (sym l); view = ap (λ (m : ℕ). view_of src a m) l };
    }
worded src x (plain_quoted a n p within each) =
    let l : length (view_of src a n) ≡ n = view-length src a n within in
    rw p
    record {
      plain = each;
      spells = record { offset = a; token = ap (λ (m : ℕ). scalar_of Quoted a m) (sym l); view = ap (λ (m : ℕ). view_of src a m) l };
    }

-- ---- trees
abbrev pub array_of : Entries → Entry
array_of no_entries = empty
array_of (more e es) = array e es

-- a container that is not empty stands in where there is no pair: it is never met
abbrev pub object_of : Pairs → Entry
object_of no_pairs = array empty no_entries
object_of (pair k e ps) = object k e ps

abbrev mutual
  pub to-entries : Forest → List ℕ → Entries
  to-entries no_more src = no_entries
  to-entries (leaf x rest) src = more (scalar (word_of src x)) (to-entries rest src)
  to-entries (box Array flag inner rest) src = more (array_of (to-entries inner src)) (to-entries rest src)
  to-entries (box Object flag inner rest) src = more (object_of (to-pairs inner src)) (to-entries rest src)

  pub to-pairs : Forest → List ℕ → Pairs
  to-pairs no_more src = no_pairs
  to-pairs (leaf k no_more) src = no_pairs
  to-pairs (leaf k (leaf x rest)) src = pair (word_of src k) (scalar (word_of src x)) (to-pairs rest src)
  to-pairs (leaf k (box Array flag inner rest)) src = pair (word_of src k) (array_of (to-entries inner src)) (to-pairs rest src)
  to-pairs (leaf k (box Object flag inner rest)) src = pair (word_of src k) (object_of (to-pairs inner src)) (to-pairs rest src)
  to-pairs (box kind flag inner rest) src = no_pairs

record Entered (src : List ℕ) (i : ℕ) (ts : List Token) (e : Entry) : Type 0 where
  plain : Plain-entry e
  spells : Spells e src i ts

record Rowed (src : List ℕ) (i : ℕ) (ts : List Token) (es : Entries) : Type 0 where
  plain : Plain-entries es
  spells : Spells-entries es src i ts

record Turned (src : List ℕ) (i : ℕ) (ts : List Token) (ps : Pairs) : Type 0 where
  plain : Plain-pairs ps
  spells : Spells-pairs ps src i ts

object-filled : (ps : Pairs) → Filled (object_of ps)
object-filled no_pairs = tt
object-filled (pair k e ps) = tt

array-spells : (es : Entries) (src : List ℕ) (i : ℕ) (body : List Token) → Spells-entries es src (i + 1) body
    → Spells (array_of es) src i (enclosed Array i body)
array-spells no_entries src i body p = rw p
array-spells (more e es) src i body (a, b, p, q, r) = (a, b, ap (λ (l : List Token). enclosed Array i l) p, q, r)

array_plain : (f : Forest) (src : List ℕ) → FirstFilled f → Plain-entries (to-entries f src) → Plain-entry (array_of (to-entries f src))
array_plain no_more src h p = tt
array_plain (leaf x rest) src h p = (tt, p.0, p.1)
array_plain (box Array flag no_more rest) src h p = absurd h
array_plain (box Array flag (leaf x inner) rest) src h p = (tt, p.0, p.1)
array_plain (box Array flag (box Array g inner inner') rest) src h p = (tt, p.0, p.1)
array_plain (box Array flag (box Object g inner inner') rest) src h p = (tt, p.0, p.1)
array_plain (box Object flag inner rest) src h p = (object-filled (to-pairs inner src), p.0, p.1)

arrayed : (f : Forest) (src : List ℕ) (i : ℕ) (body : List Token) → FirstFilled f → Rowed src (i + 1) body (to-entries f src)
    → Entered src i (enclosed Array i body) (array_of (to-entries f src))
arrayed f src i body h r =
    record { plain = array_plain f src h r.plain; spells = array-spells (to-entries f src) src i body r.spells }

object-shaped : (k : Word) (e : Entry) (ps : Pairs) (src : List ℕ) (i : ℕ) (body : List Token) → Turned src (i + 1) body (pair k e ps)
    → Entered src i (enclosed Object i body) (object k e ps)
object-shaped k e ps src i body t =
    let two : i + 1 + 1 ≡ i + 2 = omega arith in
    record { plain = t.plain; spells = go two t.spells }
  where
    go : {m : ℕ} → i + 1 + 1 ≡ m → Spells-pairs (pair k e ps) src (i + 1) body
        → (x : Token) × (xs : List Token) × (ys : List Token) × (enclosed Object i body ≡ enclosed Object i (x ∷ (xs ++ ys)))
        × SpellsWord src k x × Spells e src m xs × Spells-pairs ps src (m + length xs) ys
    go two (x, a, b, p, w, q, r) = (x, a, b, ap (λ (l : List Token). enclosed Object i l) p, w, rw two at q, rw two at r)

objected : (f : Forest) (src : List ℕ) (i : ℕ) (body : List Token) → NotEmpty f → InTurn f Object → Turned src (i + 1) body (to-pairs f src)
    → Entered src i (enclosed Object i body) (object_of (to-pairs f src))
objected no_more src i body h g t = absurd h
objected (leaf k no_more) src i body h g t = absurd g
objected (leaf k (leaf x rest)) src i body h g t = object-shaped _ _ _ src i body t
objected (leaf k (box Array flag inner rest)) src i body h g t = object-shaped _ _ _ src i body t
objected (leaf k (box Object flag inner rest)) src i body h g t = object-shaped _ _ _ src i body t
objected (box kind flag inner rest) src i body h g t = absurd g

-- ---- in a row and in turn
enclosed-length : (kind : ContainerKind) (i : ℕ) (body : List Token) → length (enclosed kind i body) ≡ 2 + length body
enclosed-length kind i body = omega (arith, length-append body (end_of i ∷ []))

rowed : (src : List ℕ) (i : ℕ) (e : Entry) (es : Entries) (ts xs ys : List Token) (n : ℕ) → ts ≡ xs ++ ys → n ≡ i + length xs
    → Entered src i xs e → Rowed src n ys es → Rowed src i ts (more e es)
rowed src i e es ts xs ys n f c a r = record { plain = (a.plain, r.plain); spells = (xs, ys, f, a.spells, rw c at r.spells) }

turned : (src : List ℕ) (i : ℕ) (x : Token) (k : Word) (e : Entry) (ps : Pairs) (ts xs ys : List Token) (n : ℕ) → ts ≡ xs ++ ys
    → n ≡ i + 1 + length xs → Worded src x k → Entered src (i + 1) xs e → Turned src n ys ps → Turned src i (x ∷ ts) (pair k e ps)
turned src i x k e ps ts xs ys n f c w a r =
    record {
      plain = (w.plain, a.plain, r.plain);
      spells = (x, xs, ys, ap (λ (l : List Token). x ∷ l) f, w.spells, a.spells, rw c at r.spells);
    }

worded_entry : (src : List ℕ) (i : ℕ) (x : Token) → PlainToken src x → Entered src i (x ∷ []) (scalar (word_of src x))
worded_entry src i x p = let h = worded src x p in record { plain = h.plain; spells = (x, refl, h.spells) }

module _ (src : List ℕ) where
  -- a container behind which something stands
  abbrev body_of : Forest → ℕ → List Token
  body_of inner i = flat inner (i + 1)

  abbrev behind : ℕ → List Token → ℕ
  behind i body = i + 2 + length body

  row-box : (kind : ContainerKind) (flag : Bool) (inner rest : Forest) (i : ℕ) (e : Entry) (es : Entries) → flag ≡ false
      → Entered src i (enclosed kind i (body_of inner i)) e → Rowed src (behind i (body_of inner i)) (flat rest (behind i (body_of inner i))) es
      → Rowed src i (flat (box kind flag inner rest) i) (more e es)
  row-box kind flag inner rest i e es u a r =
      let body : List Token = body_of inner i in
      rowed src i e es _ (enclosed kind i body) (flat rest (behind i body)) (behind i body) (rw u) (omega (arith, enclosed-length kind i body)) a r

  turn-box : (k : Token) (kind : ContainerKind) (flag : Bool) (inner rest : Forest) (i : ℕ) (e : Entry) (ps : Pairs) → PlainToken src k → flag ≡ false
      → Entered src (i + 1) (enclosed kind (i + 1) (body_of inner (i + 1))) e
      → Turned src (behind (i + 1) (body_of inner (i + 1))) (flat rest (behind (i + 1) (body_of inner (i + 1)))) ps
      → Turned src i (flat (leaf k (box kind flag inner rest)) i) (pair (word_of src k) e ps)
  turn-box k kind flag inner rest i e ps p u a r =
      let body : List Token = body_of inner (i + 1) in
      turned src i k (word_of src k) e ps _ (enclosed kind (i + 1) body) (flat rest (behind (i + 1) body)) (behind (i + 1) body) (rw u)
      (omega (arith, enclosed-length kind (i + 1) body)) (worded src k p) a r

  mutual
    in_row : (f : Forest) (i : ℕ) → InTurn f Array → Parts f src → Rowed src i (flat f i) (to-entries f src)
    in_row no_more i t p = record { plain = tt; spells = refl }
    in_row (leaf x rest) i t p =
        rowed src i _ _ _ (x ∷ []) (flat rest (i + 1)) (i + 1) refl refl (worded_entry src i x p.0) (in_row rest (i + 1) t p.1)
    in_row (box Array flag inner rest) i t p =
        row-box Array flag inner rest i _ _ p.0 (arrayed inner src i (body_of inner i) p.1 (in_row inner (i + 1) t.0 p.2))
        (in_row rest (behind i (body_of inner i)) t.1 p.3)
    in_row (box Object flag inner rest) i t p =
        row-box Object flag inner rest i _ _ p.0
        (objected inner src i (body_of inner i) p.1 t.0 (in_turn inner (i + 1) t.0 p.2))
        (in_row rest (behind i (body_of inner i)) t.1 p.3)

    in_turn : (f : Forest) (i : ℕ) → InTurn f Object → Parts f src → Turned src i (flat f i) (to-pairs f src)
    in_turn no_more i t p = record { plain = tt; spells = refl }
    in_turn (leaf k no_more) i t p = absurd t
    in_turn (leaf k (leaf x rest)) i t p =
        turned src i k _ _ _ _ (x ∷ []) (flat rest (i + 1 + 1)) (i + 1 + 1) refl refl (worded src k p.0) (worded_entry src (i + 1) x p.1.0)
        (in_turn rest (i + 1 + 1) t p.1.1)
    in_turn (leaf k (box Array flag inner rest)) i t p =
        turn-box k Array flag inner rest i _ _ p.0 p.1.0
        (arrayed inner src (i + 1) (body_of inner (i + 1)) p.1.1 (in_row inner (i + 1 + 1) t.0 p.1.2))
        (in_turn rest (behind (i + 1) (body_of inner (i + 1))) t.1 p.1.3)
    in_turn (leaf k (box Object flag inner rest)) i t p =
        turn-box k Object flag inner rest i _ _ p.0 p.1.0
        (objected inner src (i + 1) (body_of inner (i + 1)) p.1.1 t.0 (in_turn inner (i + 1 + 1) t.0 p.1.2))
        (in_turn rest (behind (i + 1) (body_of inner (i + 1))) t.1 p.1.3)
    in_turn (box kind flag inner rest) i t p = absurd t

-- ---- a plain sheet is a plain tree
abbrev pub root_of : Pairs → Tree
root_of no_pairs = nothing
root_of (pair k e ps) = pairs k e ps

pub record Treed (src : List ℕ) (ts : List Token) (t : Tree) : Type 0 where
  pub plain : PlainTree t
  pub spells : SpellsTree t src ts

treed : (ps : Pairs) (src : List ℕ) (ts : List Token) → Turned src 0 ts ps → Treed src ts (root_of ps)
treed no_pairs src ts t = record { plain = tt; spells = t.spells }
treed (pair k e ps) src ts t = record { plain = t.plain; spells = t.spells }

-- the tree of a plain sheet
abbrev pub tree_of : List ℕ → List Token → Tree
tree_of src ts = root_of (to-pairs (forest_of ts) src)

pub plain_treed : (src : List ℕ) (ts : List Token) → Plain src ts → Treed src ts (tree_of src ts)
plain_treed src ts p =
    let f : Forest = forest_of ts in
    let r : Treed src (flat f 0) (tree_of src ts) = treed (to-pairs f src) src (flat f 0) (in_turn src f 0 p.in_turn (plain-parts src ts p)) in
    subst (λ (l : List Token). Treed src l (tree_of src ts)) (sym (sheet_grown p.sound)) r
