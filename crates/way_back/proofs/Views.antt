-- The tokens of a written text spell its tree, and two sheets that spell one tree are alike.
-- Assumes nothing.
use Rattle.std.specs.Prelude.{None}
use mathlib.Core.Path.{◌≡◌, refl, sym, ◌∙◌, ap}
use mathlib.Core.List.{List, [], ◌∷◌, ◌++◌, append_assoc, append-nil}
use mathlib.Core.Bool.{true, false}
use Prim.Native.Nat.{ℕ, ◌+◌}
use lib.ListN.{length, take, drop}
use lib.Seq.{take-append_seam}
use Rattle.data.specs.Bytes.{space, quote, equals, brace_open, brace_close}
use Rattle.tape.specs.declared.token.Token.{Token}
use Rattle.tape.specs.declared.token.ContainerKind.{ContainerKind}
use Rattle.tape.specs.declared.token.ContainerKind.TheVariants.{Array, Object}
use Rattle.tape.specs.Token.{scalar_named, opener_of, end_of}
use Rattle.alike.specs.Alike.{alike}
use Rattle.way_back.proofs.Tree.{Word, unquoted, quoted, Entry, scalar, empty, array, object, Entries, no_entries, more, Pairs, no_pairs, pair}
use Rattle.way_back.proofs.Tree.{Tree, nothing, pairs, write_word, write, write_entries, write-pairs, write_tree}
use Rattle.way_back.proofs.Tree.{token_of, value_at, enclosed, flatten, flatten-entries, flatten-pairs, flatten_tree}
use Rattle.way_back.proofs.Spells.{kind_of, bytes_of, SpellsWord, Spells, Spells-entries, Spells-pairs, SpellsTree}
use Rattle.way_back.proofs.Same.{Same, same, viewed, alike-length, alike-none, alike-one, alike-append}
use Rattle.way_back.proofs.Stands.{one_on, further}

-- ---- what is written is spelled by its tokens
word-spells : (w : Word) (text : List ℕ) (at : ℕ) (post : List ℕ) → drop at text ≡ write_word w ++ post → SpellsWord text w (token_of w at)
word-spells (unquoted bs) text at post st =
    record { offset = at; token = refl; view = ap (λ (l : List ℕ). take (length bs) l) st ∙ take-append_seam bs post }
word-spells (quoted bs) text at post st =
    record {
      offset = at + 1;
      token = refl;
      view = ap (λ (l : List ℕ). take (length bs) l) (one_on text at st ∙ append_assoc bs (quote ∷ []) post)
          ∙ take-append_seam bs ((quote ∷ []) ++ post);
    }

abbrev Spelled : Entry → Type 0
Spelled e = (text : List ℕ) (at i : ℕ) (post : List ℕ) → drop at text ≡ write e ++ post → Spells e text i (flatten e at i)

abbrev SpelledEntries : Entries → Type 0
SpelledEntries es =
    (text : List ℕ) (at i : ℕ) (post : List ℕ) → drop at text ≡ write_entries es ++ post → Spells-entries es text i (flatten-entries es at i)

abbrev SpelledPairs : Pairs → Type 0
SpelledPairs ps =
    (text : List ℕ) (at i : ℕ) (post : List ℕ) → drop at text ≡ write-pairs ps ++ post → Spells-pairs ps text i (flatten-pairs ps at i)

spell_array : (e : Entry) (es : Entries) → Spelled e → SpelledEntries es → Spelled (array e es)
spell_array e es ihe ihes text at i post st =
    let s0 : drop at text ≡ brace_open ∷ (write e ++ (write_entries es ++ (brace_close ∷ post))) = st ∙ simp append_assoc in
    let s1 = one_on text at s0 in
    (_, _, refl, ihe text (at + 1) (i + 1) _ s1, ihes text (at + 1 + length (write e)) _ _ (further text (at + 1) (write e) s1))

spell_object : (k : Word) (e : Entry) (ps : Pairs) → Spelled e → SpelledPairs ps → Spelled (object k e ps)
spell_object k e ps ihe ihps text at i post st =
    let s0 : drop at text ≡ brace_open ∷ (write_word k ++ (equals ∷ (write e ++ (write-pairs ps ++ (brace_close ∷ post))))) =
    st ∙ simp append_assoc in
    let s1 = one_on text at s0 in
    let s2 = further text (at + 1) (write_word k) s1 in
    let s3 = one_on text (at + 1 + length (write_word k)) s2 in
    let s4 = further text (value_at k (at + 1)) (write e) s3 in (
      _,
      _,
      _,
      refl,
      word-spells k text (at + 1) _ s1,
      ihe text (value_at k (at + 1)) (i + 2) _ s3,
      ihps text (value_at k (at + 1) + length (write e)) _ _ s4,
    )

spell_more : (e : Entry) (es : Entries) → Spelled e → SpelledEntries es → SpelledEntries (more e es)
spell_more e es ihe ihes text at i post st =
    let s0 : drop at text ≡ space ∷ (write e ++ (write_entries es ++ post)) = st ∙ simp append_assoc in
    let s1 = one_on text at s0 in
    (_, _, refl, ihe text (at + 1) i _ s1, ihes text (at + 1 + length (write e)) _ _ (further text (at + 1) (write e) s1))

spell_pair : (k : Word) (e : Entry) (ps : Pairs) → Spelled e → SpelledPairs ps → SpelledPairs (pair k e ps)
spell_pair k e ps ihe ihps text at i post st =
    let s0 : drop at text ≡ space ∷ (write_word k ++ (equals ∷ (write e ++ (write-pairs ps ++ post)))) = st ∙ simp append_assoc in
    let s1 = one_on text at s0 in
    let s3 = one_on text (at + 1 + length (write_word k)) (further text (at + 1) (write_word k) s1) in
    let s4 = further text (value_at k (at + 1)) (write e) s3 in (
      _,
      _,
      _,
      refl,
      word-spells k text (at + 1) _ s1,
      ihe text (value_at k (at + 1)) (i + 1) _ s3,
      ihps text (value_at k (at + 1) + length (write e)) _ _ s4,
    )

mutual
  pub spelled : (e : Entry) → Spelled e
  spelled (scalar w) = λ text at i post st. (_, refl, word-spells w text at post st)
  spelled empty = λ text at i post st. refl
  spelled (array e es) = spell_array e es (spelled e) (spelled_entries es)
  spelled (object k e ps) = spell_object k e ps (spelled e) (spelled_pairs ps)

  pub spelled_entries : (es : Entries) → SpelledEntries es
  spelled_entries no_entries = λ text at i post st. refl
  spelled_entries (more e es) = spell_more e es (spelled e) (spelled_entries es)

  pub spelled_pairs : (ps : Pairs) → SpelledPairs ps
  spelled_pairs no_pairs = λ text at i post st. refl
  spelled_pairs (pair k e ps) = spell_pair k e ps (spelled e) (spelled_pairs ps)

pub spelled-tree : (t : Tree) → SpellsTree t (write_tree t) (flatten_tree t)
spelled-tree nothing = refl
spelled-tree (pairs k e ps) =
    let text : List ℕ = write_tree (pairs k e ps) in
    let s1 : drop 0 text ≡ write_word k ++ (equals ∷ (write e ++ write-pairs ps)) = refl in
    let s3 = one_on text (0 + length (write_word k)) (further text 0 (write_word k) s1) in
    let s4 : drop (value_at k 0 + length (write e)) text ≡ write-pairs ps ++ [] = further text (value_at k 0) (write e) s3 ∙ simp append-nil in
    (_, _, _, refl, word-spells k text 0 _ s1, spelled e text (value_at k 0) 1 _ s3, spelled_pairs ps text (value_at k 0 + length (write e)) _ [] s4)

-- ---- two sheets that spell one tree are the same tokens
module _ (src text : List ℕ) where
  abbrev Alike : List Token → List Token → Type 0
  Alike xs ys = alike src text xs ys ≡ true

  opener-no-scalar : (kind : ContainerKind) (end : ℕ) → scalar_named (opener_of kind end false).code ≡ None
  unfolding scalar_named
  opener-no-scalar Array end = refl
  opener-no-scalar Object end = refl

  end-no-scalar : (opener : ℕ) → scalar_named (end_of opener).code ≡ None
  unfolding scalar_named
  end-no-scalar opener = refl

  alike-enclosed : (kind : ContainerKind) (i : ℕ) (xs ys : List Token) → Alike xs ys → Alike (enclosed kind i xs) (enclosed kind i ys)
  alike-enclosed kind i xs ys a =
      let n : length xs ≡ length ys = alike-length src text xs ys a in
      let e : Token = end_of i in
      alike-one src text (same (opener-no-scalar kind (i + 1 + length xs)) (ap (λ (m : ℕ). opener_of kind (i + 1 + m) false) n))
      (xs ++ (e ∷ [])) (ys ++ (e ∷ []))
      (alike-append src text xs ys (e ∷ []) (e ∷ []) a (alike-one src text (same (end-no-scalar i) refl) [] [] (alike-none src text)))

  same_word : (w : Word) {x y : Token} → SpellsWord src w x → SpellsWord text w y → Same src text x y
  same_word w p q = viewed (kind_of w) p.offset q.offset (length (bytes_of w)) p.token q.token (p.view ∙ sym q.view)

  abbrev One : Entry → Type 0
  One e = (i : ℕ) (xs ys : List Token) → Spells e src i xs → Spells e text i ys → Alike xs ys

  abbrev OneEntries : Entries → Type 0
  OneEntries es = (i : ℕ) (xs ys : List Token) → Spells-entries es src i xs → Spells-entries es text i ys → Alike xs ys

  abbrev OnePairs : Pairs → Type 0
  OnePairs ps = (i : ℕ) (xs ys : List Token) → Spells-pairs ps src i xs → Spells-pairs ps text i ys → Alike xs ys

  -- the second part spells from one index in both, as the first parts are of one length
  level : (n : ℕ) (xs ys : List Token) (P : ℕ → Type 0) → Alike xs ys → P (n + length ys) → P (n + length xs)
  level n xs ys P a h = rw (alike-length src text xs ys a) h

  one-array : (e : Entry) (es : Entries) → One e → OneEntries es → One (array e es)
  one-array e es ihe ihes i xs ys (a, b, p, q, r) (a', b', p', q', r') =
      let A = ihe (i + 1) a a' q q' in
      let B = ihes (i + 1 + length a) b b' r (level (i + 1) a a' (λ n. Spells-entries es text n b') A r') in
      rw (p, p') (alike-enclosed Array i (a ++ b) (a' ++ b') (alike-append src text a a' b b' A B))

  one-object : (k : Word) (e : Entry) (ps : Pairs) → One e → OnePairs ps → One (object k e ps)
  one-object k e ps ihe ihps i xs ys (x, a, b, p, w, q, r) (x', a', b', p', w', q', r') =
      let A = ihe (i + 2) a a' q q' in
      let B = ihps (i + 2 + length a) b b' r (level (i + 2) a a' (λ n. Spells-pairs ps text n b') A r') in
      let C = alike-one src text (same_word k w w') (a ++ b) (a' ++ b') (alike-append src text a a' b b' A B) in
      rw (p, p') (alike-enclosed Object i (x ∷ (a ++ b)) (x' ∷ (a' ++ b')) C)

  one_more : (e : Entry) (es : Entries) → One e → OneEntries es → OneEntries (more e es)
  one_more e es ihe ihes i xs ys (a, b, p, q, r) (a', b', p', q', r') =
      let A = ihe i a a' q q' in
      let B = ihes (i + length a) b b' r (level i a a' (λ n. Spells-entries es text n b') A r') in
      rw (p, p') (alike-append src text a a' b b' A B)

  one-pair : (k : Word) (e : Entry) (ps : Pairs) → One e → OnePairs ps → OnePairs (pair k e ps)
  one-pair k e ps ihe ihps i xs ys (x, a, b, p, w, q, r) (x', a', b', p', w', q', r') =
      let A = ihe (i + 1) a a' q q' in
      let B = ihps (i + 1 + length a) b b' r (level (i + 1) a a' (λ n. Spells-pairs ps text n b') A r') in
      rw (p, p') (alike-one src text (same_word k w w') (a ++ b) (a' ++ b') (alike-append src text a a' b b' A B))

  one-scalar : (w : Word) → One (scalar w)
  one-scalar w i xs ys (x, p, q) (x', p', q') = rw (p, p') (alike-one src text (same_word w q q') [] [] (alike-none src text))

  mutual
    pub one_entry : (e : Entry) → One e
    one_entry (scalar w) = one-scalar w
    one_entry empty = λ i xs ys p p'. rw (p, p') (alike-enclosed Array i [] [] (alike-none src text))
    one_entry (array e es) = one-array e es (one_entry e) (one_entries es)
    one_entry (object k e ps) = one-object k e ps (one_entry e) (one_pairs ps)

    pub one_entries : (es : Entries) → OneEntries es
    one_entries no_entries = λ i xs ys p p'. rw (p, p') (alike-none src text)
    one_entries (more e es) = one_more e es (one_entry e) (one_entries es)

    pub one_pairs : (ps : Pairs) → OnePairs ps
    one_pairs no_pairs = λ i xs ys p p'. rw (p, p') (alike-none src text)
    one_pairs (pair k e ps) = one-pair k e ps (one_entry e) (one_pairs ps)

  pub one-tree : (t : Tree) (xs ys : List Token) → SpellsTree t src xs → SpellsTree t text ys → Alike xs ys
  one-tree nothing xs ys p p' = rw (p, p') (alike-none src text)
  one-tree (pairs k e ps) xs ys (x, a, b, p, w, q, r) (x', a', b', p', w', q', r') =
      let A = one_entry e 1 a a' q q' in
      let B = one_pairs ps (1 + length a) b b' r (level 1 a a' (λ n. Spells-pairs ps text n b') A r') in
      rw (p, p') (alike-one src text (same_word k w w') (a ++ b) (a' ++ b') (alike-append src text a a' b b' A B))
