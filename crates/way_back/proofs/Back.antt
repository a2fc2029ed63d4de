-- What is written is read back: by induction on the tree.
-- Assumes nothing.
use mathlib.Core.Path.{◌≡◌, refl, sym, ◌∙◌, ap}
use mathlib.Core.Bool.{true, false}
use mathlib.Core.List.{List, [], ◌∷◌, ◌++◌, append_assoc, append-nil}
use Prim.Native.Nat.{ℕ, ◌+◌}
use native.Mathlib.Omega.{arith}
use lib.ListN.{length, drop, length-append}
use lib.Seq.{get_or-append_seam}
use Rattle.data.specs.Bytes.{space, equals, brace_open, brace_close}
use Rattle.data.specs.Classes.{is_boundary}
use Rattle.std.specs.Prelude.{Some}
use Rattle.cut.specs.Blanks.{is_blank, skip_ws}
use Rattle.tape.specs.declared.token.Token.{Token}
use Rattle.tape.specs.declared.token.ContainerKind.{ContainerKind}
use Rattle.tape.specs.declared.token.ContainerKind.TheVariants.{Array, Object}
use Rattle.tape.specs.Token.{no_token, opener_of, opened}
use Rattle.tape.proofs.Makers.{opener-container}
use Rattle.tape.specs.Tape.{Tape}
use Rattle.machine.specs.declared.State.{State}
use Rattle.machine.specs.declared.State.TheVariants.{Key, KeyValueSeparator, ObjectValue, ParseOpen, ArrayValue}
use Rattle.machine.specs.declared.Machine.{Machine}
use Rattle.machine.specs.Machine.{byte_at}
use Rattle.machine.specs.Parents.{state_in}
use Rattle.machine.specs.Bytes.{follows_key}
use Rattle.parse.specs.After.{After, next}
use Rattle.parse.specs.Parse.{turn, run}
use Rattle.parse.proofs.Runs.{run-add}
use Rattle.way_back.proofs.Tree.{Word, Entry, scalar, empty, array, object, Entries, no_entries, more, Pairs, no_pairs, pair}
use Rattle.way_back.proofs.Tree.{write_word, write, write_entries, write-pairs, token_of, enclosed, flatten, flatten-entries, flatten-pairs}
use Rattle.way_back.proofs.Tree.{Filled, Plain-entry, Plain-entries, Plain-pairs}
use Rattle.way_back.proofs.Stands.{first_byte, one_on, further}
use Rattle.way_back.proofs.Bytes.{Begins, brace-begins}
use Rattle.way_back.proofs.Cuts.{ends, skip-none, skip-space}
use Rattle.way_back.proofs.Turns.{now, Held, held_more, First, word_first, begun, key-word, equals-turn, Awaits, in_object}
use Rattle.way_back.proofs.Turns.{in_array, value-word, value-brace, object-closes, array-closes, fresh, open_closes, open_key, open_value}
use Rattle.way_back.proofs.Turns.{open_braces}

-- ---- so many turns lead from here to there
pub record Reaches (text : List ℕ) (x y : After) : Type 0 where
  pub turns : ℕ
  pub there : run text turns x ≡ y

pub step : {text : List ℕ} {m : Machine} {t : Tape} {y : After} → turn text t m ≡ y → Reaches text (next m t) y
unfolding run
step e = record { turns = 1; there = e }

pub stay : {text : List ℕ} {x : After} → Reaches text x x
unfolding run
stay = record { turns = 0; there = refl }

infixl 40 ◌then◌
pub ◌then◌ : {text : List ℕ} {x y z : After} → Reaches text x y → Reaches text y z → Reaches text x z
◌then◌ {text} {x} r r' =
    record {
      turns = r.turns + r'.turns;
      there = run-add text r.turns r'.turns x ∙ ap (λ (w : After). run text r'.turns w) r.there ∙ r'.there;
    }

-- the same place and tokens, said otherwise
pub arrive : {text : List ℕ} {x : After} {s : State} {p a b : ℕ} {ts us : List Token} → a ≡ b → ts ≡ us → Reaches text x (now a s p ts)
    → Reaches text x (now b s p us)
arrive e f r = rw (← e, ← f) r

-- ---- what comes first, and what comes behind
pub entry_first : (e : Entry) → Plain-entry e → First (write e) Begins
entry_first (scalar w) h = let f = word_first w h in record { byte = f.byte; rest = f.rest; is = f.is; fits = f.fits.begins }
entry_first empty h = record { byte = brace_open; rest = brace_close ∷ []; is = refl; fits = brace-begins }
entry_first (array e es) h = record { byte = brace_open; rest = _; is = refl; fits = brace-begins }
entry_first (object k e ps) h = record { byte = brace_open; rest = _; is = refl; fits = brace-begins }

pub pairs_end : (ps : Pairs) (post : List ℕ) → ends post ≡ true → ends (write-pairs ps ++ post) ≡ true
unfolding is_boundary
pairs_end no_pairs post h = h
pairs_end (pair k e ps) post h = refl

entries_end : (es : Entries) (post : List ℕ) → ends post ≡ true → ends (write_entries es ++ post) ≡ true
unfolding is_boundary
entries_end no_entries post h = h
entries_end (more e es) post h = refl

-- the container that an opener makes
held-opener : (kind : ContainerKind) (ts us : List Token) (p : ℕ)
    → Held (ts ++ (opener_of kind p false ∷ us)) (length ts) (state_in (opened kind p false))
held-opener kind ts us p =
    let e = get_or-append_seam ts (opener_of kind p false) us no_token in
    let c = opener-container kind p false in
    record { within = omega (arith, length-append ts (opener_of kind p false ∷ us)); state = rw (e, c); mixed = rw (e, c) }

-- ---- the statements
abbrev pub Reads : Entry → Type 0
Reads e =
    (text : List ℕ) (q at : ℕ) (post : List ℕ) (s₀ s : State) (p i : ℕ) (ts : List Token) → Awaits s₀ s → Plain-entry e → Held ts p s
    → i ≡ length ts
    → skip_ws text q ≡ Some at → drop at text ≡ write e ++ post → ends post ≡ true
    → Reaches text (now q s₀ p ts) (now (at + length (write e)) s p (ts ++ flatten e at i))

abbrev pub ReadsPairs : Pairs → Type 0
ReadsPairs ps =
    (text : List ℕ) (at : ℕ) (post : List ℕ) (p i : ℕ) (ts : List Token) → Plain-pairs ps → Held ts p Key → i ≡ length ts
    → drop at text ≡ write-pairs ps ++ post → ends post ≡ true
    → Reaches text (now at Key p ts) (now (at + length (write-pairs ps)) Key p (ts ++ flatten-pairs ps at i))

abbrev pub ReadsEntries : Entries → Type 0
ReadsEntries es =
    (text : List ℕ) (q at : ℕ) (post : List ℕ) (s : State) (p j : ℕ) (ts us : List Token) → Plain-entries es → Held ts p s
    → j ≡ length (ts ++ (opener_of Array p false ∷ us)) → skip_ws text q ≡ skip_ws text at
    → drop at text ≡ write_entries es ++ (brace_close ∷ post)
    → Reaches text (now q ArrayValue (length ts) (ts ++ (opener_of Array p false ∷ us)))
    (now (at + length (write_entries es) + 1) s p (ts ++ enclosed Array (length ts) (us ++ flatten-entries es at j)))

-- ---- `=` and an entry, behind a key
pub read-value : (e : Entry) → Reads e → (text : List ℕ) (at : ℕ) (post : List ℕ) (p i : ℕ) (ts : List Token) → Plain-entry e
    → Held ts p Key → i ≡ length ts
    → drop at text ≡ equals ∷ (write e ++ post) → ends post ≡ true
    → Reaches text (now at KeyValueSeparator p ts) (now (at + 1 + length (write e)) Key p (ts ++ flatten e (at + 1) i))
read-value e ih text at post p i ts pl h c st n =
    let f = entry_first e pl in
    let g = one_on text at st in
    let b = begun text (at + 1) (write e) post g f in
    step (equals-turn text at f.byte (f.rest ++ post) p ts (st ∙ ap (λ (l : List ℕ). equals ∷ (l ++ post)) f.is) f.fits.equal)
    then ih text (at + 1) (at + 1) post ObjectValue Key p i ts in_object pl h c (skip-none text (at + 1) b f.fits.blank f.fits.comment) g n

-- ---- a further pair
read-pair : (k : Word) (e : Entry) (ps : Pairs) → Reads e → ReadsPairs ps → ReadsPairs (pair k e ps)
unfolding is_boundary
read-pair k e ps ihe ihps text at post p i ts pl h c st n =
    let K : List ℕ = write_word k in
    let W : List ℕ = write e in
    let s0 : drop at text ≡ space ∷ (K ++ (equals ∷ (W ++ (write-pairs ps ++ post)))) = st ∙ simp append_assoc in
    let s1 = one_on text at s0 in
    let f = word_first k pl.0 in
    let a : ℕ = at + 1 + length K in
    let s2 : drop a text ≡ equals ∷ (W ++ (write-pairs ps ++ post)) = further text (at + 1) K s1 in
    let T1 : List Token = ts ++ (token_of k (at + 1) ∷ []) in
    let c1 : i + 1 ≡ length T1 = omega (arith, length-append ts (token_of k (at + 1) ∷ []), c) in
    let X : List Token = flatten e (a + 1) (i + 1) in
    let T2 : List Token = T1 ++ X in
    let c2 : i + 1 + length X ≡ length T2 = omega (arith, length-append T1 X, c1) in
    let s4 : drop (a + 1 + length W) text ≡ write-pairs ps ++ post = further text (a + 1) W (one_on text a s2) in
    let Y : List Token = flatten-pairs ps (a + 1 + length W) (i + 1 + length X) in
    let place : a + 1 + length W + length (write-pairs ps) ≡ at + length (write-pairs (pair k e ps)) =
    omega (arith, length-append K (equals ∷ (W ++ write-pairs ps)), length-append W (write-pairs ps)) in
    let tokens : T2 ++ Y ≡ ts ++ flatten-pairs (pair k e ps) at i = simp append_assoc in
    arrive place tokens
    (step (key-word text k at (at + 1) (equals ∷ (W ++ (write-pairs ps ++ post))) p ts pl.0
    (skip-space text at (s0 ∙ ap (λ (l : List ℕ). space ∷ (l ++ (equals ∷ (W ++ (write-pairs ps ++ post))))) f.is)
    f.fits.begins.blank f.fits.begins.comment) s1 refl)
    then read-value e ihe text a (write-pairs ps ++ post) p (i + 1) T1 pl.1 (held_more ts _ p Key h) c1 s2 (pairs_end ps post n)
    then ihps text (a + 1 + length W) post p (i + 1 + length X) T2 pl.2 (held_more T1 X p Key (held_more ts _ p Key h)) c2 s4 n)

-- ---- an object
read-object : (k : Word) (e : Entry) (ps : Pairs) → Reads e → ReadsPairs ps → Reads (object k e ps)
unfolding is_boundary
read-object k e ps ihe ihps text q at post s₀ s p i ts d pl h c f st n =
    let K : List ℕ = write_word k in
    let W : List ℕ = write e in
    let P : List ℕ = write-pairs ps in
    let s0 : drop at text ≡ brace_open ∷ (K ++ (equals ∷ (W ++ (P ++ (brace_close ∷ post))))) = st ∙ simp append_assoc in
    let s1 = one_on text at s0 in
    let a : ℕ = at + 1 + length K in
    let s2 : drop a text ≡ equals ∷ (W ++ (P ++ (brace_close ∷ post))) = further text (at + 1) K s1 in
    let s4 : drop (a + 1 + length W) text ≡ P ++ (brace_close ∷ post) = further text (a + 1) W (one_on text a s2) in
    let s5 : drop (a + 1 + length W + length P) text ≡ brace_close ∷ post = further text (a + 1 + length W) P s4 in
    let o : Token = opener_of Object p false in
    let T1 : List Token = ts ++ (o ∷ token_of k (at + 1) ∷ []) in
    let c1 : i + 2 ≡ length T1 = omega (arith, length-append ts (o ∷ token_of k (at + 1) ∷ []), c) in
    let X : List Token = flatten e (a + 1) (i + 2) in
    let T2 : List Token = T1 ++ X in
    let c2 : i + 2 + length X ≡ length T2 = omega (arith, length-append T1 X, c1) in
    let Y : List Token = flatten-pairs ps (a + 1 + length W) (i + 2 + length X) in
    let body : List Token = token_of k (at + 1) ∷ (X ++ Y) in
    let h1 : Held T1 (length ts) Key = held-opener Object ts (token_of k (at + 1) ∷ []) p in
    let inside : T2 ++ Y ≡ ts ++ (o ∷ body) = simp append_assoc in
    let place : a + 1 + length W + length P + 1 ≡ at + length (write (object k e ps)) =
    omega (
      arith,
      length-append K (equals ∷ (W ++ (P ++ (brace_close ∷ [])))),
      length-append W (P ++ (brace_close ∷ [])),
      length-append P (brace_close ∷ []),
    ) in
    let tokens : ts ++ enclosed Object (length ts) body ≡ ts ++ flatten (object k e ps) at i = ap (λ (m : ℕ). ts ++ enclosed Object m body) (sym c) in
    arrive place tokens
    (step (value-brace text s₀ s d q at _ p ts f s0)
    then step (open_key text k (at + 1) (W ++ (P ++ (brace_close ∷ post))) p ts pl.0 s1)
    then read-value e ihe text a (P ++ (brace_close ∷ post)) (length ts) (i + 2) T1 pl.1 h1 c1 s2 (pairs_end ps (brace_close ∷ post) refl)
    then arrive refl inside
    (ihps text (a + 1 + length W) (brace_close ∷ post) (length ts) (i + 2 + length X) T2 pl.2 (held_more T1 X (length ts) Key h1) c2 s4 refl)
    then step (object-closes text (a + 1 + length W + length P) post s p ts body h s5))

-- ---- further entries, and the brace behind them
read-no_entries : ReadsEntries no_entries
unfolding is_blank
read-no_entries text q at post s p j ts us pl h c f st =
    let o : Token = opener_of Array p false in
    let place : at + 1 ≡ at + length (write_entries no_entries) + 1 = omega arith in
    let tokens : ts ++ enclosed Array (length ts) us ≡ ts ++ enclosed Array (length ts) (us ++ []) =
    ap (λ (l : List Token). ts ++ enclosed Array (length ts) l) (sym (append-nil us)) in
    arrive place tokens (step (array-closes text q at post s p ts us h (f ∙ skip-none text at st refl refl) st))

read_more : (e : Entry) (es : Entries) → Reads e → ReadsEntries es → ReadsEntries (more e es)
unfolding is_boundary
read_more e es ihe ihes text q at post s p j ts us pl h c f st =
    let W : List ℕ = write e in
    let E : List ℕ = write_entries es in
    let o : Token = opener_of Array p false in
    let g = entry_first e pl.0 in
    let s0 : drop at text ≡ space ∷ (W ++ (E ++ (brace_close ∷ post))) = st ∙ simp append_assoc in
    let s1 = one_on text at s0 in
    let s2 : drop (at + 1 + length W) text ≡ E ++ (brace_close ∷ post) = further text (at + 1) W s1 in
    let T1 : List Token = ts ++ (o ∷ us) in
    let X : List Token = flatten e (at + 1) j in
    let T2 : List Token = ts ++ (o ∷ (us ++ X)) in
    let inside : T1 ++ X ≡ T2 = append_assoc ts (o ∷ us) X in
    let c2 : j + length X ≡ length T2 = omega (arith, length-append T1 X, ap length inside, c) in
    let Y : List Token = flatten-entries es (at + 1 + length W) (j + length X) in
    let place : at + 1 + length W + length E + 1 ≡ at + length (write_entries (more e es)) + 1 = omega (arith, length-append W E) in
    let tokens : ts ++ enclosed Array (length ts) (us ++ X ++ Y) ≡ ts ++ enclosed Array (length ts) (us ++ flatten-entries (more e es) at j) =
    ap (λ (l : List Token). ts ++ enclosed Array (length ts) l) (append_assoc us X Y) in
    arrive place tokens
    (arrive refl inside
    (ihe text q (at + 1) (E ++ (brace_close ∷ post)) ArrayValue ArrayValue (length ts) j T1 in_array pl.0 (held-opener Array ts us p) c
    (f ∙ skip-space text at (s0 ∙ ap (λ (l : List ℕ). space ∷ (l ++ (E ++ (brace_close ∷ post)))) g.is) g.fits.blank
    g.fits.comment) s1 (entries_end es (brace_close ∷ post) refl))
    then ihes text (at + 1 + length W) (at + 1 + length W) post s p (j + length X) ts (us ++ X) pl.1 h c2 refl s2)

-- ---- the first entry of an array: the machine comes to stand behind it, or behind the blank that follows it
record PastFirst (text : List ℕ) (x : After) (at p : ℕ) (ts : List Token) : Type 0 where
  place : ℕ
  same : skip_ws text place ≡ skip_ws text at
  reached : Reaches text x (now place ArrayValue p ts)

-- where the next entry or the brace stands
record Gap (text : List ℕ) (at : ℕ) : Type 0 where
  place : ℕ
  skip : skip_ws text at ≡ Some place
  again : skip_ws text place ≡ Some place
  no_key : follows_key (byte_at text place) ≡ false

gap-behind : (es : Entries) (text : List ℕ) (at : ℕ) (post : List ℕ) → Plain-entries es
    → drop at text ≡ write_entries es ++ (brace_close ∷ post) → Gap text at
unfolding is_blank follows_key
gap-behind no_entries text at post pl st =
    let k = skip-none text at st refl refl in
    record { place = at; skip = k; again = k; no_key = rw (first_byte text at st) }
gap-behind (more e es) text at post pl st =
    let f = entry_first e pl.0 in
    let s0 : drop at text ≡ space ∷ (write e ++ (write_entries es ++ (brace_close ∷ post))) = st ∙ simp append_assoc in
    let b = begun text (at + 1) (write e) (write_entries es ++ (brace_close ∷ post)) (one_on text at s0) f in
    record {
      place = at + 1;
      skip = skip-space text at (s0 ∙ ap (λ (l : List ℕ). space ∷ (l ++ (write_entries es ++ (brace_close ∷ post)))) f.is)
          f.fits.blank f.fits.comment;
      again = skip-none text (at + 1) b f.fits.blank f.fits.comment;
      no_key = rw (first_byte text (at + 1) b) f.fits.after_key;
    }

-- by what the first entry is. Where it is a container, the opener becomes an array before anything is consumed, and the entry is read
-- as any other
module _ (es : Entries) (text : List ℕ) (at : ℕ) (post : List ℕ) (p i : ℕ) (ts : List Token) (ples : Plain-entries es)
    (c : i + 1 ≡ length (ts ++ (opener_of Array p false ∷ []))) where
  abbrev behind : List ℕ
  behind = write_entries es ++ (brace_close ∷ post)

  enter_container : (e : Entry) → Reads e → Plain-entry e → (b : ℕ) (bs : List ℕ) → Begins b → drop at text ≡ brace_open ∷ b ∷ bs
      → drop at text ≡ write e ++ behind
      → PastFirst text (now at ParseOpen p (ts ++ (fresh ∷ []))) (at + length (write e)) (length ts)
      (ts ++ (opener_of Array p false ∷ flatten e at (i + 1)))
  unfolding is_boundary is_blank
  enter_container e ih pl b bs g s1 st =
      record {
        place = at + length (write e);
        same = refl;
        reached =
            step (open_braces text at b bs p ts s1 g)
            then arrive refl (append_assoc ts (opener_of Array p false ∷ []) (flatten e at (i + 1)))
            (ih text at at behind ArrayValue ArrayValue (length ts) (i + 1) (ts ++ (opener_of Array p false ∷ [])) in_array pl
            (held-opener Array ts [] p) c (skip-none text at s1 refl refl) st (entries_end es (brace_close ∷ post) refl));
      }

  enter : (e : Entry) → Reads e → Filled e → Plain-entry e → drop at text ≡ write e ++ behind
      → PastFirst text (now at ParseOpen p (ts ++ (fresh ∷ []))) (at + length (write e)) (length ts)
      (ts ++ (opener_of Array p false ∷ flatten e at (i + 1)))
  unfolding is_boundary
  enter (scalar w) ih fl pl st =
      let s2 : drop (at + length (write_word w)) text ≡ behind = further text at (write_word w) st in
      let g = gap-behind es text (at + length (write_word w)) post ples s2 in
      record {
        place = g.place;
        same = g.again ∙ sym g.skip;
        reached = step (open_value text w at behind g.place p ts pl st (entries_end es (brace_close ∷ post) refl) g.skip g.no_key);
      }
  enter empty ih fl pl st = absurd fl
  enter (array e es') ih fl pl st =
      let f = entry_first e pl.1 in
      enter_container (array e es') ih pl f.byte _ f.fits
      (st ∙ ap (λ (l : List ℕ). brace_open ∷ (l ++ (write_entries es' ++ (brace_close ∷ [])) ++ behind)) f.is) st
  enter (object k e ps) ih fl pl st =
      let f = word_first k pl.0 in
      enter_container (object k e ps) ih pl f.byte _ f.fits.begins
      (st ∙ ap (λ (l : List ℕ). brace_open ∷ (l ++ (equals ∷ (write e ++ (write-pairs ps ++ (brace_close ∷ [])))) ++ behind)) f.is) st

-- ---- an array
read-array : (e : Entry) (es : Entries) → Reads e → ReadsEntries es → Reads (array e es)
read-array e es ihe ihes text q at post s₀ s p i ts d pl h c f st n =
    let W : List ℕ = write e in
    let E : List ℕ = write_entries es in
    let o : Token = opener_of Array p false in
    let s0 : drop at text ≡ brace_open ∷ (W ++ (E ++ (brace_close ∷ post))) = st ∙ simp append_assoc in
    let s1 = one_on text at s0 in
    let s2 : drop (at + 1 + length W) text ≡ E ++ (brace_close ∷ post) = further text (at + 1) W s1 in
    let X : List Token = flatten e (at + 1) (i + 1) in
    let c1 : i + 1 ≡ length (ts ++ (o ∷ [])) = omega (arith, length-append ts (o ∷ []), c) in
    let c2 : i + 1 + length X ≡ length (ts ++ (o ∷ X)) = omega (arith, length-append ts (o ∷ X), c) in
    let r = enter es text (at + 1) post p i ts pl.2 c1 e ihe pl.0 pl.1 s1 in
    let body : List Token = X ++ flatten-entries es (at + 1 + length W) (i + 1 + length X) in
    let place : at + 1 + length W + length E + 1 ≡ at + length (write (array e es)) =
    omega (arith, length-append W (E ++ (brace_close ∷ [])), length-append E (brace_close ∷ [])) in
    let tokens : ts ++ enclosed Array (length ts) body ≡ ts ++ flatten (array e es) at i = ap (λ (m : ℕ). ts ++ enclosed Array m body) (sym c) in
    arrive place tokens
    (step (value-brace text s₀ s d q at _ p ts f s0)
    then r.reached
    then ihes text r.place (at + 1 + length W) post s p (i + 1 + length X) ts X pl.2 h c2 r.same s2)

read-empty : Reads empty
read-empty text q at post s₀ s p i ts d pl h c f st n =
    let place : at + 1 + 1 ≡ at + length (write empty) = omega arith in
    let tokens : ts ++ enclosed Array (length ts) [] ≡ ts ++ flatten empty at i = ap (λ (m : ℕ). ts ++ enclosed Array m []) (sym c) in
    arrive place tokens (step (value-brace text s₀ s d q at _ p ts f st) then step (open_closes text (at + 1) post s p ts h (one_on text at st)))

read-scalar : (w : Word) → Reads (scalar w)
read-scalar w text q at post s₀ s p i ts d pl h c f st n = step (value-word text s₀ s d w q at post p ts pl f st n)

read-no_pairs : ReadsPairs no_pairs
read-no_pairs text at post p i ts pl h c st n =
    let place : at ≡ at + length (write-pairs no_pairs) = omega arith in
    arrive place (sym (append-nil ts)) stay

-- ---- every plain entry is read back where it stands
mutual
  pub entry_reads : (e : Entry) → Reads e
  entry_reads (scalar w) = read-scalar w
  entry_reads empty = read-empty
  entry_reads (array e es) = read-array e es (entry_reads e) (entries_read es)
  entry_reads (object k e ps) = read-object k e ps (entry_reads e) (pairs_read ps)

  pub entries_read : (es : Entries) → ReadsEntries es
  entries_read no_entries = read-no_entries
  entries_read (more e es) = read_more e es (entry_reads e) (entries_read es)

  pub pairs_read : (ps : Pairs) → ReadsPairs ps
  pairs_read no_pairs = read-no_pairs
  pairs_read (pair k e ps) = read-pair k e ps (entry_reads e) (pairs_read ps)
