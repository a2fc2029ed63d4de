-- What one turn makes of written text where it stands, on a tape that grows.
-- Assumes nothing.
use mathlib.Core.Path.{◌≡◌, refl, sym, ◌∙◌, ap}
use mathlib.Core.Bool.{Bool, true, false}
use mathlib.Core.List.{List, [], ◌∷◌, ◌++◌, append_assoc}
use Prim.Native.Nat.{ℕ, ◌+◌, ◌-◌, ◌<◌}
use native.Mathlib.Omega.{arith}
use borrow.Author.Tests.{ne_eqb}
use lib.Dec.{eqb}
use lib.ListN.{length, get_or, drop, length-append, get_or-append}
use lib.Seq.{set-append_seam, get_or-append_seam}
use Rattle.data.proofs.Cases.{by_bool}
use Rattle.data.specs.Bytes.{equals, brace_open, brace_close, quote}
use Rattle.data.specs.Classes.{is_boundary}
use Rattle.std.specs.Prelude.{Some}
use Rattle.cut.specs.Blanks.{is_blank, skip_ws}
use Rattle.operator.specs.declared.Operator.TheVariants.{Equal}
use Rattle.operator.specs.Operators.{sign, sighted}
use Rattle.tape.specs.declared.token.Token.{Token}
use Rattle.tape.specs.declared.token.ContainerKind.{ContainerKind}
use Rattle.tape.specs.declared.token.ContainerKind.TheVariants.{Array, Object}
use Rattle.tape.specs.Token.{no_token, opener_of, end_of, container_of}
use Rattle.tape.specs.Tape.{Tape, unbounded, token_at, replace, add, lay}
use Rattle.machine.specs.declared.State.{State}
use Rattle.machine.specs.declared.State.TheVariants.{Key, KeyValueSeparator, ObjectValue, ParseOpen, ArrayValue}
use Rattle.machine.specs.declared.Machine.{Machine}
use Rattle.machine.specs.Machine.{byte_at}
use Rattle.machine.specs.Bytes.{key_byte, open_byte, follows_key, value_byte}
use Rattle.machine.specs.Parents.{state_in, mixed_in}
use Rattle.parse.specs.After.{After, next, lay_then}
use Rattle.parse.specs.Scalars.{scalar_then}
use Rattle.parse.specs.Containers.{open_then, close, close_at}
use Rattle.machine.specs.declared.bytes.OpenByte as OpenByte
use Rattle.machine.specs.declared.bytes.ValueByte as ValueByte
use Rattle.parse.specs.Key.{key_turn, key_close}
use Rattle.parse.specs.KeyValueSeparator.{separator_turn, separator_then}
use Rattle.parse.specs.ObjectValue.{object_value_turn}
use Rattle.parse.specs.ParseOpen.{settle, open_empty, open_brace, open_as, open_scalar, flag_parent, parse_open_turn}
use Rattle.parse.specs.ArrayValue.{array_close, array_value_turn}
use Rattle.parse.specs.Parse.{turn, state_turn}
use Rattle.way_back.proofs.Tree.{Word, unquoted, quoted, write_word, token_of, enclosed, PlainWord}
use Rattle.way_back.proofs.Stands.{first_byte, second_byte, one_on, further}
use Rattle.way_back.proofs.Bytes.{Begins, Solid, solid_plain, solid_quote, solid_key, solid_open, solid_value}
use Rattle.way_back.proofs.Cuts.{ends, skip-none, cut-unquoted, cut-quoted}

-- a tape with no bound on tokens
abbrev pub on : List Token → Tape
on ts = record { room = unbounded; tokens = ts }

abbrev pub machine : ℕ → State → ℕ → ℕ → Machine
machine at state parent count = record { at = at; state = state; parent = parent; mixed = false; count = count }

-- the machine at a place, in a state, in a container, with some tokens laid down
abbrev pub now : ℕ → State → ℕ → List Token → After
now at state parent ts = next (machine at state parent (length ts)) (on ts)

same-now : (at p : ℕ) {s s' : State} {f : Bool} {n : ℕ} {ts us : List Token} → s ≡ s' → f ≡ false → n ≡ length us → ts ≡ us
    → next (record { at = at; state = s; parent = p; mixed = f; count = n }) (on ts) ≡ now at s' p us
same-now at p a b c d = cc

lay-now : (x : Token) (at : ℕ) (s : State) (ts : List Token) (from : ℕ) (s₀ : State) (p : ℕ)
    → lay_then x at s (on ts) (machine from s₀ p (length ts)) ≡ now at s p (ts ++ (x ∷ []))
unfolding lay_then lay add
lay-now x at s ts from s₀ p = same-now at p refl refl (sym (length-append ts (x ∷ []))) refl

-- the container that the machine is in: which state it is taken up in
pub record Held (ts : List Token) (p : ℕ) (s : State) : Type 0 where
  pub within : p < length ts
  pub state : state_in (container_of (get_or ts p no_token)) ≡ s
  pub mixed : mixed_in (container_of (get_or ts p no_token)) ≡ false

pub held_more : (ts us : List Token) (p : ℕ) (s : State) → Held ts p s → Held (ts ++ us) p s
held_more ts us p s h =
    let e : get_or (ts ++ us) p no_token ≡ get_or ts p no_token = get_or-append ts us no_token p h.within in
    record { within = omega (arith, length-append ts us, h.within); state = rw e h.state; mixed = rw e h.mixed }

-- the first byte of a plain word
pub record First (bytes : List ℕ) (P : ℕ → Type 0) : Type 0 where
  pub byte : ℕ
  pub rest : List ℕ
  pub is : bytes ≡ byte ∷ rest
  pub fits : P byte

pub word_first : (w : Word) → PlainWord w → First (write_word w) Solid
word_first (unquoted []) h = absurd h
word_first (unquoted (b ∷ bs)) h = record { byte = b; rest = bs; is = refl; fits = solid_plain b h.0 }
word_first (quoted bs) h = record { byte = quote; rest = bs ++ (quote ∷ []); is = refl; fits = solid_quote }

-- what stands there begins with that byte
pub begun : {P : ℕ → Type 0} (text : List ℕ) (at : ℕ) (bytes post : List ℕ) → drop at text ≡ bytes ++ post → (f : First bytes P)
    → drop at text ≡ f.byte ∷ (f.rest ++ post)
begun text at bytes post e f = e ∙ ap (λ (l : List ℕ). l ++ post) f.is

-- where an entry is due, and the state after it
pub data Awaits : State → State → Type 0 where
  in_object : Awaits ObjectValue Key
  in_array : Awaits ArrayValue ArrayValue

-- an opener that has no kind yet
abbrev pub fresh : Token
fresh = opener_of Array 0 false

module _ (text : List ℕ) where
  turn_at : (q at : ℕ) (s : State) (p n : ℕ) (t : Tape) → skip_ws text q ≡ Some at
      → turn text t (machine q s p n) ≡ state_turn text t (machine at s p n)
  unfolding turn
  turn_at q at s p n t e = rw (turn, e)

  -- a plain scalar is laid down
  pub word_then : (w : Word) (at : ℕ) (post : List ℕ) (s s₀ : State) (p : ℕ) (ts : List Token) → PlainWord w
      → drop at text ≡ write_word w ++ post → ends post ≡ true
      → scalar_then text s (on ts) (machine at s₀ p (length ts)) ≡ now (at + length (write_word w)) s p (ts ++ (token_of w at ∷ []))
  unfolding scalar_then
  word_then (unquoted []) at post s s₀ p ts h e n = absurd h
  word_then (unquoted (b ∷ bs)) at post s s₀ p ts h e n =
      let z : at + length (b ∷ bs) - at ≡ length (b ∷ bs) = omega arith in
      rw (scalar_then, cut-unquoted text at b bs post e h n, z)
      (lay-now (token_of (unquoted (b ∷ bs)) at) (at + length (b ∷ bs)) s ts at s₀ p)
  word_then (quoted bs) at post s s₀ p ts h e n =
      let z : at + 1 + length bs - (at + 1) ≡ length bs = omega arith in
      let y : at + 1 + length bs + 1 ≡ at + length (write_word (quoted bs)) = omega (arith, length-append bs (quote ∷ [])) in
      rw (scalar_then, cut-quoted text at bs post (e ∙ ap (λ (l : List ℕ). quote ∷ l) (append_assoc bs (quote ∷ []) post)) h, z, y)
      (lay-now (token_of (quoted bs) at) (at + length (write_word (quoted bs))) s ts at s₀ p)

  -- Key: a key
  pub key-word : (k : Word) (q at : ℕ) (post : List ℕ) (p : ℕ) (ts : List Token) → PlainWord k → skip_ws text q ≡ Some at
      → drop at text ≡ write_word k ++ post → ends post ≡ true
      → turn text (on ts) (machine q Key p (length ts)) ≡ now (at + length (write_word k)) KeyValueSeparator p (ts ++ (token_of k at ∷ []))
  unfolding state_turn key_turn
  key-word k q at post p ts h f e n =
      let w = word_first k h in
      turn_at q at Key p (length ts) (on ts) f ∙
      rw (state_turn, key_turn, first_byte text at (begun text at (write_word k) post e w), solid_key w.byte w.fits)
      (word_then k at post KeyValueSeparator Key p ts h e n)

  equals-sighted : (b : ℕ) → eqb b equals ≡ false → sighted equals b ≡ sign Equal 1
  unfolding sighted
  equals-sighted b n = rw (sighted, n)

  -- KeyValueSeparator: `=` and an entry
  pub equals-turn : (at b : ℕ) (bs : List ℕ) (p : ℕ) (ts : List Token) → drop at text ≡ equals ∷ b ∷ bs → eqb b equals ≡ false
      → turn text (on ts) (machine at KeyValueSeparator p (length ts)) ≡ now (at + 1) ObjectValue p ts
  unfolding state_turn separator_turn separator_then is_blank
  equals-turn at b bs p ts e n =
      turn_at at at KeyValueSeparator p (length ts) (on ts) (skip-none text at e refl refl) ∙
      rw (state_turn, separator_turn, first_byte text at e, second_byte text at e, equals-sighted b n)

  -- an entry that is a scalar
  pub value-word : (s₀ s : State) → Awaits s₀ s → (w : Word) (q at : ℕ) (post : List ℕ) (p : ℕ) (ts : List Token) → PlainWord w
      → skip_ws text q ≡ Some at → drop at text ≡ write_word w ++ post → ends post ≡ true
      → turn text (on ts) (machine q s₀ p (length ts)) ≡ now (at + length (write_word w)) s p (ts ++ (token_of w at ∷ []))
  unfolding state_turn object_value_turn array_value_turn
  value-word s₀ s in_object k q at post p ts h f e n =
      let w = word_first k h in
      turn_at q at ObjectValue p (length ts) (on ts) f ∙
      let b = first_byte text at (begun text at (write_word k) post e w) in
      rw (state_turn, object_value_turn, b, w.fits.brace, b, w.fits.begins.closer)
      (word_then k at post Key ObjectValue p ts h e n)
  value-word s₀ s in_array k q at post p ts h f e n =
      let w = word_first k h in
      turn_at q at ArrayValue p (length ts) (on ts) f ∙
      rw (state_turn, array_value_turn, first_byte text at (begun text at (write_word k) post e w), solid_value w.byte w.fits)
      (word_then k at post ArrayValue ArrayValue p ts h e n)

  -- an entry that is a container
  pub value-brace : (s₀ s : State) → Awaits s₀ s → (q at : ℕ) (post : List ℕ) (p : ℕ) (ts : List Token) → skip_ws text q ≡ Some at
      → drop at text ≡ brace_open ∷ post
      → turn text (on ts) (machine q s₀ p (length ts)) ≡ now (at + 1) ParseOpen p (ts ++ (fresh ∷ []))
  unfolding state_turn object_value_turn array_value_turn open_then value_byte
  value-brace s₀ s in_object q at post p ts f e =
      turn_at q at ObjectValue p (length ts) (on ts) f ∙
      rw (state_turn, object_value_turn, first_byte text at e)
      (lay-now fresh (at + 1) ParseOpen ts at ObjectValue p)
  value-brace s₀ s in_array q at post p ts f e =
      turn_at q at ArrayValue p (length ts) (on ts) f ∙
      rw (state_turn, array_value_turn, first_byte text at e)
      (lay-now fresh (at + 1) ParseOpen ts at ArrayValue p)

  -- leaving a container
  pub closed : (kind : ContainerKind) (x : Token) (at : ℕ) (s₀ s : State) (p : ℕ) (ts us : List Token) → Held ts p s
      → close kind p (on (ts ++ (x ∷ us))) (machine at s₀ (length ts) (length (ts ++ (x ∷ us))))
      ≡ now (at + 1) s p (ts ++ enclosed kind (length ts) us)
  unfolding close close_at lay add replace token_at
  closed kind x at s₀ s p ts us h =
      let c : length (ts ++ (x ∷ us)) ≡ length ts + 1 + length us = omega (arith, length-append ts (x ∷ us)) in
      let y : Token = opener_of kind (length ts + 1 + length us) false in
      let e : get_or (ts ++ (x ∷ us)) p no_token ≡ get_or ts p no_token = get_or-append ts (x ∷ us) no_token p h.within in
      rw c
      (same-now (at + 1) p
      (ap (λ (z : Token). state_in (container_of z)) e ∙ h.state)
      (ap (λ (z : Token). mixed_in (container_of z)) e ∙ h.mixed)
      (omega (arith, length-append ts (y ∷ (us ++ (end_of (length ts) ∷ []))), length-append us (end_of (length ts) ∷ [])))
      (ap (λ (l : List Token). l ++ (end_of (length ts) ∷ [])) (set-append_seam ts x us y) ∙ append_assoc ts (y ∷ us) (end_of (length ts) ∷ [])))

  -- where a container is held there are tokens
  inner : (p : ℕ) (ts : List Token) → p < length ts → eqb (length ts) 0 ≡ false
  inner p ts h = ne_eqb (length ts) 0 (λ e. omega arith)

  value-closer : value_byte brace_close ≡ ValueByte.TheVariants.Closer
  unfolding value_byte
  value-closer = refl

  open_opener : open_byte brace_open ≡ OpenByte.TheVariants.Brace
  unfolding open_byte
  open_opener = refl

  -- Key: `}` closes the object
  pub object-closes : (at : ℕ) (post : List ℕ) (s : State) (p : ℕ) (ts us : List Token) → Held ts p s → drop at text ≡ brace_close ∷ post
      → turn text (on (ts ++ (opener_of Object p false ∷ us))) (machine at Key (length ts) (length (ts ++ (opener_of Object p false ∷ us))))
      ≡ now (at + 1) s p (ts ++ enclosed Object (length ts) us)
  unfolding state_turn key_turn key_byte key_close token_at container_of is_blank
  object-closes at post s p ts us h e =
      let g = get_or-append_seam ts (opener_of Object p false) us no_token in
      turn_at at at Key (length ts) _ _ (skip-none text at e refl refl) ∙
      rw (state_turn, key_turn, first_byte text at e, key_close, inner p ts h.within, g)
      (closed Object (opener_of Object p false) at Key s p ts us h)

  -- ArrayValue: `}` closes the array
  pub array-closes : (q at : ℕ) (post : List ℕ) (s : State) (p : ℕ) (ts us : List Token) → Held ts p s → skip_ws text q ≡ Some at
      → drop at text ≡ brace_close ∷ post
      → turn text (on (ts ++ (opener_of Array p false ∷ us))) (machine q ArrayValue (length ts) (length (ts ++ (opener_of Array p false ∷ us))))
      ≡ now (at + 1) s p (ts ++ enclosed Array (length ts) us)
  unfolding state_turn array_value_turn array_close token_at container_of
  array-closes q at post s p ts us h f e =
      let g = get_or-append_seam ts (opener_of Array p false) us no_token in
      turn_at q at ArrayValue (length ts) _ _ f ∙
      rw (state_turn, array_value_turn, first_byte text at e, value-closer, array_close, inner p ts h.within, g)
      (closed Array (opener_of Array p false) at ArrayValue s p ts us h)

  -- ---- ParseOpen, behind an opener that has no kind yet
  settled : (kind : ContainerKind) (back : ℕ) (us : List Token) (q : ℕ) (s : State) (p : ℕ) (ts : List Token) (at : ℕ) → back ≡ 1 + length us
      → settle kind back q s (on (ts ++ (fresh ∷ us))) (machine at ParseOpen p (length (ts ++ (fresh ∷ us))))
      ≡ now q s (length ts) (ts ++ (opener_of kind p false ∷ us))
  unfolding settle replace
  settled kind back us q s p ts at h =
      let l = length-append ts (fresh ∷ us) in
      let z : length (ts ++ (fresh ∷ us)) - back ≡ length ts = omega (arith, l) in
      rw z
      (same-now q (length ts) refl refl (l ∙ sym (length-append ts (opener_of kind p false ∷ us))) (set-append_seam ts fresh us (opener_of kind p false)))

  -- `}`: an empty array
  pub open_closes : (at : ℕ) (post : List ℕ) (s : State) (p : ℕ) (ts : List Token) → Held ts p s → drop at text ≡ brace_close ∷ post
      → turn text (on (ts ++ (fresh ∷ []))) (machine at ParseOpen p (length (ts ++ (fresh ∷ []))))
      ≡ now (at + 1) s p (ts ++ enclosed Array (length ts) [])
  unfolding state_turn parse_open_turn open_byte open_empty close close_at lay add replace token_at is_blank
  open_closes at post s p ts h e =
      let z : length (ts ++ (fresh ∷ [])) - 1 ≡ length ts = omega (arith, length-append ts (fresh ∷ [])) in
      turn_at at at ParseOpen p _ _ (skip-none text at e refl refl) ∙
      rw (state_turn, parse_open_turn, first_byte text at e, open_empty, z)
      (closed Array fresh at ParseOpen s p ts [] h)

  -- a scalar, and the blanks behind it
  open_word : (w : Word) (at : ℕ) (post : List ℕ) (q p : ℕ) (ts : List Token) → PlainWord w → drop at text ≡ write_word w ++ post
      → ends post ≡ true
      → skip_ws text (at + length (write_word w)) ≡ Some q
      → turn text (on (ts ++ (fresh ∷ []))) (machine at ParseOpen p (length (ts ++ (fresh ∷ []))))
      ≡ elim (follows_key (byte_at text q)) [
        | true ↦ now q KeyValueSeparator (length ts) (ts ++ (opener_of Object p false ∷ token_of w at ∷ []))
        | false ↦ now q ArrayValue (length ts) (ts ++ (opener_of Array p false ∷ token_of w at ∷ []))
      ]
  unfolding state_turn parse_open_turn open_scalar open_as flag_parent
  open_word k at post q p ts h e n f =
      let w = word_first k h in
      let b = begun text at (write_word k) post e w in
      let g = word_then k at post ParseOpen ParseOpen p (ts ++ (fresh ∷ [])) h e n
      ∙ ap (λ (l : List Token). now (at + length (write_word k)) ParseOpen p l) (append_assoc ts (fresh ∷ []) (token_of k at ∷ [])) in
      turn_at at at ParseOpen p _ _ (skip-none text at b w.fits.begins.blank w.fits.begins.comment) ∙
      rw (state_turn, parse_open_turn, first_byte text at b, solid_open w.byte w.fits, open_scalar, g, open_as, f)
      (by_bool (follows_key (byte_at text q))
      (λ t. rw t (settled Object 2 (token_of k at ∷ []) q KeyValueSeparator p ts (at + length (write_word k)) refl))
      (λ t. rw t (settled Array 2 (token_of k at ∷ []) q ArrayValue p ts (at + length (write_word k)) refl)))

  -- a first key
  pub open_key : (k : Word) (at : ℕ) (post : List ℕ) (p : ℕ) (ts : List Token) → PlainWord k → drop at text ≡ write_word k ++ (equals ∷ post)
      → turn text (on (ts ++ (fresh ∷ []))) (machine at ParseOpen p (length (ts ++ (fresh ∷ []))))
      ≡ now (at + length (write_word k)) KeyValueSeparator (length ts) (ts ++ (opener_of Object p false ∷ token_of k at ∷ []))
  unfolding follows_key is_blank is_boundary
  open_key k at post p ts h e =
      let q : ℕ = at + length (write_word k) in
      let g = further text at (write_word k) e in
      open_word k at (equals ∷ post) q p ts h e refl (skip-none text q g refl refl) ∙ rw (first_byte text q g)

  -- a first scalar
  pub open_value : (w : Word) (at : ℕ) (post : List ℕ) (q p : ℕ) (ts : List Token) → PlainWord w → drop at text ≡ write_word w ++ post
      → ends post ≡ true
      → skip_ws text (at + length (write_word w)) ≡ Some q → follows_key (byte_at text q) ≡ false
      → turn text (on (ts ++ (fresh ∷ []))) (machine at ParseOpen p (length (ts ++ (fresh ∷ []))))
      ≡ now q ArrayValue (length ts) (ts ++ (opener_of Array p false ∷ token_of w at ∷ []))
  open_value w at post q p ts h e n f g = open_word w at post q p ts h e n f ∙ rw g

  -- a first entry that is a container and not empty
  pub open_braces : (at b : ℕ) (bs : List ℕ) (p : ℕ) (ts : List Token) → drop at text ≡ brace_open ∷ b ∷ bs → Begins b
      → turn text (on (ts ++ (fresh ∷ []))) (machine at ParseOpen p (length (ts ++ (fresh ∷ []))))
      ≡ now at ArrayValue (length ts) (ts ++ (opener_of Array p false ∷ []))
  unfolding state_turn parse_open_turn open_brace is_blank
  open_braces at b bs p ts e h =
      let g = one_on text at e in
      turn_at at at ParseOpen p _ _ (skip-none text at e refl refl) ∙
      let f = skip-none text (at + 1) g h.blank h.comment in
      rw (state_turn, parse_open_turn, first_byte text at e, open_opener, open_brace, f, first_byte text (at + 1) g, h.closer)
      (settled Array 1 [] at ArrayValue p ts at refl)
