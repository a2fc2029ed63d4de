-- Opening a container, and what ParseOpen makes of its opener, keep the tokens in order.
-- Assumes nothing.
use Rattle.std.specs.Prelude.{None}
use mathlib.Core.Path.{◌≡◌, refl, sym, ◌∙◌, ap}
use mathlib.Core.Bool.{true, false}
use mathlib.Core.List.{List, [], ◌∷◌, ◌++◌, append_assoc}
use mathlib.Core.Logic.{inl, inr}
use Prim.Native.Nat.{ℕ, ◌+◌, ◌-◌, ◌≤◌, ◌<◌}
use native.Mathlib.Omega.{arith}
use lib.ListN.{length, set, length-append, length-set, get_or-append}
use lib.Seq.{set-append_seam, set-append_left, get_or-set_same}
use Rattle.data.proofs.Cases.{by_bool}
use Rattle.tape.specs.declared.token.Token.{Token}
use Rattle.tape.specs.declared.token.ContainerKind.{ContainerKind}
use Rattle.tape.specs.declared.token.ContainerKind.TheVariants.{Array, Object}
use Rattle.tape.specs.declared.token.Container as Containers
use Rattle.tape.specs.Token.{no_token, opener_of, end_of, container_of, opened}
use Rattle.tape.specs.Shape.{link_of}
use Rattle.tape.specs.Tape.{token_at, replace}
use Rattle.tape.proofs.Shapes.{opens-link}
use Rattle.sheet.specs.Sound.{nth}
use Rattle.machine.specs.declared.State.{State}
use Rattle.machine.specs.declared.State.TheVariants.{ParseOpen, ArrayValue}
use Rattle.machine.specs.declared.Machine.{Machine}
use Rattle.machine.specs.Machine.{to}
use Rattle.machine.specs.Parents.{resumed}
use Rattle.parse.specs.ParseOpen.{flag_parent}
use Rattle.parse.proofs.Splits.{by-container}
use Rattle.parse.proofs.Moves.{container_in, closed_as, flagged, Taken, Settles, with_key, with_entry}
use Rattle.promises.specs.Mixed.{Scalar, Stored, equal_token}
use Rattle.promises.proofs.Links.Nest.{Parent, parent-below}
use Rattle.promises.proofs.Links.Rows.{last, add-length, add_new, add-last, Plain, Apart, apart-add}
use Rattle.promises.proofs.Links.Flags.{codes-differ, array-no-object, not_both}
use Rattle.promises.proofs.Links.Kept.{Kept, link_at, link-container, kept-opener, kept-close, kept-flag}
use Rattle.promises.proofs.Links.Held.{Signed, unsettled, Held, RestingAt, Ready, counted-add, Settled, settled_before, rest-add, taken-plain}
use Rattle.promises.proofs.Links.Closing.{resumes, closed-length}

-- the token behind some others changed
reset : (us : List Token) (y a : Token) (rest : List Token) {i : ℕ} → i ≡ length us → set (us ++ y ∷ rest) i a ≡ us ++ a ∷ rest
reset us y a rest e = rw e (set-append_seam us y rest a)

-- two tokens behind others are one and then another
snoc_two : (us : List Token) (x y : Token) → us ++ (x ∷ y ∷ []) ≡ (us ++ (x ∷ [])) ++ (y ∷ [])
snoc_two us x y = sym (append_assoc us (x ∷ []) (y ∷ []))

-- ---- a scalar behind the unsettled opener
-- so many tokens inside a parent, the last an unsettled opener and a scalar, and what is known of those before them
pub record Fresh (Led : List Token → Type 0) (count p : ℕ) (ts : List Token) : Type 0 where
  pub before : List Token
  pub led : Led before
  pub first : Token
  pub counted : count ≡ length ts
  pub standing : ts ≡ before ++ (unsettled ∷ first ∷ [])
  pub kept : Kept before p
  pub some : 1 ≤ length before
  pub plain : Plain first
  pub scalar : Scalar first

-- behind an Equal the parent's flag is set
abbrev Remembers : ℕ → List Token → Type 0
Remembers p us = last us ≡ equal_token → Stored us p

-- the opener settles
settle-held : (m : Machine) (ts : List Token) (kind : ContainerKind) (at : ℕ) (state : State) → Settled state
    → Fresh (Remembers m.parent) m.count m.parent ts
    → Held (record { at = at; state = state; parent = m.count - 2; mixed = false; count = m.count })
    (set ts (m.count - 2) (opener_of kind m.parent false))
settle-held m ts kind at state d f =
    let us : List Token = f.before in
    let x : Token = opener_of kind m.parent false in
    let n : m.count ≡ length us + 2 = f.counted ∙ ap length f.standing ∙ length-append us (unsettled ∷ f.first ∷ []) in
    let i : m.count - 2 ≡ length us = omega arith in
    let e : set ts (m.count - 2) x ≡ (us ++ (x ∷ [])) ++ (f.first ∷ []) =
    rw (f.standing, reset us unsettled x (f.first ∷ []) i) (snoc_two us x f.first)
    in
    let opened = kept-opener us kind m.parent f.kept f.some (λ k. f.led) in
    record {
      counted = rw (length-set ts (m.count - 2) x) f.counted;
      shaped = rw (e, i) (rest-add (us ++ (x ∷ [])) f.first (length us) opened f.plain state false
          (settled_before state false f.first d f.scalar));
    }

-- no container is read at a parent that is none
none_open : (ts : List Token) {p : ℕ} → Kept ts p → container_of (nth ts p) ≡ None → p ≡ 0
none_open ts {p} k e = go k.links.parent
  where
    go : Parent (link_at ts) p → p ≡ 0
    go (inl z) = z
    go (inr o) = let c = (link-container (nth ts p) o.1).2 in let z : ◌≡◌ {A = ℕ} 0 1 = cc in absurd (omega arith)

-- the parent's flag set, where mixed is on
flag-held : (m : Machine) (ts : List Token) → Fresh (Signed m.mixed) m.count m.parent ts
    → Fresh (Remembers m.parent) m.count m.parent (flagged ts m)
unfolding flag_parent replace token_at
flag-held m ts f =
    let us : List Token = f.before in
    let p : ℕ = m.parent in
    let below : p < length us = parent-below f.kept.links f.some in
    let same : nth ts p ≡ nth us p = rw f.standing (get_or-append us (unsettled ∷ f.first ∷ []) no_token p below) in
    let unchanged : Remembers p us → Fresh (Remembers p) m.count p ts = λ led. record {
      before = us;
      led = led;
      first = f.first;
      counted = f.counted;
      standing = f.standing;
      kept = f.kept;
      some = f.some;
      plain = f.plain;
      scalar = f.scalar;
    }
    in
    by_bool m.mixed
    (λ e. by-container (container_in ts p)
    (λ k l b c. rw (flagged, flag_parent, e, c)
    (let x : Token = opener_of k l true in
    record {
      before = set us p x;
      led = λ h. inr (rw (get_or-set_same us p x no_token below) (record { kind = k; link = l; made = refl }));
      first = f.first;
      counted = f.counted ∙ sym (length-set ts p x);
      standing = rw f.standing (set-append_left us (unsettled ∷ f.first ∷ []) p x below);
      kept = kept-flag us p k l b below f.kept (rw same at c);
      some = rw (length-set us p x) f.some;
      plain = f.plain;
      scalar = f.scalar;
    }))
    (λ c. rw (flagged, flag_parent, e, c) (unchanged (λ h. inl (none_open us f.kept (rw same at c))))))
    (λ e. rw (flagged, flag_parent, e) (unchanged (λ h. not_both (f.led h) e)))

settles-settled : {kind : ContainerKind} {state : State} → Settles kind state → Settled state
settles-settled with_key = tt
settles-settled with_entry = tt

-- ---- the moves of ParseOpen
module _ (m : Machine) (ts : List Token) (c : m.count ≡ length ts) (us : List Token) (standing : ts ≡ us ++ (unsettled ∷ [])) (k : Kept us m.parent)
    (some : 1 ≤ length us) (signed : Signed m.mixed us) where
  place : m.count - 1 ≡ length us
  place = omega (arith, add-length us unsettled, ap length standing)

  -- the opener settled, with nothing behind it
  settled-tokens : (kind : ContainerKind) → set ts (m.count - 1) (opener_of kind m.parent false) ≡ us ++ (opener_of kind m.parent false ∷ [])
  settled-tokens kind = rw standing (reset us unsettled (opener_of kind m.parent false) [] place)

  settled : (kind : ContainerKind) → (kind ≡ Object → Remembers m.parent us)
      → Ready m.count (m.count - 1) (set ts (m.count - 1) (opener_of kind m.parent false))
  settled kind led =
      let x : Token = opener_of kind m.parent false in
      let l : length (set ts (m.count - 1) x) ≡ length ts = length-set ts (m.count - 1) x in
      let e : set ts (m.count - 1) x ≡ us ++ (x ∷ []) = settled-tokens kind in
      record {
        rest = record { counted = c ∙ sym l; resting = rw (e, place) (kept-opener us kind m.parent k some led) };
        some = rw e (omega (arith, add-length us x));
      }

  -- an Array is no Object
  array-settled : Ready m.count (m.count - 1) (set ts (m.count - 1) (opener_of Array m.parent false))
  array-settled = settled Array (λ e. array-no-object e)

  settled-apart : (kind : ContainerKind) → Apart (set ts (m.count - 1) (opener_of kind m.parent false))
  settled-apart kind = rw (settled-tokens kind) (apart-add us (opener_of kind m.parent false) k.row)

  opener-last : Signed false (set ts (m.count - 1) (opener_of Array m.parent false))
  opener-last e = codes-differ (λ z. omega arith) (rw (settled-tokens Array, add-last us (opener_of Array m.parent false)) at e)

  -- a scalar, and what the byte behind it says
  pub begun_held : {text : List ℕ} {at : ℕ} {x : Token} {rest : ℕ} {kind : ContainerKind} {state : State} → Taken text m.at x rest
      → Settles kind state
      → Held (record { at = at; state = state; parent = m.count + 1 - 2; mixed = false; count = m.count + 1 })
      (set (flagged (ts ++ (x ∷ [])) (to m rest ParseOpen (m.count + 1))) (m.count + 1 - 2) (opener_of kind m.parent false))
  begun_held {at = at} {x = x} {rest = rest} {kind = kind} {state = state} taken s =
      let past : Machine = to m rest ParseOpen (m.count + 1) in
      let fresh : Fresh (Signed m.mixed) (m.count + 1) m.parent (ts ++ (x ∷ [])) = record {
        before = us;
        led = signed;
        first = x;
        counted = counted-add ts x c;
        standing = rw standing (sym (snoc_two us unsettled x));
        kept = k;
        some = some;
        plain = (taken-plain taken).0;
        scalar = (taken-plain taken).1;
      }
      in
      settle-held past (flagged (ts ++ (x ∷ [])) past) kind at state (settles-settled s) (flag-held past (ts ++ (x ∷ [])) fresh)

  -- a container for a first entry
  pub settled-held : Held (record { at = m.at; state = ArrayValue; parent = m.count - 1; mixed = false; count = m.count })
      (set ts (m.count - 1) (opener_of Array m.parent false))
  settled-held =
      let g = array-settled in
      record { counted = g.rest.counted; shaped = (g.rest.resting, g.some, opener-last, λ z. settled-apart Array) }

  -- the opener as an Object, where a parameter is asked for
  pub object-rests : m.mixed ≡ false → RestingAt m.count (m.count - 1) (set ts (m.count - 1) (opener_of Object m.parent false))
  object-rests off = (settled Object (λ o h. not_both (signed h) off)).rest

  -- the opener and its End are those of a settled Array that is closed
  pub emptied_held : Held (resumed (container_in ts m.parent) m.parent (m.at + 1) (m.count + 1))
      (closed_as ts (m.count - 1) (opener_of Array m.count false))
  emptied_held =
      let op : Token = opener_of Array m.parent false in
      let vs : List Token = us ++ (op ∷ []) in
      let l : length vs ≡ m.count = omega (arith, add-length us op, add-length us unsettled, ap length standing) in
      let x : Token = opener_of Array m.count false in
      let opened = kept-opener us Array m.parent k some (λ o. array-no-object o) in
      let here = ap link_of (add_new us op) ∙ opens-link op (Array, false, refl) in
      let r = kept-close vs (length us) m.parent x (Array, false, rw l) opened here (parent-below k.links some) in
      let same : closed_as ts (m.count - 1) x ≡ set vs (length us) x ++ (end_of (length us) ∷ []) =
      rw (standing, reset us unsettled x [] place, place, set-append_seam us op [] x)
      in
      let n : length (set vs (length us) x ++ (end_of (length us) ∷ [])) ≡ length vs + 1 = closed-length vs (length us) x (end_of (length us)) in
      record {
        counted = rw (same, n, l);
        shaped = rw same (resumes (container_in ts m.parent) (set vs (length us) x) m.parent (length us) r);
      }
