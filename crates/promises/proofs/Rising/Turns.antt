-- Every turn keeps the views rising, up to the place that it has come to.
-- Assumes nothing.
use Rattle.std.specs.Prelude.{Option, None, Result}
use mathlib.Core.Path.{◌≡◌, refl, sym, ◌∙◌, ap}
use mathlib.Core.Bool.{Bool, true, false, false≢true}
use mathlib.Core.List.{List, [], ◌∷◌, ◌++◌}
use Prim.Native.Nat.{ℕ, ◌+◌, ◌-◌, ◌≤◌, ◌<◌, min}
use native.Mathlib.Omega.{arith}
use native.Mathlib.Nat.{add-sub_cancel}
use lib.ListN.{length, set, length-append}
use Rattle.data.proofs.Cases.{by_bool}
use Rattle.cut.specs.Runs.{run_end}
use Rattle.cut.proofs.Scalars.{unquoted_bounds, quoted_bounds}
use Rattle.tape.specs.declared.token.Token.{Token}
use Rattle.tape.specs.declared.token.ScalarKind.{ScalarKind}
use Rattle.tape.specs.declared.token.ScalarKind.TheVariants.{Unquoted}
use Rattle.tape.specs.declared.token.ContainerKind.{ContainerKind}
use Rattle.tape.specs.declared.token.ContainerKind.TheVariants.{Array, Object}
use Rattle.tape.specs.declared.token.Container.{Container}
use Rattle.tape.specs.Token.{opener_of, operator_of, headed, quoted_kind, opened}
use Rattle.tape.proofs.Makers.{quoted-empty}
use Rattle.tape.specs.Tape.{token_at, replace}
use Rattle.operator.specs.Operators.{number_of}
use Rattle.machine.specs.declared.State.{State}
use Rattle.machine.specs.declared.State.TheVariants.{Key, KeyValueSeparator, ObjectValue, ParseOpen, ArrayValue}
use Rattle.machine.specs.declared.Machine.{Machine}
use Rattle.machine.specs.Machine.{to}
use Rattle.machine.specs.Parents.{parent_of, state_in}
use Rattle.parse.specs.ParseOpen.{flag_parent}
use Rattle.parse.proofs.Splits.{by-container}
use Rattle.parse.proofs.Moves.{Moved, container_in, above, unsettled, flagged, Taken, unquoted, quoted, Asked, run_token, Takes}
use Rattle.parse.proofs.Moves.{key, value}
use Rattle.parse.proofs.Moves.{entry, Settles, with_key, with_entry, Asks, asks_key, asks_open, Came, passes, separates, takes, separates_by, operates, mixes}
use Rattle.parse.proofs.Moves.{mixes_by, opens, heads, closes, empties, settles, begins, values, objects, refuses, Over, done_bare, done_closed, too_early}
use Rattle.parse.proofs.Moves.{name-run, value-run, value-rest}
use Rattle.parse.proofs.Walk.{Meets, Keeps}
use Rattle.sheet.specs.Sound.{nth}
use Rattle.promises.proofs.Rising.Spans.{span_of, spans, Upto, opener-bare, operator-bare, upto-later}
use Rattle.promises.proofs.Rising.Links.{Stands, link, opener-link, stands-unlinked, stands_up, stands_set, nth-add, nth_last, nth-set}
use Rattle.promises.proofs.Rising.Laid.{Base, operator-link, opened-bare, headed-span, headed-link, base-later, base_in, base-bare, base-scalar}
use Rattle.promises.proofs.Rising.Laid.{base-run, base-set, base-mixed, base-close, stands-closed, open_bare}
use Rattle.tape.proofs.Makers.{by_opened}

-- in ParseOpen the last token is no scalar
abbrev pub Topped : State → ℕ → List Token → Type 0
Topped Key count ts = Unit {0}
Topped KeyValueSeparator count ts = Unit {0}
Topped ObjectValue count ts = Unit {0}
Topped ParseOpen count ts = (0 < count) × (span_of (nth ts (count - 1)) ≡ [])
Topped ArrayValue count ts = Unit {0}

-- what a machine that goes on keeps: the views rise up to its place, and its links lead to no scalar
pub record Risen (text_length : ℕ) (m : Machine) (ts : List Token) : Type 0 where
  pub base : Base text_length m.at m.count m.parent ts
  pub topped : Topped m.state m.count ts

-- what a finished tape has
pub record RisenWhole (text_length : ℕ) (count : ℕ) (ts : List Token) : Type 0 where
  pub counted : count ≡ length ts
  pub rising : Upto 0 (spans ts) text_length

-- ---- states in which no token has to stand last
-- taking up a parent never leads to ParseOpen
resumed-topped : (c : Option Container) (count : ℕ) (ts : List Token) → Topped (state_in c) count ts
resumed-topped c count ts = by_opened (λ c. Topped (state_in c) count ts) go tt c
  where
    go : (kind : ContainerKind) (link : ℕ) (mixed : Bool) → Topped (state_in (opened kind link mixed)) count ts
    go Array link mixed = tt
    go Object link true = tt
    go Object link false = tt

taken-topped : {s state : State} → Takes s state → (count : ℕ) (ts : List Token) → Topped state count ts
taken-topped (key e) count ts = tt
taken-topped (value e) count ts = tt
taken-topped (entry e) count ts = tt

settled-topped : {kind : ContainerKind} {state : State} → Settles kind state → (count : ℕ) (ts : List Token) → Topped state count ts
settled-topped with_key count ts = tt
settled-topped with_entry count ts = tt

-- ---- what a tape with rising views keeps
module _ {L at count parent : ℕ} {ts : List Token} (b : Base L at count parent ts) where
  -- an operator
  operator-base : (number later : ℕ) → at ≤ later → Base L later (count + 1) parent (ts ++ (operator_of number ∷ []))
  operator-base number later h =
      let x = operator_of number in
      base-later (base-bare b x (operator-bare number) (stands-unlinked ts (link x) (operator-link number))) later h

  -- an unsettled opener, which then stands last
  unsettled-base : (later : ℕ) → at ≤ later → Base L later (count + 1) parent (ts ++ (unsettled ∷ []))
  unsettled-base later h =
      base-later (base-bare b unsettled (opener-bare Array 0 false) (stands-unlinked ts (link unsettled) (opener-link Array 0 false))) later h

  unsettled-topped : Topped ParseOpen (count + 1) (ts ++ (unsettled ∷ []))
  unsettled-topped = (omega arith, rw (add-sub_cancel count 1, b.linked.counted, nth_last ts unsettled) (opener-bare Array 0 false))

  -- an opener that stands in the tokens gets its kind and becomes the parent
  settled-base : (kind : ContainerKind) (i : ℕ) → i < count → span_of (nth ts i) ≡ [] → Base L at count i (set ts i (opener_of kind parent false))
  settled-base kind i below e =
      let x = opener_of kind parent false in
      let same : span_of x ≡ span_of (nth ts i) = opener-bare kind parent false ∙ sym e in
      let up : Stands ts (link x) = rw (opener-link kind parent false) b.linked.inside in
      base_in (base-set b i x same up) i (stands_set ts i x i same (λ z. (omega (arith, b.linked.counted), e)))

  -- an Object opened behind the others
  object-base : Base L at (count + 1) count (ts ++ (opener_of Object parent false ∷ []))
  object-base =
      let x = opener_of Object parent false in
      let bare : span_of x ≡ [] = opener-bare Object parent false in
      let up : Stands ts (link x) = rw (opener-link Object parent false) b.linked.inside in
      base_in (base-bare b x bare up) count (rw b.linked.counted (λ z. (omega (arith, length-append ts (x ∷ [])), rw (nth_last ts x) bare)))

-- a scalar that is cut
taken-base : {text : List ℕ} {at : ℕ} {x : Token} {rest : ℕ} → Taken text at x rest → {count parent : ℕ} {ts : List Token}
    → Base (length text) at count parent ts
    → Base (length text) rest (count + 1) parent (ts ++ (x ∷ []))
taken-base {text} {at} (unquoted start end rest q) b =
    let v = unquoted_bounds text at start end rest q in
    base-run b Unquoted start end rest (omega (arith, v.starts)) (omega (arith, v.starts, v.moves)) v.within (omega (arith, v.goes_on))
taken-base {text} {at} (quoted start end rest escaped q) b =
    let v = quoted_bounds text at start end rest escaped q in
    base-scalar b (quoted_kind escaped) start (end - start) rest
    record {
      from = omega (arith, v.starts);
      starts = omega (arith, v.run.from, v.run.within, v.goes_on);
      ends = omega (arith, v.run.from, v.run.within, v.goes_on);
      full = λ z. absurd (false≢true (sym z ∙ quoted-empty escaped));
    }

-- the parent's stored flag is set: no view changes
module _ {L : ℕ} (m : Machine) (ts : List Token) (b : Base L m.at m.count m.parent ts) where
  flag_keeps : Base L m.at m.count m.parent (flagged ts m)
  unfolding flag_parent token_at replace
  flag_keeps =
      by_bool m.mixed
      (λ e. by-container (container_in ts m.parent)
      (λ kind up mixed f.
      let x = opener_of kind up true in
      let here : link (nth ts m.parent) ≡ up = ap parent_of f in
      let over : Stands ts (link x) = rw (opener-link kind up true, ← here) (stands_up m.parent b.linked) in
      rw (flagged, flag_parent, e, f) (base-set b m.parent x (opener-bare kind up true ∙ sym (opened-bare (nth ts m.parent) kind up mixed f)) over))
      (λ f. rw (flagged, flag_parent, e, f) b))
      (λ e. rw (flagged, flag_parent, e) b)

  flag-views : (i : ℕ) → span_of (nth (flagged ts m) i) ≡ span_of (nth ts i)
  unfolding flag_parent token_at replace
  flag-views i =
      by_bool m.mixed
      (λ e. by-container (container_in ts m.parent)
      (λ kind up mixed f. rw (flagged, flag_parent, e, f)
      (nth-set ts m.parent (opener_of kind up true) i (opener-bare kind up true ∙ sym (opened-bare (nth ts m.parent) kind up mixed f))))
      (λ f. rw (flagged, flag_parent, e, f)))
      (λ e. rw (flagged, flag_parent, e))

-- ---- the moves
module _ (text : List ℕ) (m : Machine) (ts : List Token) (k : Risen (length text) m ts) where
  abbrev L : ℕ
  L = length text

  b : Base L m.at m.count m.parent ts
  b = k.base

  -- where a parameter is asked for
  asks-base : {parent : ℕ} {us : List Token} → Asks m ts parent us → Base L m.at m.count parent us
  asks-base (asks_key e) = b
  asks-base (asks_open e off) =
      let top : Topped ParseOpen m.count ts = rw e at k.topped in
      settled-base b Object (m.count - 1) (omega (arith, top.0)) top.1

  -- behind its name
  named-base : {parent : ℕ} {us : List Token} {kind : ScalarKind} {name : ℕ} → Asks m ts parent us → Asked text m.at kind name
      → Base L (run_end text name + 1) (m.count + 1) parent (us ++ (run_token kind name (run_end text name) ∷ []))
  named-base {kind = kind} {name = name} asks asked =
      let n = name-run asked in
      base-run (asks-base asks) kind name (run_end text name) (run_end text name + 1) (omega (arith, n.from)) n.moves n.within (omega arith)

  -- the first scalar of a container, with the parent's flag set and the opener settled
  begun_base : {x : Token} {rest : ℕ} → m.state ≡ ParseOpen → Taken text m.at x rest → (kind : ContainerKind)
      → Base L rest (m.count + 1) (m.count + 1 - 2)
      (set (flagged (ts ++ (x ∷ [])) (to m rest ParseOpen (m.count + 1))) (m.count + 1 - 2) (opener_of kind m.parent false))
  begun_base {x} {rest} e taken kind =
      let top : Topped ParseOpen m.count ts = rw e at k.topped in
      let past : Machine = to m rest ParseOpen (m.count + 1) in
      let c : Base L rest (m.count + 1) m.parent (ts ++ (x ∷ [])) = taken-base taken b in
      let one-back : m.count + 1 - 2 ≡ m.count - 1 = omega arith in
      let below : m.count - 1 < length ts = omega (arith, b.linked.counted, top.0) in
      let bare : span_of (nth (ts ++ (x ∷ [])) (m.count + 1 - 2)) ≡ [] = rw (one-back, nth-add ts x (m.count - 1) below) top.1 in
      settled-base (flag_keeps past (ts ++ (x ∷ [])) c) kind (m.count + 1 - 2) (omega (arith, top.0))
      (flag-views past (ts ++ (x ∷ [])) c (m.count + 1 - 2) ∙ bare)

  move_keeps : {n : ℕ} {x : Moved} → Came text m ts n x → Meets (Risen L) (RisenWhole L) x
  move_keeps (passes at e h) = record { base = base-later b at (omega arith); topped = rw e at k.topped }
  move_keeps (separates at e h) = record { base = base-later b at h; topped = tt }
  move_keeps (takes s taken) = record { base = taken-base taken b; topped = taken-topped s _ _ }
  move_keeps (separates_by {w} o e f h) = record { base = operator-base b (number_of o) (m.at + w) (omega arith); topped = tt }
  move_keeps (operates {w} o e f h) = record { base = operator-base b (number_of o) (m.at + w) (omega arith); topped = tt }
  move_keeps (mixes e) = record { base = base-mixed b; topped = tt }
  move_keeps (mixes_by {w} o e f s h) = record { base = operator-base (base-mixed b) (number_of o) (m.at + w) (omega arith); topped = tt }
  move_keeps (opens s) = record { base = unsettled-base b (m.at + 1) (omega arith); topped = unsettled-topped b }
  move_keeps (heads {at} e h s) =
      let i : ℕ = m.count - 1 in
      let c = base-set b i (headed (nth ts i)) (headed-span (nth ts i) s) (stands-unlinked ts (link (headed (nth ts i))) (headed-link (nth ts i))) in
      record { base = unsettled-base c at (omega arith); topped = unsettled-topped c }
  move_keeps (closes {kind} s e) =
      let bare : span_of (nth ts m.parent) ≡ [] = open_bare b e in
      let up : ℕ = above ts m.parent in
      let over = stands-closed b m.parent (kind, m.mixed, refl) up bare (stands_up m.parent b.linked) in
      record {
        base = base-later (base_in (base-close b m.parent (kind, m.mixed, refl) bare) up over) (m.at + 1) (omega arith);
        topped = resumed-topped (container_in ts up) _ _;
      }
  move_keeps (empties e) =
      let top : Topped ParseOpen m.count ts = rw e at k.topped in
      record {
        base = base-later (base-close b (m.count - 1) (Array, false, refl) top.1) (m.at + 1) (omega arith);
        topped = resumed-topped (container_in ts m.parent) _ _;
      }
  move_keeps (settles e) =
      let top : Topped ParseOpen m.count ts = rw e at k.topped in
      record { base = settled-base b Array (m.count - 1) (omega (arith, top.0)) top.1; topped = tt }
  move_keeps (begins {at = at} {kind = kind} e taken h s) = record { base = base-later (begun_base e taken kind) at h; topped = settled-topped s _ _ }
  move_keeps (values {start = start} {rest = rest} asks asked valued) =
      let v = value-run valued in
      record {
        base = base-run (named-base asks asked) Unquoted start (run_end text start) (rest + 1) v.from v.moves v.within
            (omega (arith, (value-rest valued).from));
        topped = tt;
      }
  move_keeps (objects {start = start} {rest = rest} asks asked valued) =
      let v = value-run valued in
      record {
        base = base-run (object-base (named-base asks asked)) Unquoted start (run_end text start) rest v.from v.moves v.within
            (value-rest valued).from;
        topped = tt;
      }
  move_keeps (refuses r few) = tt

  -- the text's end
  finished : {n p : ℕ} {us : List Token} → Base L m.at n p us → RisenWhole L n us
  finished {n} {p} {us} c = record { counted = c.linked.counted; rising = upto-later 0 (spans us) (min m.at L) L (omega arith) c.rising }

  end_keeps : {n : ℕ} {x : Moved} → Over m ts n x → Meets (Risen L) (RisenWhole L) x
  end_keeps (done_bare e f) = finished b
  end_keeps (done_closed e f g) = finished (base-close b m.parent (Object, false, refl) (b.linked.inside f).1)
  end_keeps too_early = tt

-- every turn, by its moves
pub turn_keeps : (text : List ℕ) (m : Machine) (ts : List Token) → Risen (length text) m ts
    → Keeps (Risen (length text)) (RisenWhole (length text)) text m ts
turn_keeps text m ts k =
    record {
      moves = λ {p} landed by.
          move_keeps text (to m p m.state m.count) ts record { base = base-later k.base p landed.from; topped = k.topped } by;
      finishes = λ by. end_keeps text m ts k by;
    }
