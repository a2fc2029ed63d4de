-- Every plain sheet, written out, parses back to itself.
-- Assumes nothing.
use mathlib.Core.Path.{◌≡◌, refl, sym, ◌∙◌, ap}
use mathlib.Core.Bool.{false}
use mathlib.Core.List.{List, [], ◌∷◌, ◌++◌, append-nil}
use Prim.Native.Nat.{ℕ, ◌+◌, ◌≤◌, ◌<◌}
use native.Mathlib.Omega.{arith}
use borrow.Author.Tests.{le-ltb}
use lib.Dec.{eqb}
use lib.ListN.{length, drop}
use Rattle.data.specs.Bytes.{equals}
use Rattle.data.specs.Classes.{is_boundary}
use Rattle.tape.specs.declared.token.Token.{Token}
use Rattle.tape.specs.Token.{container_of}
use Rattle.tape.specs.Tape.{Tape}
use Rattle.tape.specs.Words.{padded, capacity}
use Rattle.machine.specs.declared.State.TheVariants.{Key}
use Rattle.machine.specs.declared.Machine.{Machine}
use Rattle.machine.specs.Start.{bom_first, has_bom, start}
use Rattle.parse.specs.After.{After, next, done}
use Rattle.parse.specs.Containers.{text_end, key_end}
use Rattle.machine.specs.Finish.{outcome, with_tokens}
use Rattle.parse.specs.Parse.{turn, run, enough, text_limit, parse_of}
use Rattle.parse.proofs.Falls.{left}
use Rattle.parse.proofs.Runs.{run-add, run-done, run-enough, within-enough}
use Rattle.promises.specs.Room.{run_in}
use Rattle.way_back.proofs.Rooms.{with_room}
use Rattle.way_back.proofs.Tree.{Word, unquoted, quoted, Tree, nothing, pairs, write_word, write, write-pairs, write_tree}
use Rattle.way_back.proofs.Tree.{token_of, flatten, flatten_tree, PlainTree}
use Rattle.way_back.proofs.Stands.{further, one_on}
use Rattle.way_back.proofs.Bytes.{spared}
use Rattle.way_back.proofs.Cuts.{skip-none, skip-end}
use Rattle.way_back.proofs.Turns.{on, machine, now, Held, held_more, word_first, begun, key-word}
use Rattle.way_back.proofs.Back.{Reaches, step, ◌then◌, read-value, entry_reads, pairs_read, pairs_end}

-- the text's end at the root
root_ends : (text : List ℕ) (at : ℕ) (ts : List Token) → drop at text ≡ []
    → turn text (on ts) (machine at Key 0 (length ts)) ≡ done (length ts) (on ts)
unfolding turn text_end key_end
root_ends text at ts e = rw (turn, skip-end text at e)

-- a scalar at the front opens nothing
root_held : (k : Word) → Held (token_of k 0 ∷ []) 0 Key
unfolding container_of
root_held (unquoted bs) = record { within = omega arith; state = refl; mixed = refl }
root_held (quoted bs) = record { within = omega arith; state = refl; mixed = refl }

-- from the start to the end
pub tree-reads : (t : Tree) → PlainTree t → Reaches (write_tree t) (now 0 Key 0 []) (done (length (flatten_tree t)) (on (flatten_tree t)))
unfolding is_boundary
tree-reads nothing pl = step (root_ends [] 0 [] refl)
tree-reads (pairs k e ps) pl =
    let text : List ℕ = write_tree (pairs k e ps) in
    let K : List ℕ = write_word k in
    let W : List ℕ = write e in
    let P : List ℕ = write-pairs ps in
    let s1 : drop 0 text ≡ K ++ (equals ∷ (W ++ P)) = refl in
    let f = word_first k pl.0 in
    let b = begun text 0 K (equals ∷ (W ++ P)) s1 f in
    let a : ℕ = 0 + length K in
    let s2 : drop a text ≡ equals ∷ (W ++ P) = further text 0 K s1 in
    let s4 : drop (a + 1 + length W) text ≡ P = further text (a + 1) W (one_on text a s2) in
    let s5 : drop (a + 1 + length W + length P) text ≡ [] = further text (a + 1 + length W) P (s4 ∙ sym (append-nil P)) in
    let T1 : List Token = token_of k 0 ∷ [] in
    let X : List Token = flatten e (a + 1) 1 in
    let h : Held T1 0 Key = root_held k in
    step (key-word text k 0 0 (equals ∷ (W ++ P)) 0 [] pl.0 (skip-none text 0 b f.fits.begins.blank f.fits.begins.comment) s1 refl)
    then read-value e (entry_reads e) text a P 0 1 T1 pl.1 h refl s2 (rw append-nil at (pairs_end ps [] refl))
    then pairs_read ps text (a + 1 + length W) [] 0 (1 + length X) (T1 ++ X) pl.2 (held_more T1 X 0 Key h) (omega arith) (s4 ∙ sym (append-nil P)) refl
    then step (root_ends text (a + 1 + length W + length P) (flatten_tree (pairs k e ps)) s5)

-- what ends after some turns ends so with the turns that a parse is given
pub ended : (text : List ℕ) (m : Machine) (t t' : Tape) (k : ℕ) → Reaches text (next m t) (done k t')
    → run text (enough text) (next m t) ≡ done k t'
ended text m t t' k r =
    let few = within-enough text m in
    let more : left text m.at m.state < r.turns + enough text = omega (arith, few) in
    run-enough text (enough text) (r.turns + enough text) m t few more
    ∙ run-add text r.turns (enough text) (next m t)
    ∙ ap (λ (x : After). run text (enough text) x) r.there
    ∙ run-done text (enough text) k t'

-- no written text begins as a BOM does
no_bom : (t : Tree) → PlainTree t → has_bom (write_tree t) ≡ false
unfolding has_bom
no_bom nothing pl = refl
no_bom (pairs (unquoted []) e ps) pl = absurd pl.0
no_bom (pairs (unquoted (b ∷ bs)) e ps) pl = rw (has_bom, spared (λ x. eqb x bom_first) b refl pl.0.0)
no_bom (pairs (quoted bs) e ps) pl = refl

-- and so the parse, given room
pub plain_back : (t : Tree) → PlainTree t → length (write_tree t) ≤ text_limit → (len : ℕ) → length (flatten_tree t) ≤ capacity len
    → parse_of (write_tree t) len ≡ outcome (with_tokens (length (flatten_tree t)) false) (padded len (flatten_tree t))
unfolding run_in start
plain_back t pl fits len room =
    let text : List ℕ = write_tree t in
    let tokens : List Token = flatten_tree t in
    let none : has_bom text ≡ false = no_bom t pl in
    rw none at
    (with_room text len (length tokens) (on tokens) (le-ltb text_limit (length text) fits)
    (rw none (ended text (machine 0 Key 0 0) (on []) (on tokens) (length tokens) (tree-reads t pl))) room)
