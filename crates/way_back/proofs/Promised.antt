-- A plain sheet is accepted, given room and within the depth and text limits.
-- Assumes nothing.
use mathlib.Core.Path.{◌≡◌, sym}
use mathlib.Core.Bool.{true, false}
use mathlib.Core.List.{List}
use Prim.Native.Nat.{ℕ, ◌≤◌}
use native.Mathlib.Omega.{arith}
use lib.ListN.{length}
use Rattle.tape.specs.declared.token.Token.{Token}
use Rattle.tape.specs.Words.{capacity}
use Rattle.parse.specs.Parse.{text_limit}
use Rattle.writer.specs.Forest.{forest_of}
use Rattle.writer.specs.Write.{text_of, formed}
use Rattle.way_back.specs.Plain.{Plain}
use Rattle.way_back.specs.Accepted.{ReadsBack, PlainAccepted, PlainPromised}
use Rattle.way_back.proofs.Tree.{Tree, write_tree, flatten_tree}
use Rattle.way_back.proofs.Same.{alike-length}
use Rattle.way_back.proofs.Views.{spelled-tree, one-tree}
use Rattle.way_back.proofs.Parts.{plain-parts}
use Rattle.way_back.proofs.Shaped.{Treed, tree_of, plain_treed}
use Rattle.way_back.proofs.Texts.{root_written, turn_formed}
use Rattle.way_back.proofs.Whole.{plain_back}
use Rattle.way_back.proofs.Answers.{given_accepts, promised}
use Rattle.way_back.proofs.Exactly.{Comes, comes_anywhere}

-- tokens that spell a plain tree come back from what is written for it
treed_comes : (text : List ℕ) (ts : List Token) (t : Tree) → Treed text ts t → length (write_tree t) ≤ text_limit → Comes text (write_tree t) ts
treed_comes text ts t h fits =
    let a = one-tree text (write_tree t) t ts (flatten_tree t) h.spells (spelled-tree t) in
    let n : length ts ≡ length (flatten_tree t) = alike-length text (write_tree t) ts (flatten_tree t) a in
    record {
      bom = false;
      tokens = flatten_tree t;
      laid = record { counted = sym n; parsed = λ len room. rw n (plain_back t h.plain fits len (omega arith)) };
      same = a;
    }

module _ (text : List ℕ) (ts : List Token) (p : Plain text ts) where
  -- it is of the form
  pub plain-formed : formed ts ≡ true
  plain-formed = turn_formed text (forest_of ts) p.in_turn (plain-parts text ts p)

  -- and its text reads back
  pub plain-reads-back : length (text_of text ts) ≤ text_limit → (len : ℕ) → length ts ≤ capacity len → ReadsBack text ts len
  unfolding text_of
  plain-reads-back fits len room =
      let e : text_of text ts ≡ write_tree (tree_of text ts) = root_written text (forest_of ts) p.in_turn (plain-parts text ts p) in
      rw e (comes_anywhere text (write_tree (tree_of text ts)) ts (treed_comes text ts (tree_of text ts) (plain_treed text ts p) (rw e at fits)) len room)

-- so it is accepted
pub plain-accepted : (text : List ℕ) (ts : List Token) → PlainAccepted text ts
plain-accepted text ts p room scratch g =
    given_accepts text ts room scratch (plain-formed text ts p) g (plain-reads-back text ts p g.limit scratch g.tape)

-- and with no more given it is never 45 or 46
pub plain-promised : (text : List ℕ) (ts : List Token) → PlainPromised text ts
plain-promised text ts p room scratch =
    promised text ts room scratch (plain-formed text ts p) (λ g. plain-reads-back text ts p g.limit scratch g.tape)
