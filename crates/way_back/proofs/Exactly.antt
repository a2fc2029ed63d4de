-- A sheet is accepted exactly when its text comes back, on any tape with room for the count.
-- Assumes nothing.
use Rattle.std.specs.Prelude.{Ok, Err}
use mathlib.Core.Path.{◌≡◌, refl, ap}
use mathlib.Core.Bool.{Bool, true, false≢true}
use mathlib.Core.List.{List}
use Prim.Native.Nat.{ℕ, ◌≤◌}
use borrow.Author.Tests.{eqb-true, eq-eqb}
use lib.Dec.{eqb}
use lib.ListN.{length}
use Rattle.tape.specs.declared.token.Token.{Token}
use Rattle.tape.specs.Words.{capacity, tokens_in}
use Rattle.machine.specs.Finish.{Outcome, outcome}
use Rattle.parse.specs.Parse.{parse_of}
use Rattle.alike.specs.Alike.{alike, found_alike, comes_back}
use Rattle.writer.specs.Write.{text_of, write_of}
use Rattle.way_back.specs.Accepted.{Accepted, answer_of, AnswersLength, AcceptedExactly, LengthExactly}
use Rattle.writer.proofs.Forms.{both, first_of, second_of}
use Rattle.way_back.proofs.Rooms.{Laid, found, laid_anywhere}
use Rattle.way_back.proofs.Answers.{given_accepts, settled}

-- the same tokens are laid down for another text
pub record Comes (text other : List ℕ) (ts : List Token) : Type 0 where
  pub bom : Bool
  pub tokens : List Token
  pub laid : Laid other (length ts) bom tokens
  pub same : alike text other ts tokens ≡ true

module _ (text other : List ℕ) (ts : List Token) where
  pub comes : (len : ℕ) → comes_back text other ts (parse_of other len) ≡ true → Comes text other ts
  unfolding found_alike
  comes len h = go (parse_of other len) refl h
    where
      go : (x : Outcome) → parse_of other len ≡ x → comes_back text other ts x ≡ true → Comes text other ts
      go (outcome (Ok p) words) e h =
          let c : p.count ≡ length ts = eqb-true p.count (length ts) (first_of (eqb p.count (length ts)) _ h) in
          record {
            bom = p.bom;
            tokens = tokens_in words p.count;
            laid = rw (← c) (laid_anywhere other len p.count p.bom words e);
            same = second_of (eqb p.count (length ts)) _ h;
          }
      go (outcome (Err r) words) e h = absurd (false≢true h)

  pub comes_anywhere : Comes text other ts → (len : ℕ) → length ts ≤ capacity len → comes_back text other ts (parse_of other len) ≡ true
  unfolding found_alike
  comes_anywhere c len room =
      let u : List Token = c.tokens in
      rw (c.laid.parsed len room, found len (length ts) u c.laid.counted) (both (eq-eqb (length ts) (length ts) refl) c.same)

pub accepted-exactly : (text : List ℕ) (ts : List Token) (room scratch : ℕ) → AcceptedExactly text ts room scratch
accepted-exactly text ts room scratch g f len fits = (
  λ a. comes_anywhere text (text_of text ts) ts (comes text (text_of text ts) ts scratch (settled text ts room scratch (_, ap answer_of a)).back) len fits,
  λ b. given_accepts text ts room scratch f g (comes_anywhere text (text_of text ts) ts (comes text (text_of text ts) ts len b) scratch g.tape),
)

pub length-exactly : (text : List ℕ) (ts : List Token) (room scratch : ℕ) → LengthExactly text ts room scratch
length-exactly text ts room scratch g len fits =
    record {
      exactly = (
        λ a. ((settled text ts room scratch a).form, (accepted-exactly text ts room scratch g (settled text ts room scratch a).form len fits).0 (whole a)),
        λ b. (_, ap answer_of ((accepted-exactly text ts room scratch g b.0 len fits).1 b.1)),
      );
      accepted = whole;
    }
  where
    whole : AnswersLength (write_of text ts room scratch true) → Accepted text ts room scratch
    whole a = let s = settled text ts room scratch a in given_accepts text ts room scratch s.form s.given s.back
