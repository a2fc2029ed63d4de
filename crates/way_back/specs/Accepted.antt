-- When a sheet is accepted.
use Rattle.std.specs.Prelude.{ℕ, ◌≤◌, Result, Ok, Err, true, false, ◌≡◌, List, ◌↔◌, length}
use Rattle.tape.specs.declared.token.Token.{Token}
use Rattle.tape.specs.Words.{capacity}
use Rattle.machine.specs.Finish.{Outcome}
use Rattle.parse.specs.Parse.{text_limit, parse_of}
use Rattle.writer.specs.declared.Refusal.{Refusal}
use Rattle.writer.specs.declared.Refusal.TheVariants.{ReadsOtherwise, OtherForm}
use Rattle.alike.specs.Alike.{comes_back}
use Rattle.writer.specs.Write.{Left, left, accept, text_of, formed, too_deep, write_of}
use Rattle.way_back.specs.Plain.{Plain}

-- given room and within the depth and text limits: for the sheet of some tokens over a text, a buffer of so many bytes and a scratch of
-- so many words
pub record Given (text : List ℕ) (ts : List Token) (room scratch : ℕ) : Type 0 where
  pub depth : too_deep ts ≡ false
  pub limit : length (text_of text ts) ≤ text_limit
  pub buffer : length (text_of text ts) ≤ room
  pub tape : length ts ≤ capacity scratch

-- accepted as some bytes: the answer is their length, they stand in the buffer, and the rest and the scratch are zero
abbrev pub AcceptedAs : List ℕ → List Token → ℕ → ℕ → List ℕ → Type 0
AcceptedAs text ts room scratch bytes = write_of text ts room scratch true ≡ accept room scratch bytes

-- accepted: as the text
abbrev pub Accepted : List ℕ → List Token → ℕ → ℕ → Type 0
Accepted text ts room scratch = AcceptedAs text ts room scratch (text_of text ts)

-- the text written parses, on a tape of so many words, to the same codes, words and scalar bytes, offsets aside
abbrev pub ReadsBack : List ℕ → List Token → ℕ → Type 0
ReadsBack text ts len = comes_back text (text_of text ts) ts (parse_of (text_of text ts) len) ≡ true

-- the answer alone
abbrev pub answer_of : Left → Result ℕ Refusal
answer_of (left answer buffer scratch) = answer

-- the answer is a length
abbrev pub AnswersLength : Left → Type 0
AnswersLength written = (size : ℕ) × (answer_of written ≡ Ok size)

-- ---- accepted exactly when the text written parses to the same tokens, on any tape with room for the count
-- a sheet of the form
abbrev pub AcceptedExactly : List ℕ → List Token → ℕ → ℕ → Type 0
AcceptedExactly text ts room scratch =
    Given text ts room scratch → formed ts ≡ true → (len : ℕ) → length ts ≤ capacity len
    → Accepted text ts room scratch ↔ ReadsBack text ts len

-- an answer to some tokens over a text, with what it leaves, beside what a parse of their text answers and leaves
pub record Exactly (text : List ℕ) (ts : List Token) (room scratch : ℕ) (written : Left) (parsed : Outcome) : Type 0 where
  -- it is a length exactly when the sheet is of the form and those are the same tokens
  pub exactly : AnswersLength written ↔ ((formed ts ≡ true) × (comes_back text (text_of text ts) ts parsed ≡ true))
  -- and a length is the text's, which stands in the buffer
  pub accepted : AnswersLength written → written ≡ accept room scratch (text_of text ts)

-- any sheet
abbrev pub LengthExactly : List ℕ → List Token → ℕ → ℕ → Type 0
LengthExactly text ts room scratch =
    Given text ts room scratch → (len : ℕ) → length ts ≤ capacity len
    → Exactly text ts room scratch (write_of text ts room scratch true) (parse_of (text_of text ts) len)

-- ---- plain sheets
-- with room, depth and limits the text is written
abbrev pub PlainAccepted : List ℕ → List Token → Type 0
PlainAccepted text ts = Plain text ts → (room scratch : ℕ) → Given text ts room scratch → Accepted text ts room scratch

-- never 45 or 46
pub record Promised (answer : Result ℕ Refusal) : Type 0 where
  pub not_45 : answer ≡ Err ReadsOtherwise → ⊥
  pub not_46 : answer ≡ Err OtherForm → ⊥

-- with whatever room
abbrev pub PlainPromised : List ℕ → List Token → Type 0
PlainPromised text ts = Plain text ts → (room scratch : ℕ) → Promised (answer_of (write_of text ts room scratch true))
