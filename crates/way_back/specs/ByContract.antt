-- What the contracts of the calls themselves promise together, told of the values of calls.
use Rattle.std.specs.Prelude.{ℕ, Ok, ◌-◌, ◌≤◌, Bool, ◌≡◌, List, ◌++◌, length, take}
use Rattle.tape.specs.declared.token.Token.{Token}
use Rattle.tape.specs.Words.{capacity, words_for, tokens_in}
use Rattle.machine.specs.Finish.{Outcome, outcome, with_tokens}
use Rattle.sheet.specs.Sound.{Sound}
use Rattle.writer.specs.Write.{Left, left, zeros, accept, text_of}
use Rattle.way_back.specs.Plain.{Plain}
use Rattle.way_back.specs.Accepted.{Given, answer_of, Exactly, Promised}
use Rattle.way_back.specs.Stable.{LeavesAlike}

-- a call of `write`: the text, the words and the count that it is given, the lengths of the buffer and of the scratch that it is lent,
-- and its answer with what it leaves in them
pub record WriteCall : Type 0 where
  pub text : List ℕ
  pub words : List ℕ
  pub count : ℕ
  pub room : ℕ
  pub scratch : ℕ
  pub written : Left

-- a call of `parse`: the text, the length of the tape that it is lent, and its answer with what it leaves on it
pub record ParseCall : Type 0 where
  pub text : List ℕ
  pub len : ℕ
  pub parsed : Outcome

abbrev pub sheet_of : WriteCall → List Token
sheet_of w = tokens_in w.words w.count

-- ---- accepted exactly when what a parse of the text that is written answers and leaves is the same, on a tape with room for the count
abbrev pub WriteExactly : WriteCall → ParseCall → Type 0
WriteExactly w p =
    Sound (length w.text) w.words w.count → Given w.text (sheet_of w) w.room w.scratch
    → p.text ≡ text_of w.text (sheet_of w) → w.count ≤ capacity p.len
    → Exactly w.text (sheet_of w) w.room w.scratch w.written p.parsed

-- ---- plain sheets are accepted
-- the answer is never 45 or 46, and given room and within the limits it is the text
pub record Kept (text : List ℕ) (ts : List Token) (room scratch : ℕ) (written : Left) : Type 0 where
  pub promised : Promised (answer_of written)
  pub accepted : Given text ts room scratch → written ≡ accept room scratch (text_of text ts)

abbrev pub WritePlain : WriteCall → Type 0
WritePlain w =
    words_for w.count ≤ length w.words → Plain w.text (sheet_of w)
    → Kept w.text (sheet_of w) w.room w.scratch w.written

-- ---- writing is stable
-- the first bytes of the buffer that was left
abbrev pub front_of : ℕ → Left → List ℕ
front_of size (left answer buffer scratch) = take size buffer

-- a length was answered, and that many bytes of the buffer are parsed
pub record ParsesWritten (w : WriteCall) (size : ℕ) (p : ParseCall) : Type 0 where
  pub answered : answer_of w.written ≡ Ok size
  pub text : p.text ≡ front_of size w.written

-- what a parse left is written, over the text that it parsed, with room
pub record WritesParsed (p : ParseCall) (v : WriteCall) : Type 0 where
  pub bom : Bool
  pub parsed : p.parsed ≡ outcome (with_tokens v.count bom) v.words
  pub text : v.text ≡ p.text
  pub buffer : length p.text ≤ v.room
  pub tape : v.count ≤ capacity v.scratch

-- what is written and parsed is the sheet, offsets aside, on any tape with room for the count
abbrev pub WriteParses : WriteCall → ParseCall → Type 0
WriteParses w p =
    (size : ℕ) → ParsesWritten w size p → w.count ≤ capacity p.len → LeavesAlike w.text (sheet_of w) p.text p.parsed

-- and written again it is the same length and the same bytes, and zeros behind them
abbrev pub WriteStable : WriteCall → ParseCall → WriteCall → Type 0
WriteStable w p v =
    (size : ℕ) → ParsesWritten w size p → WritesParsed p v
    → v.written ≡ left (Ok size) (front_of size w.written ++ zeros (v.room - size)) (zeros v.scratch)
