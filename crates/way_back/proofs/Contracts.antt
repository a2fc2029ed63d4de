-- The promises, of whatever answers the contracts of `write` and `parse` allow.
-- Assumes nothing.
use mathlib.Core.Path.{◌≡◌, sym, ◌∙◌, ap}
use mathlib.Core.Bool.{true}
use mathlib.Core.List.{List}
use Prim.Native.Nat.{ℕ, ◌-◌, ◌≤◌}
use native.Mathlib.Omega.{arith}
use lib.ListN.{length}
use lib.Seq.{take-append_seam}
use Rattle.tape.specs.Words.{capacity}
use Rattle.tape.proofs.Views.{tokens-length}
use Rattle.machine.specs.declared.Parsed.{Parsed}
use Rattle.machine.specs.Finish.{outcome}
use Rattle.parse.specs.Parse.{parse_of}
use Rattle.parse.proofs.parse.Reads as parse
use Rattle.sheet.specs.Decided.{Decided}
use Rattle.sheet.specs.Sound.{Sound}
use Rattle.std.specs.Prelude.{Result, Ok}
use Rattle.writer.specs.declared.Refusal.{Refusal}
use Rattle.writer.specs.Write.{Left, left, zeros, accept, text_of, write_of}
use Rattle.writer.proofs.write.Reads as write
use Rattle.way_back.specs.Accepted.{AcceptedAs, Accepted, answer_of}
use Rattle.way_back.specs.ByContract.{WriteCall, ParseCall, sheet_of, WriteExactly, WritePlain}
use Rattle.way_back.specs.ByContract.{front_of, ParsesWritten, WriteParses, WriteStable}
use Rattle.way_back.proofs.Answers.{given_accepts, settled, length-sound}
use Rattle.way_back.proofs.Exactly.{length-exactly}
use Rattle.way_back.proofs.Promised.{plain-accepted, plain-promised}
use Rattle.way_back.proofs.Stable.{parses_again, stable}
use Rattle.machine.specs.declared.Refusal.{Refusal as ParseRefusal}

-- ---- what the contracts say of a call's values
abbrev written_of : WriteCall → Left
written_of w = write_of w.text (sheet_of w) w.room w.scratch true

abbrev Writes : WriteCall → Type 0
Writes w =
    Decided (Sound (length w.text) w.words w.count) (write_of w.text (sheet_of w) w.room w.scratch) w.written

abbrev Parses : ParseCall → Type 0
Parses p = p.parsed ≡ parse_of p.text p.len

-- of a sound sheet
told : (w : WriteCall) → Writes w → Sound (length w.text) w.words w.count → w.written ≡ written_of w
told w d s = d.gives ∙ ap (write_of w.text (sheet_of w) w.room w.scratch) (d.holds.1 s)

-- a tape with room for the count has room for the sheet
roomy : (w : WriteCall) (len : ℕ) → w.count ≤ capacity len → length (sheet_of w) ≤ capacity len
roomy w len h = omega (arith, tokens-length w.words w.count)

exactly-told : (w : WriteCall) (p : ParseCall) → Writes w → Parses p → WriteExactly w p
exactly-told w p d q s g same fits =
    rw (told w d s, q, same) (length-exactly w.text (sheet_of w) w.room w.scratch g p.len (roomy w p.len fits))

plain-told : (w : WriteCall) → Writes w → WritePlain w
plain-told w d fits p =
    rw (told w d record { fits = fits; tokens = p.sound })
    record {
      promised = plain-promised w.text (sheet_of w) p w.room w.scratch;
      accepted = plain-accepted w.text (sheet_of w) p w.room w.scratch;
    }

-- ---- writing is stable
-- the bytes that are counted are the text
counted : (room scratch size : ℕ) (bytes : List ℕ) (written : Left) → written ≡ accept room scratch bytes → answer_of written ≡ Ok size
    → (size ≡ length bytes) × (front_of size written ≡ bytes)
counted room scratch size bytes written e f =
    let same : ◌≡◌ {A = Result ℕ Refusal} (Ok size) (Ok (length bytes)) = sym f ∙ ap answer_of e in
    let n : size ≡ length bytes = cc in
    (n, ap (front_of size) e ∙ rw n (take-append_seam bytes (zeros (room - length bytes))))

-- the sheet is accepted as the bytes that are parsed
record Came (w : WriteCall) (size : ℕ) (p : ParseCall) : Type 0 where
  accepted : AcceptedAs w.text (sheet_of w) w.room w.scratch p.text
  size_is : size ≡ length p.text

came : (w : WriteCall) (p : ParseCall) → Writes w → (size : ℕ) → ParsesWritten w size p → Came w size p
came w p d size h =
    let yes = length-sound w.text (sheet_of w) w.room w.scratch d.yes (size, sym (ap answer_of d.gives) ∙ h.answered) in
    let e : w.written ≡ written_of w = told w d (d.holds.0 yes) in
    let s = settled w.text (sheet_of w) w.room w.scratch (size, sym (ap answer_of e) ∙ h.answered) in
    let a : Accepted w.text (sheet_of w) w.room w.scratch
    = given_accepts w.text (sheet_of w) w.room w.scratch s.form s.given s.back in
    let c = counted w.room w.scratch size (text_of w.text (sheet_of w)) w.written (e ∙ a) h.answered in
    let t : p.text ≡ text_of w.text (sheet_of w) = h.text ∙ c.1 in
    record { accepted = rw t a; size_is = rw t c.0 }

parses_told : (w : WriteCall) (p : ParseCall) → Writes w → Parses p → WriteParses w p
parses_told w p d q size h fits =
    rw q
    (parses_again w.text (sheet_of w) w.room w.scratch p.text (came w p d size h).accepted p.len (roomy w p.len fits))

stable_told : (w : WriteCall) (p : ParseCall) (v : WriteCall) → Writes w → Parses p → Writes v → WriteStable w p v
stable_told w p v d q f size h k =
    let c = came w p d size h in
    let s = stable w.text (sheet_of w) w.room w.scratch p.text c.accepted p.len v.count k.bom v.words (sym q ∙ k.parsed) in
    let again = s.again v.room v.scratch k.buffer k.tape in
    rw (told v f (rw k.text s.sound), k.text, again, ← h.text, c.size_is)

-- ---- of the contracts
module _ (κs : _) (args : _) (r : Result ℕ Refusal) (xs : _) (post : write.Post κs args r xs) where
  -- the call by its values
  abbrev pub writing : WriteCall
  writing = record {
    text = args.0.now;
    words = args.1.0.now;
    count = args.1.1.0;
    room = length args.1.1.1.0.now;
    scratch = length args.1.1.1.1.0.now;
    written = left r xs.1.1.1.0.now xs.1.1.1.1.0.now;
  }

  pub write-plain : WritePlain writing
  write-plain = plain-told writing post

module _ (κs : _) (args : _) (p : Result Parsed ParseRefusal) (xs : _) (post : parse.Post κs args p xs) where
  abbrev pub parsing : ParseCall
  parsing = record { text = args.0.now; len = length args.1.0.now; parsed = outcome p xs.1.0.now }

module _ (κs : _) (args : _) (r : Result ℕ Refusal) (xs : _) (post : write.Post κs args r xs)
    (ls : _) (asked : _) (p : Result Parsed ParseRefusal) (ys : _) (q : parse.Post ls asked p ys) where
  pub write-exactly : WriteExactly (writing κs args r xs post) (parsing ls asked p ys q)
  write-exactly = exactly-told _ _ post q

  pub write_parses : WriteParses (writing κs args r xs post) (parsing ls asked p ys q)
  write_parses = parses_told _ _ post q

  pub write_stable : (ms : _) (taken : _) (s : Result ℕ Refusal) (zs : _) (t : write.Post ms taken s zs)
      → WriteStable (writing κs args r xs post) (parsing ls asked p ys q) (writing ms taken s zs t)
  write_stable ms taken s zs t = stable_told _ _ _ post q t
