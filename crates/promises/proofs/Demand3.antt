-- Demand 3, as specs/Demand3 states it.
-- Assumes nothing.
use Rattle.std.specs.Prelude.{Result, Ok, Err}
use mathlib.Core.Path.{◌≡◌, refl, sym}
use mathlib.Core.Bool.{Bool, true}
use mathlib.Core.List.{List}
use Prim.Native.Nat.{ℕ, ◌≤◌, ◌<◌}
use native.Mathlib.Omega.{arith}
use lib.ListN.{length}
use Rattle.sheet.specs.Sound.{Sound}
use Rattle.sheet.proofs.check.Reads as check
use Rattle.machine.specs.declared.Refusal.TheVariants.{Full}
use Rattle.machine.specs.declared.Parsed.{Parsed}
use Rattle.machine.specs.Finish.{outcome, with_tokens}
use Rattle.parse.specs.Parse.{parse_of}
use Rattle.parse.specs.Told.{tell_parse}
use Rattle.tape.specs.Words.{capacity, words_for}
use Rattle.parse.proofs.parse.Reads as parse
use Rattle.promises.specs.Demand3.{most_tokens, Demand3}
use Rattle.promises.specs.Room.{laid_down}
use Rattle.promises.proofs.Room.{laid-most}
use Rattle.promises.proofs.Demand1.{numbered, success_zeroes_past}
use Rattle.promises.proofs.Full.{full-told, parse_full-exactly}
use Rattle.promises.proofs.Links.Parse.{parse_tied}
use Rattle.promises.proofs.Rising.{parse_viewed}
use Rattle.machine.specs.declared.Refusal.{Refusal}

pub parse_sound : (text : List ℕ) (len count : ℕ) (bom : Bool) (words : List ℕ) → parse_of text len ≡ outcome (with_tokens count bom) words
    → Sound (length text) words count
parse_sound text len count bom words e =
    let out = success_zeroes_past text len count bom words (sym e) in
    let v = parse_viewed text len count bom words e in
    let s = (parse_tied text len count bom words e).tokens in
    record {
      fits = rw out.kept out.within;
      tokens = record {
        forms = s.forms;
        closed = s.closed;
        opened = s.opened;
        nested = s.nested;
        within = v.within;
        rising = v.rising;
        apart = v.apart;
        filled = v.filled;
        top = s.top;
        headed = s.headed;
      };
    }

-- ---- of the contracts of `parse` and `check` themselves
told-passes : (text : List ℕ) (len : ℕ) (r : Result Parsed Refusal) (words : List ℕ) → outcome r words ≡ parse_of text len
    → (words_for (most_tokens (length text)) ≤ len → r ≡ Err Full → ⊥)
    → Demand3 text len (tell_parse (outcome r words))
told-passes text len (Ok p) words e room =
    record { sound = λ z. parse_sound text len p.count p.bom words (sym e); never_full = λ h f. absurd (omega arith) }
told-passes text len (Err r) words e room =
    record { sound = λ z. absurd (numbered r z); never_full = λ h f. room h (full-told (Err r) words f) }

-- whatever answer and tape the contract of `parse` allows
pub parse_passes : (κs : _) (args : _) (r : Result Parsed Refusal) (xs : _) → parse.Post κs args r xs
    → let text_lent : List ℕ = args.0.now in
    let tape_lent : List ℕ = args.1.0.now in
    let tape_left : List ℕ = xs.1.0.now in
    Demand3 text_lent (length tape_lent) (tell_parse (outcome r tape_left))
parse_passes κs args r xs p =
    let text_lent : List ℕ = args.0.now in
    let tape_lent : List ℕ = args.1.0.now in
    let tape_left : List ℕ = xs.1.0.now in
    told-passes text_lent (length tape_lent) r tape_left p
    (λ h e.
    let past : capacity (length tape_lent) < laid_down text_lent = (parse_full-exactly κs args r xs p).0 e in
    omega (arith, laid-most text_lent))

-- and asked of the text's length, those words and that count, any answer that the contract of `check` allows is yes
pub check_says_yes : (κs : _) (args : _) (count : ℕ) (bom : Bool) (xs : _) → parse.Post κs args (with_tokens count bom) xs
    → let text_lent : List ℕ = args.0.now in
    let tape_left : List ℕ = xs.1.0.now in
    (ls : _) (asked : _) (said : Bool) (ys : _) → check.Post ls asked said ys
    → asked.0 ≡ length text_lent → asked.1.0.now ≡ tape_left → asked.1.1.0 ≡ count → said ≡ true
check_says_yes κs args count bom xs p ls asked said ys q same_length same_words same_count =
    q.1 (rw (same_length, same_words, same_count) ((parse_passes κs args (with_tokens count bom) xs p).sound refl))
