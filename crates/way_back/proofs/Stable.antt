-- What parse leaves of a text that was written, written again, is the same text.
-- Assumes nothing.
use mathlib.Core.Path.{◌≡◌, sym, ◌∙◌, ap}
use mathlib.Core.Bool.{Bool, true}
use mathlib.Core.List.{List, ◌++◌}
use Prim.Native.Nat.{ℕ, ◌+◌, ◌-◌}
use native.Mathlib.Omega.{arith}
use native.Mathlib.Nat.{mul-div_cancel}
use lib.ListN.{length, take}
use lib.Seq.{take-append_seam}
use Rattle.tape.specs.declared.token.Token.{Token}
use Rattle.tape.specs.Words.{padded, capacity, words_for, tokens_in}
use Rattle.promises.proofs.Demand3.{parse_sound}
use Rattle.alike.specs.Alike.{alike}
use Rattle.writer.specs.Write.{accept, zeros, text_of}
use Rattle.way_back.specs.Accepted.{Given, AcceptedAs, ReadsBack, answer_of}
use Rattle.way_back.specs.Stable.{ParsesAgain, WritesAgain}
use Rattle.way_back.proofs.Same.{alike_self}
use Rattle.way_back.proofs.Rooms.{Laid, found, laid_anywhere}
use Rattle.way_back.proofs.Answers.{given_accepts, Settled, settled}
use Rattle.way_back.proofs.Exactly.{Comes, comes, comes_anywhere}
use Rattle.way_back.proofs.Likeness.{alike-text, alike-formed, alike_deep}
use Rattle.machine.proofs.Outcomes.{same_outcome}

-- one text is accepted
one-text : (room scratch : ℕ) (bytes other : List ℕ) → accept room scratch bytes ≡ accept room scratch other → bytes ≡ other
one-text room scratch bytes other e =
    let l : length bytes ≡ length other = cc in
    let b : bytes ++ zeros (room - length bytes) ≡ other ++ zeros (room - length other) = cc in
    sym (take-append_seam bytes (zeros (room - length bytes))) ∙ ap (λ (n : ℕ). take n (bytes ++ zeros (room - length bytes))) l
    ∙ ap (take (length other)) b ∙ take-append_seam other (zeros (room - length other))

-- one list of tokens is laid down
laid-once : (text : List ℕ) (n m : ℕ) (bom mark : Bool) (us vs : List Token) → Laid text n bom us → Laid text m mark vs → us ≡ vs
laid-once text n m bom mark us vs a b =
    let len : ℕ = words_for (n + m) in
    let room : capacity len ≡ n + m = mul-div_cancel (n + m) (omega arith) in
    let x = a.parsed len (omega arith) in
    let y = b.parsed len (omega arith) in
    let same = same_outcome (sym x ∙ y) in
    let c : n ≡ m = same.0 in
    let w : padded len us ≡ padded len vs = same.2 in
    sym (found len n us a.counted) ∙ ap (λ (ws : List ℕ). tokens_in ws n) w ∙ ap (tokens_in (padded len vs)) c ∙ found len m vs b.counted

module _ (text : List ℕ) (ts : List Token) (room scratch : ℕ) (bytes : List ℕ) (a : AcceptedAs text ts room scratch bytes) where
  was : Settled text ts room scratch
  was = settled text ts room scratch (length bytes, ap answer_of a)

  -- the bytes are the sheet's text
  accepted-text : bytes ≡ text_of text ts
  accepted-text = one-text room scratch bytes (text_of text ts) (sym a ∙ given_accepts text ts room scratch was.form was.given was.back)

  -- and the sheet comes back from them
  came : Comes text bytes ts
  came = rw (← accepted-text) at (comes text (text_of text ts) ts scratch was.back)

pub parses_again : (text : List ℕ) (ts : List Token) (room scratch : ℕ) (bytes : List ℕ) → ParsesAgain text ts room scratch bytes
parses_again text ts room scratch bytes a len fits =
    let c = came text ts room scratch bytes a in
    record {
      bom = c.bom;
      words = padded len c.tokens;
      told = c.laid.parsed len fits;
      same = rw (found len (length ts) c.tokens c.laid.counted) c.same;
    }

pub stable : (text : List ℕ) (ts : List Token) (room scratch : ℕ) (bytes : List ℕ) → WritesAgain text ts room scratch bytes
stable text ts room scratch bytes a len count bom words e =
    let us : List Token = tokens_in words count in
    let w = was text ts room scratch bytes a in
    let c = came text ts room scratch bytes a in
    let laid : Laid bytes count bom us = laid_anywhere bytes len count bom words e in
    let one : c.tokens ≡ us = laid-once bytes (length ts) count c.bom bom c.tokens us c.laid laid in
    let alike-again : alike text bytes ts us ≡ true = rw one at c.same in
    let same : text_of bytes us ≡ bytes = alike-text text bytes ts us alike-again ∙ sym (accepted-text text ts room scratch bytes a) in
    let form = alike-formed text bytes ts us alike-again ∙ w.form in
    let depth = alike_deep text bytes ts us alike-again ∙ w.given.depth in
    let size : length (text_of bytes us) ≡ length (text_of text ts) = ap length (alike-text text bytes ts us alike-again) in
    let itself : Comes bytes bytes us = record {
      bom = bom;
      tokens = us;
      laid = rw laid.counted laid;
      same = alike_self bytes us;
    } in
    record {
      sound = parse_sound bytes len count bom words e;
      form = form;
      depth = depth;
      text = same;
      again = λ more other buffer tape.
          let given : Given bytes us more other = record {
            depth = depth;
            limit = omega (arith, size, w.given.limit);
            buffer = omega (arith, ap length same, buffer);
            tape = omega (arith, laid.counted, tape);
          } in
          let back : ReadsBack bytes us other = rw same (comes_anywhere bytes bytes us itself other given.tape) in
          rw same at (given_accepts bytes us more other form given back);
    }
