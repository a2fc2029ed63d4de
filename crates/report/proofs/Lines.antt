-- The lines of a dump, one at a time.
-- Assumes nothing.
use Rattle.std.specs.Prelude.{Result, Err}
use mathlib.Core.Path.{◌≡◌, refl, sym}
use mathlib.Core.Bool.{Bool}
use mathlib.Core.List.{List, [], ◌++◌}
use Prim.Native.Nat.{ℕ, ◌+◌, ◌≤◌, ◌<◌}
use native.Mathlib.Numerals.{add-one}
use native.Mathlib.Omega.{arith}
use lib.ListN.{length, drop, drop_of_length-le}
use lib.Seq.{drop-cons}
use Rattle.tape.specs.declared.token.Token.{Token}
use Rattle.tape.specs.Token.{no_token}
use Rattle.tape.specs.Words.{tokens_in, token_in}
use Rattle.machine.specs.declared.Parsed.{Parsed}
use Rattle.machine.specs.declared.Refusal.{Refusal}
use Rattle.machine.specs.Finish.{outcome, with_tokens}
use Rattle.parse.specs.Parse.{parse_of}
use Rattle.machine.specs.declared.Refusal.TheVariants.{TooLong, Eof, StackEmpty, NoHeader, NoValue, MixedParameter, Full}
use Rattle.machine.specs.declared.Refusal.TheVariants.{NothingPrecedes, UnknownOperator, NoParameter, OpenName}
use Rattle.machine.specs.Refusals.{number, place}
use Rattle.parse.specs.Told.{bit, tell_parse}
use Rattle.report.specs.Dump.{line_of, lines_from, header_of, refused_of, lines_of, dump_of}

-- the line of token i stands before those of the tokens after it
pub lines-on : (ws : List ℕ) (n i all : ℕ) → all ≡ length (tokens_in ws n) → i < all
    → lines_from i (drop i (tokens_in ws n)) ≡ line_of i (token_in ws n i) ++ lines_from (i + 1) (drop (i + 1) (tokens_in ws n))
unfolding lines_from token_in
lines-on ws n i all e h = rw (drop-cons (tokens_in ws n) i no_token (omega arith), add-one i)

-- and past the last there is none
pub lines_none : (ts : List Token) (i all : ℕ) → all ≡ length ts → all ≤ i → lines_from i (drop i ts) ≡ []
unfolding lines_from
lines_none ts i all e h =
    let past : length ts ≤ i = omega arith in
    rw (drop_of_length-le ts past)

-- the dump of a text that parses, and of one that is refused
pub dump-tokens : (text ws : List ℕ) (len count : ℕ) (bom : Bool) (p : Result Parsed Refusal) → outcome p ws ≡ parse_of text len → p ≡ with_tokens count bom
    → header_of count (bit bom) ++ lines_from 0 (tokens_in ws count) ≡ dump_of text len
unfolding dump_of lines_of
dump-tokens text ws len count bom p e told = rw (dump_of, ← e, told)

-- no refusal has the number of none
refusal_told : (r : Refusal) (ws : List ℕ) → lines_of (tell_parse (outcome (Err r) ws)) ≡ refused_of (number r) (place r)
unfolding lines_of
refusal_told TooLong ws = refl
refusal_told Eof ws = refl
refusal_told (StackEmpty p) ws = refl
refusal_told (NoHeader p) ws = refl
refusal_told (NoValue p) ws = refl
refusal_told (MixedParameter p) ws = refl
refusal_told (NothingPrecedes p) ws = refl
refusal_told (UnknownOperator p) ws = refl
refusal_told (NoParameter p) ws = refl
refusal_told (OpenName p) ws = refl
refusal_told Full ws = refl

pub dump-refused : (text ws : List ℕ) (len n at : ℕ) (r : Refusal) (p : Result Parsed Refusal) → outcome p ws ≡ parse_of text len → p ≡ Err r
    → n ≡ number r → at ≡ place r → refused_of n at ≡ dump_of text len
unfolding dump_of
dump-refused text ws len n at r p e told numbered placed = rw (numbered, placed, dump_of, ← e, told) (sym (refusal_told r ws))
