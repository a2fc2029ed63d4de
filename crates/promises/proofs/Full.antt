-- Refusal 11 against a parse with no bound on tokens, said of the contract of `parse` itself: of the text and the tape as they are lent, and of the tape as
-- it is left.
-- Assumes nothing.
use Rattle.std.specs.Prelude.{Result, Ok, Err}
use Prim.Native.Nat.{ℕ, ◌<◌}
use mathlib.Core.Path.{◌≡◌, refl}
use mathlib.Core.List.{List}
use mathlib.Core.Logic.{◌↔◌}
use native.Mathlib.Omega.{arith}
use lib.ListN.{length}
use Rattle.tape.specs.Words.{capacity}
use Rattle.machine.specs.declared.Refusal as Refusals
use Rattle.machine.specs.declared.Refusal.TheVariants.{Full}
use Rattle.machine.specs.declared.Parsed.{Parsed}
use Rattle.machine.specs.Refusals.{number}
use Rattle.machine.specs.Finish.{outcome}
use Rattle.parse.specs.Told.{tell_parse}
use Rattle.parse.proofs.parse.Reads as parse
use Rattle.promises.specs.Room.{unbounded_parse, laid_down, refusal_told}
use Rattle.promises.proofs.Room.{full-exactly, same_otherwise}
use Rattle.machine.specs.declared.Refusal.{Refusal}

pub parse_full-exactly : (κs : _) (args : _) (r : Result Parsed Refusal) (xs : _) → parse.Post κs args r xs
    → let text_lent = args.0.now in
    let tape_lent = args.1.0.now in
    (r ≡ Err Full) ↔ (capacity (length tape_lent) < laid_down text_lent)
parse_full-exactly κs args r xs p = full-exactly args.0.now (length args.1.0.now) r xs.1.0.now p

pub parse_same-otherwise : (κs : _) (args : _) (r : Result Parsed Refusal) (xs : _) → parse.Post κs args r xs → (r ≡ Err Full → ⊥)
    → let text_lent = args.0.now in
    let tape_lent = args.1.0.now in
    let tape_left = xs.1.0.now in
    outcome r tape_left ≡ unbounded_parse text_lent (length tape_lent)
parse_same-otherwise κs args r xs p n = same_otherwise args.0.now (length args.1.0.now) r xs.1.0.now p n

-- refusal 11 is told of Full alone
pub full-told : (r : Result Parsed Refusal) (words : List ℕ) → refusal_told (tell_parse (outcome r words)) ≡ number Full → r ≡ Err Full
full-told (Ok p) words e = absurd (omega arith)
full-told (Err Refusals.TheVariants.TooLong) words e = absurd (omega arith)
full-told (Err Refusals.TheVariants.Eof) words e = absurd (omega arith)
full-told (Err (Refusals.TheVariants.StackEmpty p)) words e = absurd (omega arith)
full-told (Err (Refusals.TheVariants.NoHeader p)) words e = absurd (omega arith)
full-told (Err (Refusals.TheVariants.NoValue p)) words e = absurd (omega arith)
full-told (Err (Refusals.TheVariants.MixedParameter p)) words e = absurd (omega arith)
full-told (Err (Refusals.TheVariants.NothingPrecedes p)) words e = absurd (omega arith)
full-told (Err (Refusals.TheVariants.UnknownOperator p)) words e = absurd (omega arith)
full-told (Err (Refusals.TheVariants.NoParameter p)) words e = absurd (omega arith)
full-told (Err (Refusals.TheVariants.OpenName p)) words e = absurd (omega arith)
full-told (Err Full) words e = refl
