-- The second pair of cuts (request W13) finds the same place as the plain pair: over any set of wanted bytes, on every text, from every start,
-- and by every table that gives a class to the thirteen boundary bytes and to no others. By any other table some text tells the two apart.
use Rattle.std.specs.Prelude.{ℕ, ◌+◌, ◌≤◌, ◌<◌, ◌≡◌, Bool, true, false, List, Option, ◌↔◌, length, get_or, drop}
use Rattle.data.specs.Classes.{is_boundary, classes}
use Rattle.cut.specs.Lanes.{Bytes, Lane}
use Rattle.cut.specs.Marks.{word_size, stride, all_unmarked, first_mark, Marks, marks_at}
use Rattle.cut.specs.Runs.{stop_from, classed, run_end_by, run_end}
use Rattle.cut.specs.Scalars.{cut_of, scalar_cut}
use Rattle.cut.specs.declared.QuotedRun.{QuotedRun}
use Rattle.cut.proofs.split_at_scalar.Reads as plain-run
use Rattle.cut.proofs.parse_quote_scalar.Reads as plain-quote
use Rattle.cut.proofs.strides.split_at_scalar.Reads as fast-run
use Rattle.cut.proofs.strides.parse_quote_scalar.Reads as fast-quote

-- ---- a stride, over any set of wanted bytes and any mask that marks them

-- what a stride from a place on tells of the plain scan from there: without a mark it is passed whole, and else the first marked byte is
-- tested: the scan ends there, or it goes on behind it
pub record SamePlace (wanted : ℕ → Bool) (d : List ℕ) (i x y : ℕ) : Type 0 where
  pub whole : all_unmarked x y ≡ true → stop_from wanted (drop i d) i ≡ stop_from wanted (drop (i + stride) d) (i + stride)
  pub found : i + first_mark x y < length d → wanted (get_or d (i + first_mark x y) 0) ≡ true → stop_from wanted (drop i d) i ≡ i + first_mark x y
  pub later : i + first_mark x y < length d → wanted (get_or d (i + first_mark x y) 0) ≡ false
      → stop_from wanted (drop i d) i ≡ stop_from wanted (drop (i + first_mark x y + 1) d) (i + first_mark x y + 1)

abbrev pub StridesFind : Type 0
StridesFind = (wanted : ℕ → Bool) (e : Lane) → Marks wanted e → (d : List ℕ) → Bytes d → (i : ℕ) → i + stride ≤ length d
    → SamePlace wanted d i (marks_at e d i) (marks_at e d (i + word_size))

-- ---- the two pairs, by their contracts

-- a table that gives a class to the thirteen boundary bytes and to no other number
abbrev pub SaysThirteen : List ℕ → Type 0
SaysThirteen table = (b : ℕ) → classed table b ≡ is_boundary b

-- as data's does
abbrev pub OursSays : Type 0
OursSays = SaysThirteen classes

-- what the two cuts of an unquoted run answer of one part is equal
abbrev pub RunsAlike : Type 0
RunsAlike = (κs : _) (args : _) (r : ℕ) (xs : _) → fast-run.Post κs args r xs
    → (κt : _) (again : _) (s : ℕ) (ys : _) → plain-run.Post κt again s ys → again.0.now ≡ args.0.now → SaysThirteen again.1.0.now
    → r ≡ s

-- and of the two cuts of a quoted run
abbrev pub QuotesAlike : Type 0
QuotesAlike = (κs : _) (args : _) (r : Option QuotedRun) (xs : _) → fast-quote.Post κs args r xs
    → (κt : _) (again : _) (s : Option QuotedRun) (ys : _) → plain-quote.Post κt again s ys → again.0.now ≡ args.0.now
    → r ≡ s

-- ---- from every start

-- the place after a run is the plain cut's, wherever the run starts, for just such tables
abbrev pub ExactlyOurs : Type 0
ExactlyOurs = (table : List ℕ) → ((text : List ℕ) (at : ℕ) → run_end text at ≡ run_end_by table text at) ↔ SaysThirteen table

-- and so is the scalar at a place
abbrev pub ScalarsAlike : Type 0
ScalarsAlike = (table : List ℕ) → SaysThirteen table → (text : List ℕ) (at : ℕ) → scalar_cut text at ≡ cut_of (classed table) text at
