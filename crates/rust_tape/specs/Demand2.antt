-- Demand 2: where texts are in the domain, every answer of `parse` but refusal 11 is the Rust's, and refusal 11 comes exactly when the Rust would lay down
-- more tokens than the tape holds. What `parse` answers is told by document 01's numbers, and read as the Rust's by `as_rust`.
-- On every text within the limit, in the domain or not, the same is said of the Rust's parser with one thing changed: it cuts unquoted runs as we do.
use Rattle.std.specs.Prelude.{ℕ, ◌+◌, ◌*◌, ◌≤◌, ◌<◌, ◌≡◌, false, true, List, ◌↔◌, length}
use Rattle.cut.specs.Runs.{unquoted_run}
use Rattle.tape.specs.Words.{capacity}
use Rattle.machine.specs.declared.Refusal.TheVariants.{Full}
use Rattle.machine.specs.Refusals.{number}
use Rattle.parse.specs.Parse.{text_limit}
use Rattle.parse.specs.Told.{ParseTold, tell_parse}
use Rattle.promises.specs.Room.{unbounded_parse, laid_down}
use Rattle.promises.specs.Room.{refusal_told}
use Rattle.rust_tape.specs.RustCuts.{split_at_scalar}
use Rattle.rust_tape.specs.RustTape as Rust
use Rattle.rust_tape.specs.RustTape.{Parser, Flow, turns_by, parsed_by, held}
use Rattle.rust_tape.specs.RustDomain.{Domain}
use Rattle.rust_tape.specs.Answers.{as_rust, answer_by}

-- a text of which demand 2 speaks
pub record SpokenOf (text : List ℕ) : Type 0 where
  pub within : length text ≤ text_limit
  pub domain : Domain text

-- what is told of a text and a tape of so many words, beside the Rust's parser by a cut
pub record AnswersBy (cut : List ℕ → ℕ) (text : List ℕ) (len : ℕ) (told : ParseTold) : Type 0 where
  -- refusal 11 comes exactly when the tokens that its `Vec` holds, when it returns Ok or an error, are more than the tape does
  pub full : (refusal_told told ≡ number Full) ↔ (capacity len < held (parsed_by cut text))
  -- and every other answer is its own: number and place, or the BOM and every token
  pub otherwise : (refusal_told told ≡ number Full → ⊥) → as_rust told ≡ answer_by cut text

-- beside the Rust as it is, by its own cut: of the texts of the domain
abbrev pub Demand2 : List ℕ → ℕ → ParseTold → Type 0
Demand2 text len told = AnswersBy split_at_scalar text len told

-- and by ours, to the next of the thirteen boundary bytes: of every text within the limit
abbrev pub ByOurCut : List ℕ → ℕ → ParseTold → Type 0
ByOurCut text len told = AnswersBy unquoted_run text len told

-- ---- of the Rust's parse itself
-- whether it has returned: its loop does not go on, and it has not panicked
abbrev pub Returned : Flow → Type 0
Returned (Rust.loop p) = ⊥
Returned (Rust.ok ts) = Unit {0}
Returned (Rust.err e ts) = Unit {0}
Returned Rust.panic = ⊥

-- the branches of its loop that are never taken, told of the locals before a turn
pub record NeverTaken (p : Parser) : Type 0 where
  -- `=` under mixed in KeyValueSeparator
  pub unmixed : p.state ≡ Rust.KeyValueSeparator → p.mixed_mode ≡ false
  -- an End whose opener is no container, before an operator in ArrayValue
  pub opened : p.state ≡ Rust.ArrayValue → (i : ℕ) → Rust.as_last (Rust.last p.token_tape) ≡ Rust.AnEnd i
      → Rust.is_container (Rust.container (Rust.get p.token_tape i)) ≡ true
  -- a closer in Key that takes up token 0 as a container
  pub top : p.state ≡ Rust.Key → Rust.container (Rust.get p.token_tape 0) ≡ Rust.Neither

-- how it runs on a text by a cut
pub record RunsBy (cut : List ℕ → ℕ) (text : List ℕ) : Type 0 where
  -- its answer is that of our parse with no bound on tokens, laid on any number of words
  pub alike : (len : ℕ) → as_rust (tell_parse (unbounded_parse text len)) ≡ answer_by cut text
  -- and it has laid down as many tokens, where it returns an error too
  pub laid : held (parsed_by cut text) ≡ laid_down text
  -- it returns within 2n + 2 turns, and does not panic
  pub returns : Returned (parsed_by cut text)
  -- more turns leave its answer
  pub settles : (more : ℕ) → turns_by cut text (2 * length text + 2 + more) ≡ parsed_by cut text
  -- and at none of its turns is one of the three branches taken
  pub never : (turns : ℕ) (p : Parser) → turns_by cut text turns ≡ Rust.loop p → NeverTaken p

-- and by its own
abbrev pub RustRuns : List ℕ → Type 0
RustRuns text = RunsBy split_at_scalar text
