-- How much the programs read and how much room they lend: document 01, 'The dump'.
use Rattle.std.specs.Prelude.{ℕ, ◌+◌, ◌*◌, ◌≤◌, List, length}
use Rattle.tape.specs.Words.{words_for}

-- at most 32,768 bytes
abbrev pub most_input : ℕ
most_input = 32768

-- with 5,000 tokens of room
abbrev pub most_tokens : ℕ
most_tokens = 5000

-- the most bytes of a token's line: an index and two words of ten digits, the name of eighteen letters, three spaces and a LF
abbrev pub longest_line : ℕ
longest_line = 52

-- the most bytes of any other line: `refused`, a number and a place of twenty digits, two spaces and a LF
abbrev pub longest_other : ℕ
longest_other = 50

-- bytes that hold the dump of any text on a tape with room for so many tokens
abbrev pub dump_bytes : ℕ → ℕ
dump_bytes tokens = longest_other + longest_line * tokens

-- what is written for a text on a tape of so many words is held by them
abbrev pub Held : List ℕ → ℕ → Type 0
Held lines len = (tokens : ℕ) → len ≤ words_for tokens → length lines ≤ dump_bytes tokens
