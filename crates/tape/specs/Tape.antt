-- A tape as the tokens that stand on it and the room that it has: what the states speak of, with no word in sight.
use Rattle.std.specs.Prelude.{ℕ, ◌+◌, Bool, true, false, List, [], ◌∷◌, ◌++◌, ltb, set, Option, Some, None}
use Rattle.tape.specs.declared.token.Token.{Token}
use Rattle.tape.specs.Token.{mixed_container_token, nth}
use Rattle.tape.specs.Words.{capacity, room_of, tokens_in}

-- room for so many tokens, as a lent slice has, or for any number, as the Rust's `Vec` has
pub data Room : Type 0 where
  holds : ℕ → Room
  unbounded : Room

-- whether a token fits after n others
abbrev pub has_room : Room → ℕ → Bool
has_room (holds k) n = ltb n k
has_room unbounded n = true

pub record Tape : Type 0 where
  pub room : Room
  pub tokens : List Token

-- what the words of a slice hold
abbrev pub view : List ℕ → ℕ → Tape
view ws n = record { room = holds (room_of ws); tokens = tokens_in ws n }

-- a tape of so many words with no token on it
abbrev pub empty_tape : ℕ → Tape
empty_tape len = record { room = holds (capacity len); tokens = [] }

-- token i of a tape
unfoldable pub token_at : Tape → ℕ → Token
token_at t i = nth t.tokens i

-- token i changed, where there is one
unfoldable pub replace : Tape → ℕ → Token → Tape
replace t i x = record { room = t.room; tokens = set t.tokens i x }

-- one token more
unfoldable pub add : Tape → Token → Tape
add t x = record { room = t.room; tokens = t.tokens ++ (x ∷ []) }

-- a token put in before the last
abbrev pub before_last : List Token → Token → List Token
before_last [] x = x ∷ []
before_last (t ∷ []) x = x ∷ t ∷ []
before_last (t ∷ u ∷ ts) x = t ∷ before_last (u ∷ ts) x

unfoldable pub add_before_last : Tape → Token → Tape
add_before_last t x = record { room = t.room; tokens = before_last t.tokens x }

-- a tape with one token more and its new count, or no room
pub data Laying : Type 0 where
  laid : ℕ → Tape → Laying
  full : Laying

-- a token laid down after n others
unfoldable pub lay : Tape → ℕ → Token → Laying
lay t n x = elim (has_room t.room n) [ true ↦ laid (n + 1) (add t x) | false ↦ full ]

-- a MixedContainer laid down before the last of n tokens
unfoldable pub lay_mixed : Tape → ℕ → Laying
lay_mixed t n = elim (has_room t.room n) [ true ↦ laid (n + 1) (add_before_last t mixed_container_token) | false ↦ full ]

-- what an answer and the words that it leaves say
abbrev pub after_push : Option ℕ → List ℕ → Laying
after_push (Some n) ws = laid n (view ws n)
after_push None ws = full
