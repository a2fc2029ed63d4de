-- The words that tokens stand in: three to a token, those of a token from three times its index on.
use Rattle.std.specs.Prelude.{ℕ, zero, suc, ◌+◌, ◌-◌, ◌*◌, ◌/◌, min, true, false, List, [], ◌∷◌, ◌++◌, ltb, length, set, replicate, Option, Some, None}
use Rattle.tape.specs.declared.token.Token.{Token}
use Rattle.tape.specs.Token.{mixed_container_token, nth}

-- three words a token
abbrev pub words_per_token : ℕ
words_per_token = 3

-- how many words some tokens take
abbrev pub words_for : ℕ → ℕ
words_for n = n * words_per_token

-- how many tokens a tape of a length has room for: its length divided by 3, rounded down
abbrev pub capacity : ℕ → ℕ
capacity len = len / words_per_token

-- where the words of token i stand: its code, a, b, which is the last
abbrev pub code_word : ℕ → ℕ
code_word i = words_for i

abbrev pub a_word : ℕ → ℕ
a_word i = code_word i + 1

abbrev pub b_word : ℕ → ℕ
b_word i = code_word i + 2

abbrev pub last_word : ℕ → ℕ
last_word i = code_word i + (words_per_token - 1)

-- the greatest number that a word holds
abbrev pub greatest_word : ℕ
greatest_word = 4294967295

-- how many tokens a tape has room for, and no more than a word can number
unfoldable pub room_of : List ℕ → ℕ
room_of ws = min (capacity (length ws)) greatest_word

-- the first n tokens, or as many as stand there whole
unfoldable pub tokens_in : List ℕ → ℕ → List Token
tokens_in ws zero = []
tokens_in [] (suc n) = []
tokens_in (c ∷ []) (suc n) = []
tokens_in (c ∷ a ∷ []) (suc n) = []
tokens_in (c ∷ a ∷ b ∷ ws) (suc n) = record { code = c; a = a; b = b } ∷ tokens_in ws n

-- the words of a list of tokens
unfoldable pub words_of : List Token → List ℕ
words_of [] = []
words_of (t ∷ ts) = t.code ∷ t.a ∷ t.b ∷ words_of ts

-- token i of the first n that words hold
unfoldable pub token_in : List ℕ → ℕ → ℕ → Token
token_in ws n i = nth (tokens_in ws n) i

-- the words with token i written, where it fits
unfoldable pub put_words : List ℕ → ℕ → Token → List ℕ
put_words ws i t =
    elim (ltb (last_word i) (length ws)) [
      | true ↦ set (set (set ws (code_word i) t.code) (a_word i) t.a) (b_word i) t.b
      | false ↦ ws
    ]

-- the words with token i of n changed
unfoldable pub put_in : List ℕ → ℕ → ℕ → Token → List ℕ
put_in ws n i t = elim (ltb i n) [ true ↦ put_words ws i t | false ↦ ws ]

-- an answer with the words that it leaves
pub data Written : Type 0 where
  written : Option ℕ → List ℕ → Written

-- a token laid down after n others, where there is room
unfoldable pub push_words : List ℕ → ℕ → Token → Written
push_words ws n t = elim (ltb n (room_of ws)) [ true ↦ written (Some (n + 1)) (put_words ws n t) | false ↦ written None ws ]

-- a MixedContainer laid down before the last of n tokens, which moves up by one, where there is room
unfoldable pub insert_words : List ℕ → ℕ → Written
insert_words ws zero = push_words ws 0 mixed_container_token
insert_words ws (suc n) =
    elim (ltb (suc n) (room_of ws)) [
      | true ↦ written (Some (suc n + 1)) (put_words (put_words ws (suc n) (token_in ws (suc n) n)) n mixed_container_token)
      | false ↦ written None ws
    ]

-- the words of some tokens, with zeros behind them up to a length
unfoldable pub padded : ℕ → List Token → List ℕ
padded len ts = words_of ts ++ replicate (len - length (words_of ts)) 0

-- the words with all past the first n tokens zero
unfoldable pub cleared : List ℕ → ℕ → List ℕ
cleared ws n = padded (length ws) (tokens_in ws n)
