-- Tokens as bytes: per token a code byte and two four-byte words.
use Rattle.std.specs.Prelude.{ℕ, zero, suc, ◌+◌, ◌*◌, ◌/◌, true, false, List, [], ◌∷◌, ◌++◌, eqb, length}
use Rattle.tape.specs.declared.token.Token.{Token}
use Rattle.tape.specs.Words.{words_of}
use Rattle.packed.specs.Numbers.{spelled, spelt}

-- a code byte
abbrev pub code_bytes : ℕ
code_bytes = 1

-- and words of four bytes
abbrev pub word_bytes : ℕ
word_bytes = 4

-- how many bytes a token takes
abbrev pub bytes_per_token : ℕ
bytes_per_token = code_bytes + word_bytes + word_bytes

abbrev pub bytes_for : ℕ → ℕ
bytes_for n = n * bytes_per_token

-- ---- from tokens to bytes
abbrev pub token_bytes : Token → List ℕ
token_bytes t = spelled code_bytes t.code ++ spelled word_bytes t.a ++ spelled word_bytes t.b

unfoldable pub packed : List Token → List ℕ
packed [] = []
packed (t ∷ ts) = token_bytes t ++ packed ts

-- ---- from bytes to tokens
-- the token that the bytes from a place on spell
unfoldable pub token_spelled : List ℕ → ℕ → Token
token_spelled bytes at =
    record {
      code = spelt bytes at code_bytes;
      a = spelt bytes (at + code_bytes) word_bytes;
      b = spelt bytes (at + (code_bytes + word_bytes)) word_bytes;
    }

-- so many tokens from a place on
unfoldable pub spelled_from : List ℕ → ℕ → ℕ → List Token
spelled_from bytes at zero = []
spelled_from bytes at (suc n) = token_spelled bytes at ∷ spelled_from bytes (at + bytes_per_token) n

-- the tokens that stand in some bytes whole
unfoldable pub unpacked : List ℕ → List Token
unpacked bytes = spelled_from bytes 0 (length bytes / bytes_per_token)

-- and their words
unfoldable pub words_packed : List ℕ → List ℕ
words_packed bytes = words_of (unpacked bytes)

-- ---- a sheet in words, or in bytes: the words that it stands for. The bytes are read where there are some
unfoldable pub behind : List ℕ → List ℕ → List ℕ
behind words bytes = elim (eqb (length bytes) 0) [ true ↦ words | false ↦ words_packed bytes ]
