-- Whether two sheets are the same tokens, each over its own text: the same codes, words and scalar bytes, offsets aside.
use Rattle.std.specs.Prelude.{ℕ, Bool, false, ◌&&◌, List, eqb, length, Some, None, Ok, Err}
use Rattle.data.specs.Pairs.{pairwise}
use Rattle.put.specs.Equal.{equal_bytes}
use Rattle.put.specs.Parts.{view_of}
use Rattle.tape.specs.declared.token.Token.{Token}
use Rattle.tape.specs.Token.{scalar_named}
use Rattle.machine.specs.Finish.{Outcome, outcome}
use Rattle.tape.specs.Words.{tokens_in}

-- what a scalar views: its length and its bytes
unfoldable pub same_view : List ℕ → List ℕ → Token → Token → Bool
same_view text other x y = eqb x.b y.b && equal_bytes (view_of text x.a x.b) (view_of other y.a y.b)

-- the words of a token that is no scalar
unfoldable pub same_words : Token → Token → Bool
same_words x y = eqb x.a y.a && eqb x.b y.b

-- two tokens
unfoldable pub same_token : List ℕ → List ℕ → Token → Token → Bool
same_token text other x y =
    eqb x.code y.code && elim (scalar_named x.code) [ Some kind ↦ same_view text other x y | None ↦ same_words x y ]

-- as many tokens, and each like the other's
abbrev pub alike : List ℕ → List ℕ → List Token → List Token → Bool
alike text other xs ys = pairwise (same_token text other) xs ys

-- whether so many tokens that were found on a tape are a sheet's: the count, and each of them
unfoldable pub found_alike : List ℕ → List ℕ → List Token → ℕ → List ℕ → Bool
found_alike text other ts count words = eqb count (length ts) && alike text other ts (tokens_in words count)

-- whether a parse of another text gives the same tokens
abbrev pub comes_back : List ℕ → List ℕ → List Token → Outcome → Bool
comes_back text other ts (outcome (Ok p) words) = found_alike text other ts p.count words
comes_back text other ts (outcome (Err r) words) = false
