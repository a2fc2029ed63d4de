-- A word of bytes, and what is computed on each of its bytes at once.
use Rattle.std.specs.Prelude.{ℕ, zero, suc, ◌+◌, ◌-◌, ◌*◌, ◌^◌, ◌<◌, ◌≡◌, Bool, true, ◌&&◌, List, [], ◌∷◌, ltb, leb, get_or}
use Rattle.std.specs.Int.Bits.{bit_and, bit_or, bit_xor}
use Rattle.data.specs.Classes.{byte_count}

-- every number of a list is a byte
abbrev pub Bytes : List ℕ → Type 0
Bytes bs = (k : ℕ) → get_or bs k 0 < 2 ^ 8

-- the number whose bytes these are, the first the lowest
unfoldable pub word : List ℕ → ℕ
word [] = 0
word (b ∷ bs) = word bs * 2 ^ 8 + b

-- the word of n bytes that are all the same
unfoldable pub spread : ℕ → ℕ → ℕ
spread zero c = 0
spread (suc n) c = spread n c * 2 ^ 8 + c

-- what is computed: the byte itself, a constant, and the bits, the sum and the difference of two of these
pub data Lane : Type 0 where
  it : Lane
  all : ℕ → Lane
  both either differ plus minus : Lane → Lane → Lane

-- what it comes to, by how a constant is read
unfoldable pub value : (ℕ → ℕ) → Lane → ℕ → ℕ
value const it x = x
value const (all c) x = const c
value const (both e f) x = bit_and (value const e x) (value const f x)
value const (either e f) x = bit_or (value const e x) (value const f x)
value const (differ e f) x = bit_xor (value const e x) (value const f x)
value const (plus e f) x = value const e x + value const f x
value const (minus e f) x = value const e x - value const f x

-- computed of a byte: a constant as it stands
unfoldable pub on : Lane → ℕ → ℕ
unfolding value
on e b = value (λ c. c) e b

-- computed of a word of n bytes: a constant in each of them
unfoldable pub over : Lane → ℕ → ℕ → ℕ
unfolding value spread
over e n x = value (spread n) e x

-- whether it stays within a byte, at a byte: no sum reaches past it, and no difference goes below 0
unfoldable pub stays : Lane → ℕ → Bool
unfolding on
stays it b = true
stays (all c) b = ltb c byte_count
stays (both e f) b = stays e b && stays f b
stays (either e f) b = stays e b && stays f b
stays (differ e f) b = stays e b && stays f b
stays (plus e f) b = (stays e b && stays f b) && ltb (on e b + on f b) byte_count
stays (minus e f) b = (stays e b && stays f b) && leb (on f b) (on e b)

-- at every byte
abbrev pub Stays : Lane → Type 0
Stays e = (b : ℕ) → b < 2 ^ 8 → stays e b ≡ true
