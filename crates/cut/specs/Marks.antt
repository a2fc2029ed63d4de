-- Two masks, each of which marks the bytes that a cut looks for, and a few others, by a byte's top bit; and the first mark of one word and of two.
use Rattle.std.specs.Prelude.{ℕ, ◌+◌, ◌*◌, ◌/◌, ◌^◌, ◌≤◌, ◌<◌, ◌≡◌, Bool, true, false, List, eqb, length, get_or, take, drop}
use Rattle.std.specs.Int.Bits.{bit_and, bit_or}
use Rattle.std.specs.Int.Count.{count_trailing_zeros}
use Rattle.data.specs.Bytes.{quote, backslash}
use Rattle.cut.specs.Lanes.{Bytes, word, Lane, it, all, both, either, differ, plus, minus, on, over, Stays}

-- ---- the masks

-- what may end an unquoted run: up to `#`, and by the low five bits `;` `<` `=` `>` `[` `]` `{` `}`, and with them `\` `^` `|` `~`. One more than
-- these has 0x1c to 0x1f in its low five bits, and one more than `_` has none there. A byte from 128 on is marked as the one 128 less
abbrev pub may_end : Lane
may_end =
    either
    (plus (differ (both it (all 0x7f)) (all 0x7f)) (all 0x24))
    (plus (both (plus (both it (all 0x7f)) (all 0x01)) (all 0x1f)) (all 0x64))

-- what may close a quoted run, or skip a byte of it: a quote and a backslash, and the two bytes 128 more
abbrev pub may_close : Lane
may_close =
    either
    (minus (all 0x80) (differ (both it (all 0x7f)) (all 0x22)))
    (minus (all 0x80) (differ (both it (all 0x7f)) (all 0x5c)))

-- the mark alone
abbrev pub top : Lane → Lane
top e = both e (all 0x80)

-- whether a byte of a quoted run is a quote or a backslash
unfoldable pub turns_quote : ℕ → Bool
turns_quote b = elim (eqb b quote) [ true ↦ true | false ↦ eqb b backslash ]

-- ---- one word, and two

-- how many bytes a word has, and the two of a step
abbrev pub word_size : ℕ
word_size = 8

abbrev pub stride : ℕ
stride = 16

-- the top bit of every byte of a word
abbrev pub tops : ℕ
tops = 0x8080_8080_8080_8080

-- whether two words have no mark
unfoldable pub all_unmarked : ℕ → ℕ → Bool
all_unmarked x y = eqb (bit_or (bit_and x tops) (bit_and y tops)) 0

-- how many bytes stand before the first mark of a word; all eight where there is none
unfoldable pub word_mark : ℕ → ℕ
word_mark x = count_trailing_zeros 64 (bit_and x tops) / 8

-- how many bytes stand before the first mark of two words, the second above the first; all of them where there is none
unfoldable pub first_mark : ℕ → ℕ → ℕ
first_mark x y = count_trailing_zeros 128 (bit_and y tops * 2 ^ 64 + bit_and x tops) / 8

-- ---- what a mask has to do, and what it then finds, for any set of wanted bytes

-- a mark stays within its byte, and every wanted byte has one
pub record Marks (wanted : ℕ → Bool) (e : Lane) : Type 0 where
  pub stay : Stays (top e)
  pub unmarked : (b : ℕ) → b < 2 ^ 8 → on (top e) b ≡ 0 → wanted b ≡ false

-- some bytes from a place on, a stride at most, none of which is wanted
pub record Calm (wanted : ℕ → Bool) (d : List ℕ) (i n : ℕ) : Type 0 where
  pub few : n ≤ stride
  pub none : (k : ℕ) → k < n → wanted (get_or d (i + k) 0) ≡ false

-- the eight bytes from a place on, as one word, marked
abbrev pub marks_at : Lane → List ℕ → ℕ → ℕ
marks_at e d i = over e word_size (word (take word_size (drop i d)))

-- none of the bytes before the first mark of a stride is wanted, wherever it stands
abbrev pub Finds : (ℕ → Bool) → Lane → Type 0
Finds wanted e = (d : List ℕ) → Bytes d → (i x y n : ℕ) → i + stride ≤ length d → x ≡ marks_at e d i → y ≡ marks_at e d (i + word_size)
    → n ≡ first_mark x y → Calm wanted d i n
