-- The Rust's own cuts on x86-64, in the words of its text/tape.rs and data.rs: strides of sixteen bytes, and a bytewise fallback that starts again.
-- A loop is given at least as many turns as it takes: more would leave its answer (`strides-settle` and `quote-settles` of proofs/Domain.antt).
use Rattle.std.specs.Prelude.{ℕ, zero, suc, ◌+◌, ◌-◌, ◌*◌, ◌/◌, min, max, Bool, true, false, not, List, [], ◌∷◌, eqb, ltb, length, get_or, take, drop, set, replicate}
use Rattle.std.proofs.Math.Option
use Rattle.std.proofs.Math.Option.{Option, none, some}
use Rattle.data.specs.Bytes.{tab, line_feed, carriage_return, space, exclamation, quote, hash, semicolon, less_than, equals, greater_than}
use Rattle.data.specs.Bytes.{bracket_open, backslash, bracket_close, brace_open, brace_close}
use Rattle.data.specs.Classes.{among}

-- `\x0b` and `\x0c`, which the format gives no meaning to and the Rust's table a class
abbrev pub vertical_tab : ℕ
vertical_tab = 11

abbrev pub form_feed : ℕ
form_feed = 12

-- the thirteen bytes that a stride of `split_at_scalar` is compared with, in its order
abbrev pub stride_bytes : List ℕ
stride_bytes =
    tab ∷ line_feed ∷ carriage_return ∷ space ∷ hash ∷ semicolon ∷ less_than ∷ equals ∷ greater_than
    ∷ brace_open ∷ brace_close ∷ bracket_open ∷ bracket_close ∷ []

unfoldable pub stride_stops : ℕ → Bool
stride_stops b = among b stride_bytes

-- the sixteen bytes that `create_character_class_table` gives a class, in its order
abbrev pub table_bytes : List ℕ
table_bytes =
    tab ∷ line_feed ∷ vertical_tab ∷ form_feed ∷ carriage_return ∷ space ∷ exclamation ∷ hash
    ∷ semicolon ∷ less_than ∷ equals ∷ greater_than ∷ bracket_open ∷ bracket_close ∷ brace_close ∷ brace_open ∷ []

-- a table with a class written at each of some bytes
abbrev pub with_classes : List ℕ → List ℕ → List ℕ
with_classes table [] = table
with_classes table (b ∷ bs) = with_classes (set table b 1) bs

-- `CHARACTER_CLASS`, and `is_boundary`, which asks it
unfoldable pub character_class : List ℕ
character_class = with_classes (replicate 256 0) table_bytes

unfoldable pub has_class : ℕ → Bool
has_class b = not (eqb (get_or character_class b 0) 0)

-- `forward_search`: the place of the first byte that is looked for, of the bytes that start at a place. The trailing zeros of a stride's mask say no other
unfoldable pub forward_search : (ℕ → Bool) → List ℕ → ℕ → Option ℕ
forward_search wanted [] at = none
forward_search wanted (b ∷ bs) at = elim (wanted b) [ true ↦ some at | false ↦ forward_search wanted bs (at + 1) ]

-- what a look at a stride says: the run ends at a place, the next stride is to be looked at, or the loop is to be left
pub data Look : Type 0 where
  ends : ℕ → Look
  next : Look
  leave : Look

-- the bytes of a stride; each is loaded whole (`scalar_loads` and `quote_loads` of proofs/Domain.antt)
abbrev pub loop_size : ℕ
loop_size = 16

unfoldable pub stride : List ℕ → ℕ → List ℕ
stride d ptr = take loop_size (drop ptr d)

-- `while ptr < end_ptr`, a stride a turn: where a look has found the run's end, if one has
unfoldable pub strides_from : (List ℕ → ℕ → Look) → List ℕ → ℕ → ℕ → ℕ → Option ℕ
strides_from look d end-ptr zero ptr = none
strides_from look d end-ptr (suc turns) ptr =
    elim (ltb ptr end-ptr) [
      | true ↦ elim (look (stride d ptr) ptr) [ ends at ↦ some at | next ↦ strides_from look d end-ptr turns (ptr + loop_size) | leave ↦ none ]
      | false ↦ none
    ]

unfoldable pub strides : (List ℕ → ℕ → Look) → List ℕ → ℕ → Option ℕ
strides look d end-ptr = strides_from look d end-ptr end-ptr 0

-- a stride of `split_at_scalar`: the first of the thirteen ends the run
unfoldable pub scalar_look : List ℕ → ℕ → Look
scalar_look bytes ptr = elim (forward_search stride_stops bytes ptr) [ some at ↦ ends at | none ↦ next ]

-- its strides: as long as more than sixteen bytes are left
unfoldable pub scalar_strides : List ℕ → Option ℕ
scalar_strides d = strides scalar_look d (length d - min loop_size (length d))

-- `split_at_scalar_fallback`: to the first byte with a class, from the start, and at least one byte
unfoldable pub split_at_scalar_fallback : List ℕ → ℕ
split_at_scalar_fallback d = max (Option.get_or (forward_search has_class d 0) (length d)) 1

-- `split_at_scalar`: how many bytes of a part it cuts off. Of a part with no byte it would cut one, and panics there; no caller lends it one
unfoldable pub split_at_scalar : List ℕ → ℕ
split_at_scalar d = elim (scalar_strides d) [ some at ↦ max at 1 | none ↦ split_at_scalar_fallback d ]

-- a stride of `parse_quote_scalar`: a backslash anywhere in it leaves the loop, and else its first quote ends the run
unfoldable pub quote_look : List ℕ → ℕ → Look
quote_look bytes ptr =
    elim (forward_search (λ b. eqb b backslash) bytes ptr) [
      | some at ↦ leave
      | none ↦ elim (forward_search (λ b. eqb b quote) bytes ptr) [ some at ↦ ends at | none ↦ next ]
    ]

-- its strides: over the whole sixteens of the part after the quote
unfoldable pub quote_strides : List ℕ → Option ℕ
quote_strides haystack = strides quote_look haystack (length haystack / loop_size * loop_size)

-- `parse_quote_scalar_fallback`, at a position of a part whose byte 0 is the quote: how many bytes stand between the quotes, if one closes
unfoldable pub quote_from : List ℕ → ℕ → ℕ → Option ℕ
quote_from d zero pos = none
quote_from d (suc turns) pos =
    elim (ltb pos (length d)) [
      | true ↦ elim (eqb (get_or d pos 0) backslash) [
        | true ↦ quote_from d turns (pos + 2)
        | false ↦ elim (eqb (get_or d pos 0) quote) [ true ↦ some (pos - 1) | false ↦ quote_from d turns (pos + 1) ]
      ]
      | false ↦ none
    ]

unfoldable pub parse_quote_scalar_fallback : List ℕ → Option ℕ
parse_quote_scalar_fallback d = quote_from d (length d) 1

-- `parse_quote_scalar`: how many bytes stand between a part's first byte, the quote, and the one that closes it
unfoldable pub parse_quote_scalar : List ℕ → Option ℕ
parse_quote_scalar d = elim (quote_strides (drop 1 d)) [ some at ↦ some at | none ↦ parse_quote_scalar_fallback d ]
