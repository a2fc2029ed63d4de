-- Laws of the two words: what the reading of yes and no makes of bytes, by their length and each of them.
-- Assumes nothing.
use Rattle.std.proofs.Common.{◌≡◌, ℕ, true, false, List, length, get_or, ap, rules}
use Rattle.std.proofs.lemmas.Slice.Eq.{compares_Decides, text_from_reads}
use Rattle.std.specs.Prelude.{Ok, Err}
use Rattle.data.proofs.Cases.{by_bool}
use Rattle.data.specs.Bytes.{letter_e, letter_n, letter_o, letter_s, letter_y}
use Rattle.scalar.specs.Truth.{yes, no, same, bool_read}
use Rattle.scalar.specs.declared.errors.BoolError.TheVariants.{InvalidBool}

-- runs of bytes that the definition calls the same are one
one_run : (s t : List ℕ) → same s t ≡ true → s ≡ t
unfolding same
one_run s t = (compares_Decides same (search rules) s t).0

pub is_yes : (d : List ℕ) → length d ≡ 3 → get_or d 0 0 ≡ letter_y → get_or d 1 0 ≡ letter_e → get_or d 2 0 ≡ letter_s → bool_read d ≡ Ok true
unfolding bool_read
is_yes d n y e s = ap bool_read (text_from_reads d yes n (y, (e, (s, tt))))

pub is_no : (d : List ℕ) → length d ≡ 2 → get_or d 0 0 ≡ letter_n → get_or d 1 0 ≡ letter_o → bool_read d ≡ Ok false
unfolding bool_read
is_no d m n o = ap bool_read (text_from_reads d no m (n, (o, tt)))

-- bytes that are neither are refused
pub no_word : (d : List ℕ)
    → (length d ≡ 3 → get_or d 0 0 ≡ letter_y → get_or d 1 0 ≡ letter_e → get_or d 2 0 ≡ letter_s → ⊥)
    → (length d ≡ 2 → get_or d 0 0 ≡ letter_n → get_or d 1 0 ≡ letter_o → ⊥)
    → bool_read d ≡ Err InvalidBool
unfolding bool_read
no_word d not_yes not_no =
    by_bool (same d yes)
    (λ t. absurd (not_yes (ap length (one_run d yes t)) (ap (λ (x : List ℕ). get_or x 0 0) (one_run d yes t)) (ap (λ (x : List ℕ). get_or x 1 0) (one_run d yes t)) (ap (λ (x : List ℕ). get_or x 2 0) (one_run d yes t))))
    (λ f. by_bool (same d no)
    (λ t. absurd (not_no (ap length (one_run d no t)) (ap (λ (x : List ℕ). get_or x 0 0) (one_run d no t)) (ap (λ (x : List ℕ). get_or x 1 0) (one_run d no t))))
    (λ g. rw (bool_read, f, g)))
