-- The fields of a file: what the code computes of them, by version, and how long a file is by what it says before its tokens.
-- Assumes nothing.
use mathlib.Core.Path.{◌≡◌, refl, sym, subst}
use mathlib.Core.List.{List}
use Prim.Native.Nat.{ℕ, ◌≤◌}
use native.Mathlib.Omega.{arith}
use borrow.Author.Tests.{eqb-true}
use lib.Dec.{eqb}
use lib.ListN.{length}
use Rattle.data.proofs.Cases.{by_bool}
use Rattle.packed.specs.declared.numbers.Width.TheVariants.{Three}
use Rattle.packed.specs.Numbers.{width_of, greatest}
use Rattle.tape.specs.Words.{greatest_word}
use Rattle.file.specs.declared.layout.Version.{Version}
use Rattle.file.specs.declared.layout.Version.TheVariants.{V1}
use Rattle.std.specs.Prelude.{Option, Some, None, Result, Ok, Err}
use Rattle.file.specs.declared.layout.Head.{Head}
use Rattle.file.specs.declared.Refusal.{Refusal}
use Rattle.file.specs.Layout.{version_number, text_field, count_at, head_size, file_size}
use Rattle.file.specs.Open.{version_named, version_in, count_in, other_length, open_as, open_named, open_file}

-- ---- by version
pub number_told : (v : Version) → 1 ≡ version_number v
number_told V1 = refl

pub text_told : (v : Version) → Three ≡ text_field v
text_told V1 = refl

-- a text's length that fits its field is a word
pub text-word : (v : Version) → greatest (width_of (text_field v)) ≤ greatest_word
text-word V1 = omega arith

pub count_told : (v : Version) → 8 ≡ count_at v
count_told V1 = refl

pub head_told : (v : Version) → 12 ≡ head_size v
head_told V1 = refl

-- ---- a file whose fields are well is as long as its count says
abbrev Sized : List ℕ → Result Head Refusal → Type 0
Sized bytes (Ok head) = length bytes ≡ file_size head.version head.count
Sized bytes (Err r) = Unit {0}

as_sized : (v : Version) (bytes : List ℕ) → Sized bytes (open_as v bytes)
unfolding open_as
as_sized v bytes =
    by_bool (eqb (file_size v (count_in v bytes)) (length bytes))
    (λ t. rw (open_as, t) (sym (eqb-true (file_size v (count_in v bytes)) (length bytes) t)))
    (λ t. rw (open_as, t) tt)

named-sized : (named : Option Version) (bytes : List ℕ) → Sized bytes (open_named named bytes)
named-sized (Some v) bytes = as_sized v bytes
named-sized None bytes = tt

file-sized : (bytes : List ℕ) → Sized bytes (open_file bytes)
unfolding open_file
file-sized bytes =
    by_bool (other_length bytes)
    (λ t. rw (open_file, t) tt)
    (λ t. rw (open_file, t) (named-sized (version_named (version_in bytes)) bytes))

pub opened_sized : (bytes : List ℕ) {head : Head} → open_file bytes ≡ Ok head → length bytes ≡ file_size head.version head.count
opened_sized bytes e = subst (Sized bytes) e (file-sized bytes)
