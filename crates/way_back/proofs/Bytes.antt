-- What the bytes of plain scalars are to the parse: a test that holds at each of the 65 holds at every plain byte, by computing.
-- Assumes nothing.
use mathlib.Core.Path.{◌≡◌, refl}
use mathlib.Core.Bool.{Bool, true, false, not, false≢true}
use mathlib.Core.List.{List, [], ◌∷◌}
use Prim.Native.Nat.{ℕ}
use borrow.Author.Tests.{eqb-true, not-true}
use lib.Dec.{eqb}
use Rattle.data.proofs.Cases.{by_bool}
use Rattle.data.specs.Bytes.{hash, quote, at_sign, equals, bracket_open, bracket_close, brace_open, brace_close}
use Rattle.data.specs.Classes.{among, is_boundary}
use Rattle.cut.specs.Blanks.{is_blank}
use Rattle.machine.specs.declared.bytes.KeyByte as KeyByte
use Rattle.machine.specs.declared.bytes.OpenByte as OpenByte
use Rattle.machine.specs.declared.bytes.ValueByte as ValueByte
use Rattle.machine.specs.Bytes.{key_byte, open_byte, follows_key, begins_operator, value_byte}
use Rattle.way_back.specs.Plain.{plain_bytes, plain_byte}

abbrev all : (ℕ → Bool) → List ℕ → Bool
all test [] = true
all test (b ∷ bs) = elim (test b) [ true ↦ all test bs | false ↦ false ]

of_all : (test : ℕ → Bool) (l : List ℕ) (b : ℕ) → all test l ≡ true → among b l ≡ true → test b ≡ true
of_all test [] b a m = absurd (false≢true m)
of_all test (x ∷ xs) b a m =
    by_bool (test x)
    (λ t. by_bool (eqb b x)
    (λ e. rw (eqb-true b x e) t)
    (λ f. of_all test xs b (rw (all, t) at a) (rw (among, f) at m)))
    (λ f. absurd (false≢true (rw (all, f) at a)))

-- a test that fails at each of them fails at every plain byte
pub spared : (test : ℕ → Bool) (b : ℕ) → all (λ x. not (test x)) plain_bytes ≡ true → plain_byte b ≡ true → test b ≡ false
unfolding plain_byte
spared test b a m = not-true (test b) (of_all (λ x. not (test x)) plain_bytes b a m)

-- a byte that begins an entry
pub record Begins (b : ℕ) : Type 0 where
  pub blank : is_blank b ≡ false
  pub comment : eqb b hash ≡ false
  pub closer : eqb b brace_close ≡ false
  pub equal : eqb b equals ≡ false
  pub after_key : follows_key b ≡ false

-- a byte that begins a scalar, and nothing else, in every state
pub record Solid (b : ℕ) : Type 0 where
  pub begins : Begins b
  pub brace : eqb b brace_open ≡ false
  pub bracket : eqb b bracket_open ≡ false
  pub bracket_closer : eqb b bracket_close ≡ false
  pub sign : begins_operator b ≡ false

module _ (b : ℕ) where
  pub solid_plain : plain_byte b ≡ true → Solid b
  unfolding is_blank begins_operator follows_key
  solid_plain h = record {
    begins = record {
      blank = spared is_blank b refl h;
      comment = spared (λ x. eqb x hash) b refl h;
      closer = spared (λ x. eqb x brace_close) b refl h;
      equal = spared (λ x. eqb x equals) b refl h;
      after_key = spared follows_key b refl h;
    };
    brace = spared (λ x. eqb x brace_open) b refl h;
    bracket = spared (λ x. eqb x bracket_open) b refl h;
    bracket_closer = spared (λ x. eqb x bracket_close) b refl h;
    sign = spared begins_operator b refl h;
  }

  -- it runs on, quotes nothing and opens no variable
  pub plain_runs : plain_byte b ≡ true → is_boundary b ≡ false
  unfolding is_boundary
  plain_runs h = spared is_boundary b refl h

  pub plain_unquoted : plain_byte b ≡ true → eqb b quote ≡ false
  plain_unquoted h = spared (λ x. eqb x quote) b refl h

  pub plain-no_variable : plain_byte b ≡ true → eqb b at_sign ≡ false
  plain-no_variable h = spared (λ x. eqb x at_sign) b refl h

  module _ (s : Solid b) where
    pub solid_key : key_byte b ≡ KeyByte.TheVariants.Other
    unfolding key_byte
    solid_key = rw (key_byte, s.begins.closer, s.bracket_closer, s.brace, s.bracket)

    pub solid_open : open_byte b ≡ OpenByte.TheVariants.Other
    unfolding open_byte
    solid_open = rw (open_byte, s.begins.closer, s.bracket, s.brace)

    pub solid_value : value_byte b ≡ ValueByte.TheVariants.Other
    unfolding value_byte
    solid_value = rw (value_byte, s.brace, s.begins.closer, s.sign)

pub solid_quote : Solid quote
unfolding is_blank begins_operator follows_key
solid_quote = record {
  begins = record { blank = refl; comment = refl; closer = refl; equal = refl; after_key = refl };
  brace = refl;
  bracket = refl;
  bracket_closer = refl;
  sign = refl;
}

pub brace-begins : Begins brace_open
unfolding is_blank follows_key
brace-begins = record { blank = refl; comment = refl; closer = refl; equal = refl; after_key = refl }
