-- The fields of a file that was written, read again, and the bytes of a file that was read, written again.
-- Assumes nothing.
use mathlib.Core.Path.{◌≡◌, refl, sym, ◌∙◌, ap}
use mathlib.Core.Bool.{false}
use mathlib.Core.List.{List, [], ◌∷◌, ◌++◌}
use Prim.Native.Nat.{ℕ, suc, ◌+◌, ◌*◌, ◌^◌, ◌≤◌, ◌<◌}
use native.Mathlib.Nat.{mul_assoc, mul-le-mul_right, pow-succ'}
use native.Mathlib.Omega.{arith}
use borrow.Author.Tests.{le-leb, le-ltb, eq-eqb}
use lib.ListN.{length, take, drop, length-append, length-drop, take-append-drop}
use lib.Seq.{drop_at, length-take-le, get_or-drop}
use Rattle.tape.specs.declared.token.Token.{Token}
use Rattle.tape.specs.Token.{nth}
use Rattle.packed.specs.Numbers.{byte_values, width_of, greatest, spelled, number_on, number_of, spelt, field}
use Rattle.packed.specs.Packed.{packed, unpacked}
use Rattle.packed.proofs.Spelling.{spelled-length, read_back}
use Rattle.packed.proofs.Packing.{packed-length}
use Rattle.file.specs.declared.layout.Version.TheVariants.{V1}
use Rattle.std.specs.Prelude.{Ok}
use Rattle.file.specs.Layout.{version_number, total_field, version_field, text_field, count_field, text_at, file_size, total_of, head_of, file_of}
use Rattle.file.specs.Open.{least_size, version_named, total_in, version_in, text_length_in, count_in, tokens_of, says, open_as, open_file}
use Rattle.file.specs.Files.{too_large}
use Rattle.file.proofs.Writing.{small-text, small-total}
use Rattle.file_promises.specs.Calls.{Bytes}
use Rattle.file_promises.proofs.Answers.{Fields}
use Rattle.file_promises.proofs.Spells.{part_bytes, spelt-again, joined, unpacked-again, Small, spelt-within, spelt-last, packed-back}

-- a field whose bytes are there is what they spell
pub field-there : (bytes : List ℕ) (at width : ℕ) → at + width ≤ length bytes → field bytes at width ≡ spelt bytes at width
unfolding field
field-there bytes at width h = rw (field, le-leb (at + width) (length bytes) h)

-- a number that is no greater than the greatest of its width fits it
fits_width : (width n : ℕ) → 0 < byte_values ^ width → n ≤ greatest width → n < byte_values ^ width
fits_width width n h k = omega arith

-- ---- written, and opened again
module _ (text_length : ℕ) (ts : List Token) (small : too_large V1 text_length (length ts) ≡ false) where
  abbrev n : ℕ
  n = length ts

  abbrev total : List ℕ
  total = spelled (width_of total_field) (total_of V1 n)

  abbrev named : List ℕ
  named = spelled (width_of version_field) (version_number V1)

  abbrev text : List ℕ
  text = spelled (width_of (text_field V1)) text_length

  abbrev counted : List ℕ
  counted = spelled (width_of count_field) n

  abbrev file : List ℕ
  file = total ++ named ++ text ++ counted ++ packed ts

  tl : length total ≡ 4
  tl = spelled-length 4 (total_of V1 n)

  tv : length (total ++ named) ≡ 5
  tv = length-append total named ∙ omega (arith, tl, spelled-length 1 1)

  tvl : length (total ++ named ++ text) ≡ 8
  tvl = length-append (total ++ named) text ∙ omega (arith, tv, spelled-length 3 text_length)

  tvlc : length (total ++ named ++ text ++ counted) ≡ 12
  tvlc = length-append (total ++ named ++ text) counted ∙ omega (arith, tvl, spelled-length 4 n)

  whole : length file ≡ file_size V1 n
  whole = length-append (total ++ named ++ text ++ counted) (packed ts) ∙ omega (arith, tvlc, packed-length ts)

  total-back : total_in file ≡ file_size V1 n
  total-back =
      field-there file 0 4 (omega (arith, whole))
      ∙ spelt-within (total ++ named ++ text ++ counted) (packed ts) 0 4 (omega (arith, tvlc))
      ∙ spelt-within (total ++ named ++ text) counted 0 4 (omega (arith, tvl))
      ∙ spelt-within (total ++ named) text 0 4 (omega (arith, tv))
      ∙ spelt-within total named 0 4 (omega (arith, tl))
      ∙ spelt-last [] total 0 4 refl tl
      ∙ read_back 4 (file_size V1 n) (omega (arith, small-total V1 text_length n small))

  version-back : version_in file ≡ 1
  version-back =
      field-there file 4 1 (omega (arith, whole))
      ∙ spelt-within (total ++ named ++ text ++ counted) (packed ts) 4 1 (omega (arith, tvlc))
      ∙ spelt-within (total ++ named ++ text) counted 4 1 (omega (arith, tvl))
      ∙ spelt-within (total ++ named) text 4 1 (omega (arith, tv))
      ∙ spelt-last total named 4 1 tl (spelled-length 1 1)
      ∙ read_back 1 1 (omega arith)

  text-back : text_length_in V1 file ≡ text_length
  text-back =
      field-there file 5 3 (omega (arith, whole))
      ∙ spelt-within (total ++ named ++ text ++ counted) (packed ts) 5 3 (omega (arith, tvlc))
      ∙ spelt-within (total ++ named ++ text) counted 5 3 (omega (arith, tvl))
      ∙ spelt-last (total ++ named) text 5 3 tv (spelled-length 3 text_length)
      ∙ read_back 3 text_length (omega (arith, small-text V1 text_length n small))

  count-back : count_in V1 file ≡ n
  count-back =
      field-there file 8 4 (omega (arith, whole))
      ∙ spelt-within (total ++ named ++ text ++ counted) (packed ts) 8 4 (omega (arith, tvlc))
      ∙ spelt-last (total ++ named ++ text) counted 8 4 tvl (spelled-length 4 n)
      ∙ read_back 4 n (omega (arith, small-total V1 text_length n small))

  pub written-opens : open_file (file_of V1 text_length ts) ≡ Ok (says V1 text_length n)
  unfolding file_of head_of open_file version_named open_as
  written-opens =
      rw (
        open_file,
        le-ltb (length file) least_size (omega (arith, whole)),
        eq-eqb (total_in file) (length file) (total-back ∙ sym whole),
        version-back,
        open_as,
        eq-eqb (file_size V1 (count_in V1 file)) (length file) (sym (whole ∙ ap (file_size V1) (sym count-back))),
        text-back,
        count-back,
      )

  pub written-tokens : ((i : ℕ) → i < length ts → Small (nth ts i)) → tokens_of V1 (file_of V1 text_length ts) ≡ ts
  unfolding file_of head_of tokens_of
  written-tokens s = ap unpacked (drop_at (total ++ named ++ text ++ counted) (packed ts) 12 tvlc) ∙ packed-back ts s

-- ---- read, and written again
-- some bytes spell no more than their width holds
number_small : (n : ℕ) (bytes : List ℕ) → Bytes bytes → number_on n bytes < (n + 1) * byte_values ^ length bytes
unfolding number_on
number_small n [] h = omega arith
number_small n (b ∷ bytes) h =
    let small : b < byte_values = h 0 in
    let rest : number_on (n * byte_values + b) bytes < (n * byte_values + b + 1) * byte_values ^ length bytes =
    number_small (n * byte_values + b) bytes (λ i. h (suc i)) in
    let front : n * byte_values + b + 1 ≤ (n + 1) * byte_values = omega arith in
    let wide : (n * byte_values + b + 1) * byte_values ^ length bytes ≤ (n + 1) * byte_values * byte_values ^ length bytes =
    mul-le-mul_right (byte_values ^ length bytes) front in
    let parts : (n + 1) * byte_values * byte_values ^ length bytes ≡ (n + 1) * byte_values ^ length (b ∷ bytes) =
    mul_assoc (n + 1) byte_values (byte_values ^ length bytes) ∙ ap (λ (k : ℕ). (n + 1) * k) (sym (pow-succ' byte_values (length bytes))) in
    omega arith

spelt-small : (bytes : List ℕ) (at width : ℕ) → Bytes bytes → at + width ≤ length bytes → spelt bytes at width < byte_values ^ width
unfolding spelt
spelt-small bytes at width h fits =
    let long : length (take width (drop at bytes)) ≡ width = length-take-le width (drop at bytes) (omega (arith, length-drop at bytes)) in
    let small : number_of (take width (drop at bytes)) < (0 + 1) * byte_values ^ length (take width (drop at bytes)) =
    number_small 0 (take width (drop at bytes)) (part_bytes bytes at width h) in
    let same : byte_values ^ length (take width (drop at bytes)) ≡ byte_values ^ width = ap (λ (k : ℕ). byte_values ^ k) long in
    omega arith

module _ (bytes : List ℕ) (all : Bytes bytes) (text_length count : ℕ) (f : Fields bytes text_length count) where
  text-spelt : text_length ≡ spelt bytes text_at 3
  text-spelt = f.text ∙ field-there bytes text_at 3 (omega (arith, f.least))

  -- what stood in its field fits it
  pub read_small : too_large V1 text_length count ≡ false
  read_small =
      let text : text_length ≤ greatest 3 = omega (arith, text-spelt, spelt-small bytes text_at 3 all (omega (arith, f.least))) in
      let total : length bytes ≡ spelt bytes 0 4 = sym f.total ∙ field-there bytes 0 4 (omega (arith, f.least)) in
      let whole : file_size V1 count ≤ greatest 4 = omega (arith, f.size, total, spelt-small bytes 0 4 all (omega (arith, f.least))) in
      rw (le-ltb (greatest 3) text_length text, le-ltb (greatest 4) (file_size V1 count) whole)

  pub read_again : length (tokens_of V1 bytes) ≡ count → file_of V1 text_length (tokens_of V1 bytes) ≡ bytes
  unfolding file_of head_of tokens_of
  read_again counted =
      let least : least_size ≤ length bytes = f.least in
      let total : file_size V1 (length (unpacked (drop 12 bytes))) ≡ spelt bytes 0 4 =
      ap (file_size V1) counted ∙ sym f.size ∙ sym f.total ∙ field-there bytes 0 4 (omega arith) in
      let version : ◌≡◌ {A = ℕ} 1 (spelt bytes 4 1) = sym f.version ∙ field-there bytes 4 1 (omega arith) in
      let tokens : length (unpacked (drop 12 bytes)) ≡ spelt bytes 8 4 = counted ∙ f.tokens ∙ field-there bytes 8 4 (omega arith) in
      let one : spelled 4 (file_size V1 (length (unpacked (drop 12 bytes)))) ≡ take 4 bytes =
      ap (spelled 4) total ∙ spelt-again bytes 0 4 all (omega arith) in
      let two : spelled 1 1 ≡ take 1 (drop 4 bytes) = ap (spelled 1) version ∙ spelt-again bytes 4 1 all (omega arith) in
      let three : spelled 3 text_length ≡ take 3 (drop 5 bytes) = ap (spelled 3) text-spelt ∙ spelt-again bytes 5 3 all (omega arith) in
      let four : spelled 4 (length (unpacked (drop 12 bytes))) ≡ take 4 (drop 8 bytes) = ap (spelled 4) tokens ∙ spelt-again bytes 8 4 all (omega arith) in
      let body : packed (unpacked (drop 12 bytes)) ≡ drop 12 bytes =
      unpacked-again (drop 12 bytes) count (λ i. rw (get_or-drop 12 bytes i 0) (all (12 + i))) (omega (arith, length-drop 12 bytes, f.size)) in
      rw (one, two, three, four, body)
      (ap (λ (x : List ℕ). x ++ take 3 (drop 5 bytes) ++ take 4 (drop 8 bytes) ++ drop 12 bytes) (joined bytes 0 4 1)
      ∙ ap (λ (x : List ℕ). x ++ take 4 (drop 8 bytes) ++ drop 12 bytes) (joined bytes 0 5 3)
      ∙ ap (λ (x : List ℕ). x ++ drop 12 bytes) (joined bytes 0 8 4)
      ∙ take-append-drop 12 bytes)
