-- Every file's refusal is as listed: of whatever answers the contract of `read` allows.
-- Assumes nothing.
use mathlib.Core.Path.{◌≡◌, refl, sym, ◌∙◌, ap, subst}
use mathlib.Core.Bool.{true, false}
use mathlib.Core.List.{List}
use Prim.Native.Nat.{ℕ, ◌+◌, ◌≤◌, ◌<◌}
use native.Mathlib.Omega.{arith}
use borrow.Author.Tests.{lt-ltb, le-ltb, ltb-true, ltb-false, eq-eqb, ne_eqb}
use lib.Dec.{ltb}
use lib.ListN.{length, length-append}
use lib.Seq.{length-take-le, take-take, take-append-le}
use Rattle.data.specs.Reasons.{first_of}
use Rattle.data.proofs.Cases.{by_bool}
use Rattle.tape.specs.Words.{words_for}
use Rattle.sheet.specs.Sound.{Sheet}
use Rattle.sheet.specs.Decided.{Decided}
use Rattle.packed.specs.Numbers.{number_of, spelt}
use Rattle.file.specs.declared.layout.Version.TheVariants.{V1}
use Rattle.file.specs.declared.Refusal.{Refusal}
use Rattle.file.specs.declared.Refusal.TheVariants.{FileLength, UnknownVersion, NotSound, NoRoom, OtherCount}
use Rattle.std.specs.Prelude.{Result, Ok, Err}
use Rattle.file.specs.declared.Refusal.{Refusal}
use Rattle.file.specs.declared.layout.Head.{Head}
use Rattle.file.specs.declared.Found.{Found}
use Rattle.file.specs.Layout.{file_size}
use Rattle.file.specs.Open.{least_size, version_named, total_in, version_in, text_length_in, count_in, tokens_of, other_length, says, open_as, open_file}
use Rattle.file.specs.Refusals.{number}
use Rattle.file.specs.Files.{Left, left, found_of, refuse_read, accept_read, read_of, ReadOpened, Reads}
use Rattle.file.proofs.Reading.{tokens-counted}
use Rattle.file_promises.specs.Calls.{ReadCall, ReadsSo}
use Rattle.file_promises.specs.Listed as listed
use Rattle.file_promises.specs.Listed.{refusal_of, Measured, Listed, ReadListed, CutRefused, LongerRefused}
use Rattle.file_promises.proofs.Answers.{took_sheet, opened_fields}
use Rattle.file_promises.proofs.Fields.{field-there}

module _ (bytes : List ℕ) (room : ℕ) (found : Left (Result Found Refusal)) (reads : Reads bytes room found) where
  -- a file that is refused for its fields
  refused : (why : Refusal) → open_file bytes ≡ Err why → refusal_of found ≡ number why
  refused why e = ap refusal_of (subst (λ (o : Result Head Refusal). ReadOpened (λ (answer : Left (Result Found Refusal)). answer) bytes room o found) e reads)

  pub short-refused : length bytes < least_size → refusal_of found ≡ 31
  unfolding open_file
  short-refused h = refused FileLength (rw (open_file, lt-ltb (length bytes) least_size h))

  module _ (least : least_size ≤ length bytes) where
    total-is : total_in bytes ≡ listed.total bytes
    unfolding spelt
    total-is = field-there bytes 0 4 (omega arith)

    version-is : version_in bytes ≡ listed.version bytes
    unfolding spelt
    version-is = field-there bytes 4 1 (omega arith)

    text-is : text_length_in V1 bytes ≡ listed.text_length bytes
    unfolding spelt
    text-is = field-there bytes 5 3 (omega arith)

    count-is : count_in V1 bytes ≡ listed.count bytes
    unfolding spelt
    count-is = field-there bytes 8 4 (omega arith)

    length-refused : (listed.total bytes ≡ length bytes → ⊥) → refusal_of found ≡ 31
    unfolding open_file
    length-refused h =
        refused FileLength (rw (open_file, le-ltb (length bytes) least_size least, ne_eqb (total_in bytes) (length bytes) (λ e. h (sym total-is ∙ e))))

    module _ (whole : listed.total bytes ≡ length bytes) where
      well : other_length bytes ≡ false
      well = rw (le-ltb (length bytes) least_size least, eq-eqb (total_in bytes) (length bytes) (total-is ∙ whole))

      version-refused : (listed.version bytes ≡ 1 → ⊥) → refusal_of found ≡ 32
      unfolding open_file version_named
      version-refused h =
          refused UnknownVersion (rw (open_file, well, version_named, ne_eqb (version_in bytes) 1 (λ e. h (sym version-is ∙ e))))

      module _ (first : listed.version bytes ≡ 1) where
        count-refused : (Measured bytes → ⊥) → refusal_of found ≡ 36
        unfolding open_file version_named open_as
        count-refused h =
            let other : length bytes ≡ file_size V1 (count_in V1 bytes) → ⊥ = λ e. h (e ∙ ap (file_size V1) count-is) in
            refused OtherCount
            (rw (open_file, well, version_named, version-is ∙ first, open_as, ne_eqb (file_size V1 (count_in V1 bytes)) (length bytes) (λ e. other (sym e))))

        module _ (measured : Measured bytes) where
          opens : open_file bytes ≡ Ok (says V1 (listed.text_length bytes) (listed.count bytes))
          unfolding open_file version_named open_as
          opens =
              rw (
                open_file,
                well,
                version_named,
                version-is ∙ first,
                open_as,
                eq-eqb (file_size V1 (count_in V1 bytes)) (length bytes) (sym (measured ∙ ap (file_size V1) (sym count-is))),
                text-is,
                count-is,
              )

          told : Decided (Sheet (listed.text_length bytes) (tokens_of V1 bytes)) (read_of (listed.text_length bytes) (tokens_of V1 bytes) room) found
          told = subst (λ (o : Result Head Refusal). ReadOpened (λ (answer : Left (Result Found Refusal)). answer) bytes room o found) opens reads

          tokens_are : tokens_of V1 bytes ≡ listed.tokens bytes
          unfolding tokens_of
          tokens_are = refl

          counted : length (tokens_of V1 bytes) ≡ listed.count bytes
          counted = tokens-counted V1 bytes (listed.count bytes) measured

          sound-refused : (Sheet (listed.text_length bytes) (listed.tokens bytes) → ⊥) → refusal_of found ≡ 33
          unfolding read_of first_of
          sound-refused h =
              by_bool told.yes
              (λ y. absurd (h (subst (Sheet (listed.text_length bytes)) tokens_are (told.holds.0 y))))
              (λ n.
              let given : found ≡ refuse_read room NotSound = told.gives ∙ rw (n, read_of, first_of) in
              ap refusal_of given)

          module _ (sound : Sheet (listed.text_length bytes) (listed.tokens bytes)) where
            yes : told.yes ≡ true
            yes = told.holds.1 (subst (Sheet (listed.text_length bytes)) (sym tokens_are) sound)

            room-refused : room < words_for (listed.count bytes) → refusal_of found ≡ 34
            unfolding read_of first_of
            room-refused h =
                let given : found ≡ refuse_read room NoRoom =
                told.gives ∙ rw (yes, read_of, first_of, lt-ltb room (words_for (length (tokens_of V1 bytes))) (omega (arith, counted))) in
                ap refusal_of given

            sheet-found : words_for (listed.count bytes) ≤ room → refusal_of found ≡ 0
            unfolding read_of first_of
            sheet-found h =
                let given : found ≡ accept_read room (listed.text_length bytes) (tokens_of V1 bytes) =
                told.gives ∙ rw (yes, read_of, first_of, le-ltb room (words_for (length (tokens_of V1 bytes))) (omega (arith, counted))) in
                ap refusal_of given

  either-refused : (listed.total bytes ≡ length bytes → ⊥) → refusal_of found ≡ 31
  either-refused h =
      by_bool (ltb (length bytes) least_size)
      (λ t. short-refused (ltb-true (length bytes) least_size t))
      (λ t. length-refused (ltb-false (length bytes) least_size t) h)

  all_listed : Listed bytes room (refusal_of found)
  all_listed =
      record {
        short = short-refused;
        other_length = either-refused;
        other_version = version-refused;
        other_count = count-refused;
        not_sound = sound-refused;
        no_room = room-refused;
        well = sheet-found;
      }

pub read-listed : ReadListed
read-listed r d = all_listed r.bytes r.room r.found d

-- ---- cut short, or longer
-- what a file that was read says of its length
read-total : (r : ReadCall) → ReadsSo r → (text_length count : ℕ) (words : List ℕ) → r.found ≡ left (Ok (found_of text_length count)) words
    → (least_size ≤ length r.bytes) × (listed.total r.bytes ≡ length r.bytes)
read-total r d text_length count words e =
    let took = took_sheet r.bytes r.room text_length count words (subst (λ (g : Left (Result Found Refusal)). Reads r.bytes r.room g) e d) in
    let fields = opened_fields r.bytes text_length count took.opens in
    (fields.least, sym (total-is r.bytes r.room r.found d fields.least) ∙ fields.total)

pub cut-refused : CutRefused
cut-refused r s d q text_length count words e n h is =
    let read = read-total r d text_length count words e in
    let size : length s.bytes ≡ n = ap length is ∙ length-take-le n r.bytes (omega arith) in
    by_bool (ltb n least_size)
    (λ t. short-refused s.bytes s.room s.found q (omega (arith, ltb-true n least_size t)))
    (λ t.
    let long : least_size ≤ n = ltb-false n least_size t in
    let same : listed.total s.bytes ≡ listed.total r.bytes =
    ap listed.total is ∙ ap number_of (take-take 4 n r.bytes (omega arith)) in
    (read-listed s q).other_length (λ f. omega (arith, f, same, read.1, size)))

pub longer_refused : LongerRefused
longer_refused r s d q text_length count words e more h is =
    let read = read-total r d text_length count words e in
    let size : length s.bytes ≡ length r.bytes + length more = ap length is ∙ length-append r.bytes more in
    let same : listed.total s.bytes ≡ listed.total r.bytes =
    ap listed.total is ∙ ap number_of (take-append-le 4 r.bytes more (omega (arith, read.0))) in
    (read-listed s q).other_length (λ f. omega (arith, f, same, read.1, size))
