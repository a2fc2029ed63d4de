-- What an answer tells of the call that gave it: what a file that was written is, and what one that was read says.
-- Assumes nothing.
use mathlib.Core.Path.{◌≡◌, refl, sym, ◌∙◌, ap, subst}
use mathlib.Core.Bool.{Bool, true, false, not}
use mathlib.Core.List.{List}
use Prim.Native.Nat.{ℕ, ◌≤◌}
use native.Mathlib.Omega.{arith}
use borrow.Author.Tests.{ltb-true, ltb-false, eqb-true, not-false}
use lib.Dec.{ltb, eqb}
use lib.ListN.{length}
use Rattle.data.specs.Reasons.{first_of}
use Rattle.data.proofs.Cases.{by_bool, neither}
use Rattle.tape.specs.declared.token.Token.{Token}
use Rattle.tape.specs.Words.{words_for, padded}
use Rattle.sheet.specs.Sound.{Sheet}
use Rattle.file.specs.declared.layout.Version.{Version}
use Rattle.file.specs.declared.layout.Version.TheVariants.{V1}
use Rattle.file.specs.declared.Refusal.{Refusal}
use Rattle.file.specs.declared.Refusal.TheVariants.{FileLength, UnknownVersion, NotSound, NoRoom, TooLarge, OtherCount}
use Rattle.std.specs.Prelude.{Result, Ok, Err}
use Rattle.file.specs.declared.layout.Head.{Head}
use Rattle.file.specs.declared.Found.{Found}
use Rattle.file.specs.Layout.{file_size, file_of}
use Rattle.file.specs.Open.{least_size, version_named, total_in, version_in, text_length_in, count_in, tokens_of, other_length, says, open_as, open_file}
use Rattle.file.specs.Files.{Left, left, found_of, too_large, refuse_write, accept_write, write_of, refuse_read, accept_read, read_of, ReadOpened, Reads}
use Rattle.file.proofs.Fields.{opened_sized}
use Rattle.file.proofs.Reading.{tokens-counted}

-- ---- a file that was written
file_not : {size : ℕ} {out : List ℕ} (room : ℕ) (why : Refusal) → left (Ok size) out ≡ refuse_write room why → ⊥
file_not room why e = let z : ◌≡◌ {A = ℕ} 0 1 = cc in omega arith

pub record Wrote (v : Version) (text_length : ℕ) (ts : List Token) (room : ℕ) (sound : Bool) (answer : Left (Result ℕ Refusal)) : Type 0 where
  pub yes : sound ≡ true
  pub small : too_large v text_length (length ts) ≡ false
  pub gives : answer ≡ accept_write room (file_of v text_length ts)

pub wrote-file : (v : Version) (text_length : ℕ) (ts : List Token) (room : ℕ) (sound : Bool) (size : ℕ) (out : List ℕ)
    → left (Ok size) out ≡ write_of v text_length ts room sound → Wrote v text_length ts room sound (left (Ok size) out)
unfolding write_of first_of
wrote-file v text_length ts room sound size out e =
    by_bool (not sound)
    (λ t. absurd (file_not room NotSound (e ∙ rw (write_of, first_of, t))))
    (λ t.
    by_bool (too_large v text_length (length ts))
    (λ u. absurd (file_not room TooLarge (e ∙ rw (write_of, first_of, t, u))))
    (λ u.
    by_bool (ltb room (file_size v (length ts)))
    (λ f. absurd (file_not room NoRoom (e ∙ rw (write_of, first_of, t, u, f))))
    (λ f. record { yes = not-false sound t; small = u; gives = e ∙ rw (write_of, first_of, t, u, f) })))

-- a sheet that is sound, small and finds room is written
pub writes-file : (v : Version) (text_length : ℕ) (ts : List Token) (room : ℕ) → too_large v text_length (length ts) ≡ false
    → file_size v (length ts) ≤ room
    → write_of v text_length ts room true ≡ accept_write room (file_of v text_length ts)
unfolding write_of first_of
writes-file v text_length ts room small fits =
    by_bool (ltb room (file_size v (length ts)))
    (λ f. absurd (omega (arith, ltb-true room (file_size v (length ts)) f)))
    (λ f. rw (write_of, first_of, small, f))

-- ---- a file that was read
sheet_not : {text_length count : ℕ} {words : List ℕ} (room : ℕ) (why : Refusal)
    → left (Ok (found_of text_length count)) words ≡ refuse_read room why → ⊥
sheet_not room why e = let z : ◌≡◌ {A = ℕ} 0 1 = cc in omega arith

pub record Took (bytes : List ℕ) (room text_length count : ℕ) (words : List ℕ) : Type 0 where
  pub opens : open_file bytes ≡ Ok (says V1 text_length count)
  pub sound : Sheet text_length (tokens_of V1 bytes)
  pub fits : words_for count ≤ room
  pub lays : words ≡ padded room (tokens_of V1 bytes)
  pub counted : length (tokens_of V1 bytes) ≡ count

took_tokens : (text_length : ℕ) (ts : List Token) (room : ℕ) (sound : Bool) (length' count : ℕ) (words : List ℕ)
    → left (Ok (found_of length' count)) words ≡ read_of text_length ts room sound
    → (sound ≡ true) × (words_for (length ts) ≤ room) × (length' ≡ text_length) × (count ≡ length ts) × (words ≡ padded room ts)
unfolding read_of first_of
took_tokens text_length ts room sound length' count words e =
    by_bool (not sound)
    (λ t. absurd (sheet_not room NotSound (e ∙ rw (read_of, first_of, t))))
    (λ t.
    by_bool (ltb room (words_for (length ts)))
    (λ f. absurd (sheet_not room NoRoom (e ∙ rw (read_of, first_of, t, f))))
    (λ f.
    let given : left (Ok (found_of length' count)) words ≡ accept_read room text_length ts = e ∙ rw (read_of, first_of, t, f) in
    let same : found_of length' count ≡ found_of text_length (length ts) = cc in (
      not-false sound t,
      ltb-false room (words_for (length ts)) f,
      ap (λ (a : Found). a.text_length) same,
      ap (λ (a : Found). a.count) same,
      cc,
    )))

took_head : (bytes : List ℕ) (room : ℕ) (v : Version) (said n text_length count : ℕ) (words : List ℕ) → open_file bytes ≡ Ok (says v said n)
    → ReadOpened (λ (answer : Left (Result Found Refusal)). answer) bytes room (Ok (says v said n)) (left (Ok (found_of text_length count)) words)
    → Took bytes room text_length count words
took_head bytes room V1 said n text_length count words is d =
    let took = took_tokens said (tokens_of V1 bytes) room d.yes text_length count words d.gives in
    let size : length (tokens_of V1 bytes) ≡ n = tokens-counted V1 bytes n (opened_sized bytes is) in
    record {
      opens = is ∙ rw (took.2, took.3, size);
      sound = subst (λ (k : ℕ). Sheet k (tokens_of V1 bytes)) (sym took.2) (d.holds.0 took.0);
      fits = omega (arith, took.1, took.3);
      lays = took.4;
      counted = sym took.3;
    }

took_opened : (bytes : List ℕ) (room : ℕ) (o : Result Head Refusal) (text_length count : ℕ) (words : List ℕ) → open_file bytes ≡ o
    → ReadOpened (λ (answer : Left (Result Found Refusal)). answer) bytes room o (left (Ok (found_of text_length count)) words)
    → Took bytes room text_length count words
took_opened bytes room (Ok head) text_length count words is d =
    took_head bytes room head.version head.text_length head.count text_length count words is d
took_opened bytes room (Err why) text_length count words is d = absurd (sheet_not room why d)

pub took_sheet : (bytes : List ℕ) (room text_length count : ℕ) (words : List ℕ) → Reads bytes room (left (Ok (found_of text_length count)) words)
    → Took bytes room text_length count words
took_sheet bytes room text_length count words d = took_opened bytes room (open_file bytes) text_length count words refl d

-- a sound sheet that finds room is read
pub takes-tokens : (text_length : ℕ) (ts : List Token) (room : ℕ) → words_for (length ts) ≤ room
    → read_of text_length ts room true ≡ accept_read room text_length ts
unfolding read_of first_of
takes-tokens text_length ts room fits =
    by_bool (ltb room (words_for (length ts)))
    (λ f. absurd (omega (arith, ltb-true room (words_for (length ts)) f)))
    (λ f. rw (read_of, first_of, f))

-- ---- what the fields of an opened file are
pub record Fields (bytes : List ℕ) (text_length count : ℕ) : Type 0 where
  pub least : least_size ≤ length bytes
  pub total : total_in bytes ≡ length bytes
  pub version : version_in bytes ≡ 1
  pub text : text_length ≡ text_length_in V1 bytes
  pub tokens : count ≡ count_in V1 bytes
  pub size : length bytes ≡ file_size V1 count

holds_not : {v : Version} {text_length count : ℕ} (why : Refusal) (o : Result Head Refusal) → o ≡ Ok (says v text_length count) → o ≡ Err why → ⊥
holds_not why o e f = let z : ◌≡◌ {A = ℕ} 0 1 = cc in omega arith

pub opened_fields : (bytes : List ℕ) (text_length count : ℕ) → open_file bytes ≡ Ok (says V1 text_length count) → Fields bytes text_length count
unfolding open_file version_named open_as
opened_fields bytes text_length count e =
    by_bool (other_length bytes)
    (λ t. absurd (holds_not FileLength (open_file bytes) e (rw (open_file, t))))
    (λ t.
    let well = neither (ltb (length bytes) least_size) (not (eqb (total_in bytes) (length bytes))) t in
    by_bool (eqb (version_in bytes) 1)
    (λ n.
    by_bool (eqb (file_size V1 (count_in V1 bytes)) (length bytes))
    (λ s.
    let same : Ok (says V1 (text_length_in V1 bytes) (count_in V1 bytes)) ≡ Ok (says V1 text_length count) = rw (open_file, t, version_named, n, open_as, s) at e in
    let said : says V1 (text_length_in V1 bytes) (count_in V1 bytes) ≡ says V1 text_length count = cc in
    record {
      least = ltb-false (length bytes) least_size well.0;
      total = eqb-true (total_in bytes) (length bytes) (not-false _ well.1);
      version = eqb-true (version_in bytes) 1 n;
      text = sym (ap (λ (h : Head). h.text_length) said);
      tokens = sym (ap (λ (h : Head). h.count) said);
      size = opened_sized bytes e;
    })
    (λ s. absurd (holds_not OtherCount (open_file bytes) e (rw (open_file, t, version_named, n, open_as, s)))))
    (λ n. absurd (holds_not UnknownVersion (open_file bytes) e (rw (open_file, t, version_named, n)))))
