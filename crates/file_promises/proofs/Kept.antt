-- Sheets on file are sound, and there and back: of whatever answers the contracts of `write` and `read` allow.
-- Assumes nothing.
use mathlib.Core.Path.{◌≡◌, sym, ◌∙◌, ap, subst}
use mathlib.Core.Bool.{true}
use mathlib.Core.List.{List, ◌++◌}
use Prim.Native.Nat.{ℕ, ◌-◌, ◌≤◌, ◌<◌}
use native.Mathlib.Omega.{arith}
use lib.ListN.{length, take}
use lib.Seq.{take-append_seam}
use Rattle.tape.specs.declared.token.Token.{Token}
use Rattle.tape.specs.declared.token.ContainerKind.{ContainerKind}
use Rattle.tape.specs.declared.token.ContainerKind.TheVariants.{Array, Object}
use Rattle.tape.specs.declared.token.ScalarKind.{ScalarKind}
use Rattle.tape.specs.declared.token.ScalarKind.TheVariants.{Unquoted, Quoted, Parameter, UndefinedParameter, Header, QuotedEscape}
use Rattle.tape.specs.Token.{nth, container_code, scalar_code}
use Rattle.tape.specs.Words.{words_for, a_word, b_word, tokens_in, words_of, padded}
use Rattle.tape.proofs.Views.{token_from, tokens-at, tokens-counted, tokens-first, words-length, words-taken, padded-tokens}
use Rattle.sheet.specs.Sound.{Form, container, mixed_container, scalar, operator, closing, Sheet, Sound}
use Rattle.sheet.proofs.Sheets.{padded-sound}
use Rattle.packed.specs.Numbers.{byte_values}
use Rattle.file.specs.declared.layout.Version.TheVariants.{V1}
use Rattle.std.specs.Prelude.{Result, Ok}
use Rattle.file.specs.declared.Refusal.{Refusal}
use Rattle.file.specs.declared.layout.Head.{Head}
use Rattle.file.specs.declared.Found.{Found}
use Rattle.file.specs.Layout.{file_of}
use Rattle.file.specs.Open.{tokens_of, says, open_file}
use Rattle.file.specs.Files.{Left, left, zeros, accept_write, write_of, accept_read, read_of, ReadOpened, Reads}
use Rattle.file_promises.specs.Calls.{Words}
use Rattle.file_promises.specs.Kept.{ReadSound, WriteRead, ReadWrite, OneFile}
use Rattle.file_promises.proofs.Answers.{Wrote, wrote-file, writes-file, Took, took_sheet, takes-tokens, opened_fields}
use Rattle.file_promises.proofs.Fields.{written-opens, written-tokens, read_small, read_again}
use Rattle.file_promises.proofs.Spells.{Small}

-- the words of a token that has a form fit their bytes
container-small : (kind : ContainerKind) → container_code kind < byte_values
container-small Array = omega arith
container-small Object = omega arith

scalar-small : (kind : ScalarKind) → scalar_code kind < byte_values
scalar-small Unquoted = omega arith
scalar-small Quoted = omega arith
scalar-small Parameter = omega arith
scalar-small UndefinedParameter = omega arith
scalar-small Header = omega arith
scalar-small QuotedEscape = omega arith

code-small : (t : Token) → Form t → t.code < byte_values
code-small t (container end o) = rw o.2 (container-small o.0)
code-small t (mixed_container e) = rw e (omega arith)
code-small t (scalar offset size v) = rw v.1 (scalar-small v.0)
code-small t (operator number low high e) = rw e (omega arith)
code-small t (closing opener e) = rw e (omega arith)

small-tokens : (text_length : ℕ) (words : List ℕ) (count : ℕ) → Words words → Sound text_length words count
    → (i : ℕ) → i < length (tokens_in words count) → Small (nth (tokens_in words count) i)
small-tokens text_length words count all s i h =
    let fits : words_for count ≤ length words = s.fits in
    let size : length (tokens_in words count) ≡ count = tokens-counted words count fits in
    let form : Form (nth (tokens_in words count) i) = s.tokens.forms i h in
    let is : nth (tokens_in words count) i ≡ token_from words i = tokens-at words count i (omega arith) (omega arith) in
    record {
      code = code-small (nth (tokens_in words count) i) form;
      a = rw is (omega (arith, all (a_word i)));
      b = rw is (omega (arith, all (b_word i)));
    }

-- the words that were left hold the file's tokens
held : {bytes : List ℕ} {room text_length count : ℕ} {words : List ℕ} → Took bytes room text_length count words
    → tokens_in words count ≡ tokens_of V1 bytes
held {bytes} {room} {count = count} t =
    let ts : List Token = tokens_of V1 bytes in
    ap (λ (x : List ℕ). tokens_in x count) t.lays ∙ ap (tokens_in (padded room ts)) (sym t.counted) ∙ padded-tokens room ts

-- ---- what is read is sound
pub read-sound : ReadSound
read-sound r d text_length count words e =
    let took : Took r.bytes r.room text_length count words =
    took_sheet r.bytes r.room text_length count words (subst (λ (g : Left (Result Found Refusal)). Reads r.bytes r.room g) e d) in
    let ts : List Token = tokens_of V1 r.bytes in
    let fits : words_for (length ts) ≤ r.room = omega (arith, took.fits, took.counted) in
    rw (took.lays, ← took.counted) (padded-sound text_length r.room ts fits took.sound)

-- ---- written, then read
-- a file whose fields and tokens are known is read, where its tokens are sound and find room
reads-file : (bytes : List ℕ) (room text_length count : ℕ) (ts : List Token) (found : Left (Result Found Refusal)) → Reads bytes room found
    → open_file bytes ≡ Ok (says V1 text_length count) → tokens_of V1 bytes ≡ ts → Sheet text_length ts → words_for (length ts) ≤ room
    → found ≡ accept_read room text_length ts
reads-file bytes room text_length count ts found d opens holds sound fits =
    let told = subst (λ (o : Result Head Refusal). ReadOpened (λ (answer : Left (Result Found Refusal)). answer) bytes room o found) opens d in
    let yes : told.yes ≡ true = told.holds.1 (subst (Sheet text_length) (sym holds) sound) in
    told.gives ∙ ap (read_of text_length (tokens_of V1 bytes) room) yes ∙ ap (λ (us : List Token). read_of text_length us room true) holds
    ∙ takes-tokens text_length ts room fits

padded-words : (words : List ℕ) (count room : ℕ) → words_for count ≤ length words
    → padded room (tokens_in words count) ≡ take (words_for count) words ++ zeros (room - words_for count)
unfolding padded
padded-words words count room h =
    let size : length (words_of (tokens_in words count)) ≡ words_for count =
    words-length (tokens_in words count) ∙ ap words_for (tokens-counted words count h) in
    rw (padded, size, words-taken words count h)

pub write_read : WriteRead
write_read w r writes reads all size out e same room =
    let ts : List Token = tokens_in w.words w.count in
    let wrote : Wrote V1 w.text_length ts w.room writes.yes (left (Ok size) out) =
    wrote-file V1 w.text_length ts w.room writes.yes size out (sym e ∙ writes.gives) in
    let sound : Sound w.text_length w.words w.count = writes.holds.0 wrote.yes in
    let counted : length ts ≡ w.count = tokens-counted w.words w.count sound.fits in
    let file : List ℕ = file_of V1 w.text_length ts in
    let sized : size ≡ length file = let given = wrote.gives in cc in
    let left_over : out ≡ file ++ zeros (w.room - length file) = let given = wrote.gives in cc in
    let bytes : r.bytes ≡ file = same ∙ rw (sized, left_over) (take-append_seam file (zeros (w.room - length file))) in
    reads-file r.bytes r.room w.text_length (length ts) ts r.found reads
    (ap open_file bytes ∙ written-opens w.text_length ts wrote.small)
    (ap (tokens_of V1) bytes ∙ written-tokens w.text_length ts wrote.small (small-tokens w.text_length w.words w.count all sound))
    sound.tokens (omega arith)
    ∙ rw (counted, padded-words w.words w.count r.room sound.fits)

-- ---- read, then written
pub read-write : ReadWrite
read-write r w reads writes all e room =
    let bytes : List ℕ = r.bytes in
    let took : Took bytes r.room w.text_length w.count w.words =
    took_sheet bytes r.room w.text_length w.count w.words (subst (λ (g : Left (Result Found Refusal)). Reads bytes r.room g) e reads) in
    let fields = opened_fields bytes w.text_length w.count took.opens in
    let ts : List Token = tokens_of V1 bytes in
    let same : tokens_in w.words w.count ≡ ts = held took in
    let yes : writes.yes ≡ true = writes.holds.1 (read-sound r reads w.text_length w.count w.words e) in
    let file : file_of V1 w.text_length ts ≡ bytes = read_again bytes all w.text_length w.count fields took.counted in
    writes.gives ∙ ap (write_of V1 w.text_length (tokens_in w.words w.count) w.room) yes
    ∙ ap (λ (us : List Token). write_of V1 w.text_length us w.room true) same
    ∙ writes-file V1 w.text_length ts w.room (rw took.counted (read_small bytes all w.text_length w.count fields))
    (omega (arith, took.counted, fields.size))
    ∙ ap (accept_write w.room) file

-- ---- two different files never hold one sheet
pub one-file : OneFile
one-file r s reads others all alls text_length count words more e f same =
    let took : Took r.bytes r.room text_length count words =
    took_sheet r.bytes r.room text_length count words (subst (λ (g : Left (Result Found Refusal)). Reads r.bytes r.room g) e reads) in
    let took' : Took s.bytes s.room text_length count more =
    took_sheet s.bytes s.room text_length count more (subst (λ (g : Left (Result Found Refusal)). Reads s.bytes s.room g) f others) in
    let tokens : tokens_of V1 r.bytes ≡ tokens_of V1 s.bytes =
    sym (held took) ∙ sym (tokens-first words count) ∙ ap (λ (x : List ℕ). tokens_in x count) same ∙ tokens-first more count ∙ held took' in
    sym (read_again r.bytes all text_length count (opened_fields r.bytes text_length count took.opens) took.counted)
    ∙ ap (file_of V1 text_length) tokens
    ∙ read_again s.bytes alls text_length count (opened_fields s.bytes text_length count took'.opens) took'.counted
