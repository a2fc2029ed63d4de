-- Any two results that a contract allows are equal, and so are the tapes at exit: said of each public call's contract itself, by the
-- claim `Post` that the toolchain reads off its `ensures`. Every public call stands here, in a record for each crate.
-- Assumes nothing.
use mathlib.Core.Path.{◌≡◌, sym, ◌∙◌, ap}
use mathlib.Core.Bool.{Bool, true, false}
use mathlib.Core.List.{List}
use mathlib.Core.Logic.{◌↔◌}
use Prim.Native.Nat.{ℕ}
use Rattle.sheet.specs.Decided.{Decided}
use Rattle.std.specs.Prelude.{Result, Ok, Err}
use Rattle.file.specs.declared.layout.Head.{Head}
use Rattle.file.specs.declared.Refusal.{Refusal}
use Rattle.file.specs.declared.Found.{Found}
use Rattle.file.specs.Open.{open_file}
use Rattle.file.specs.Files.{Left, left, ReadOpened, ReadsAs}
use Rattle.put.specs.Append.{Wrote, wrote}
use Rattle.promises.specs.Unique.{OneResult, OneLeft, OneLine, OnePart, OneRun}
use Rattle.data.proofs.character_class.Reads as character_class
use Rattle.data.proofs.is_boundary.Reads as is_boundary
use Rattle.data.proofs.may_be_sign.Reads as may_be_sign
use Rattle.operator.proofs.Operator.number.Reads as operator_number
use Rattle.operator.proofs.Operator.is_equal.Reads as operator_is_equal
use Rattle.operator.proofs.Operator.symbol.Reads as operator_symbol
use Rattle.operator.proofs.Operator.spelling.Reads as operator_spelling
use Rattle.operator.proofs.operator_at.Reads as operator_at
use Rattle.operator.proofs.operator_numbered.Reads as operator_numbered
use Rattle.scalar.proofs.to_bool.Reads as to_bool
use Rattle.scalar.proofs.to_u64.Reads as to_u64
use Rattle.scalar.proofs.digits_at.Reads as digits_at
use Rattle.scalar.proofs.to_i64.Reads as to_i64
use Rattle.scalar.proofs.to_i64_t.Reads as to_i64_t
use Rattle.scalar.proofs.to_i64_rest.Reads as to_i64_rest
use Rattle.scalar.proofs.to_f64.Reads as to_f64
use Rattle.scalar.proofs.kind.Reads as kind
use Rattle.scalar.proofs.magnitude.Reads as magnitude
use Rattle.scalar.proofs.pattern.Reads as pattern
use Rattle.scalar.proofs.errors.BoolErrorNumbered.number.Reads as bool_error_number
use Rattle.scalar.proofs.errors.DecimalErrorNumbered.number.Reads as decimal_error_number
use Rattle.scalar.proofs.errors.WholeErrorNumbered.number.Reads as whole_error_number
use Rattle.scalar.proofs.refusal.Reads as refusal_told
use Rattle.std.proofs.result.Result.unwrap_or.Reads as value_told
use Rattle.scalar.specs.declared.errors.Numbered.{Ghosts}
use denote.RattleType.{RattleType}
use denote.Param.Laws.{Laws}
use mir.Syntax.{Dict}
use Rattle.scalar.proofs.f64_value.Reads as f64_value
use Rattle.scalar.proofs.kind_number.Reads as kind_number
use Rattle.cut.proofs.skip_ws_t.Reads as skip_ws_t
use Rattle.cut.proofs.split_at_scalar.Reads as split_at_scalar
use Rattle.cut.proofs.parse_quote_scalar.Reads as parse_quote_scalar
use Rattle.cut.proofs.parse_variable.Reads as parse_variable
use Rattle.cut.proofs.run_end.Reads as run_end
use Rattle.cut.proofs.strides.split_at_scalar.Reads as fast_split_at_scalar
use Rattle.cut.proofs.strides.parse_quote_scalar.Reads as fast_parse_quote_scalar
use Rattle.cut.proofs.scalar_at.Reads as scalar_at
use Rattle.cut_calls.proofs.cuts_plain_run.Reads as cuts_plain_run
use Rattle.cut_calls.proofs.cuts_fast_run.Reads as cuts_fast_run
use Rattle.cut_calls.proofs.cuts_plain_quote.Reads as cuts_plain_quote
use Rattle.cut_calls.proofs.cuts_fast_quote.Reads as cuts_fast_quote
use Rattle.tape.proofs.token.scalar_named.Reads as scalar_named
use Rattle.tape.proofs.token.may_be_empty.Reads as may_be_empty
use Rattle.tape.proofs.token.is_header.Reads as is_header
use Rattle.tape.proofs.token.quoted_kind.Reads as quoted_kind
use Rattle.tape.proofs.token.opener.Reads as opener
use Rattle.tape.proofs.token.end.Reads as end
use Rattle.tape.proofs.token.scalar.Reads as scalar
use Rattle.tape.proofs.token.operator.Reads as operator
use Rattle.tape.proofs.token.mixed_container.Reads as mixed_container
use Rattle.tape.proofs.token.Token.container.Reads as token_container
use Rattle.tape.proofs.token.Token.standing.Reads as token_standing
use Rattle.tape.proofs.token.Token.as_header.Reads as token_as_header
use Rattle.tape.proofs.words.words_for.Reads as words_for
use Rattle.tape.proofs.words.capacity.Reads as capacity
use Rattle.tape.proofs.words.token_of.Reads as token_of
use Rattle.tape.proofs.words.token.Reads as token
use Rattle.tape.proofs.words.holds.Reads as holds
use Rattle.tape.proofs.words.held.Reads as held
use Rattle.tape.proofs.words.put.Reads as put
use Rattle.tape.proofs.words.put_words.Reads as put_words
use Rattle.tape.proofs.words.relink.Reads as relink
use Rattle.tape.proofs.words.push.Reads as push
use Rattle.tape.proofs.words.insert_mixed.Reads as insert-mixed
use Rattle.tape.proofs.words.clear_from.Reads as clear-from
use Rattle.tape.proofs.shape.shape_of.Reads as shape_of
use Rattle.tape.proofs.shape.link_of.Reads as link_of
use Rattle.machine.proofs.Refusal.number.Reads as refusal_number
use Rattle.machine.proofs.Refusal.place.Reads as refusal_place
use Rattle.machine.proofs.Machine.to.Reads as to
use Rattle.machine.proofs.Machine.within.Reads as within
use Rattle.machine.proofs.byte_at.Reads as byte_at
use Rattle.machine.proofs.less.Reads as less
use Rattle.machine.proofs.before.Reads as before
use Rattle.machine.proofs.mixed_on.Reads as mixed_on
use Rattle.machine.proofs.is_key.Reads as is_key
use Rattle.machine.proofs.is_parse_open.Reads as is_parse_open
use Rattle.machine.proofs.parents.container_at.Reads as container_at
use Rattle.machine.proofs.parents.parent_of.Reads as parent_of
use Rattle.machine.proofs.parents.own_kind.Reads as own_kind
use Rattle.machine.proofs.parents.resumed.Reads as resumed
use Rattle.machine.proofs.parents.nothing_open.Reads as nothing_open
use Rattle.machine.proofs.bytes.key_byte.Reads as key_byte
use Rattle.machine.proofs.bytes.open_byte.Reads as open_byte
use Rattle.machine.proofs.bytes.follows_key.Reads as follows_key
use Rattle.machine.proofs.bytes.value_byte.Reads as value_byte
use Rattle.machine.proofs.start.has_bom.Reads as has_bom
use Rattle.machine.proofs.start.start.Reads as start
use Rattle.machine.proofs.finish.refuse.Reads as refuse
use Rattle.machine.proofs.finish.finish.Reads as finish
use Rattle.parse.proofs.parse.Reads as parse
use Rattle.packed.proofs.numbers.Width.bytes.Reads as width_bytes
use Rattle.packed.proofs.numbers.Width.greatest.Reads as width_greatest
use Rattle.packed.proofs.numbers.fits.Reads as fits
use Rattle.packed.proofs.numbers.number_at.Reads as number_at
use Rattle.packed.proofs.numbers.put_number.Reads as put-number
use Rattle.packed.proofs.tokens.bytes_for.Reads as bytes_for
use Rattle.packed.proofs.tokens.token_of.Reads as packed_token_of
use Rattle.packed.proofs.tokens.pack.Reads as pack
use Rattle.packed.proofs.source.Source.token.Reads as source_token_of
use Rattle.packed.proofs.source.Source.holds.Reads as source_holds
use Rattle.sheet.proofs.check.Reads as check
use Rattle.sheet.proofs.check_packed.Reads as check_packed
use Rattle.sheet.proofs.check_onto.Reads as check-onto
use Rattle.sheet.proofs.views.refusal.Reads as viewed_refusal
use Rattle.sheet.proofs.views.code.Reads as code
use Rattle.sheet.proofs.views.link.Reads as link
use Rattle.sheet.proofs.views.view_of.Reads as view_of
use Rattle.sheet.proofs.views.view.Reads as view
use Rattle.put.proofs.put_byte.Reads as put_byte
use Rattle.put.proofs.put_bytes.Reads as put_bytes
use Rattle.put.proofs.front.Reads as front
use Rattle.put.proofs.part.Reads as part
use Rattle.put.proofs.clear_from.Reads as zeroed
use Rattle.put.proofs.equal.equal_bytes.Reads as equal_bytes
use Rattle.file.proofs.Refusal.number.Reads as file_refusal_number
use Rattle.file.proofs.layout.head_size.Reads as head_size
use Rattle.file.proofs.layout.file_size.Reads as file_size
use Rattle.file.proofs.write.Reads as file-write
use Rattle.file.proofs.read.Reads as file-read
use Rattle.alike.proofs.comes_back.Reads as comes_back
use Rattle.writer.proofs.Refusal.number.Reads as write_refusal_number
use Rattle.writer.proofs.write.Reads as write
use Rattle.date.specs.declared.calendar.Date.{Date}
use Rattle.date.proofs.in_range.Reads as in_range
use Rattle.date.proofs.to_date.Reads as to_date
use Rattle.date.proofs.to_days.Reads as to_days
use Rattle.date.proofs.from_days.Reads as from_days
use Rattle.date.proofs.refusals.DateErrorNumbered.number.Reads as date_error_number
use Rattle.report.proofs.numbers.put_decimal.Reads as put_decimal
use Rattle.report.proofs.numbers.put_hex.Reads as put_hex
use Rattle.report.proofs.numbers.put_integer.Reads as put_integer
use Rattle.report.proofs.tokens.put_name.Reads as put_name
use Rattle.report.proofs.tokens.put_field.Reads as put_field
use Rattle.report.proofs.tokens.put_token.Reads as put_token
use Rattle.report.proofs.tokens.put_tokens.Reads as put_tokens
use Rattle.report.proofs.tokens.put_header.Reads as put_header
use Rattle.report.proofs.tokens.put_refused.Reads as put_refused
use Rattle.report.proofs.refusals.put_refused_line.Reads as put_refused_line
use Rattle.report.proofs.dump.put_dump.Reads as put-dump
use Rattle.report.proofs.dump.put_save.Reads as put-save
use Rattle.report.proofs.dump.save_lines.Reads as save-lines
use Rattle.report.proofs.readings.put_bool.Reads as put_bool
use Rattle.report.proofs.readings.put_u64.Reads as put_u64
use Rattle.report.proofs.readings.put_i64.Reads as put_i64
use Rattle.report.proofs.readings.put_f64.Reads as put_f64
use Rattle.report.proofs.readings.put_readings.Reads as put_readings
use Rattle.report.proofs.readings.put_leading.Reads as put_leading
use Rattle.report.proofs.dates.put_date.Reads as put_date
use Rattle.report.proofs.dates.put_date_of.Reads as put_date_of
use Rattle.report.proofs.sheets.put_check.Reads as put_check
use Rattle.report.proofs.sheets.put_hex_bytes.Reads as put_hex_bytes
use Rattle.report.proofs.sheets.put_view.Reads as put_view
use Rattle.report.proofs.sheets.put_written.Reads as Put-written
use Rattle.file_lines.proofs.put_filed.Reads as put-filed
use Rattle.file_lines.proofs.put_found.Reads as put-found
use Rattle.file_lines.proofs.found_lines.Reads as found-lines
use Rattle.capi.specs.Told.{read_told, sheet_told, tell_sheet}
use Rattle.file_lines.specs.Lines.{Reported, reported, report_sheet, report_whole}
use Rattle.report.specs.Room.{most_tokens}
use Rattle.tape.specs.Words
use lib.ListN.{length}
use Rattle.capi.proofs.tackacorn_parse.Reads as tackacorn-parse
use Rattle.capi.proofs.tackacorn_check.Reads as tackacorn_check
use Rattle.capi.proofs.tackacorn_view.Reads as tackacorn-view
use Rattle.capi.proofs.tackacorn_token.Reads as tackacorn-token
use Rattle.capi.proofs.tackacorn_write.Reads as tackacorn-write
use Rattle.capi.proofs.tackacorn_sheet_write.Reads as tackacorn-sheet-write
use Rattle.capi.proofs.tackacorn_sheet_read.Reads as tackacorn-sheet-read
use Rattle.capi.proofs.tackacorn_to_bool.Reads as tackacorn-to-bool
use Rattle.capi.proofs.tackacorn_to_u64.Reads as tackacorn-to-u64
use Rattle.capi.proofs.tackacorn_to_i64.Reads as tackacorn-to-i64
use Rattle.capi.proofs.tackacorn_to_i64_part.Reads as tackacorn-to-i64-part
use Rattle.capi.proofs.tackacorn_to_f64.Reads as tackacorn-to-f64
use Rattle.capi.proofs.tackacorn_kind.Reads as tackacorn_kind
use Rattle.capi.proofs.tackacorn_to_date.Reads as tackacorn-to-date
use Rattle.capi.proofs.tackacorn_to_days.Reads as tackacorn-to-days
use Rattle.capi.proofs.tackacorn_from_days.Reads as tackacorn-from-days

-- a contract that says `r ≡ definition` allows one result
by_definition : {K : Type 0} {A R : K → Type 0} (X : K → Type 0) (definition : (κs : K) → A κs → R κs)
    → OneResult {X = X} (λ κs args r xs. r ≡ definition κs args)
by_definition X definition κs args r s xs ys p q = p ∙ sym q

-- and so does one that says `(r ≡ true) ↔ P`
one-verdict : (P : Type 0) (r s : Bool) → (r ≡ true) ↔ P → (s ≡ true) ↔ P → r ≡ s
one-verdict P true true p q = cc
one-verdict P true false p q = sym (q.1 (p.0 cc))
one-verdict P false true p q = p.1 (q.0 cc)
one-verdict P false false p q = cc

-- a contract that says what was put allows one place and one buffer
by_bytes : {K : Type 0} {A X : K → Type 0} (out : (κs : K) → X κs → List ℕ) (definition : (κs : K) → A κs → Wrote)
    → OneLine {R = λ κs. ℕ} (λ κs args r xs. wrote r (out κs xs) ≡ definition κs args) out
by_bytes out definition = (λ κs args r s xs ys p q. cc, λ κs args r s xs ys p q. cc)

-- of a reading that is told, the value
one_value : {Value : Type 0} {n m : ℕ} {v w : Value} → read_told n v ≡ read_told m w → v ≡ w
one_value e = cc

-- one that says the bytes of a part and where it lies allows one part
one-part : {Bytes Place : Type 0} {r s bytes : Bytes} {x y place : Place} → (r ≡ bytes) × (x ≡ place) → (s ≡ bytes) × (y ≡ place)
    → (r ≡ s) × (x ≡ y)
one-part p q = (p.0 ∙ sym q.0, p.1 ∙ sym q.1)

-- and one that names what is answered by whether a claim holds allows one answer, with all that it leaves
one_decided : {Answer : Type 0} (P : Type 0) (answer : Bool → Answer) (x y : Answer) → Decided P answer x → Decided P answer y → x ≡ y
one_decided P answer x y p q = p.gives ∙ ap answer (one-verdict P p.yes q.yes p.holds q.holds) ∙ sym q.gives

-- and so does one that names what a file is read as, by what stands before its tokens
one-opened : {Told : Type 0} (tell : Left (Result Found Refusal) → Told) (bytes : List ℕ) (room : ℕ) (o : Result Head Refusal) (x y : Told)
    → ReadOpened tell bytes room o x → ReadOpened tell bytes room o y → x ≡ y
one-opened tell bytes room (Ok head) x y p q = one_decided _ _ x y p q
one-opened tell bytes room (Err r) x y p q = p ∙ sym q

one-read : {Told : Type 0} (tell : Left (Result Found Refusal) → Told) (bytes : List ℕ) (room : ℕ) (x y : Told)
    → ReadsAs tell bytes room x → ReadsAs tell bytes room y → x ≡ y
one-read tell bytes room x y p q = one-opened tell bytes room (open_file bytes) x y p q

-- told as lines: one place, one buffer and one list of words
one_reported : (tell : Left (Result Found Refusal) → Reported) (bytes : List ℕ) (room : ℕ) {r s : ℕ} {out more words left : List ℕ}
    → ReadsAs tell bytes room (reported (wrote r out) words) → ReadsAs tell bytes room (reported (wrote s more) left)
    → (r ≡ s) × (out ≡ more) × (words ≡ left)
one_reported tell bytes room {r} {s} {out} {more} {words} {left} p q =
    let e = one-read tell bytes room (reported (wrote r out) words) (reported (wrote s more) left) p q in (cc, cc, cc)

-- and told to C: one refusal, one length, one count and one list of words
one_sheet_told : (bytes : List ℕ) (room : ℕ) {r s size length count many : ℕ} {words left : List ℕ}
    → ReadsAs tell_sheet bytes room (sheet_told r size count words) → ReadsAs tell_sheet bytes room (sheet_told s length many left)
    → (r ≡ s) × (size ≡ length) × (count ≡ many) × (words ≡ left)
one_sheet_told bytes room {r} {s} {size} {length} {count} {many} {words} {left} p q =
    let e = one-read tell_sheet bytes room (sheet_told r size count words) (sheet_told s length many left) p q in (cc, cc, cc, cc)

pub record Data : Type 0 where
  pub character_class : OneResult character_class.Post
  pub is_boundary : OneResult is_boundary.Post
  pub may_be_sign : OneResult may_be_sign.Post

pub data_calls : Data
data_calls =
    record {
      character_class = by_definition _ _;
      is_boundary = by_definition _ _;
      may_be_sign = by_definition _ _;
    }

pub record Put : Type 0 where
  pub put_byte : OneLine put_byte.Post (λ κs xs. xs.0.now)
  pub put_bytes : OneLine put_bytes.Post (λ κs xs. xs.0.now)
  pub front : OnePart front.Post (λ κs r. r.now) (λ κs r. r.ref_ptr)
  pub part : OnePart part.Post (λ κs r. r.now) (λ κs r. r.ref_ptr)
  pub zeroed : OneLeft zeroed.Post (λ κs xs. xs.0.now)
  pub equal_bytes : OneResult equal_bytes.Post

pub put_calls : Put
put_calls =
    record {
      put_byte = by_bytes _ _;
      put_bytes = by_bytes _ _;
      front = λ κs args r s xs ys p q. one-part p q;
      part = λ κs args r s xs ys p q. one-part p q;
      zeroed = λ κs args r s xs ys p q. p ∙ sym q;
      equal_bytes = by_definition _ _;
    }

pub record Operator : Type 0 where
  pub operator_number : OneResult operator_number.Post
  pub operator_is_equal : OneResult operator_is_equal.Post
  pub operator_symbol : OneResult operator_symbol.Post
  pub operator_spelling : OneRun operator_spelling.Post (λ κs r. r.now)
  pub operator_at : OneResult operator_at.Post
  pub operator_numbered : OneResult operator_numbered.Post

pub operator_calls : Operator
operator_calls =
    record {
      operator_number = by_definition _ _;
      operator_is_equal = by_definition _ _;
      operator_symbol = by_definition _ _;
      operator_spelling = λ κs args r s xs ys p q. p ∙ sym q;
      operator_at = by_definition _ _;
      operator_numbered = by_definition _ _;
    }

pub record Scalar : Type 0 where
  pub to_bool : OneResult to_bool.Post
  pub to_u64 : OneResult to_u64.Post
  pub to_i64 : OneResult to_i64.Post
  pub to_i64_t : OneResult to_i64_t.Post
  pub to_i64_rest : OnePart to_i64_rest.Post (λ κs r. r.now) (λ κs r. r.ref_ptr)
  pub to_f64 : OneResult to_f64.Post
  pub kind : OneResult kind.Post
  pub digits_at : OneResult digits_at.Post
  pub magnitude : OneResult magnitude.Post
  pub pattern : OneResult pattern.Post
  pub bool_error_number : OneResult bool_error_number.Post
  pub whole_error_number : OneResult whole_error_number.Post
  pub decimal_error_number : OneResult decimal_error_number.Post
  pub f64_value : OneResult f64_value.Post
  pub kind_number : OneResult kind_number.Post

pub scalar_calls : Scalar
scalar_calls =
    record {
      to_bool = by_definition _ _;
      to_u64 = by_definition _ _;
      to_i64 = by_definition _ _;
      to_i64_t = by_definition _ _;
      to_i64_rest = λ κs args r s xs ys p q. one-part p q;
      to_f64 = by_definition _ _;
      kind = by_definition _ _;
      digits_at = by_definition _ _;
      magnitude = by_definition _ _;
      pattern = by_definition _ _;
      bool_error_number = by_definition _ _;
      whole_error_number = by_definition _ _;
      decimal_error_number = by_definition _ _;
      f64_value = by_definition _ _;
      kind_number = by_definition _ _;
    }

-- of the number of a refusal: whatever is answered, and whatever refuses
pub refusal_calls : (T E : RattleType) (l : Laws T) (m : Laws E) (g : Ghosts E.Denot) (a b c : Dict) → OneResult (refusal_told.Post T E l m g a b c)
refusal_calls T E l m g a b c = by_definition _ _

-- and of its value, or of what stands for the value of a refusal: that is std's `unwrap_or`
pub value_calls : (T E : RattleType) (l : Laws T) (m : Laws E) (a b : Dict) → OneResult (value_told.Post T E l m a b)
value_calls T E l m a b = by_definition _ _

pub record Dates : Type 0 where
  pub in_range : OneResult in_range.Post
  pub to_date : OneResult to_date.Post
  pub to_days : OneResult to_days.Post
  pub from_days : OneResult from_days.Post
  pub date_error_number : OneResult date_error_number.Post

pub date_calls : Dates
date_calls =
    record {
      in_range = by_definition _ _;
      to_date = by_definition _ _;
      to_days = by_definition _ _;
      from_days = by_definition _ _;
      date_error_number = by_definition _ _;
    }

pub record Cut : Type 0 where
  pub skip_ws_t : OneResult skip_ws_t.Post
  pub split_at_scalar : OneResult split_at_scalar.Post
  pub parse_quote_scalar : OneResult parse_quote_scalar.Post
  pub parse_variable : OneResult parse_variable.Post
  pub run_end : OneResult run_end.Post
  pub scalar_at : OneResult scalar_at.Post
  pub fast_split_at_scalar : OneResult fast_split_at_scalar.Post
  pub fast_parse_quote_scalar : OneResult fast_parse_quote_scalar.Post

pub cut_calls : Cut
cut_calls =
    record {
      skip_ws_t = by_definition _ _;
      split_at_scalar = by_definition _ _;
      parse_quote_scalar = by_definition _ _;
      parse_variable = by_definition _ _;
      run_end = by_definition _ _;
      scalar_at = by_definition _ _;
      fast_split_at_scalar = by_definition _ _;
      fast_parse_quote_scalar = by_definition _ _;
    }

pub record CutForC : Type 0 where
  pub cuts_plain_run : OneResult cuts_plain_run.Post
  pub cuts_fast_run : OneResult cuts_fast_run.Post
  pub cuts_plain_quote : OneResult cuts_plain_quote.Post
  pub cuts_fast_quote : OneResult cuts_fast_quote.Post

pub cut_for_c_calls : CutForC
cut_for_c_calls =
    record {
      cuts_plain_run = by_definition _ _;
      cuts_fast_run = by_definition _ _;
      cuts_plain_quote = by_definition _ _;
      cuts_fast_quote = by_definition _ _;
    }

pub record Tape : Type 0 where
  pub opener : OneResult opener.Post
  pub end : OneResult end.Post
  pub scalar : OneResult scalar.Post
  pub operator : OneResult operator.Post
  pub mixed_container : OneResult mixed_container.Post
  pub token_container : OneResult token_container.Post
  pub token_standing : OneResult token_standing.Post
  pub token_as_header : OneResult token_as_header.Post
  pub words_for : OneResult words_for.Post
  pub capacity : OneResult capacity.Post
  pub token_of : OneResult token_of.Post
  pub token : OneResult token.Post
  pub holds : OneResult holds.Post
  pub held : OneResult held.Post
  pub put_tape : OneLeft put.Post (λ κs xs. xs.0.now)
  pub put_words_tape : OneLeft put_words.Post (λ κs xs. xs.0.now)
  pub relink_result : OneResult relink.Post
  pub relink_tape : OneLeft relink.Post (λ κs xs. xs.0.now)
  pub push_result : OneResult push.Post
  pub push_tape : OneLeft push.Post (λ κs xs. xs.0.now)
  pub insert_mixed_result : OneResult insert-mixed.Post
  pub insert_mixed_tape : OneLeft insert-mixed.Post (λ κs xs. xs.0.now)
  pub clear_from_tape : OneLeft clear-from.Post (λ κs xs. xs.0.now)
  pub scalar_named : OneResult scalar_named.Post
  pub may_be_empty : OneResult may_be_empty.Post
  pub is_header : OneResult is_header.Post
  pub quoted_kind : OneResult quoted_kind.Post
  pub shape_of : OneResult shape_of.Post
  pub link_of : OneResult link_of.Post

pub tape_calls : Tape
tape_calls =
    record {
      opener = by_definition _ _;
      end = by_definition _ _;
      scalar = by_definition _ _;
      operator = by_definition _ _;
      mixed_container = by_definition _ _;
      token_container = by_definition _ _;
      token_standing = by_definition _ _;
      token_as_header = by_definition _ _;
      words_for = by_definition _ _;
      capacity = by_definition _ _;
      token_of = by_definition _ _;
      token = by_definition _ _;
      holds = by_definition _ _;
      held = by_definition _ _;
      put_tape = λ κs args r s xs ys p q. cc;
      put_words_tape = λ κs args r s xs ys p q. p ∙ sym q;
      relink_result = λ κs args r s xs ys p q. p.0 ∙ sym q.0;
      relink_tape = λ κs args r s xs ys p q. p.1 ∙ sym q.1;
      push_result = λ κs args r s xs ys p q. cc;
      push_tape = λ κs args r s xs ys p q. cc;
      insert_mixed_result = λ κs args r s xs ys p q. cc;
      insert_mixed_tape = λ κs args r s xs ys p q. cc;
      clear_from_tape = λ κs args r s xs ys p q. cc;
      scalar_named = by_definition _ _;
      may_be_empty = by_definition _ _;
      is_header = by_definition _ _;
      quoted_kind = by_definition _ _;
      shape_of = by_definition _ _;
      link_of = by_definition _ _;
    }

pub record Machine : Type 0 where
  pub refusal_number : OneResult refusal_number.Post
  pub refusal_place : OneResult refusal_place.Post
  pub to : OneResult to.Post
  pub within : OneResult within.Post
  pub byte_at : OneResult byte_at.Post
  pub less : OneResult less.Post
  pub before : OneResult before.Post
  pub mixed_on : OneResult mixed_on.Post
  pub is_key : OneResult is_key.Post
  pub is_parse_open : OneResult is_parse_open.Post
  pub container_at : OneResult container_at.Post
  pub parent_of : OneResult parent_of.Post
  pub own_kind : OneResult own_kind.Post
  pub resumed : OneResult resumed.Post
  pub nothing_open : OneResult nothing_open.Post
  pub key_byte : OneResult key_byte.Post
  pub open_byte : OneResult open_byte.Post
  pub follows_key : OneResult follows_key.Post
  pub value_byte : OneResult value_byte.Post
  pub has_bom : OneResult has_bom.Post
  pub start : OneResult start.Post
  pub refuse_result : OneResult refuse.Post
  pub refuse_tape : OneLeft refuse.Post (λ κs xs. xs.0.now)
  pub finish_result : OneResult finish.Post
  pub finish_tape : OneLeft finish.Post (λ κs xs. xs.0.now)

pub machine_calls : Machine
machine_calls =
    record {
      refusal_number = by_definition _ _;
      refusal_place = by_definition _ _;
      to = by_definition _ _;
      within = by_definition _ _;
      byte_at = by_definition _ _;
      less = by_definition _ _;
      before = by_definition _ _;
      mixed_on = by_definition _ _;
      is_key = by_definition _ _;
      is_parse_open = by_definition _ _;
      container_at = by_definition _ _;
      parent_of = by_definition _ _;
      own_kind = by_definition _ _;
      resumed = by_definition _ _;
      nothing_open = by_definition _ _;
      key_byte = by_definition _ _;
      open_byte = by_definition _ _;
      follows_key = by_definition _ _;
      value_byte = by_definition _ _;
      has_bom = by_definition _ _;
      start = by_definition _ _;
      refuse_result = λ κs args r s xs ys p q. cc;
      refuse_tape = λ κs args r s xs ys p q. cc;
      finish_result = λ κs args r s xs ys p q. cc;
      finish_tape = λ κs args r s xs ys p q. cc;
    }

pub record Parse : Type 0 where
  pub parse_result : OneResult parse.Post
  pub parse_tape : OneLeft parse.Post (λ κs xs. xs.1.0.now)

pub parse_calls : Parse
parse_calls =
    record {
      parse_result = λ κs args r s xs ys p q. cc;
      parse_tape = λ κs args r s xs ys p q. cc;
    }

pub record Packed : Type 0 where
  pub width_bytes : OneResult width_bytes.Post
  pub width_greatest : OneResult width_greatest.Post
  pub fits : OneResult fits.Post
  pub number_at : OneResult number_at.Post
  pub put_number_buffer : OneLeft put-number.Post (λ κs xs. xs.0.now)
  pub bytes_for : OneResult bytes_for.Post
  pub packed_token_of : OneResult packed_token_of.Post
  pub pack_buffer : OneLeft pack.Post (λ κs xs. xs.1.1.0.now)
  pub source_token_of : OneResult source_token_of.Post
  pub source_holds : OneResult source_holds.Post

pub packed_calls : Packed
packed_calls =
    record {
      width_bytes = by_definition _ _;
      width_greatest = by_definition _ _;
      fits = by_definition _ _;
      number_at = by_definition _ _;
      put_number_buffer = λ κs args r s xs ys p q. p ∙ sym q;
      bytes_for = by_definition _ _;
      packed_token_of = by_definition _ _;
      pack_buffer = λ κs args r s xs ys p q. p ∙ sym q;
      source_token_of = by_definition _ _;
      source_holds = by_definition _ _;
    }

pub record File : Type 0 where
  pub file_refusal_number : OneResult file_refusal_number.Post
  pub head_size : OneResult head_size.Post
  pub file_size : OneResult file_size.Post
  pub file_write_result : OneResult file-write.Post
  pub file_write_buffer : OneLeft file-write.Post (λ κs xs. xs.1.1.1.0.now)
  pub file_read_result : OneResult file-read.Post
  pub file_read_words : OneLeft file-read.Post (λ κs xs. xs.1.0.now)

pub file_calls : File
file_calls =
    record {
      file_refusal_number = by_definition _ _;
      head_size = by_definition _ _;
      file_size = by_definition _ _;
      file_write_result = λ κs args r s xs ys p q. let e = one_decided _ _ _ _ p q in cc;
      file_write_buffer = λ κs args r s xs ys p q. let e = one_decided _ _ _ _ p q in cc;
      file_read_result = λ κs args r s xs ys p q. let e = one-read (λ answer. answer) _ _ (left r xs.1.0.now) (left s ys.1.0.now) p q in cc;
      file_read_words = λ κs args r s xs ys p q. let e = one-read (λ answer. answer) _ _ (left r xs.1.0.now) (left s ys.1.0.now) p q in cc;
    }

pub record Sheet : Type 0 where
  pub check : OneResult check.Post
  pub check_packed : OneResult check_packed.Post
  pub check_onto_result : OneResult check-onto.Post
  pub check_onto_words : OneLeft check-onto.Post (λ κs xs. xs.1.1.1.0.now)
  pub viewed_refusal : OneResult viewed_refusal.Post
  pub code : OneResult code.Post
  pub link : OneResult link.Post
  pub view_of : OneResult view_of.Post
  pub view : OnePart view.Post (λ κs r. r.now) (λ κs r. r.ref_ptr)

pub sheet_calls : Sheet
sheet_calls =
    record {
      check = λ κs args r s xs ys p q. one-verdict _ r s p q;
      check_packed = λ κs args r s xs ys p q. one-verdict _ r s p q;
      check_onto_result = λ κs args r s xs ys p q. one-verdict _ r s p.0 q.0;
      check_onto_words = λ κs args r s xs ys p q. let e = one-verdict _ r s p.0 q.0 in let f = p.1 in let g = q.1 in cc;
      viewed_refusal = by_definition _ _;
      code = by_definition _ _;
      link = by_definition _ _;
      view_of = by_definition _ _;
      view = λ κs args r s xs ys p q. one-part p q;
    }

pub record Alike : Type 0 where
  pub comes_back_result : OneResult comes_back.Post
  pub comes_back_scratch : OneLeft comes_back.Post (λ κs xs. xs.1.1.1.1.0.now)

pub alike_calls : Alike
alike_calls =
    record {
      comes_back_result = λ κs args r s xs ys p q. p.0 ∙ sym q.0;
      comes_back_scratch = λ κs args r s xs ys p q. p.1 ∙ sym q.1;
    }

pub record Writer : Type 0 where
  pub write_refusal_number : OneResult write_refusal_number.Post
  pub write_result : OneResult write.Post
  pub write_buffer : OneLeft write.Post (λ κs xs. xs.1.1.1.0.now)
  pub write_scratch : OneLeft write.Post (λ κs xs. xs.1.1.1.1.0.now)

pub writer_calls : Writer
writer_calls =
    record {
      write_refusal_number = by_definition _ _;
      write_result = λ κs args r s xs ys p q. let e = one_decided _ _ _ _ p q in cc;
      write_buffer = λ κs args r s xs ys p q. let e = one_decided _ _ _ _ p q in cc;
      write_scratch = λ κs args r s xs ys p q. let e = one_decided _ _ _ _ p q in cc;
    }

pub record Report : Type 0 where
  pub put_decimal : OneLine put_decimal.Post (λ κs xs. xs.0.now)
  pub put_hex : OneLine put_hex.Post (λ κs xs. xs.0.now)
  pub put_integer : OneLine put_integer.Post (λ κs xs. xs.0.now)
  pub put_name : OneLine put_name.Post (λ κs xs. xs.0.now)
  pub put_field : OneLine put_field.Post (λ κs xs. xs.0.now)
  pub put_token : OneLine put_token.Post (λ κs xs. xs.0.now)
  pub put_tokens : OneLine put_tokens.Post (λ κs xs. xs.0.now)
  pub put_header : OneLine put_header.Post (λ κs xs. xs.0.now)
  pub put_refused : OneLine put_refused.Post (λ κs xs. xs.0.now)
  pub put_refused_line : OneLine put_refused_line.Post (λ κs xs. xs.0.now)
  pub put_bool : OneLine put_bool.Post (λ κs xs. xs.0.now)
  pub put_u64 : OneLine put_u64.Post (λ κs xs. xs.0.now)
  pub put_i64 : OneLine put_i64.Post (λ κs xs. xs.0.now)
  pub put_f64 : OneLine put_f64.Post (λ κs xs. xs.0.now)
  pub put_readings : OneLine put_readings.Post (λ κs xs. xs.0.now)
  pub put_leading : OneLine put_leading.Post (λ κs xs. xs.0.now)
  pub put_date : OneLine put_date.Post (λ κs xs. xs.0.now)
  pub put_date_of : OneLine put_date_of.Post (λ κs xs. xs.0.now)
  pub put_hex_bytes : OneLine put_hex_bytes.Post (λ κs xs. xs.0.now)
  pub put_view : OneLine put_view.Post (λ κs xs. xs.0.now)
  pub put_check : OneLine put_check.Post (λ κs xs. xs.0.now)
  pub put_written_line : OneLine Put-written.Post (λ κs xs. xs.0.now)
  pub put_written_buffer : OneLeft Put-written.Post (λ κs xs. xs.1.1.1.1.1.0.now)
  pub put_written_scratch : OneLeft Put-written.Post (λ κs xs. xs.1.1.1.1.1.1.0.now)
  pub put_dump_line : OneLine put-dump.Post (λ κs xs. xs.0.now)
  pub put_dump_tape : OneLeft put-dump.Post (λ κs xs. xs.1.1.1.0.now)
  pub put_save_line : OneLine put-save.Post (λ κs xs. xs.0.now)
  pub put_save_tape : OneLeft put-save.Post (λ κs xs. xs.1.1.1.0.now)
  pub save_lines_line : OneLine save-lines.Post (λ κs xs. xs.0.now)
  pub save_lines_tape : OneLeft save-lines.Post (λ κs xs. xs.1.1.0.now)

pub report_calls : Report
report_calls =
    record {
      put_decimal = by_bytes _ _;
      put_hex = by_bytes _ _;
      put_integer = by_bytes _ _;
      put_name = by_bytes _ _;
      put_field = by_bytes _ _;
      put_token = by_bytes _ _;
      put_tokens = by_bytes _ _;
      put_header = by_bytes _ _;
      put_refused = by_bytes _ _;
      put_refused_line = by_bytes _ _;
      put_bool = by_bytes _ _;
      put_u64 = by_bytes _ _;
      put_i64 = by_bytes _ _;
      put_f64 = by_bytes _ _;
      put_readings = by_bytes _ _;
      put_leading = by_bytes _ _;
      put_date = by_bytes _ _;
      put_date_of = by_bytes _ _;
      put_hex_bytes = by_bytes _ _;
      put_view = by_bytes _ _;
      put_check = (
        λ κs args r s xs ys p q. let e = one_decided _ _ _ _ p q in cc,
        λ κs args r s xs ys p q. let e = one_decided _ _ _ _ p q in cc,
      );
      put_written_line = (
        λ κs args r s xs ys p q. let e = one_decided _ _ _ _ p q in cc,
        λ κs args r s xs ys p q. let e = one_decided _ _ _ _ p q in cc,
      );
      put_written_buffer = λ κs args r s xs ys p q. let e = one_decided _ _ _ _ p q in cc;
      put_written_scratch = λ κs args r s xs ys p q. let e = one_decided _ _ _ _ p q in cc;
      put_dump_line = (λ κs args r s xs ys p q. cc, λ κs args r s xs ys p q. cc);
      put_dump_tape = λ κs args r s xs ys p q. cc;
      put_save_line = (λ κs args r s xs ys p q. cc, λ κs args r s xs ys p q. cc);
      put_save_tape = λ κs args r s xs ys p q. cc;
      save_lines_line = (λ κs args r s xs ys p q. cc, λ κs args r s xs ys p q. cc);
      save_lines_tape = λ κs args r s xs ys p q. cc;
    }

pub record FileLines : Type 0 where
  pub put_filed_line : OneLine put-filed.Post (λ κs xs. xs.0.now)
  pub put_filed_buffer : OneLeft put-filed.Post (λ κs xs. xs.1.1.1.1.1.0.now)
  pub put_found_line : OneLine put-found.Post (λ κs xs. xs.0.now)
  pub put_found_words : OneLeft put-found.Post (λ κs xs. xs.1.1.1.0.now)
  pub found_lines_line : OneLine found-lines.Post (λ κs xs. xs.0.now)
  pub found_lines_words : OneLeft found-lines.Post (λ κs xs. xs.1.1.0.now)

pub file-lines_calls : FileLines
file-lines_calls =
    record {
      put_filed_line = (
        λ κs args r s xs ys p q. let e = one_decided _ _ _ _ p q in cc,
        λ κs args r s xs ys p q. let e = one_decided _ _ _ _ p q in cc,
      );
      put_filed_buffer = λ κs args r s xs ys p q. let e = one_decided _ _ _ _ p q in cc;
      put_found_line = (
        λ κs args r s xs ys p q. (one_reported (report_sheet args.0.now args.1.0) args.1.1.0.now (length args.1.1.1.0.now) p.0 q.0).0,
        λ κs args r s xs ys p q. (one_reported (report_sheet args.0.now args.1.0) args.1.1.0.now (length args.1.1.1.0.now) p.0 q.0).1,
      );
      put_found_words = λ κs args r s xs ys p q. (one_reported (report_sheet args.0.now args.1.0) args.1.1.0.now (length args.1.1.1.0.now) p.0 q.0).2;
      found_lines_line = (
        λ κs args r s xs ys p q. (one_reported (report_whole args.0.now 0) args.1.0.now (Words.words_for most_tokens) p q).0,
        λ κs args r s xs ys p q. (one_reported (report_whole args.0.now 0) args.1.0.now (Words.words_for most_tokens) p q).1,
      );
      found_lines_words = λ κs args r s xs ys p q. (one_reported (report_whole args.0.now 0) args.1.0.now (Words.words_for most_tokens) p q).2;
    }

pub record Capi : Type 0 where
  pub tackacorn_parse_result : OneResult tackacorn-parse.Post
  pub tackacorn_parse_tape : OneLeft tackacorn-parse.Post (λ κs xs. xs.1.0.now)
  pub tackacorn_parse_count : OneLeft tackacorn-parse.Post (λ κs xs. xs.1.1.0.now)
  pub tackacorn_parse_bom : OneLeft tackacorn-parse.Post (λ κs xs. xs.1.1.1.0.now)
  pub tackacorn_parse_place : OneLeft tackacorn-parse.Post (λ κs xs. xs.1.1.1.1.0.now)
  pub tackacorn_check : OneResult tackacorn_check.Post
  pub tackacorn_view_result : OneResult tackacorn-view.Post
  pub tackacorn_view_offset : OneLeft tackacorn-view.Post (λ κs xs. xs.1.1.1.1.0.now)
  pub tackacorn_view_size : OneLeft tackacorn-view.Post (λ κs xs. xs.1.1.1.1.1.0.now)
  pub tackacorn_token_code : OneLeft tackacorn-token.Post (λ κs xs. xs.1.1.1.0.now)
  pub tackacorn_token_a : OneLeft tackacorn-token.Post (λ κs xs. xs.1.1.1.1.0.now)
  pub tackacorn_token_b : OneLeft tackacorn-token.Post (λ κs xs. xs.1.1.1.1.1.0.now)
  pub tackacorn_write_result : OneResult tackacorn-write.Post
  pub tackacorn_write_buffer : OneLeft tackacorn-write.Post (λ κs xs. xs.1.1.1.0.now)
  pub tackacorn_write_scratch : OneLeft tackacorn-write.Post (λ κs xs. xs.1.1.1.1.0.now)
  pub tackacorn_write_size : OneLeft tackacorn-write.Post (λ κs xs. xs.1.1.1.1.1.0.now)
  pub tackacorn_sheet_write_result : OneResult tackacorn-sheet-write.Post
  pub tackacorn_sheet_write_buffer : OneLeft tackacorn-sheet-write.Post (λ κs xs. xs.1.1.1.0.now)
  pub tackacorn_sheet_write_size : OneLeft tackacorn-sheet-write.Post (λ κs xs. xs.1.1.1.1.0.now)
  pub tackacorn_sheet_read_result : OneResult tackacorn-sheet-read.Post
  pub tackacorn_sheet_read_words : OneLeft tackacorn-sheet-read.Post (λ κs xs. xs.1.0.now)
  pub tackacorn_sheet_read_length : OneLeft tackacorn-sheet-read.Post (λ κs xs. xs.1.1.0.now)
  pub tackacorn_sheet_read_count : OneLeft tackacorn-sheet-read.Post (λ κs xs. xs.1.1.1.0.now)
  pub tackacorn_to_bool_result : OneResult tackacorn-to-bool.Post
  pub tackacorn_to_bool_value : OneLeft tackacorn-to-bool.Post (λ κs xs. xs.1.0.now)
  pub tackacorn_to_u64_result : OneResult tackacorn-to-u64.Post
  pub tackacorn_to_u64_value : OneLeft tackacorn-to-u64.Post (λ κs xs. xs.1.0.now)
  pub tackacorn_to_i64_result : OneResult tackacorn-to-i64.Post
  pub tackacorn_to_i64_value : OneLeft tackacorn-to-i64.Post (λ κs xs. xs.1.0.now)
  pub tackacorn_to_i64_part_result : OneResult tackacorn-to-i64-part.Post
  pub tackacorn_to_i64_part_value : OneLeft tackacorn-to-i64-part.Post (λ κs xs. xs.1.0.now)
  pub tackacorn_to_i64_part_left : OneLeft tackacorn-to-i64-part.Post (λ κs xs. xs.1.1.0.now)
  pub tackacorn_to_f64_result : OneResult tackacorn-to-f64.Post
  pub tackacorn_to_f64_value : OneLeft tackacorn-to-f64.Post (λ κs xs. xs.1.0.now)
  pub tackacorn_kind : OneResult tackacorn_kind.Post
  pub tackacorn_to_date_result : OneResult tackacorn-to-date.Post
  pub tackacorn_to_date_year : OneLeft tackacorn-to-date.Post (λ κs xs. xs.1.0.now)
  pub tackacorn_to_date_month : OneLeft tackacorn-to-date.Post (λ κs xs. xs.1.1.0.now)
  pub tackacorn_to_date_day : OneLeft tackacorn-to-date.Post (λ κs xs. xs.1.1.1.0.now)
  pub tackacorn_to_date_hour : OneLeft tackacorn-to-date.Post (λ κs xs. xs.1.1.1.1.0.now)
  pub tackacorn_to_days_result : OneResult tackacorn-to-days.Post
  pub tackacorn_to_days_days : OneLeft tackacorn-to-days.Post (λ κs xs. xs.1.1.1.0.now)
  pub tackacorn_from_days_result : OneResult tackacorn-from-days.Post
  pub tackacorn_from_days_year : OneLeft tackacorn-from-days.Post (λ κs xs. xs.1.0.now)
  pub tackacorn_from_days_month : OneLeft tackacorn-from-days.Post (λ κs xs. xs.1.1.0.now)
  pub tackacorn_from_days_day : OneLeft tackacorn-from-days.Post (λ κs xs. xs.1.1.1.0.now)

pub capi_calls : Capi
capi_calls =
    record {
      tackacorn_parse_result = λ κs args r s xs ys p q. cc;
      tackacorn_parse_tape = λ κs args r s xs ys p q. cc;
      tackacorn_parse_count = λ κs args r s xs ys p q. cc;
      tackacorn_parse_bom = λ κs args r s xs ys p q. cc;
      tackacorn_parse_place = λ κs args r s xs ys p q. cc;
      tackacorn_check = λ κs args r s xs ys p q. one-verdict _ r s p q;
      tackacorn_view_result = λ κs args r s xs ys p q. cc;
      tackacorn_view_offset = λ κs args r s xs ys p q. cc;
      tackacorn_view_size = λ κs args r s xs ys p q. cc;
      tackacorn_token_code = λ κs args r s xs ys p q. cc;
      tackacorn_token_a = λ κs args r s xs ys p q. cc;
      tackacorn_token_b = λ κs args r s xs ys p q. cc;
      tackacorn_write_result = λ κs args r s xs ys p q. let e = one_decided _ _ _ _ p q in cc;
      tackacorn_write_buffer = λ κs args r s xs ys p q. let e = one_decided _ _ _ _ p q in cc;
      tackacorn_write_scratch = λ κs args r s xs ys p q. let e = one_decided _ _ _ _ p q in cc;
      tackacorn_write_size = λ κs args r s xs ys p q. let e = one_decided _ _ _ _ p q in cc;
      tackacorn_sheet_write_result = λ κs args r s xs ys p q. let e = one_decided _ _ _ _ p q in cc;
      tackacorn_sheet_write_buffer = λ κs args r s xs ys p q. let e = one_decided _ _ _ _ p q in cc;
      tackacorn_sheet_write_size = λ κs args r s xs ys p q. let e = one_decided _ _ _ _ p q in cc;
      tackacorn_sheet_read_result = λ κs args r s xs ys p q. (one_sheet_told args.0.now (length args.1.0.now) p q).0;
      tackacorn_sheet_read_words = λ κs args r s xs ys p q. (one_sheet_told args.0.now (length args.1.0.now) p q).3;
      tackacorn_sheet_read_length = λ κs args r s xs ys p q. (one_sheet_told args.0.now (length args.1.0.now) p q).1;
      tackacorn_sheet_read_count = λ κs args r s xs ys p q. (one_sheet_told args.0.now (length args.1.0.now) p q).2;
      tackacorn_to_bool_result = λ κs args r s xs ys p q. cc;
      tackacorn_to_bool_value = λ κs args r s xs ys p q. cc;
      tackacorn_to_u64_result = λ κs args r s xs ys p q. cc;
      tackacorn_to_u64_value = λ κs args r s xs ys p q. cc;
      tackacorn_to_i64_result = λ κs args r s xs ys p q. cc;
      tackacorn_to_i64_value = λ κs args r s xs ys p q. cc;
      tackacorn_to_i64_part_result = λ κs args r s xs ys p q. cc;
      tackacorn_to_i64_part_value = λ κs args r s xs ys p q. cc;
      tackacorn_to_i64_part_left = λ κs args r s xs ys p q. cc;
      tackacorn_to_f64_result = λ κs args r s xs ys p q. cc;
      tackacorn_to_f64_value = λ κs args r s xs ys p q. cc;
      tackacorn_kind = by_definition _ _;
      tackacorn_to_date_result = λ κs args r s xs ys p q. cc;
      tackacorn_to_date_year = λ κs args r s xs ys p q. ap (λ (t : Date). t.year) (one_value (p ∙ sym q));
      tackacorn_to_date_month = λ κs args r s xs ys p q. ap (λ (t : Date). t.month) (one_value (p ∙ sym q));
      tackacorn_to_date_day = λ κs args r s xs ys p q. ap (λ (t : Date). t.day) (one_value (p ∙ sym q));
      tackacorn_to_date_hour = λ κs args r s xs ys p q. ap (λ (t : Date). t.hour) (one_value (p ∙ sym q));
      tackacorn_to_days_result = λ κs args r s xs ys p q. cc;
      tackacorn_to_days_days = λ κs args r s xs ys p q. cc;
      tackacorn_from_days_result = λ κs args r s xs ys p q. cc;
      tackacorn_from_days_year = λ κs args r s xs ys p q. ap (λ (t : Date). t.year) (one_value (p ∙ sym q));
      tackacorn_from_days_month = λ κs args r s xs ys p q. ap (λ (t : Date). t.month) (one_value (p ∙ sym q));
      tackacorn_from_days_day = λ κs args r s xs ys p q. ap (λ (t : Date). t.day) (one_value (p ∙ sym q));
    }
