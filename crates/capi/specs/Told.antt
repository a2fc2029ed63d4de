-- What the calls tell C: a number for the refusal, 0 for none, and beside it what is written through each pointer.
-- What a parse tells stands beside the parse: `tell_parse` of crates/parse/specs/Told.antt.
use Rattle.std.specs.Prelude.{ℕ, Result, List, Float, ℤ, length, Option, Some, None, Bool, false, pos}
use Rattle.std.specs.Result.{result_unwrap_or}
use Rattle.parse.specs.Told.{bit}
use Rattle.scalar.specs.Numbers.{bool_refusal_of, whole_refusal_of, f64_refusal_of, f64_value_of}
use Rattle.scalar.specs.declared.errors.BoolError.{BoolError}
use Rattle.scalar.specs.declared.errors.DecimalError.{DecimalError}
use Rattle.scalar.specs.declared.errors.WholeError.{WholeError}
use Rattle.date.specs.Refusals.{date_refusal, no_date}
use Rattle.date.specs.declared.calendar.Date.{Date}
use Rattle.date.specs.declared.refusals.DateError.{DateError}
use Rattle.sheet.specs.declared.views.Viewed.{Viewed}
use Rattle.sheet.specs.Views.{refusal_of}
use Rattle.file.specs.declared.Refusal.{Refusal}
use Rattle.file.specs.declared.Found.{Found}
use Rattle.file.specs.Refusals.{write_refusal, size_of, read_refusal, text_length_of, count_of}
use Rattle.file.specs.Files as file
use Rattle.tape.specs.declared.token.Token.{Token}
use Rattle.writer.specs.Refusals.{length_of}
use Rattle.writer.specs.Refusals.{refusal_of as write-refusal-of}
use Rattle.writer.specs.Write.{Left, left}

-- a view: its refusal, its offset and its length
pub data ViewTold : Type 0 where
  view_told : (refusal offset size : ℕ) → ViewTold

-- a refused view is empty, at the text's start
abbrev pub tell_view : Option Viewed → ViewTold
tell_view (Some v) = view_told (refusal_of (Some v)) v.offset v.length
tell_view None = view_told (refusal_of None) 0 0

-- the way back: its refusal, the length of the text, and the buffer and the scratch as it leaves them
pub data WriteTold : Type 0 where
  write_told : (refusal size : ℕ) → List ℕ → List ℕ → WriteTold

-- a refusal has no text
abbrev pub tell_write : Left → WriteTold
tell_write (left w out scratch) = write_told (write-refusal-of w) (length_of w) out scratch

-- a sheet file written: its refusal, its length, and the buffer as it leaves it
pub data FileTold : Type 0 where
  file_told : (refusal size : ℕ) → List ℕ → FileTold

abbrev pub tell_file : file.Left (Result ℕ Refusal) → FileTold
tell_file (file.left w out) = file_told (write_refusal w) (size_of w) out

-- and one read: its refusal, the text's length, the count, and the words as it leaves them
pub data SheetTold : Type 0 where
  sheet_told : (refusal text_length count : ℕ) → List ℕ → SheetTold

abbrev pub tell_sheet : file.Left (Result Found Refusal) → SheetTold
tell_sheet (file.left f words) = sheet_told (read_refusal f) (text_length_of f) (count_of f) words

-- a reading: its refusal and its value
pub data ReadTold (Value : Type 0) : Type 0 where
  read_told : (refusal : ℕ) → Value → ReadTold Value

abbrev pub tell_bool : Result Bool BoolError → ReadTold ℕ
tell_bool r = read_told (bool_refusal_of r) (bit (result_unwrap_or r false))

abbrev pub tell_u64 : Result ℕ WholeError → ReadTold ℕ
tell_u64 r = read_told (whole_refusal_of r) (result_unwrap_or r 0)

abbrev pub tell_i64 : Result ℤ WholeError → ReadTold ℤ
tell_i64 r = read_told (whole_refusal_of r) (result_unwrap_or r (pos 0))

abbrev pub tell_f64 : Result Float DecimalError → ReadTold Float
tell_f64 r = read_told (f64_refusal_of r) (f64_value_of r)

-- a date, and a day
abbrev pub tell_date : Result Date DateError → ReadTold Date
tell_date r = read_told (date_refusal r) (result_unwrap_or r no_date)

abbrev pub tell_days : Result ℕ DateError → ReadTold ℕ
tell_days r = read_told (date_refusal r) (result_unwrap_or r 0)

-- the number that a scalar begins with: its refusal, its value, and how many bytes are left over
pub data PartTold : Type 0 where
  part_told : (refusal : ℕ) (value : ℤ) (left : ℕ) → PartTold

-- what is told of a number and of the part after it
abbrev pub tell_part : Result ℤ WholeError → List ℕ → PartTold
tell_part r rest = part_told (whole_refusal_of r) (result_unwrap_or r (pos 0)) (length rest)

-- a token: its code, a and b
pub data TokenTold : Type 0 where
  token_told : (code a b : ℕ) → TokenTold

abbrev pub tell_token : Token → TokenTold
tell_token t = token_told t.code t.a t.b
