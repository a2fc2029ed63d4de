-- How a quoted run is told by one number.
use Rattle.std.specs.Prelude.{ℕ, Option, Some, None}
use Rattle.cut.specs.declared.QuotedRun.{QuotedRun}

-- how many bytes stand before the closing quote; all of them where none closes
abbrev pub quote_length : ℕ → Option QuotedRun → ℕ
quote_length all (Some run) = run.length
quote_length all None = all
