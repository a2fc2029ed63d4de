-- The digits that are left, put from where the buffer is, give what all of them give.
use mathlib.Core.Path.{◌≡◌}
use lib.ListN.{drop}
use Rattle.put.specs.Append.{append}
use Rattle.report.specs.Sheets.{hex_bytes}
use Rattle.report.proofs.sheets.put_hex_bytes.Given as goal

abbrev pub invariant-loop-byte : goal.invariant-loop-byte
invariant-loop-byte l = append l.out l.next (hex_bytes (drop l.byte-index l.bytes)) ≡ append l.initial.out l.at (hex_bytes l.bytes)
