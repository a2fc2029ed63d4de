-- The digits that are asked for get fewer, of which there are at most sixteen.
use Rattle.report.proofs.numbers.+put_hex_by.Given as goal

abbrev pub decreases-put_hex_by : goal.decreases-put_hex_by
decreases-put_hex_by l = l.digits
