-- The number gets less: its quotient by ten is below it.
use Rattle.report.proofs.numbers.+put_decimal.Given as goal

abbrev pub decreases-put_decimal : goal.decreases-put_decimal
decreases-put_decimal l = l.n
