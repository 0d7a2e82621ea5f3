-- `numbers` meets its contract. The loop's invariant: n numbers are passed, in the only way in which the text can be read as
-- numbers. Assumes nothing.
use mathlib.Core.Path.{◌≡◌}
use lib.ListN.{length}
use Rattle.script.proofs.Spaced.{Passed}
use Rattle.script.proofs.numbers.numbers.Given as goal

abbrev pub invariant-loop-n : goal.invariant-loop-n
invariant-loop-n l = (length l.out ≡ length l.initial.out) × Passed l.line l.initial.c.at l.c.at l.out l.n
