-- `kernels::is_empty`: the first k words are zero.
use Rattle.std.proofs.Common.{◌≡◌, ◌+◌, true, get_or}
use lib.Dec.{eqb}
use Rattle.laws.specs.Loops.{all_below}
use Rattle.kernels.proofs.is_empty.Given as goal

abbrev pub invariant-loop-k : goal.invariant-loop-k
invariant-loop-k l = all_below l.k (λ m. eqb (get_or l.words (l.at + m) 0) 0) ≡ true
