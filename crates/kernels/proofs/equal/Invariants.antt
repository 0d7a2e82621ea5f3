-- `kernels::equal`: the first k words agree.
use Rattle.std.proofs.Common.{◌≡◌, ◌+◌, true, get_or}
use lib.Dec.{eqb}
use Rattle.laws.specs.Loops.{all_below}
use Rattle.kernels.proofs.equal.Given as goal

abbrev pub invariant-loop-k : goal.invariant-loop-k
invariant-loop-k l = all_below l.k (λ m. eqb (get_or l.a (l.i + m) 0) (get_or l.b (l.j + m) 0)) ≡ true
