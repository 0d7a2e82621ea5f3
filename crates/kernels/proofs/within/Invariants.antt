-- `kernels::within`: the first k words add no bit.
use Rattle.std.proofs.Common.{◌≡◌, ◌+◌, true, get_or, bit_or}
use lib.Dec.{eqb}
use Rattle.laws.specs.Loops.{all_below}
use Rattle.kernels.proofs.within.Given as goal

abbrev pub invariant-loop-k : goal.invariant-loop-k
invariant-loop-k l = all_below l.k (λ m. eqb (bit_or (get_or l.a (l.i + m) 0) (get_or l.b (l.j + m) 0)) (get_or l.b (l.j + m) 0)) ≡ true
