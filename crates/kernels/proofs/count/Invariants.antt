-- `kernels::count`: the sum is how many items the first k words have.
use Rattle.std.proofs.Common.{◌≡◌, ◌*◌}
use Rattle.kernels.specs.Walk.{how_many}
use Rattle.kernels.specs.Kernel.{has}
use Rattle.kernels.proofs.count.Given as goal

abbrev pub invariant-loop-k : goal.invariant-loop-k
invariant-loop-k l = l.sum ≡ how_many (l.k * 64) (has l.words l.at)
