-- `kernels::find`: the answer is that from set s on.
use Rattle.std.proofs.Common.{◌≡◌, ◌*◌}
use Rattle.laws.proofs.Loops.{firstFrom}
use Rattle.kernels.specs.Kernel.{same, find}
use Rattle.kernels.proofs.find.Given as goal

abbrev pub invariant-loop-s : goal.invariant-loop-s
invariant-loop-s l = find l.words l.sets l.key l.at ≡ firstFrom (λ t. same l.words (t * 18) l.key l.at) 0 l.sets l.s
