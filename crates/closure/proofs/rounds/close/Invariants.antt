-- `closure::rounds::close` meets its contract. The invariant: the closure has grown from the kernel, and n is how many items it
-- has. Each round but the last adds one. Assumes nothing.
use mathlib.Core.Path.{◌≡◌}
use Prim.Native.Nat.{◌-◌}
use Rattle.kernels.specs.Kernel.{items}
use Rattle.closure.specs.UnderWay.{Grew}
use Rattle.closure.proofs.rounds.close.Given as goal

abbrev pub invariant-loop-items : goal.invariant-loop-items
invariant-loop-items l = Grew l.rules l.initial.closure l.initial.met l.closure l.met × (l.items ≡ items l.closure 0)

abbrev pub decreases-loop-items : goal.decreases-loop-items
decreases-loop-items l = 1024 - l.items
