-- `closure::rounds::round` meets its contract. The invariant: the closure has grown, and the non-terminals after the items below
-- `from` are met. Assumes nothing.
use Prim.Native.Nat.{◌-◌, ◌≤◌}
use Rattle.closure.specs.UnderWay.{Grew, MetBelow}
use Rattle.closure.proofs.rounds.round.Given as goal

abbrev pub invariant-loop-item : goal.invariant-loop-item
invariant-loop-item l = (l.from ≤ 1024) × Grew l.rules l.initial.closure l.initial.met l.closure l.met × MetBelow l.rules l.initial.closure l.met l.from

abbrev pub decreases-loop-item : goal.decreases-loop-item
decreases-loop-item l = 1024 - l.from
