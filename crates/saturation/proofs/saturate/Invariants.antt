-- `saturation::saturate` meets its contract. The invariant: passes so far. What is left of the pool falls with each but the last. Assumes nothing.
use Prim.Native.Nat.{◌-◌}
use Rattle.table.specs.Layout.{mem, view}
use Rattle.links.specs.Lent.{graph_of, SamePlace}
use Rattle.saturation.proofs.Passed.{Passing}
use Rattle.saturation.proofs.saturate.Given as goal

abbrev pub invariant-loop-was : goal.invariant-loop-was
invariant-loop-was l =
    SamePlace l.initial.links l.links
    × Passing (view (mem l.rules l.cells l.words)) l.initial.links.here (graph_of l.initial.links) (graph_of l.links)

abbrev pub decreases-loop-was : goal.decreases-loop-was
decreases-loop-was l = l.initial.links.here.size - l.links.counts.links
