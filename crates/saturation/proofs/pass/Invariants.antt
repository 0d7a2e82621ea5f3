-- `saturation::pass` meets its contract. The invariant: the nodes below n are done. Assumes nothing.
use Prim.Native.Nat.{◌+◌, ◌-◌, ◌≤◌}
use Rattle.table.specs.Layout.{mem, view}
use Rattle.links.specs.Lent.{graph_of, SamePlace}
use Rattle.saturation.specs.Wanted.{AtAll}
use Rattle.saturation.specs.Moves.{Works}
use Rattle.saturation.proofs.pass.Given as goal

abbrev pub invariant-loop-n : goal.invariant-loop-n
invariant-loop-n l =
    SamePlace l.initial.links l.links
    × (l.initial.links.here.start ≤ l.n)
    × Works (view (mem l.rules l.cells l.words)) l.initial.links.here (AtAll (mem l.rules l.cells l.words) l.initial.links.here.position l.initial.links.here.start l.n) (graph_of l.initial.links) (graph_of l.links)

abbrev pub decreases-loop-n : goal.decreases-loop-n
decreases-loop-n l = l.initial.links.here.size + 1 - l.n
