-- `positions::read_line` meets its contract. The invariant: the steps from the first position reach this one (`At`). Assumes nothing.
use mathlib.Core.Path.{◌≡◌}
use Rattle.table.specs.Layout.{mem}
use Rattle.links.specs.Lent.{graph_of, SameSlices}
use Rattle.positions.proofs.Positions.{At, here}
use Rattle.positions.proofs.read_line.Given as goal

abbrev pub invariant-loop-token : goal.invariant-loop-token
invariant-loop-token l =
    SameSlices l.initial.links l.links
    × (l.links.here ≡ here l.token-index l.links.here.start l.initial.links.here.size l.initial.links.here.sets)
    × At l.initial.links.here.size l.initial.links.here.sets l.line (mem l.initial.rules l.initial.cells l.initial.words) l.token-index l.links.here.start
    (mem l.rules l.cells l.words) (graph_of l.links)
