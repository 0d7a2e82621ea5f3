-- `saturation::reduce_node`: the reductions that the walk has passed are done.
use Rattle.std.proofs.Common.{◌≤◌, ◌+◌, ◌*◌}
use Rattle.table.specs.Layout.{mem, view}
use Rattle.kernels.specs.Bits.{Over}
use Rattle.links.specs.Records.{in_set}
use Rattle.links.specs.Lent.{graph_of, SamePlace}
use Rattle.saturation.specs.Wanted.{AtNode}
use Rattle.saturation.specs.Moves.{Works}
use Rattle.saturation.proofs.reduce_node.Given as goal

abbrev pub invariant-loop-r : goal.invariant-loop-r
invariant-loop-r l =
    SamePlace l.initial.links l.links
    × (l.r-iterator.from ≤ 128)
    × Over l.words (in_set l.initial.links.buf.now l.n * 18 + 16) 2 l.r-iterator
    × Works (view (mem l.rules l.cells l.words)) l.initial.links.here (AtNode (mem l.rules l.cells l.words) l.initial.links.here.position l.n l.r-iterator.from) (graph_of l.initial.links) (graph_of l.links)
