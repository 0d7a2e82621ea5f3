-- `saturation::link_level` meets its contract. The invariant: the first i nodes of the level are linked. Assumes nothing.
use Rattle.links.specs.Lent.{graph_of, SamePlace}
use Rattle.saturation.specs.Wanted.{ToList}
use Rattle.saturation.specs.Moves.{Does}
use Rattle.saturation.proofs.link_level.Given as goal

abbrev pub invariant-loop-i : goal.invariant-loop-i
invariant-loop-i l =
    SamePlace l.initial.links l.links
    × Does l.initial.links.here (ToList l.initial.links.buf.now l.cells l.work l.level.side l.initial.links.here.position l.x l.i) (graph_of l.initial.links) (graph_of l.links)
