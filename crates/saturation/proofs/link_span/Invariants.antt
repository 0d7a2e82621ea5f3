-- `saturation::link_span` meets its contract. The invariant: the nodes below m are linked. Assumes nothing.
use Rattle.links.specs.Lent.{graph_of, SamePlace}
use Rattle.saturation.specs.Wanted.{ToSpan}
use Rattle.saturation.specs.Moves.{Does}
use Rattle.saturation.proofs.link_span.Given as goal

abbrev pub invariant-loop-m : goal.invariant-loop-m
invariant-loop-m l =
    SamePlace l.initial.links l.links
    × Does l.initial.links.here (ToSpan l.initial.links.buf.now l.cells l.initial.links.here.position l.x l.lo l.m) (graph_of l.initial.links) (graph_of l.links)
