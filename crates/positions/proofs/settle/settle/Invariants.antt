-- `positions::settle::settle` meets its contract. The invariant: the steps from the place that was entered reach this one
-- (`Settling`). Each turn but the last leaves one more expanded set of a node here. Assumes nothing.
use Rattle.table.specs.Layout.{mem, view}
use Rattle.links.specs.Records.{links_of}
use Rattle.links.specs.Lent.{graph_of, SamePlace}
use Rattle.positions.proofs.Settling.{Settling}
use Rattle.positions.proofs.Turns.{turns_left}
use Rattle.positions.proofs.settle.settle.Given as goal

abbrev pub invariant-loop-links : goal.invariant-loop-links
invariant-loop-links l =
    SamePlace l.initial.links l.links
    × Settling l.initial.links.here (mem l.initial.rules l.initial.cells l.initial.words) (graph_of l.initial.links) (mem l.rules l.cells l.words) (graph_of l.links)

abbrev pub decreases-loop-links : goal.decreases-loop-links
decreases-loop-links l =
    turns_left (view (mem l.rules l.cells l.words)) (links_of (graph_of l.links)) l.initial.links.here.position
