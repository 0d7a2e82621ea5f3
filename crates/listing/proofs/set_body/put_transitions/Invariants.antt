-- `put_transitions`: the transitions on the symbols below x are put. Assumes nothing.
use Rattle.listing.specs.Walk.{listed, leads, transition_of}
use Rattle.text.specs.Puts.{Adds}
use Rattle.listing.proofs.set_body.put_transitions.Given as goal

abbrev pub invariant-loop-x : goal.invariant-loop-x
invariant-loop-x l = Adds l.initial.text l.text (listed (leads l.cells l.s) (transition_of l.cells l.s) 1 l.x)
