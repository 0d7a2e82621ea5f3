-- `put_reductions`: the rules that the walk has passed are put. Assumes nothing.
use Rattle.listing.specs.Walk.{reduction_of}
use Rattle.listing.proofs.Walks.{Putting}
use Rattle.listing.proofs.set_body.put_reductions.Given as goal

abbrev pub invariant-loop-r : goal.invariant-loop-r
invariant-loop-r l = Putting l.words l.at 2 reduction_of l.r-iterator l.initial.text l.text
