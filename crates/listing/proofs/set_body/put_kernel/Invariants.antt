-- `put_kernel`: the items that the walk has passed are put. Assumes nothing.
use Rattle.listing.specs.Walk.{item_of}
use Rattle.listing.proofs.Walks.{Putting}
use Rattle.listing.proofs.set_body.put_kernel.Given as goal

abbrev pub invariant-loop-item : goal.invariant-loop-item
invariant-loop-item l = Putting l.words l.at 16 item_of l.item-iterator l.initial.text l.text
