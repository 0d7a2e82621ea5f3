-- `collection::room::free_sets`: how many of the first s sets are free. Assumes nothing.
use Rattle.collection.proofs.Counted.{FreeBelow}
use Rattle.collection.proofs.room.free_sets.Given as goal

abbrev pub invariant-loop-s : goal.invariant-loop-s
invariant-loop-s l = FreeBelow l.cells l.s l.free
