-- `collection::reach::reach` meets its contract. The invariant: what is marked is reached, and the sets that were taken are
-- scanned; a set is queued once, so the queue never holds more than 256. Assumes nothing.
use Prim.Native.Nat.{◌-◌}
use Rattle.collection.proofs.Scanned.{Scanned}
use Rattle.collection.proofs.reach.reach.Given as goal

abbrev pub invariant-loop-s : goal.invariant-loop-s
invariant-loop-s l = Scanned l.cells l.reached.marks l.reached.queue l.reached.n l.reached.taken

abbrev pub decreases-loop-s : goal.decreases-loop-s
decreases-loop-s l = 256 - l.reached.taken
