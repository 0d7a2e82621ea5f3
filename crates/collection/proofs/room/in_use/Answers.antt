-- `collection::room::in_use` meets its contract. Assumes nothing.
use Rattle.collection.proofs.Counted.{free_fits, rest-used}
use Rattle.collection.proofs.room.in_use.Goals as goal

pub overflow_sub-result : goal.overflow_sub-result
overflow_sub-result c = free_fits c.free_sets.ensures

pub returns : goal.returns
returns c = rest-used c.free_sets.ensures
