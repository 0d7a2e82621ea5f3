-- `collection::reach::Reached::meet` meets its contract. Assumes nothing.
use native.Mathlib.Omega.{arith}
use Rattle.collection.proofs.Queue.{not_marked, new-fits, adds-new}
use Rattle.collection.proofs.reach.Reached.meet.Goals as goal

pub bounds-self-self : goal.bounds-self-self
bounds-self-self c = new-fits c.requires (not_marked _ _ c.has.ensures c.if-has.false) (omega arith) (omega arith)

pub overflow_add-self : goal.overflow_add-self
overflow_add-self c = let h = new-fits c.requires (not_marked _ _ c.has.ensures c.if-has.false) (omega arith) (omega arith) in omega arith

pub returns-clause-adds : goal.returns-clause-adds
returns-clause-adds c = adds-new c.requires (not_marked _ _ c.has.ensures c.if-has.false) (omega arith) (omega arith) c.put.ensures
