-- `collection::sweep::free_unless_marked` meets its contract. Assumes nothing.
use Rattle.collection.proofs.Turn.{set_stays, set-freed}
use Rattle.collection.proofs.sweep.free_unless_marked.Goals as goal

pub returns-then-has : goal.returns-then-has
returns-then-has c = set_stays _ _ _ _ c.has.ensures c.if-has.true

pub returns : goal.returns
returns c = set-freed _ _ _ _ c.has.ensures c.if-has.false c.clear.ensures c.clear-2.ensures
