-- `collection::reach::Reached::scan` meets its contract. The invariant: the targets on the first symbols are marked and queued.
-- Assumes nothing.
use mathlib.Core.Path.{◌∙◌}
use Rattle.collection.proofs.Queue.{adds-next, target-at}
use Rattle.collection.proofs.reach.Reached.scan.Goals as goal

pub loop-t-preserved : goal.loop-t-preserved
loop-t-preserved c = (adds-next _ c.loop-t.invariant.0 (target-at _ _ _ c.loop-t-test.true) c.meet.ensures.adds, c.meet.ensures.taken ∙ c.loop-t.invariant.1)
