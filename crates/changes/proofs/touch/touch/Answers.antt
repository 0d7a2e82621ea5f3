-- `touch` meets its contract. Assumes nothing.
use Rattle.changes.proofs.Ends.{touch_start, touch_other}
use Rattle.changes.proofs.touch.touch.Goals as goal

pub returns-then-left : goal.returns-then-left
returns-then-left c = touch_start _ _ _ c.if-left.true c.start_again.ensures

pub returns-else-left : goal.returns-else-left
returns-else-left c =
    touch_other _ _ _ c.if-left.false c.sets_in.ensures c.unexpand_all.ensures
