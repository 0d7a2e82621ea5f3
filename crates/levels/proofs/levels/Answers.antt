-- `levels::levels` meets its contract. The invariant: the list has the ends of the paths of so many links. Assumes nothing.
use native.Mathlib.Omega.{arith}
use Rattle.levels.proofs.Below.{reached-start, reached-next}
use Rattle.levels.proofs.levels.Goals as goal

pub loop-init : goal.loop-init
loop-init c = (omega arith, reached-start c.args.work.now _ c.requires.work_len.1 c.requires.work_len.0 c.put.ensures)

pub loop-preserved : goal.loop-preserved
loop-preserved c = (c.under-level.ensures.0, reached-next c.loop.invariant.1 c.under-level.ensures.1)
