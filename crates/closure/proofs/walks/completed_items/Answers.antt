-- `closure::walks::completed_items` meets its contract. Assumes nothing.
use Rattle.std.proofs.Common.{refl}
use Rattle.kernels.proofs.Puts.{has-zero}
use Rattle.kernels.proofs.KernelWalk.{walking_start, walking_turn, walking_end}
use Rattle.closure.proofs.Walk.{holds-completed}
use Rattle.closure.proofs.walks.completed_items.Goals as goal

pub loop-item-init : goal.loop-item-init
loop-item-init c =
    rw c.into_iter-item-iterator.ensures.into_iter_gives ((let start = c.of-item-items.ensures in (walking_start start.over start.start, walking_start start.over start.start)))

pub loop-item-preserved : goal.loop-item-preserved
loop-item-preserved c =
    let step = c.in-Some.ensures.steps in
    (walking_turn c.loop-item.invariant.0 step c.put.ensures.reductions, walking_turn c.loop-item.invariant.1 step c.put.ensures.accepts)

pub returns : goal.returns
returns c =
    let step = c.in-None.ensures.steps in
    holds-completed c.args.rules.now c.args.closure c.requires.0 c.requires.1 _ (has-zero 2) refl _ (walking_end c.loop-item.invariant.0 step) (walking_end c.loop-item.invariant.1 step)
