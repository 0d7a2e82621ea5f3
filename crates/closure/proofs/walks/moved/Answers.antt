-- `closure::walks::moved` meets its contract. Assumes nothing.
use Rattle.std.proofs.Common.{refl}
use Rattle.kernels.proofs.Puts.{has-zero}
use Rattle.kernels.proofs.KernelWalk.{walking_start, walking_turn, walking_end}
use Rattle.closure.proofs.Walk.{holds-moved}
use Rattle.closure.proofs.walks.moved.Goals as goal

pub loop-item-init : goal.loop-item-init
loop-item-init c =
    rw c.into_iter-item-iterator.ensures.into_iter_gives (walking_start c.of-item-items.ensures.over c.of-item-items.ensures.start)

pub loop-item-preserved : goal.loop-item-preserved
loop-item-preserved c = walking_turn c.loop-item.invariant c.in-Some.ensures.steps c.put_moved.ensures

pub returns : goal.returns
returns c =
    holds-moved c.args.rules.now c.args.closure c.requires.0 c.requires.1 _ (has-zero 16) c.args.x c.requires.2 refl (walking_end c.loop-item.invariant c.in-None.ensures.steps)
