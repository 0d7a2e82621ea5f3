-- `closure::walks::moved`: the words hold the items that were passed, moved.
use Rattle.table.specs.Layout.{view_rules}
use Rattle.closure.specs.Walk.{put_moved}
use Rattle.kernels.proofs.KernelWalk.{Walking}
use Rattle.closure.proofs.walks.moved.Given as goal

abbrev pub invariant-loop-item : goal.invariant-loop-item
invariant-loop-item l = Walking (put_moved (view_rules l.rules) l.x) l.fn.closure l.item-iterator l.initial.kernel l.kernel
