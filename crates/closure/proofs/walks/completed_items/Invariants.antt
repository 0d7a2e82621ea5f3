-- `closure::walks::completed_items`: words and mark are those of the items that were passed.
use Rattle.table.specs.Layout.{view_rules}
use Rattle.closure.specs.Walk.{put_reduction, accepts_too}
use Rattle.kernels.proofs.KernelWalk.{Walking}
use Rattle.closure.proofs.walks.completed_items.Given as goal

abbrev pub invariant-loop-item : goal.invariant-loop-item
invariant-loop-item l =
    Walking (put_reduction (view_rules l.rules)) l.fn.closure l.item-iterator l.initial.completed.reductions l.completed.reductions
    × Walking (accepts_too (view_rules l.rules)) l.fn.closure l.item-iterator l.initial.completed.accepts l.completed.accepts
