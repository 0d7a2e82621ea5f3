-- `closure::walks::symbols_after`: the words hold the symbols after the items that were passed.
use Rattle.table.specs.Layout.{view_rules}
use Rattle.closure.specs.Walk.{put_after}
use Rattle.kernels.proofs.KernelWalk.{Walking}
use Rattle.closure.proofs.walks.symbols_after.Given as goal

abbrev pub invariant-loop-item : goal.invariant-loop-item
invariant-loop-item l = Walking (put_after (view_rules l.rules)) l.fn.closure l.item-iterator l.initial.symbols l.symbols
