-- `collection::sweep::free_unmarked` meets its contract. The invariant: the first s sets are done. Assumes nothing.
use mathlib.Core.Path.{◌≡◌}
use Rattle.laws.specs.Loops.{up_to}
use Rattle.table.specs.Layout.{sets as setsOf}
use Rattle.collection.specs.Sweep.{free_unmarked}
use Rattle.collection.proofs.sweep.free_unmarked.Given as goal

abbrev pub invariant-loop-s : goal.invariant-loop-s
invariant-loop-s l = setsOf l.cells l.words ≡ up_to l.s (free_unmarked l.marks) (setsOf l.initial.cells l.initial.words)
