-- `collection::sweep::free_withdrawn` meets its contract. The invariant: the first r rule numbers are done. Assumes nothing.
use mathlib.Core.Path.{◌≡◌}
use Rattle.laws.specs.Loops.{up_to}
use Rattle.collection.specs.Sweep.{free_withdrawn}
use Rattle.collection.proofs.sweep.free_withdrawn.Given as goal

abbrev pub invariant-loop-r : goal.invariant-loop-r
invariant-loop-r l = l.rules ≡ up_to l.r free_withdrawn l.initial.rules
