-- `unexpand_all` meets its contract. The invariant: the rows below s are done. Assumes nothing.
use mathlib.Core.Path.{◌≡◌}
use Rattle.laws.specs.Loops.{up_to}
use Rattle.table.specs.Layout.{sets}
use Rattle.changes.specs.Touch.{unexpand_if}
use Rattle.changes.proofs.touch.unexpand_all.Given as goal

abbrev pub invariant-loop-s : goal.invariant-loop-s
invariant-loop-s l = sets l.cells l.words ≡ up_to l.s (unexpand_if l.left) (sets l.initial.cells l.initial.words)
