-- `table::mark` meets its contract: the mark stands at the row's first place. Assumes nothing.
use native.Mathlib.Nat.{add-zero}
use Rattle.table.proofs.cells.mark.Goals as goal

pub returns : goal.returns
returns c = rw add-zero
