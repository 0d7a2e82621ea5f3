-- `table::state` meets its contract: the state is the first of the ten. Assumes nothing.
use native.Mathlib.Nat.{add-zero}
use Rattle.table.proofs.rules.state.Goals as goal

pub returns : goal.returns
returns c = rw add-zero
