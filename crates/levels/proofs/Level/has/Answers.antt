-- `levels::Level::has` meets its contract. An index below the count is a place of the list. Assumes nothing.
use native.Mathlib.Omega.{arith}
use Rattle.levels.proofs.Sparse.{few}
use Rattle.levels.proofs.Level.has.Goals as goal

pub node-requires : goal.node-requires
node-requires c = (omega arith, (omega arith, omega (arith, few c.requires.made.list)))
