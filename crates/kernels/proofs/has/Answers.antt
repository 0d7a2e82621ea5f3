-- `kernels::has` meets its contract. Assumes nothing.
use Rattle.kernels.specs.Kernel.{has}
use Rattle.kernels.proofs.has.Goals as goal

pub returns : goal.returns
unfolding has
returns c = c.has.ensures
