-- `kernels::word::has` meets its contract. Assumes nothing.
use mathlib.Core.Path.{refl}
use Rattle.kernels.specs.Bit.{bit}
use Rattle.kernels.proofs.word.has.Goals as goal

pub returns : goal.returns
unfolding bit
returns c = refl
